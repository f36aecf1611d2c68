-- What comes to a router of a closed world is true.
use Rattle.std.specs.Prelude.{◌≡◌, ℕ, Some, Result, Ok}
use Rattle.rsvp_contents.specs.declared.message.Reading.{Reading}
use Rattle.rsvp_contents.specs.declared.message.Reading.TheVariants as readings
use Rattle.rsvp_contents.specs.declared.messages.Content.{Content}
use Rattle.lsr_facts.specs.declared.refusal.Refusal.{Refusal}
use Rattle.abstract_paths.specs.declared.events.Event.{Event}
use Rattle.abstract_paths.specs.declared.events.Event.TheVariants as events
use Rattle.abstract_paths.specs.declared.ways.ArrivalWay.{ArrivalWay}
use Rattle.abstract_paths.specs.declared.ways.ArrivalWay.TheVariants as ways
use Rattle.datagrams.specs.declared.datagram.Datagram.{Datagram}
use Rattle.datagrams.specs.declared.datagram.Datagram.TheVariants as kinds
use Rattle.datagrams.specs.declared.datagram.Passed.TheVariants as passes
use Rattle.abstract_world.specs.Wires.{other_end}
use Rattle.abstract_world.specs.Worlds.{WorldState}
use Rattle.abstract_world.specs.declared.joint.End.{End}
use Rattle.world_laws.specs.Truths.{IsFrom, IsTrueMessage, IsTrueFrame, IsTrueUnread}

-- what a neighbour sent over this link comes from the router at its other end
abbrev pub IsFromOver : WorldState → End → Content → Type 0
IsFromOver w link content = (other : End) × (other_end w.joints link ≡ Some other) × IsFrom w other.router content

-- a message that comes this way over a link; no Resv comes through a stack of labels
abbrev pub IsTrueArrival : WorldState → End → ArrivalWay → Content → Type 0
IsTrueArrival w link ways.Hop content = IsFromOver w link content × IsTrueMessage w content
IsTrueArrival w link ways.Stack content = Unit {0}
IsTrueArrival w link ways.Routed content = IsTrueMessage w content

-- what it is read as; one with an object that isn't known reserves nothing
abbrev pub IsTrueReading : WorldState → End → ArrivalWay → Reading → Type 0
IsTrueReading w link way (readings.Whole content) = IsTrueArrival w link way content
IsTrueReading w link way (readings.Unknown content class ctype) = Unit {0}

-- an event of the router of this place: only messages say something of labels
abbrev pub IsTrueEvent : WorldState → ℕ → Event → Type 0
IsTrueEvent w place (events.Arrive arrived) = IsTrueReading w (record { router = place; link = arrived.link }) arrived.way arrived.reading
IsTrueEvent w place (events.Relay came) = IsTrueUnread w came.message
IsTrueEvent w place event = Unit {0}

-- what a datagram is for it: an event, or a frame that it passes on
abbrev pub IsTrueDatagram : WorldState → ℕ → Result Datagram Refusal → Type 0
IsTrueDatagram w place (Ok (kinds.Event event)) = IsTrueEvent w place event
IsTrueDatagram w place (Ok (kinds.Passed (passes.Sent link frame))) = IsTrueFrame w place frame
IsTrueDatagram w place datagram = Unit {0}
