-- Messages that come.
use Rattle.std.specs.Prelude.{ℕ, Bool, true, false, refl}
use Rattle.rsvp_contents.specs.declared.message.Reading.TheVariants as readings
use Rattle.rsvp_contents.specs.declared.messages.Content.{Content}
use Rattle.abstract_paths.specs.Commanding.{has_route}
use Rattle.abstract_paths.specs.declared.events.Event.{Event}
use Rattle.abstract_paths.specs.declared.events.Event.TheVariants as events
use Rattle.abstract_paths.specs.declared.ways.ArrivalWay.TheVariants as ways
use Rattle.abstract_paths.specs.declared.ways.Arrive.{Arrive}

-- one comes from a neighbour, in a Hop frame over a link, and is read whole
abbrev pub hop_arrive : ℕ → Content → Arrive
hop_arrive link content = record { link = link; way = ways.Hop; reading = readings.Whole content; taken = refl }

abbrev pub comes : ℕ → Content → Event
comes link content = events.Arrive (hop_arrive link content)

-- A copy of the event takes memory: it is a message that came, for this router or for another, or a command with a route.
abbrev pub takes_memory : Event → Bool
takes_memory (events.Arrive a) = true
takes_memory (events.Relay m) = true
takes_memory (events.Command c) = has_route c
takes_memory event = false
