-- Which messages come which way.
use Rattle.std.specs.Prelude.{◌&&◌, Bool, true, false}
use Rattle.rsvp_contents.specs.declared.message.Reading.{Reading}
use Rattle.rsvp_contents.specs.declared.message.Reading.TheVariants as readings
use Rattle.rsvp_contents.specs.declared.messages.Content.{Content}
use Rattle.rsvp_contents.specs.declared.messages.Content.TheVariants as contents
use Rattle.abstract_paths.specs.declared.ways.ArrivalWay.{ArrivalWay}
use Rattle.abstract_paths.specs.declared.ways.ArrivalWay.TheVariants as ways

-- A Hop frame takes each type of message. What goes downstream comes through a stack of labels, too, and what goes
-- upstream in a Routed frame: so the two ends of a bypass tunnel talk (RFC 4090, 6.4).
abbrev pub takes_content : ArrivalWay → Content → Bool
takes_content ways.Hop content = true
takes_content ways.Stack (contents.Path p) = true
takes_content ways.Stack (contents.ResvErr e) = true
takes_content ways.Stack (contents.PathTear t) = true
takes_content ways.Stack content = false
takes_content ways.Routed (contents.Resv v) = true
takes_content ways.Routed (contents.PathErr e) = true
takes_content ways.Routed (contents.ResvTear t) = true
takes_content ways.Routed content = false

-- an object that it doesn't know puts a Path and a Resv in error, and no other message (RFC 2205, 3.10)
abbrev pub rejects_unknown : Content → Bool
rejects_unknown (contents.Path p) = true
rejects_unknown (contents.Resv v) = true
rejects_unknown content = false

-- the way takes what a message was read as
abbrev pub takes : ArrivalWay → Reading → Bool
takes way (readings.Whole content) = takes_content way content
takes way (readings.Unknown content class ctype) = rejects_unknown content && takes_content way content
