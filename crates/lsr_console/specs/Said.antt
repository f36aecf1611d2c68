-- What a line of a console says.
use Rattle.std.specs.Prelude.{◌≡◌, ◌≢◌, ℕ, List, false, true, Option, Some, None, codes}
use Rattle.abstract_paths.specs.declared.events.Event.{Event}
use Rattle.abstract_paths.specs.declared.events.Event.TheVariants as events
use Rattle.lsr_lines.specs.Lines.{AsksFor}
use Rattle.lsr_lines.specs.Live.{AsksNothing}
use Rattle.lsr_lines.specs.Steps.{is_remark}
use Rattle.lsr_lines.specs.declared.lines.Request.{Request}
use Rattle.lsr_lines.specs.declared.lines.Request.TheVariants as requests
use Rattle.lsr_console.specs.declared.said.Said.{Said}
use Rattle.lsr_console.specs.declared.said.Said.TheVariants as saids

-- It is a remark; `help`, `quit` or `show counters`; a line that asks for what one of `lsr step` asks for; or none of these.
abbrev pub Says : List ℕ → Said → Type 0
Says line saids.Remark = is_remark line ≡ true
Says line saids.Help = line ≡ codes "help"
Says line saids.Quit = line ≡ codes "quit"
Says line saids.Counters = line ≡ codes "show counters"
Says line (saids.Asks request) = AsksFor line request
Says line saids.Nothing =
    (is_remark line ≡ false) × (line ≢ codes "help") × (line ≢ codes "quit") × (line ≢ codes "show counters") × AsksNothing line

-- the event that a request asks to be fed
abbrev pub event_of : Request → Option Event
event_of (requests.LinkUp link) = Some (events.LinkUp link)
event_of (requests.LinkDown link) = Some (events.LinkDown link)
event_of requests.Restart = Some events.Restart
event_of requests.Start = Some events.Start
event_of (requests.Command command) = Some (events.Command command)
event_of request = None
