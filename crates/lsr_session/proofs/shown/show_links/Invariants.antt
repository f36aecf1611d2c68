-- The lines of the links so far.
use Rattle.std.proofs.Common.{◌≡◌, take, string_bytes}
use Rattle.std.specs.List.{flat_map}
use Rattle.lsr_session.specs.Requests.{link_text}
use Rattle.lsr_session.proofs.shown.show_links.Given as goal

abbrev pub invariant-loop-row : goal.invariant-loop-row
invariant-loop-row l = string_bytes l.text ≡ flat_map (link_text l.router.state) (take l.row-index l.row-items)
