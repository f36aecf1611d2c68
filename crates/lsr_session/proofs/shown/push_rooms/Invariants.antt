-- The lines of the links so far, after what there was.
use Rattle.std.proofs.Common.{◌≡◌, ◌++◌, take, string_bytes}
use Rattle.std.specs.List.{flat_map}
use Rattle.lsr_session.specs.Requests.{room_text}
use Rattle.lsr_session.proofs.shown.push_rooms.Given as goal

abbrev pub invariant-loop-row : goal.invariant-loop-row
invariant-loop-row l = string_bytes l.text ≡ string_bytes l.fn.text ++ flat_map (room_text l.router.state) (take l.row-index l.row-items)
