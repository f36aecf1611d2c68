use Rattle.std.proofs.Common.{◌≡◌, drop, length}
use Rattle.std.specs.Prelude.{◌+◌, ◌≤◌, []}
use Rattle.bandwidth_protection.specs.Candidates.{in_turn}
use Rattle.bandwidth_protection.proofs.candidates.best_first.Given as goal

-- those from here on, behind those that are placed, are as all; and no more are placed than were looked at
abbrev pub invariant-loop-room : goal.invariant-loop-room
invariant-loop-room l =
    (in_turn l.router l.path l.resv l.rate (drop l.room-index l.rooms) l.first l.others ≡ in_turn l.router l.path l.resv l.rate l.rooms [] [])
    × (length l.first + length l.others ≤ l.room-index)
