use Rattle.std.proofs.Common.{◌≡◌, ◌+◌, ◌*◌, ◌++◌, drop, length, take}
use Rattle.std.specs.List.{All}
use Rattle.label_stacks.specs.Entries.{IsEntry}
use Rattle.label_stacks.specs.Stacks.{stack_bytes}
use Rattle.frame_rewriting.proofs.head.put_entries.Given as goal

-- the entries below those that are left are written
abbrev pub invariant-loop-rest : goal.invariant-loop-rest
invariant-loop-rest l =
    (l.rest ≡ take (length l.rest) l.entries)
    × (l.below + length l.rest ≡ length l.entries)
    × (l.start + 4 * l.below ≡ l.end)
    × (drop l.start l.buffer ≡ stack_bytes (drop (length l.rest) l.entries) ++ drop l.end l.initial.buffer)
    × All IsEntry l.rest

abbrev pub decreases-loop-rest : goal.decreases-loop-rest
decreases-loop-rest l = length l.rest
