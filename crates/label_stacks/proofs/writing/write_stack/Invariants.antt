use Rattle.std.proofs.Common.{◌≡◌, ◌++◌, length, take}
use Rattle.std.specs.List.{All}
use Rattle.label_stacks.specs.Entries.{IsEntry}
use Rattle.label_stacks.specs.Stacks.{stack_bytes}
use Rattle.label_stacks.proofs.writing.write_stack.Given as goal

-- what is written, and behind it what is left, is all
abbrev pub invariant-loop-rest : goal.invariant-loop-rest
invariant-loop-rest l =
    (l.out.items ++ stack_bytes l.rest ≡ l.initial.out.items ++ stack_bytes l.stack)
    × (take (length l.initial.out.items) l.out.items ≡ l.initial.out.items)
    × All IsEntry l.rest

abbrev pub decreases-loop-rest : goal.decreases-loop-rest
decreases-loop-rest l = length l.rest
