use Rattle.std.proofs.Common.{◌≡◌, length}
use Rattle.std.specs.List.{All}
use Rattle.label_stacks.specs.Entries.{IsEntry}
use Rattle.forwarding_table.specs.Forwarding.{forward_of}
use Rattle.forwarding_table.proofs.forwarding.forward.Given as goal

-- what becomes of the entries that are left becomes of the stack
abbrev pub invariant-loop-rest : goal.invariant-loop-rest
invariant-loop-rest g l =
    (forward_of (g.L.LabelActions.look l.labels) l.rest ≡ forward_of (g.L.LabelActions.look l.labels) l.stack)
    × All IsEntry l.rest

abbrev pub decreases-loop-rest : goal.decreases-loop-rest
decreases-loop-rest g l = length l.rest
