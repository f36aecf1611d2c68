use Rattle.std.proofs.Common.{◌≡◌, take}
use Rattle.state_settling.specs.Relabelling.{label_edits}
use Rattle.state_settling.proofs.labels.label_edits.Given as goal

-- so many edits are looked at
abbrev pub invariant-loop-edit : goal.invariant-loop-edit
invariant-loop-edit g l =
    l.labels.items ≡ label_edits (g.V.StateView.state l.fn.view).labels l.fn.chosen (take l.edit-index l.paths)
