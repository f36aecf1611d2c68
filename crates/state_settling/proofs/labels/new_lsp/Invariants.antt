use Rattle.std.proofs.Common.{◌≡◌, drop}
use Rattle.std.specs.Prelude.{find as find_first}
use Rattle.state_settling.specs.Relabelling.{is_new}
use Rattle.state_settling.proofs.labels.new_lsp.Given as goal

-- none of those before is new
abbrev pub invariant-loop-edit : goal.invariant-loop-edit
invariant-loop-edit g l =
    let labels = (g.V.StateView.state l.fn.view).labels in
    find_first (is_new labels) (drop l.edit-index l.paths) ≡ find_first (is_new labels) l.paths
