use Rattle.std.proofs.Common.{◌≡◌, drop}
use Rattle.std.specs.Prelude.{filter}
use Rattle.abstract_paths.specs.Merging.{may_join}
use Rattle.path_steps.proofs.merging.joinable.Given as goal

-- all that may be joined stand from here on
abbrev pub invariant-loop-place : goal.invariant-loop-place
invariant-loop-place g l =
    let paths = (g.V.StateView.state l.view).facts.paths in
    filter (may_join l.key) (drop l.place paths) ≡ filter (may_join l.key) paths
