use Rattle.std.proofs.Common.{◌≡◌, drop}
use Rattle.std.specs.List.{list_any}
use Rattle.abstract_paths.specs.Merging.{may_join}
use Rattle.path_steps.proofs.merging.may_join_from.Given as goal

-- one from here on may be joined where one of all may
abbrev pub invariant-loop-place : goal.invariant-loop-place
invariant-loop-place g l =
    let paths = (g.V.StateView.state l.view).facts.paths in
    list_any (may_join l.key) (drop l.place paths) ≡ list_any (may_join l.key) (drop l.fn.from paths)
