use Rattle.std.proofs.Common.{◌≡◌, drop}
use Rattle.std.specs.Prelude.{find}
use Rattle.abstract_paths.specs.Merging.{came_through}
use Rattle.path_steps.proofs.merging.path_through.Given as goal

-- the first from here on is the first of all
abbrev pub invariant-loop-place : goal.invariant-loop-place
invariant-loop-place g l =
    let paths = (g.V.StateView.state l.view).facts.paths in
    find (came_through l.key) (drop l.place paths) ≡ find (came_through l.key) paths
