-- The path at the first place where one came so.
use Rattle.std.proofs.Common.{sym, ◌∙◌}
use Rattle.abstract_paths.specs.Merging.{came_through}
use Rattle.path_steps.proofs.Places.{first_over, first_there}
use Rattle.path_steps.proofs.merging.path_through.Goals as goal

pub returns-then-came_through_at : goal.returns-then-came_through_at
returns-then-came_through_at g c =
    let paths = (g.V.StateView.state c.args.view.now).facts.paths in
    c.path_at.ensures.row
    ∙ sym (first_there (came_through c.args.key.now) paths c.loop-place.place (sym c.came_through_at.ensures ∙ c.if-came_through_at.true))
    ∙ c.loop-place.invariant

pub loop-place-preserved : goal.loop-place-preserved
loop-place-preserved g c =
    let paths = (g.V.StateView.state c.args.view.now).facts.paths in
    sym (first_over (came_through c.args.key.now) paths c.loop-place.place (sym c.came_through_at.ensures ∙ c.if-came_through_at.false)) ∙ c.loop-place.invariant
