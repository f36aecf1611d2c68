-- The path at the first place where one may be joined, if none behind it may.
use Rattle.std.proofs.Common.{ap, sym, ◌∙◌}
use Rattle.abstract_paths.specs.Merging.{may_join}
use Rattle.abstract_router.specs.Returning.{the_one}
use Rattle.path_steps.proofs.Places.{none_alone, only_there, passing_over}
use Rattle.path_steps.proofs.merging.joinable.Goals as goal

pub returns-then-may_join_from : goal.returns-then-may_join_from
returns-then-may_join_from g c =
    let paths = (g.V.StateView.state c.args.view.now).facts.paths in
    sym
    (ap the_one (sym c.loop-place.invariant)
    ∙ none_alone (may_join c.args.key.now) paths c.loop-place.place (sym c.may_join_at.ensures ∙ c.if-may_join_at.true) (sym c.may_join_from.ensures ∙ c.if-may_join_from.true))

pub returns-then-may_join_at : goal.returns-then-may_join_at
returns-then-may_join_at g c =
    let paths = (g.V.StateView.state c.args.view.now).facts.paths in
    c.path_at.ensures.row
    ∙ sym (only_there (may_join c.args.key.now) paths c.loop-place.place (sym c.may_join_at.ensures ∙ c.if-may_join_at.true) (sym c.may_join_from.ensures ∙ c.if-may_join_from.false))
    ∙ ap the_one c.loop-place.invariant

pub loop-place-preserved : goal.loop-place-preserved
loop-place-preserved g c =
    let paths = (g.V.StateView.state c.args.view.now).facts.paths in
    sym (passing_over (may_join c.args.key.now) paths c.loop-place.place (sym c.may_join_at.ensures ∙ c.if-may_join_at.false)) ∙ c.loop-place.invariant
