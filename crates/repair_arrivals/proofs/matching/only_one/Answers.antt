-- The repair at the first place where there is one that it is for, if it is for none after that.
use Rattle.std.proofs.Common.{ap, sym, ◌∙◌}
use Rattle.abstract_router.specs.Returning.{the_one}
use Rattle.path_steps.proofs.Places.{none_alone, only_there, passing_over}
use Rattle.facility_backup.specs.Matching.{is_for}
use Rattle.repair_arrivals.proofs.matching.only_one.Goals as goal

pub returns-then-is_for_any : goal.returns-then-is_for_any
returns-then-is_for_any g c =
    let r = g.V.StateView.router c.args.view.now in
    let s = g.V.StateView.state c.args.view.now in
    sym
    (ap the_one (sym c.loop-place.invariant)
    ∙ none_alone (is_for r s c.args.hop c.args.key.now) s.repairs c.loop-place.place (sym c.is_for_at.ensures ∙ c.if-is_for_at.true) (sym c.is_for_any.ensures ∙ c.if-is_for_any.true))

pub returns-then-is_for_at : goal.returns-then-is_for_at
returns-then-is_for_at g c =
    let r = g.V.StateView.router c.args.view.now in
    let s = g.V.StateView.state c.args.view.now in
    c.repair_at.ensures.row
    ∙ sym (only_there (is_for r s c.args.hop c.args.key.now) s.repairs c.loop-place.place (sym c.is_for_at.ensures ∙ c.if-is_for_at.true) (sym c.is_for_any.ensures ∙ c.if-is_for_any.false))
    ∙ ap the_one c.loop-place.invariant

pub loop-place-preserved : goal.loop-place-preserved
loop-place-preserved g c =
    let r = g.V.StateView.router c.args.view.now in
    let s = g.V.StateView.state c.args.view.now in
    sym (passing_over (is_for r s c.args.hop c.args.key.now) s.repairs c.loop-place.place (sym c.is_for_at.ensures ∙ c.if-is_for_at.false)) ∙ c.loop-place.invariant
