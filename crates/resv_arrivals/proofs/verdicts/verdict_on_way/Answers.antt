use Rattle.std.proofs.Common.{Option, sym, subst, ap, ◌∙◌}
use Rattle.std.specs.Option.{option_map_or}
use Rattle.rsvp_bodies.specs.Traffic.{flowspec_rate}
use Rattle.lsr_facts.specs.declared.resv_fact.ResvStyle.{ResvStyle}
use Rattle.lsr_facts.specs.Errors.{style_conflict}
use Rattle.abstract_router.specs.Preempting.{fits_link}
use Rattle.abstract_router.specs.Reserving.{Failed, verdict_by_rate}
use Rattle.resv_arrivals.proofs.Judging.{on_path_is}
use Rattle.resv_arrivals.specs.Progresses.{IsVerdict, fact_at, reached}
use Rattle.resv_arrivals.proofs.verdicts.verdict_on_way.Goals as goal

pub returns-in-Some : goal.returns-in-Some
returns-in-Some g c =
    let r = g.V.StateView.router c.args.view.now in
    let s = g.V.StateView.state c.args.view.now in
    let state = (reached s c.args.progress.now).state in
    let asked = c.args.asked.now in
    let fact = fact_at s.facts.moment asked in
    on_path_is r state asked.key fact c.args.path.now c.style_in_conflict.result c.requires.leaves c.requires.unrepaired c.style_in_conflict.ensures
    ∙ ap (λ (o : Option ResvStyle). option_map_or (λ style. Failed (style_conflict style)) o (verdict_by_rate r fact (fits_link r state asked.key fact) (flowspec_rate fact.flowspec))) c.in-Some.is
    ∙ ap Failed (sym c.style_conflict.ensures)

pub returns-in-None : goal.returns-in-None
returns-in-None g c =
    let r = g.V.StateView.router c.args.view.now in
    let s = g.V.StateView.state c.args.view.now in
    let p = c.args.progress.now in
    let state = (reached s p).state in
    let asked = c.args.asked.now in
    let fact = fact_at s.facts.moment asked in
    subst (IsVerdict r s p asked c.verdict_by_rate.result)
    (sym (on_path_is r state asked.key fact c.args.path.now c.style_in_conflict.result c.requires.leaves c.requires.unrepaired c.style_in_conflict.ensures
    ∙ ap (λ (o : Option ResvStyle). option_map_or (λ style. Failed (style_conflict style)) o (verdict_by_rate r fact (fits_link r state asked.key fact) (flowspec_rate fact.flowspec))) c.in-None.is))
    c.verdict_by_rate.ensures
