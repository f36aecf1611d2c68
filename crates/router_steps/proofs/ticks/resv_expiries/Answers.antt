use Rattle.std.proofs.Common.{List, Option, ap, ◌≡◌, ◌∙◌}
use Rattle.std.proofs.lemmas.Result.{IfOk-weaker}
use Rattle.sorted_rows.specs.Edits.{edited}
use Rattle.lsr_facts.specs.Orders.{key_cmp}
use Rattle.lsr_facts.specs.declared.key.Key.{Key}
use Rattle.lsr_facts.specs.Reservations.{expire_resvs, resv_lives_past}
use Rattle.lsr_facts.specs.declared.resv_fact.ResvFact.{ResvFact}
use Rattle.state_views.specs.Edits.{without_rows}
use Rattle.router_steps.proofs.Staying.{edited_staying}
use Rattle.router_steps.proofs.ticks.resv_expiries.Goals as goal

pub returns : goal.returns
unfolding expire_resvs
returns g c =
    let resvs = (g.V.StateView.state c.args.view.now).resvs in
    let made = λ (edits : List (Key × Option ResvFact)). edited key_cmp edits resvs in
    let keys = c.as_slice.ensures.value ∙ c.in_ok-keys.ensures.expiring in
    IfOk-weaker c.without_rows.result _ (λ edits. edited key_cmp edits resvs ≡ expire_resvs c.args.moment resvs)
    (λ edits is.
    ap made (is ∙ (λ i. without_rows (c.new.ensures i) (keys i)))
    ∙ edited_staying (λ resv. resv_lives_past c.args.moment resv.1) resvs c.requires) c.without_rows.ensures
