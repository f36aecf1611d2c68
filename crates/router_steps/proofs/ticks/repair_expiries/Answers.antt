use Rattle.std.proofs.Common.{List, Option, ap, ◌≡◌, ◌∙◌}
use Rattle.std.proofs.lemmas.Result.{IfOk-weaker}
use Rattle.sorted_rows.specs.Edits.{edited}
use Rattle.lsr_facts.specs.Orders.{key_cmp}
use Rattle.lsr_facts.specs.declared.key.Key.{Key}
use Rattle.lsr_facts.specs.Reservations.{expire_repairs, resv_lives_past}
use Rattle.lsr_facts.specs.declared.repair.Repair.{Repair}
use Rattle.state_views.specs.Edits.{without_rows}
use Rattle.router_steps.proofs.Staying.{edited_staying}
use Rattle.router_steps.proofs.ticks.repair_expiries.Goals as goal

pub returns : goal.returns
unfolding expire_repairs
returns g c =
    let repairs = (g.V.StateView.state c.args.view.now).repairs in
    let made = λ (edits : List (Key × Option Repair)). edited key_cmp edits repairs in
    let keys = c.as_slice.ensures.value ∙ c.in_ok-keys.ensures.expiring in
    IfOk-weaker c.without_rows.result _ (λ edits. edited key_cmp edits repairs ≡ expire_repairs c.args.moment repairs)
    (λ edits is.
    ap made (is ∙ (λ i. without_rows (c.new.ensures i) (keys i)))
    ∙ edited_staying (λ repair. resv_lives_past c.args.moment repair.1.resv) repairs c.requires) c.without_rows.ensures
