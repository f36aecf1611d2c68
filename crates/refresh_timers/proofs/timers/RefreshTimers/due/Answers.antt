use Rattle.std.proofs.Common.{◌≡◌, ap, subst, ◌∙◌}
use Rattle.std.proofs.lemmas.List.Elements.{filter_agree}
use Rattle.std.proofs.lemmas.Result.{IfOk-weaker}
use Rattle.std.specs.Result.{IfOk}
use Rattle.lsr_facts.specs.Lifetimes.{due_items}
use Rattle.sorted_rows.specs.Rows.{keys_of}
use Rattle.refresh_timers.specs.Timers.{Timers}
use Rattle.refresh_timers.proofs.Due.{come_waited}
use Rattle.refresh_timers.proofs.timers.RefreshTimers.due.Goals as goal

pub returns : goal.returns
returns g c =
    let rows = c.self.inside.rows in
    let of_rows = IfOk-weaker c.come.result _ (λ keys. keys.items ≡ due_items rows.timing.period_ms rows.rows c.args.now)
    (λ keys came. came ∙ ap keys_of (filter_agree _ _ (λ row. come_waited rows.timing.period_ms row.1 c.args.now c.ranges.now.fits) rows.rows)) c.come.ensures in
    subst (λ (t : Timers _). IfOk c.come.result (λ keys. keys.items ≡ due_items t.refresh_ms t.sent c.args.now)) c.self.view_is of_rows
