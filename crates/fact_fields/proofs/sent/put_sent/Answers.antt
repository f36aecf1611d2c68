-- The rows of both tables rise.
use Rattle.std.proofs.Common.{List, OnOk, T, ℕ, rules, subst, ◌∙◌}
use Rattle.std.specs.FinMap.Entries.{is_sorted}
use Rattle.field_bytes.specs.PairLaws.{PairFits}
use Rattle.field_bytes.specs.Spelling.{ListFits}
use Rattle.lsr_facts.specs.Orders.{item_cmp}
use Rattle.lsr_facts.specs.Upstreams.{upstream_cmp}
use Rattle.event_fields.specs.Fitting.{IsLong}
use Rattle.fact_fields.specs.Fitting.{RefreshedFits}
use Rattle.fact_fields.specs.Sent.{joined}
use Rattle.fact_fields.specs.declared.sent.Refreshed.{Refreshed}
use Rattle.fact_fields.proofs.Splitting.{sent_fits}
use Rattle.fact_fields.proofs.sent.put_sent.Goals as goal

pub returns-clause-fits : goal.returns-clause-fits
returns-clause-fits c =
    let RowFits : Refreshed × ℕ → Type 0 = PairFits RefreshedFits IsLong in
    let P : List (Refreshed × ℕ) → Type 0 = λ rows. OnOk c.put_list.result (ListFits RowFits rows) in
    let same = c.in_ok-rows.ensures ∙ (λ i. joined (c.as_slice.ensures.rows i) (c.as_slice-2.ensures.rows i)) in
    let paths : T (is_sorted item_cmp c.args.paths.now) = search (rules, c.as_slice.ensures.sorted) in
    let resvs : T (is_sorted upstream_cmp c.args.resvs.now) = search (rules, c.as_slice-2.ensures.sorted) in
    sent_fits RowFits c.args.paths.now c.args.resvs.now c.in_ok-rows.rows.items c.put_list.result paths resvs same (subst P c.as_slice-3.ensures.value c.put_list.ensures.fits)
