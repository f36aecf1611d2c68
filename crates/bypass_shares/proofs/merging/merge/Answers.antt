-- One of them is empty, or both are in order.
use Rattle.std.proofs.Common.{◌≡◌, [], T, ap, sym, subst, ◌∙◌}
use Rattle.std.specs.FinMap.Entries.{is_sorted}
use Rattle.lsr_facts.specs.OrderLaws.{key_total}
use Rattle.lsr_facts.specs.Orders.{key_cmp}
use Rattle.bypass_shares.specs.Merged.{with_rows}
use Rattle.bypass_shares.proofs.NextRows.{is_sorted-with_rows, none_of, with_rows-none}
use Rattle.bypass_shares.proofs.merging.merge.Goals as goal

pub returns-then-is_empty-2 : goal.returns-then-is_empty-2
returns-then-is_empty-2 c =
    let none : c.args.rows ≡ [] = sym c.as_slice-2.ensures.rows ∙ none_of c.as_slice-2.result.now (sym c.is_empty-2.ensures ∙ c.if-is_empty-2.true) in
    sym (ap (with_rows key_cmp c.args.more) none ∙ with_rows-none key_cmp c.args.more c.as_slice.ensures.sorted)

pub from_rows-requires : goal.from_rows-requires
from_rows-requires c =
    let rows = subst (λ es. T (is_sorted key_cmp es)) (sym c.as_slice-3.ensures.rows) c.as_slice-3.ensures.sorted in
    subst (λ es. T (is_sorted key_cmp es)) (sym c.in_ok-merged.ensures) (is_sorted-with_rows key_cmp key_total c.as_slice-4.result.now c.as_slice-3.result.now rows)
