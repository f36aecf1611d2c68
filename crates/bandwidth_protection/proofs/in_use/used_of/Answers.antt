-- What is in use is in order, as all is.
use Rattle.std.proofs.Common.{T, List, ap, subst, sym, ◌∙◌}
use Rattle.std.proofs.lemmas.List.{take_all}
use Rattle.std.specs.FinMap.Entries.{is_sorted, is_sorted-where_key, where_key}
use Rattle.lsr_facts.specs.Orders.{key_cmp}
use Rattle.lsr_facts.specs.declared.assignment.Assignment.{Assignment}
use Rattle.lsr_facts.specs.declared.key.Key.{Key}
use Rattle.abstract_router.specs.Assigning.{is_in_use}
use Rattle.bandwidth_protection.proofs.in_use.used_of.Goals as goal

pub from_rows-requires : goal.from_rows-requires
from_rows-requires g c =
    let all = c.args.assignments.now in
    let used = is_in_use (g.A.StateView.state c.args.after.now) in
    let taken = take_all c.loop-row.row-index c.as_slice-rows.result.now c.loop-row-test.false ∙ c.as_slice-rows.ensures.rows in
    subst (λ (rows : List (Key × Assignment)). T (is_sorted key_cmp rows)) (sym (c.loop-row.invariant ∙ ap (where_key key_cmp used) taken)) (is_sorted-where_key key_cmp used all c.as_slice-rows.ensures.sorted)
