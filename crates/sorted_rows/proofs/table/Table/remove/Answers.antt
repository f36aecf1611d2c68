use Rattle.std.proofs.Common.{sym, subst, T, List}
use Rattle.std.specs.FinMap.Entries.{is_sorted, is_sorted-where_key}
use Rattle.sorted_rows.proofs.table.Table.remove.Goals as goal

-- src/table.rt:81:5
pub invariant_of-self : goal.invariant_of-self
invariant_of-self g c =
    subst (λ (rows : List (g.row.K.Denot × g.row.V.Denot)). T (is_sorted g.K.Ord.cmp rows)) (sym c.remove.ensures.removed) (is_sorted-where_key g.K.Ord.cmp _ _ c.self.invariant)
