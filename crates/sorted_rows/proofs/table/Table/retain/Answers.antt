use Rattle.std.proofs.Common.{T, List, sym, subst}
use Rattle.std.specs.FinMap.Entries.{is_sorted}
use Rattle.sorted_rows.specs.RowsLaws.{is_sorted-picked}
use Rattle.sorted_rows.proofs.table.Table.retain.Goals as goal

pub invariant_of-self : goal.invariant_of-self
invariant_of-self g c =
    let left = c.retain.ensures.picked in
    subst (λ (rows : List (g.row.K.Denot × g.row.V.Denot)). T (is_sorted g.K.Ord.cmp rows)) (sym left.1) (is_sorted-picked g.K.Ord.cmp left.0 c.self.inside.rows.items c.self.invariant)
