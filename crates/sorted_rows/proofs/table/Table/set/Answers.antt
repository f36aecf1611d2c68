use Rattle.std.proofs.Common.{T, List}
use Rattle.std.specs.FinMap.Entries.{is_sorted, is_sorted-put}
use Rattle.sorted_rows.proofs.Kept.{kept_either}
use Rattle.sorted_rows.proofs.table.Table.set.Goals as goal

-- src/table.rt:73:5
pub invariant_of-self : goal.invariant_of-self
invariant_of-self g c =
    kept_either (λ (rows : List (g.row.K.Denot × g.row.V.Denot)). T (is_sorted g.K.Ord.cmp rows)) c.set.result _ _ _ c.set.ensures.ok c.set.ensures.err (is_sorted-put g.K.Ord.cmp g.met.K.Ord.total _ _ _ c.self.invariant) c.self.invariant
