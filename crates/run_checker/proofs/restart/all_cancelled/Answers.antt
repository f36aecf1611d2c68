-- Tunnels keep their numbers, and so their order.
use Rattle.std.specs.Prelude.{ℕ, List, T}
use Rattle.std.specs.FinMap.Entries.{is_sorted}
use Rattle.std.specs.Ordering.{nat_cmp}
use Rattle.std.proofs.Common.{subst, sym}
use Rattle.sorted_rows.specs.RowsLaws.{is_sorted-both}
use Rattle.lsr_facts.specs.Changes.{cancelled}
use Rattle.lsr_facts.specs.declared.tunnel.Tunnel.{Tunnel}
use Rattle.abstract_paths.specs.Restarts.{all_cancelled}
use Rattle.abstract_paths.specs.RowLaws.{keys-map}
use Rattle.run_checker.proofs.restart.all_cancelled.Goals as goal

pub from_rows-requires : goal.from_rows-requires
from_rows-requires c =
    let rows = c.into_rows-rows.result.items in
    let sorted : T (is_sorted nat_cmp rows) = subst (λ (rows : List (ℕ × Tunnel)). T (is_sorted nat_cmp rows)) (sym c.into_rows-rows.ensures.rows) c.into_rows-rows.ensures.sorted in
    subst (λ (rows : List (ℕ × Tunnel)). T (is_sorted nat_cmp rows)) (sym c.cancel_each.ensures)
    (subst T (sym (is_sorted-both nat_cmp (all_cancelled rows) rows (keys-map (λ (tunnel : ℕ × Tunnel). cancelled tunnel.1) rows))) sorted)
