-- What always holds of a table in reserved memory.
use Rattle.std.specs.Prelude.{ℕ, ◌≤◌, List, T, length}
use Rattle.std.specs.FinMap.Entries.{is_sorted}
use Rattle.std.specs.declared.cmp.Ordering.{Ordering}

-- The keys rise, there are not more rows than the most, and there is room for so many.
pub record IsReserved {K X : Type 0} (cmp : K → K → Ordering) (most : ℕ) (rows : List (K × X)) (capacity : ℕ) : Type 0 where
  pub in_order : T (is_sorted cmp rows)
  pub few : length rows ≤ most
  pub room : most ≤ capacity
