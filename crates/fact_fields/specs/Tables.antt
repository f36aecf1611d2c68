-- Tables and their rows.
use Rattle.std.specs.FinMap.Entries.{is_sorted}
use Rattle.std.specs.Ordering.{is_lt}
use Rattle.std.specs.Prelude.{Bool, true, List, [], ◌∷◌, T}
use Rattle.std.specs.declared.cmp.Ordering.{Ordering}

-- the keys rise, so that none stands there twice
abbrev pub IsTable : {K V : Type 0} → (K → K → Ordering) → List (K × V) → Type 0
IsTable cmp rows = T (is_sorted cmp rows)

-- a table's rows are the table
abbrev pub same_rows : {K V : Type 0} → List (K × V) → List (K × V)
same_rows rows = rows

-- the row's key is below that of the next row, where there is one
abbrev pub is_below_next : {K V : Type 0} → (K → K → Ordering) → K × V → List (K × V) → Bool
is_below_next cmp row [] = true
is_below_next cmp row (next ∷ after) = is_lt (cmp row.0 next.0)
