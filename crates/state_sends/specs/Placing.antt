-- Rows that are put among others.
use Rattle.std.specs.Prelude.{List, fold}
use Rattle.std.specs.FinMap.Entries.{put}
use Rattle.std.specs.declared.cmp.Ordering.{Ordering}

-- rows, put one after the other
abbrev pub placed : {K X : Type 0} → (K → K → Ordering) → List (K × X) → List (K × X) → List (K × X)
placed cmp table rows = fold (λ t row. put cmp row.0 row.1 t) table rows
