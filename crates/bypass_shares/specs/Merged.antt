-- Rows with others put among them.
use Rattle.std.specs.Prelude.{List, [], ◌∷◌}
use Rattle.std.specs.FinMap.Entries.{put}
use Rattle.std.specs.declared.cmp.Ordering.{Ordering}

-- rows with more of them, each in its place; of two of one key the one of `more` counts
abbrev pub with_rows : {K X : Type 0} → (K → K → Ordering) → List (K × X) → List (K × X) → List (K × X)
with_rows cmp [] rows = rows
with_rows cmp (row ∷ more) rows = put cmp row.0 row.1 (with_rows cmp more rows)
