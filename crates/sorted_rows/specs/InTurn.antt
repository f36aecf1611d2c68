-- Edits made one after the other, as the code makes them: first those that take a key away, then those that give a value.
use Rattle.std.specs.Prelude.{List, [], ◌∷◌, Option, Some, None}
use Rattle.std.specs.declared.cmp.Ordering.{Ordering}
use Rattle.sorted_rows.specs.Edits.{at_key}

-- the edit is made where it takes its key away
abbrev pub taken : {K X : Type 0} → (K → K → Ordering) → K → Option X → List (K × X) → List (K × X)
taken cmp key None rows = at_key cmp key None rows
taken cmp key (Some value) rows = rows

-- the edit is made where it gives its key a value
abbrev pub given : {K X : Type 0} → (K → K → Ordering) → K → Option X → List (K × X) → List (K × X)
given cmp key None rows = rows
given cmp key (Some value) rows = at_key cmp key (Some value) rows

-- one edit after the other, from the first on
abbrev pub in_turn : {K X : Type 0} → (K → Option X → List (K × X) → List (K × X)) → List (K × Option X) → List (K × X) → List (K × X)
in_turn make [] rows = rows
in_turn make (e ∷ es) rows = in_turn make es (make e.0 e.1 rows)
