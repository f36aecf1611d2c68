-- The parts of rows: lists of pairs of a key and a value.
use Rattle.std.specs.Prelude.{List, [], ◌∷◌, map}
use Rattle.std.specs.FinMap.Entries.{by_order}
use Rattle.std.specs.declared.cmp.Ordering.{Ordering}

-- the keys of rows, in their order
abbrev pub keys_of : {K V : Type 0} → List (K × V) → List K
keys_of rows = map (λ row. row.0) rows

-- the values of rows, in the order of the keys
abbrev pub values_of : {K V : Type 0} → List (K × V) → List V
values_of rows = map (λ row. row.1) rows

-- keys with one more in its place; a key that ties with one of them adds none
abbrev pub with_key : {K : Type 0} → (K → K → Ordering) → K → List K → List K
with_key cmp key [] = key ∷ []
with_key cmp key (k ∷ ks) = by_order (cmp key k) (key ∷ k ∷ ks) (k ∷ ks) (k ∷ with_key cmp key ks)
