-- Edits of rows, and others that are made after them, as one.
use Rattle.std.specs.Prelude.{◌≡◌, T, List, [], ◌∷◌, ◌++◌, length, Option}
use Rattle.std.specs.FinMap.Entries.{is_sorted, put}
use Rattle.std.specs.declared.cmp.Ordering.{Ordering}
use Rattle.std.proofs.Common.{ap, refl, sym, ◌∙◌}
use Rattle.sorted_rows.specs.RowsLaws.{first, put-below, second}

-- edits of rows, and others that are made after them
abbrev pub joined_rows : {K X : Type 0} → (K → K → Ordering) → List (K × Option X) → List (K × Option X) → List (K × Option X)
joined_rows cmp es [] = es
joined_rows cmp es (l ∷ later) = put cmp l.0 l.1 (joined_rows cmp es later)

-- The last of what is made later is set first.
pub joined_last : {K X : Type 0} (cmp : K → K → Ordering) (es later : List (K × Option X)) (l : K × Option X) → joined_rows cmp es (later ++ l ∷ []) ≡ joined_rows cmp (put cmp l.0 l.1 es) later
joined_last cmp es [] l = refl
joined_last cmp es (first ∷ later) l = ap (put cmp first.0 first.1) (joined_last cmp es later l)

-- Rows in order that are joined to none are all.
pub joined_none : {K X : Type 0} (cmp : K → K → Ordering) (es later : List (K × Option X)) → length es ≡ 0 → T (is_sorted cmp later) → later ≡ joined_rows cmp es later
joined_none cmp [] [] none h = refl
joined_none cmp (e ∷ es) [] none h = cc
joined_none cmp es (l ∷ later) none h =
    sym (ap (put cmp l.0 l.1) (sym (joined_none cmp es later none (second _ _ h))) ∙ put-below cmp l.0 l.1 later (first _ _ h))
