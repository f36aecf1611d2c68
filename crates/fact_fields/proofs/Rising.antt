-- Keys that rise from row to row rise.
use Rattle.std.proofs.Common.{◌≡◌, ◌≤◌, ◌-◌, Bool, true, false, ◌&&◌, List, [], ◌∷◌, arith, drop, length, refl, slice_index_or, subst, sym, take, ap, ◌∙◌}
use Rattle.std.proofs.lemmas.List.{take_all}
use Rattle.std.specs.Cmp.{IsTotalOrder}
use Rattle.std.specs.FinMap.Entries.{below_all, is_sorted}
use Rattle.std.specs.Ordering.{is_lt}
use Rattle.std.specs.declared.cmp.Ordering.{Ordering}
use Rattle.std.specs.declared.cmp.Ordering.TheVariants.{Less, Equal, Greater}
use Rattle.fact_fields.specs.Tables.{is_below_next}

lesser : (o : Ordering) → is_lt o ≡ true → o ≡ Less
lesser Less p = refl
lesser Equal p = cc
lesser Greater p = cc

first_true : (a b : Bool) → (a && b) ≡ true → a ≡ true
first_true true b e = refl
first_true false b e = cc

second_true : (a b : Bool) → (a && b) ≡ true → b ≡ true
second_true true b e = e
second_true false b e = cc

and_false : (b : Bool) → (b && false) ≡ false
and_false true = refl
and_false false = refl

-- what is below the first of rising keys is below all
below_next : {K V : Type 0} (cmp : K → K → Ordering) → IsTotalOrder cmp → (x y : K) (es : List (K × V)) → cmp x y ≡ Less → below_all cmp y es ≡ true → below_all cmp x es ≡ true
below_next cmp o x y [] p h = refl
below_next cmp o x y (e ∷ es) p h =
    let here : is_lt (cmp x e.0) ≡ true = ap is_lt (o.trans x y e.0 p (lesser (cmp y e.0) (first_true (is_lt (cmp y e.0)) (below_all cmp y es) h))) in
    let others = below_next cmp o x y es p (second_true (is_lt (cmp y e.0)) (below_all cmp y es) h) in
    (λ i. here i && others i)

-- a row below the next changes nothing
rising_step : {K V : Type 0} (cmp : K → K → Ordering) → IsTotalOrder cmp → (x : K × V) (rows : List (K × V)) → is_below_next cmp x rows ≡ true →
    is_sorted cmp (x ∷ rows) ≡ is_sorted cmp rows
rising_step cmp o x [] less = refl
rising_step {K} {V} cmp o x (y ∷ es) less = by_case (below_all cmp y.0 es) refl where
  by_case : (b : Bool) → below_all cmp y.0 es ≡ b → is_sorted cmp (x ∷ y ∷ es) ≡ is_sorted cmp (y ∷ es)
  by_case true above =
      let p : cmp x.0 y.0 ≡ Less = lesser (cmp x.0 y.0) less in
      let others = below_next cmp o x.0 y.0 es p above in
      (λ i. (less i && others i) && (below_all cmp y.0 es && is_sorted cmp es))
  by_case false above =
      (λ i. (is_lt (cmp x.0 y.0) && below_all cmp x.0 es) && (above i && is_sorted cmp es))
      ∙ (and_false (is_lt (cmp x.0 y.0) && below_all cmp x.0 es) ∙ sym (λ i. above i && is_sorted cmp es))

-- a row that isn't below the next is out of order
pub rising_stop : {K V : Type 0} (cmp : K → K → Ordering) (x : K × V) (rows : List (K × V)) → is_below_next cmp x rows ≡ false → is_sorted cmp (x ∷ rows) ≡ false
rising_stop cmp x [] more = cc
rising_stop cmp x (y ∷ es) more = λ i. (more i && below_all cmp x.0 es) && (below_all cmp y.0 es && is_sorted cmp es)

-- what is left after a row
left_after : {A : Type 0} (x : A) (xs : List A) → take (length (x ∷ xs) - 1) xs ≡ xs
left_after x xs = take_all (length (x ∷ xs) - 1) xs (omega arith)

-- what is left rises where all do, after a row below the next, too
pub rising_on : {K V : Type 0} (cmp : K → K → Ordering) → IsTotalOrder cmp → (rows rest : List (K × V)) (row other : K × V) → 1 ≤ length rest → row ≡ slice_index_or rest 0 other →
    true ≡ is_below_next cmp row (take (length rest - 1) (drop 1 rest)) → is_sorted cmp rest ≡ is_sorted cmp rows → is_sorted cmp (take (length rest - 1) (drop 1 rest)) ≡ is_sorted cmp rows
rising_on cmp o rows [] row other some here less e = absurd (omega (arith, some))
rising_on {K} {V} cmp o rows (x ∷ xs) row other some here less e =
    let same : take (length (x ∷ xs) - 1) xs ≡ xs = left_after x xs in
    let first : is_below_next cmp x (take (length (x ∷ xs) - 1) xs) ≡ true = subst (λ (v : K × V). is_below_next cmp v (take (length (x ∷ xs) - 1) xs) ≡ true) here (sym less) in
    let below : is_below_next cmp x xs ≡ true = subst (λ (v : List (K × V)). is_below_next cmp x v ≡ true) same first in
    ap (λ (v : List (K × V)). is_sorted cmp v) same ∙ (sym (rising_step cmp o x xs below) ∙ e)
