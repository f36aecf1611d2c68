-- How rows are gathered from some slots, in the order of their keys.
use Rattle.std.proofs.Common.{◌≡◌, ◌≢◌, ℕ, zero, suc, ◌+◌, ◌<◌, ◌≤◌, ◌||◌, T, Bool, true, false, cond, List, [], ◌∷◌, map, filter, length, get_or, Option, None, Some, take, drop, nat_eq, refl, sym, ap, subst, ◌∙◌, arith}
use Rattle.std.proofs.lemmas.Bool.Decides.{nat_tests}
use Rattle.std.proofs.lemmas.List.{drop_more}
use Rattle.std.specs.Cmp.{IsTotalOrder}
use Rattle.std.specs.FinMap.Entries.{find, is_sorted}
use Rattle.std.specs.List.{AllByRecursion, cons_option, filter_map, list_any}
use Rattle.std.specs.Ordering.{ordering_reverse}
use Rattle.std.specs.declared.cmp.Ordering.{Ordering}
use Rattle.std.specs.declared.cmp.Ordering.TheVariants.{Less, Equal}
use Rattle.slot_rows.proofs.Filled.{length_read}
use Rattle.slot_rows.proofs.Places.{row_there}
use Rattle.sorted_rows.specs.RowsLaws.{all-below, all_found, first, second}
use Rattle.timed_rows.specs.Gathered.{passes_at}

-- what holds of each element holds of the one at a place
each_at : {A : Type 0} (P : A → Type 0) (xs : List A) (i : ℕ) (d : A) → AllByRecursion P xs → i < length xs → P (get_or xs i d)
each_at P [] i d h within = absurd (omega (arith, within))
each_at P (x ∷ xs) zero d h within = h.0
each_at P (x ∷ xs) (suc i) d h within = each_at P xs i d h.1 (omega (arith, within))

module _ {K X : Type 0} (cmp : K → K → Ordering) (total : IsTotalOrder cmp) where
  -- rows that tie stand at one place
  same_place : (rows : List (K × X)) → T (is_sorted cmp rows) → (j k : ℕ) (d : K × X) → j < length rows → k < length rows → cmp (get_or rows j d).0 (get_or rows k d).0 ≡ Equal → j ≡ k
  same_place [] sorted j k d in_j in_k tie = absurd (omega (arith, in_j))
  same_place (row ∷ rows) sorted zero zero d in_j in_k tie = refl
  same_place (row ∷ rows) sorted zero (suc k) d in_j in_k tie =
      let low : cmp row.0 (get_or rows k d).0 ≡ Less = each_at (λ (other : K × X). cmp row.0 other.0 ≡ Less) rows k d (all-below cmp row.0 rows (first _ _ sorted)) (omega (arith, in_k)) in
      cc
  same_place (row ∷ rows) sorted (suc j) zero d in_j in_k tie =
      let low : cmp row.0 (get_or rows j d).0 ≡ Less = each_at (λ (other : K × X). cmp row.0 other.0 ≡ Less) rows j d (all-below cmp row.0 rows (first _ _ sorted)) (omega (arith, in_j)) in
      let back : cmp row.0 (get_or rows j d).0 ≡ Equal = total.antisymm row.0 (get_or rows j d).0 ∙ ap ordering_reverse tie in
      cc
  same_place (row ∷ rows) sorted (suc j) (suc k) d in_j in_k tie =
      ap suc (same_place rows (second _ _ sorted) j k d (omega (arith, in_j)) (omega (arith, in_k)) tie)

  module _ (of : ℕ → Option (K × X)) (order : List ℕ) (rows : List (K × X)) (h : map of order ≡ map Some rows) (sorted : T (is_sorted cmp rows)) (slot : ℕ) (row : K × X) (is : of slot ≡ Some row) (k : ℕ) (within : k < length order) (named : get_or order k 0 ≡ slot) where
    there : row ≡ get_or rows k row
    there = row_there of order rows h k 0 row within (ap of named ∙ is)

    inside : k < length rows
    inside = omega (arith, within, length_read of order rows h)

    -- a search for the row's key finds the slot's place
    pub found_there : (j : ℕ) → j < length order → cmp (get_or rows j row).0 row.0 ≡ Equal → j ≡ k
    found_there j in_j tie =
        same_place rows sorted j k row (omega (arith, in_j, length_read of order rows h)) inside (subst (λ (r : K × X). cmp (get_or rows j row).0 r.0 ≡ Equal) there tie)

    -- and it finds something
    pub found_some : find cmp row.0 rows ≡ None → ⊥
    found_some none =
        let found = each_at (λ (r : K × X). find cmp r.0 rows ≡ Some r.1) rows k row (all_found cmp total rows sorted) inside in
        let here : find cmp row.0 rows ≡ Some row.1 = subst (λ (r : K × X). find cmp r.0 rows ≡ Some r.1) (sym there) found in
        cc

-- where the first is false, the second is true
other_of : (a b : Bool) → (a || b) ≡ true → a ≡ false → b ≡ true
other_of true b h e = cc
other_of false b h e = h

module _ (places : List ℕ) (i k : ℕ) (within : i < length places) (among : list_any (nat_eq k) (drop i places) ≡ true) where
  -- a number that is not the one at a place is among those after it
  pub among_rest : k ≢ get_or places i 0 → list_any (nat_eq k) (drop (i + 1) places) ≡ true
  among_rest apart =
      other_of (nat_eq k (get_or places i 0)) _ (sym (ap (list_any (nat_eq k)) (drop_more places i 0 within)) ∙ among) (grind (arith, nat_tests, apart))

-- a number among those from a place on is not below a bound of them
pub among_from : (places : List ℕ) (i k low : ℕ) → ((j : ℕ) → i ≤ j → j < length places → low ≤ get_or places j 0) → list_any (nat_eq k) (drop i places) ≡ true → low ≤ k
among_from [] zero k low from among = cc
among_from [] (suc i) k low from among = cc
among_from (x ∷ xs) zero k low from among =
    elim (nat_eq k x) as (λ b. nat_eq k x ≡ b → low ≤ k) [
      | true ↦ λ e. let least : low ≤ x = from 0 (omega arith) (omega arith) in grind (arith, nat_tests)
      | false ↦ λ e. among_from xs zero k low (λ j at in_j. from (suc j) (omega arith) (omega (arith, in_j))) (other_of (nat_eq k x) (list_any (nat_eq k) xs) among e)
    ] refl
among_from (x ∷ xs) (suc i) k low from among =
    among_from xs i k low (λ j at in_j. from (suc j) (omega (arith, at)) (omega (arith, in_j))) among

module _ {R : Type 0} (passes : R → Bool) (of : ℕ → Option R) where
  skipped : (row : Option R) (rest : List R) → passes_at passes row ≡ false → filter passes (cons_option row rest) ≡ filter passes rest
  skipped None rest h = refl
  skipped (Some row) rest h = ap (λ b. cond b (row ∷ filter passes rest) (filter passes rest)) h

  kept_both : (row : Option R) (rest others : List R) → filter passes rest ≡ filter passes others → filter passes (cons_option row rest) ≡ filter passes (cons_option row others)
  kept_both None rest others same = same
  kept_both (Some row) rest others same = ap (λ rows. cond (passes row) (row ∷ rows) rows) same

  -- where no row between two places passes, what passes up to the one is what passes up to the other
  pub none_between : (order : List ℕ) (a b : ℕ) → a ≤ b → ((k : ℕ) → a ≤ k → k < b → k < length order → passes_at passes (of (get_or order k 0)) ≡ false) → filter passes (filter_map of (take b order)) ≡ filter passes (filter_map of (take a order))
  none_between [] zero zero le none = refl
  none_between [] zero (suc b) le none = refl
  none_between [] (suc a) zero le none = refl
  none_between [] (suc a) (suc b) le none = refl
  none_between (o ∷ order) zero zero le none = refl
  none_between (o ∷ order) zero (suc b) le none =
      skipped (of o) (filter_map of (take b order)) (none 0 (omega arith) (omega arith) (omega arith))
      ∙ none_between order zero b (omega arith) (λ k low high within. none (suc k) (omega arith) (omega (arith, high)) (omega (arith, within)))
  none_between (o ∷ order) (suc a) zero le none = absurd (omega (arith, le))
  none_between (o ∷ order) (suc a) (suc b) le none =
      kept_both (of o) (filter_map of (take b order)) (filter_map of (take a order)) (none_between order a b (omega (arith, le)) (λ k low high within. none (suc k) (omega (arith, low)) (omega (arith, high)) (omega (arith, within))))

  -- what is not among the places doesn't pass
  pub not_passing : (row : Option R) → (passes_at passes row ≡ true → ⊥) → passes_at passes row ≡ false
  not_passing row h =
      elim (passes_at passes row) as (λ b. (b ≡ true → ⊥) → b ≡ false) [ true ↦ λ no. absurd (no refl) | false ↦ λ no. refl ] h
