-- Each slot that has a row is among those that are named: as many are named as have one.
use Rattle.std.proofs.Common.{◌≡◌, ◌≢◌, ◌⊎◌, inl, inr, ℕ, suc, ◌+◌, ◌<◌, ◌≤◌, T, true, false, List, [], ◌∷◌, map, length, get_or, set, Option, Some, None, is_some, count_by, cond, eqb, refl, sym, ap, subst, ◌∙◌, arith}
use Rattle.std.specs.Cmp.{IsTotalOrder}
use Rattle.std.specs.Option.{IsSomeAnd, option_map}
use Rattle.std.specs.FinMap.Entries.{find, is_sorted, put}
use Rattle.std.specs.declared.cmp.Ordering.{Ordering}
use Rattle.std.specs.declared.cmp.Ordering.TheVariants.{Equal}
use Rattle.std.proofs.lemmas.Bool.Decides.{eqb_tells}
use Rattle.std.proofs.lemmas.List.{get_or_default, get_or_past, get_or-set_other}
use Rattle.std.proofs.lemmas.List.Sums.{sum_by-set}
use Rattle.sorted_rows.proofs.Places.{find_at, put_at}
use Rattle.sorted_rows.specs.RowsLaws.{all-below, first, second}
use Rattle.slab.specs.Slab.{Slab, Updates, get, slab_len}
use Rattle.slot_rows.specs.Slots.{IsSlotted, rows_of}
use Rattle.slot_rows.proofs.Changes.{Gives, has_row, over, row_of_place, that_row}
use Rattle.slot_rows.proofs.Filled.{above_apart, length_read, stays}
use Rattle.slot_rows.proofs.Places.{row_there}

-- what is there, and what holds of it
pub there_is : {A : Type 0} (P : A → Type 0) (o : Option A) → IsSomeAnd o P → (a : A) × ((o ≡ Some a) × P a)
there_is P None h = absurd h
there_is P (Some a) h = (a, (refl, h))

module _ {R : Type 0} where
  -- what has something is within
  within : (xs : List (Option R)) (s : ℕ) (row : R) → get_or xs s None ≡ Some row → s < length xs
  within xs s row is = grind (arith, get_or_past)

  -- one less is there once one is taken away
  emptied : (xs : List (Option R)) (s : ℕ) (row : R) → get_or xs s None ≡ Some row → count_by is_some (set xs s None) + 1 ≡ count_by is_some xs
  emptied xs s row is =
      let counted = sum_by-set (λ o. cond (is_some o) 1 0) xs s None None (within xs s row is) in
      let one : ◌≡◌ {A = ℕ} (cond (is_some (get_or xs s None)) 1 0) 1 = ap (λ o. cond (is_some o) 1 0) is in
      omega (arith, counted, one)

module _ {K X : Type 0} (cmp : K → K → Ordering) (total : IsTotalOrder cmp) where
  -- the place of a slot that has a row
  pub named : (xs : List (Option (K × X))) (order : List ℕ) (rows : List (K × X)) → map (λ o. get_or xs o None) order ≡ map Some rows → T (is_sorted cmp rows) → count_by is_some xs ≡ length order → (s : ℕ) (row : K × X) → get_or xs s None ≡ Some row → (i : ℕ) × ((i < length order) × (get_or order i 0 ≡ s))
  named xs [] rows h sorted used s row is = absurd (omega (arith, used, emptied xs s row is))
  named xs (o ∷ order) [] h sorted used s row is = cc
  named xs (o ∷ order) (low ∷ rows) h sorted used s row is =
      let here : get_or xs o None ≡ Some low = cc in
      let rest : map (λ p. get_or xs p None) order ≡ map Some rows = cc in
      let others : (p : ℕ) → p ≢ o → get_or (set xs o None) p None ≡ get_or xs p None = λ p other. get_or-set_other xs o p None None other in
      let later = above_apart cmp total (λ p. get_or xs p None) o low here order rows rest (all-below cmp low.0 rows (first _ _ sorted)) in
      let left = stays (λ p. get_or xs p None) (λ p. get_or (set xs o None) p None) o others order later ∙ rest in
      by_cases (λ apart. named (set xs o None) order rows left (second _ _ sorted) (omega (arith, used, emptied xs o low here)) s row (others s apart ∙ is)) (eqb_tells s o)
    where
      by_cases : (s ≢ o → (i : ℕ) × ((i < length order) × (get_or order i 0 ≡ s))) → ((eqb s o ≡ true) × (s ≡ o)) ⊎ ((eqb s o ≡ false) × (s ≢ o)) → (i : ℕ) × ((i < length (o ∷ order)) × (get_or (o ∷ order) i 0 ≡ s))
      by_cases further (inl same) = (0, (omega arith, sym same.1))
      by_cases further (inr apart) =
          let found = further apart.1 in
          (suc found.0, (omega (arith, found.1.0), found.1.1))

  module _ (most : ℕ) (s : Slab (K × X)) (order : List ℕ) (capacity : ℕ) (kept : IsSlotted cmp most s order capacity) (q : K) (at : ℕ) (row : K × X) (is : get s at ≡ Some row) (ties : cmp row.0 q ≡ Equal) where
    -- the place of a slot that has a row
    pub place_of : (i : ℕ) × ((i < length order) × (get_or order i 0 ≡ at))
    place_of = named s.slots order (rows_of s order) kept.filled kept.in_order kept.used at row is

    -- a row that has the key is the one that is found
    pub found_by_slot : find cmp q (rows_of s order) ≡ Some row.1
    found_by_slot =
        let at_place = ap (get s) place_of.1.1 ∙ is in
        let there = row_there (get s) order (rows_of s order) kept.filled place_of.0 0 row place_of.1.0 at_place in
        let long = length_read (get s) order (rows_of s order) kept.filled in
        find_at cmp total q (rows_of s order) place_of.0 row kept.in_order (omega (arith, place_of.1.0, long)) (ap (λ (r : K × X). cmp r.0 q) (sym there) ∙ ties) ∙ ap (λ (r : K × X). Some r.1) (sym there)

    pub value_by_slot : option_map (λ row. row.1) (get s at) ≡ find cmp q (rows_of s order)
    value_by_slot = ap (option_map (λ row. row.1)) is ∙ sym found_by_slot

    -- and it is the one whose value is set
    pub set_by_slot : (t : Slab (K × X)) (v : X) → Updates s t at (Some (row.0, v)) → slab_len t ≡ slab_len s → t.capacity ≡ s.capacity → length (put cmp q v (rows_of s order)) ≤ most → Gives cmp most t order capacity (put cmp q v (rows_of s order))
    set_by_slot t v updates len room few =
        let i = place_of.0 in
        let inside = place_of.1.0 in
        let here : at ≡ get_or order i at = sym place_of.1.1 ∙ get_or_default order i 0 at inside in
        let both : Some row ≡ Some (row_of_place cmp most total s t order capacity kept i inside) = sym is ∙ has_row cmp most total s t order capacity kept i at inside here in
        let same : row ≡ row_of_place cmp most total s t order capacity kept i inside = cc in
        let long = length_read (get s) order (rows_of s order) kept.filled in
        let puts : (d : K × X) → put cmp q v (rows_of s order) ≡ set (rows_of s order) i ((get_or (rows_of s order) i d).0, v) = λ d. put_at cmp total q v (rows_of s order) i d kept.in_order (omega (arith, inside, long)) (ap (λ (r : K × X). cmp r.0 q) (sym (same ∙ that_row cmp most total s t order capacity kept i inside d)) ∙ ties) in
        over cmp most total s t order capacity kept q v i at inside here (subst (λ (r : K × X). Updates s t at (Some (r.0, v))) same updates) len room puts few
