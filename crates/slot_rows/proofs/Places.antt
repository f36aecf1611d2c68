-- A binary search over the slots in order is one over their rows.
use Rattle.std.proofs.Common.{◌≡◌, ℕ, ◌<◌, ◌≤◌, T, Bool, true, false, List, [], ◌∷◌, map, not, length, get_or, set, Option, Some, None, Result, Ok, Err, IfOk, IfErr, sym, ap, ◌∙◌, arith}
use Rattle.std.specs.Cmp.{IsTotalOrder}
use Rattle.std.specs.FinMap.Entries.{find, is_sorted, put, where_key}
use Rattle.std.specs.List.{insert, remove}
use Rattle.std.specs.List.Sorted.{IsBinarySearchResult, IsNonDecreasingBy, IsPartitionPoint, IsPartitionedBy, IsSearchInRange}
use Rattle.std.specs.Option.{option_map, option_map_or}
use Rattle.std.specs.Ordering.{is_eq, is_lt, ordering_index}
use Rattle.std.specs.declared.cmp.Ordering.{Ordering}
use Rattle.std.specs.declared.cmp.Ordering.TheVariants.{Less}
use Rattle.sorted_rows.proofs.Places.{absent, found}
use Rattle.slot_rows.proofs.Filled.{length_read, row_at}

-- one of a list that is long enough
pub some_of : {R : Type 0} (rows : List R) (j : ℕ) → j < length rows → R
some_of [] j within = absurd (omega (arith, within))
some_of (row ∷ rows) j within = row

module _ {R : Type 0} (ord : R → Ordering) (of : ℕ → Option R) (order : List ℕ) (rows : List R) (h : map of order ≡ map Some rows) where
  -- how a place compares
  abbrev pub place_ord : ℕ → Ordering
  place_ord s = option_map_or ord (of s) Less

  -- a place compares as its row does
  pub compares : (i a : ℕ) (d : R) → i < length order → place_ord (get_or order i a) ≡ ord (get_or rows i d)
  compares i a d within = ap (λ o. option_map_or ord o Less) (row_at of order rows h i a d within)

  rises : IsNonDecreasingBy (λ y. ordering_index (ord y)) rows → IsNonDecreasingBy (λ s. ordering_index (place_ord s)) order
  rises up i j a below within =
      let long = length_read of order rows h in
      let d = some_of rows j (omega (arith, within, long)) in
      let at : ordering_index (ord (get_or rows i d)) ≤ ordering_index (ord (get_or rows j d)) = up i j d below (omega (arith, within, long)) in
      omega (arith, ap ordering_index (compares i a d (omega (arith, below, within))), ap ordering_index (compares j a d within), at)

  pub searched : (r : Result ℕ ℕ) → IsSearchInRange r (length order) → IsBinarySearchResult place_ord order r → IsBinarySearchResult ord rows r
  searched (Ok i) within tie = λ d. sym (compares i 0 d within) ∙ tie 0
  searched (Err i) within parted = λ up.
      let long = length_read of order rows h in
      let gap = parted (rises up) in
      (λ k d from below. sym (compares k 0 d (omega (arith, below, within))) ∙ gap.0 k 0 from below, λ k d from below. sym (compares k 0 d (omega (arith, below, long))) ∙ gap.1 k 0 from (omega (arith, below, long)))

  pub searched_range : (r : Result ℕ ℕ) → IsSearchInRange r (length order) → IsSearchInRange r (length rows)
  searched_range (Ok i) within = omega (arith, within, length_read of order rows h)
  searched_range (Err i) within = omega (arith, within, length_read of order rows h)

  -- whether a place stands before what is sought
  abbrev pub stands_before : ℕ → Bool
  stands_before s = is_lt (place_ord s)

  falls : IsPartitionedBy (λ row. is_lt (ord row)) rows → IsPartitionedBy stands_before order
  falls down i j a below within lt =
      let long = length_read of order rows h in
      let d = some_of rows j (omega (arith, within, long)) in
      ap is_lt (compares i a d (omega (arith, below, within)))
      ∙ down i j d below (omega (arith, within, long)) (sym (ap is_lt (compares j a d within)) ∙ lt)

  pub parted : (i : ℕ) → i ≤ length order → (IsPartitionedBy stands_before order → IsPartitionPoint (λ s. stands_before s ≡ true) (λ s. stands_before s ≡ false) order i) → IsPartitionedBy (λ row. is_lt (ord row)) rows → IsPartitionPoint (λ row. is_lt (ord row) ≡ true) (λ row. is_lt (ord row) ≡ false) rows i
  parted i within parts down =
      let long = length_read of order rows h in
      let gap = parts (falls down) in
      (λ k d from below. sym (ap is_lt (compares k 0 d (omega (arith, below, within)))) ∙ gap.0 k 0 from below, λ k d from below. sym (ap is_lt (compares k 0 d (omega (arith, below, long)))) ∙ gap.1 k 0 from (omega (arith, below, long)))

module _ {K X : Type 0} (cmp : K → K → Ordering) (total : IsTotalOrder cmp) (of : ℕ → Option (K × X)) (order : List ℕ) (rows : List (K × X)) (h : map of order ≡ map Some rows) (sorted : T (is_sorted cmp rows)) (q : K) where
  -- what a search for a key found
  pub found_place : (r : Result ℕ ℕ) → IsSearchInRange r (length order) → IsBinarySearchResult (place_ord (λ (row : K × X). cmp row.0 q) of order rows h) order r → IfOk r (λ i. (i < length order) × ((d : K × X) → find cmp q rows ≡ Some (get_or rows i d).1) × ((v : X) (d : K × X) → put cmp q v rows ≡ set rows i ((get_or rows i d).0, v)) × (where_key cmp (λ k. not (is_eq (cmp q k))) rows ≡ remove rows i))
  found_place (Ok i) within is =
      let at = found cmp total q rows (Ok i) sorted (searched_range (λ (row : K × X). cmp row.0 q) of order rows h (Ok i) within) (searched (λ (row : K × X). cmp row.0 q) of order rows h (Ok i) within is) in
      (within, at.1, at.2, at.3)
  found_place (Err i) within is = tt

  -- and where it found nothing
  pub absent_place : (r : Result ℕ ℕ) → IsSearchInRange r (length order) → IsBinarySearchResult (place_ord (λ (row : K × X). cmp row.0 q) of order rows h) order r → IfErr r (λ i. (i ≤ length order) × (find cmp q rows ≡ None) × ((v : X) → put cmp q v rows ≡ insert rows i (q, v)) × (where_key cmp (λ k. not (is_eq (cmp q k))) rows ≡ rows))
  absent_place (Ok i) within is = tt
  absent_place (Err i) within is =
      let at = absent cmp total q rows (Err i) sorted (searched_range (λ (row : K × X). cmp row.0 q) of order rows h (Err i) within) (searched (λ (row : K × X). cmp row.0 q) of order rows h (Err i) within is) in
      (within, at.1, at.2, at.3)

module _ {K X : Type 0} (of : ℕ → Option (K × X)) (order : List ℕ) (rows : List (K × X)) (h : map of order ≡ map Some rows) where
  -- the row of a slot is the one at its place
  pub row_there : (i a : ℕ) (row : K × X) → i < length order → of (get_or order i a) ≡ Some row → row ≡ get_or rows i row
  row_there i a row within is =
      let both : Some row ≡ Some (get_or rows i row) = sym is ∙ row_at of order rows h i a row within in
      cc

  pub value_at : (i a : ℕ) (value : Option X) → i < length order → ((d : K × X) → value ≡ Some (get_or rows i d).1) → option_map (λ row. row.1) (of (get_or order i a)) ≡ value
  value_at i a value within found =
      let d = some_of rows i (omega (arith, within, length_read of order rows h)) in
      ap (option_map (λ row. row.1)) (row_at of order rows h i a d within) ∙ sym (found d)

  -- a slot in order has a row
  pub has_row : (i a : ℕ) → i < length order → of (get_or order i a) ≡ None → ⊥
  has_row i a within none =
      let d = some_of rows i (omega (arith, within, length_read of order rows h)) in
      let both : Some (get_or rows i d) ≡ None = sym (row_at of order rows h i a d within) ∙ none in
      cc
