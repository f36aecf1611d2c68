-- What a binary search among items in order finds is one of them.
use Rattle.std.proofs.Common.{◌≡◌, ℕ, zero, suc, ◌<◌, Bool, true, false, List, [], ◌∷◌, length, get_or, Result, Ok, Err, refl, sym, ap, inl, inr, ◌∙◌, arith}
use Rattle.std.specs.Prelude.{◌||◌, is_ok}
use Rattle.std.specs.Cmp.{IsTotalOrder}
use Rattle.std.specs.List.Sorted.{IsBinarySearchResult, IsSearchInRange, IsSorted}
use Rattle.std.specs.Ordering.{eq_by_cmp, is_eq, ordering_reverse}
use Rattle.std.specs.declared.cmp.Ordering.{Ordering}
use Rattle.std.specs.declared.cmp.Ordering.TheVariants.{Less, Equal, Greater}
use Rattle.std.proofs.lemmas.Bool.{cases_lt}
use Rattle.std.proofs.lemmas.Cmp.{tied_back}
use Rattle.std.proofs.lemmas.List.Sorted.{searchable_from_sorted}
use Rattle.abstract_paths.specs.Outputs.{is_due}

module _ {I : Type 0} (cmp : I → I → Ordering) (total : IsTotalOrder cmp) (item : I) where
  -- an element that ties is one of them
  pub tied_at : (due : List I) (i : ℕ) (d : I) → i < length due → cmp (get_or due i d) item ≡ Equal → is_due cmp due item ≡ true
  tied_at [] i d within tie = absurd (omega (arith, within))
  tied_at (x ∷ xs) zero d within tie = ap (λ o. is_eq o || is_due cmp xs item) (tied_back total x item tie)
  tied_at (x ∷ xs) (suc i) d within tie = by (eq_by_cmp cmp item x) (tied_at xs i d (omega (arith, within)) tie)
    where
      by : (b : Bool) → is_due cmp xs item ≡ true → (b || is_due cmp xs item) ≡ true
      by true rest = refl
      by false rest = rest

  -- where none ties, it is none of them
  none_tied : (due : List I) → ((k : ℕ) (d : I) → k < length due → eq_by_cmp cmp item (get_or due k d) ≡ false) → is_due cmp due item ≡ false
  none_tied [] apart = refl
  none_tied (x ∷ xs) apart = ap (λ b. b || is_due cmp xs item) (apart 0 x (omega arith)) ∙ none_tied xs (λ k d within. apart (suc k) d (omega (arith, within)))

  -- a comparison the other way round
  turned : (x : I) (o : Ordering) → cmp x item ≡ o → cmp item x ≡ ordering_reverse o
  turned x o is = total.antisymm item x ∙ ap ordering_reverse is

  -- So the search finds one just where the item is due.
  pub search_finds : (due : List I) (r : Result ℕ ℕ) → IsSorted cmp due → IsSearchInRange r (length due) → IsBinarySearchResult (λ x. cmp x item) due r → is_ok r ≡ is_due cmp due item
  search_finds [] (Ok i) sorted within at = absurd (omega (arith, within))
  search_finds (x ∷ xs) (Ok i) sorted within at = sym (tied_at (x ∷ xs) i x within (at x))
  search_finds due (Err i) sorted within parted =
      let gap = parted (searchable_from_sorted total (λ x. x) due item sorted) in
      sym (none_tied due (λ k d inside. elim (cases_lt k i) [
        | inl below ↦ ap is_eq (turned (get_or due k d) Less (gap.0 k d (omega arith) below))
        | inr above ↦ ap is_eq (turned (get_or due k d) Greater (gap.1 k d above inside))
      ]))
