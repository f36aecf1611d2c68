-- What a place and the ones beside it tell of a search.
use Rattle.std.proofs.Common.{◌≡◌, ℕ, ◌+◌, ◌-◌, ◌<◌, ◌≤◌, List, length, get_or, Err, refl, ap, subst, ◌∙◌, arith}
use Rattle.std.specs.List.Sorted.{IsBinarySearchResult}
use Rattle.std.specs.Ordering.{ordering_index}
use Rattle.std.specs.declared.cmp.Ordering.{Ordering}
use Rattle.std.specs.declared.cmp.Ordering.TheVariants.{Less, Equal, Greater}

-- nothing is less than what is less
least : (o : Ordering) → ordering_index o ≤ 0 → o ≡ Less
least Less low = refl
least Equal low = absurd (omega (arith, low))
least Greater low = absurd (omega (arith, low))

-- nothing is greater than what is greater
greatest : (o : Ordering) → 2 ≤ ordering_index o → o ≡ Greater
greatest Less high = absurd (omega (arith, high))
greatest Equal high = absurd (omega (arith, high))
greatest Greater high = refl

module _ {R : Type 0} (ord : R → Ordering) (rows : List R) where
  -- how the row at a place compares
  pub told : (i k : ℕ) (o p : Ordering) → i ≡ k → ((d : R) → ord (get_or rows i d) ≡ o) → o ≡ p → (d : R) → ord (get_or rows k d) ≡ p
  told i k o p same at is d = subst (λ (n : ℕ). ord (get_or rows n d) ≡ p) same (at d ∙ is)

  -- What is sought belongs between what is less, just before a place, and what is greater, there: nothing need be there.
  pub gap_at : (i : ℕ) → i ≤ length rows → ((k : ℕ) → k + 1 ≡ i → (d : R) → ord (get_or rows k d) ≡ Less) → (i < length rows → (d : R) → ord (get_or rows i d) ≡ Greater) → IsBinarySearchResult ord rows (Err i)
  gap_at i within before from rises = (
    λ k d low below. least (ord (get_or rows k d)) (omega (arith, rises k (i - 1) d (omega (arith, below)) (omega (arith, below, within)), ap ordering_index (before (i - 1) (omega (arith, below)) d))),
    λ k d low below. greatest (ord (get_or rows k d)) (omega (arith, rises i k d low below, ap ordering_index (from (omega (arith, low, below)) d))),
  )
