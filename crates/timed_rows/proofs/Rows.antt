-- What a wheel says of rows in slots.
use Rattle.std.proofs.Common.{◌≡◌, ℕ, List, Option, None, Some, get_or, nat_eq, refl, ap, sym, ◌∙◌}
use Rattle.std.proofs.lemmas.List.Sorted.{list_any-IsPermutation}
use Rattle.std.specs.List.{list_any}
use Rattle.std.specs.Prelude.{IsPermutation}
use Rattle.timer_wheel.specs.Due.{has_come}
use Rattle.timed_rows.specs.Gathered.{CoverRows, CoverSlots, passes_at}
use Rattle.timed_rows.specs.Timed.{moment_of}

module _ {K X : Type 0} (at : X → Option ℕ) where
  -- a slot's moment has come where it has a row whose moment has
  come_at : (now : ℕ) (row : Option (K × X)) → has_come now (moment_of at row) ≡ passes_at (λ row. has_come now (at row.1)) row
  come_at now None = refl
  come_at now (Some row) = refl

  -- each row whose moment has come stands at a place of a slot that is due
  pub come_covered : (of : ℕ → Option (K × X)) (moments : List (Option ℕ)) (now : ℕ) → ((slot : ℕ) → get_or moments slot None ≡ moment_of at (of slot)) → (due order places in_turn : List ℕ) → ((slot : ℕ) → list_any (nat_eq slot) due ≡ has_come now (get_or moments slot None)) → CoverSlots order due places → IsPermutation places in_turn → CoverRows (λ row. has_come now (at row.1)) of order in_turn
  come_covered of moments now are due order places in_turn exact covered moved k within come =
      let slot = get_or order k 0 in
      sym (list_any-IsPermutation (nat_eq k) places in_turn moved)
      ∙ covered k within (exact slot ∙ ap (has_come now) (are slot) ∙ come_at now (of slot) ∙ come)
