-- What is sent between the rows of the items that a step touches is what is sent between all rows.
use Rattle.std.specs.Prelude.{◌≡◌, ℕ, not, Bool, false, T, List, Option, IfOk, Result, Ok, Err}
use Rattle.std.specs.Cmp.{IsTotalOrder}
use Rattle.std.specs.FinMap.Entries.{find, is_sorted, where_key}
use Rattle.std.specs.declared.cmp.Ordering.{Ordering}
use Rattle.std.specs.declared.cmp.Ordering.TheVariants.{Equal}
use Rattle.std.proofs.Common.{sym, ap, ◌∙◌}
use Rattle.sorted_rows.specs.Rows.{keys_of}
use Rattle.sorted_rows.specs.Edits.{edited}
use Rattle.abstract_paths.specs.declared.events.Output.{Output}
use Rattle.abstract_paths.specs.Outputs.{between, is_due, send_for, tear_for}
use Rattle.abstract_paths.specs.Stamps.{stamps}
use Rattle.abstract_paths.specs.Touched.{moments_between}
use Rattle.abstract_paths.specs.TouchedLaws.{touched_moments, touched_sends, touched_tears}

-- what follows from a fact of what there is, if it is
pub ok_weaker : {A E : Type 0} (r : Result A E) (P Q : A → Type 0) → ((x : A) → P x → Q x) → IfOk r P → IfOk r Q
ok_weaker (Ok x) P Q step p = step x p
ok_weaker (Err e) P Q step p = tt

module _ {I : Type 0} (cmp : I → I → Ordering) (total : IsTotalOrder cmp) (exact : (x y : I) → cmp x y ≡ Equal → x ≡ y) (touched : I → Bool) (due : List I) (was is part_was part_is : List (I × Output)) (g : T (is_sorted cmp was)) (h : T (is_sorted cmp is))
    (same : where_key cmp (λ item. not (touched item)) was ≡ where_key cmp (λ item. not (touched item)) is) (none : (item : I) → touched item ≡ false → is_due cmp due item ≡ false) (of_was : where_key cmp touched was ≡ part_was) (of_is : where_key cmp touched is ≡ part_is) where
  pub all_tears : (up : List (ℕ × Bool)) → between cmp (tear_for up) part_was part_is ≡ between cmp (tear_for up) was is
  all_tears up = sym (touched_tears cmp total exact touched due was is g h same none up ∙ (λ i. between cmp (tear_for up) (of_was i) (of_is i)))

  pub all_sends : between cmp (send_for cmp due) part_is part_was ≡ between cmp (send_for cmp due) is was
  all_sends = sym (touched_sends cmp total exact touched due was is g h same none ∙ (λ i. between cmp (send_for cmp due) (of_is i) (of_was i)))

  pub all_moments : (sent : List (I × ℕ)) (now : ℕ) → keys_of sent ≡ keys_of was → (moments : List (I × Option ℕ)) → ((item : I) → find cmp item moments ≡ find cmp item (moments_between cmp due now part_was part_is)) → edited cmp moments sent ≡ stamps cmp due was sent now is
  all_moments sent now known moments become =
      touched_moments cmp total exact touched due was is g h same none sent now known moments
      (λ item. become item ∙ ap (find cmp item) (λ i. moments_between cmp due now (sym of_was i) (sym of_is i)))
