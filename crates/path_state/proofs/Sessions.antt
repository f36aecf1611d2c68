-- Rows in the order of their keys are in the order of their sessions, so a session is found by a binary search.
use Rattle.std.proofs.Common.{◌≡◌, ℕ, ◌+◌, ◌<◌, Bool, true, false, T, List, [], ◌∷◌, length, get_or, Result, Ok, Err, refl, sym, ap, ◌∙◌, inl, inr, arith}
use Rattle.std.specs.FinMap.Entries.{is_sorted}
use Rattle.std.specs.List.{list_any}
use Rattle.std.specs.List.Sorted.{IsBinarySearchResult, IsSearchInRange}
use Rattle.std.specs.Ordering.{is_eq, is_lt, ordering_reverse, ordering_then}
use Rattle.std.specs.Result.{is_ok}
use Rattle.std.specs.declared.cmp.Ordering.{Ordering}
use Rattle.std.specs.declared.cmp.Ordering.TheVariants.{Less, Equal, Greater}
use Rattle.std.proofs.lemmas.Bool.{cases_lt}
use Rattle.std.proofs.lemmas.List.Folds.{list_any_at, list_any_none}
use Rattle.std.proofs.lemmas.List.Sorted.{searchable_from_sorted}
use Rattle.rsvp_objects.specs.declared.values.Session.{Session}
use Rattle.sorted_rows.proofs.Places.{sorted_by}
use Rattle.lsr_facts.specs.OrderLaws.{key_total, session_total}
use Rattle.lsr_facts.specs.Orders.{key_cmp, session_cmp, template_cmp}
use Rattle.lsr_facts.specs.declared.key.Key.{Key}
use Rattle.lsr_facts.specs.Claims.{is_same_session}

-- a key that isn't below another has no lower session
session_rises : (a b : Key) → is_lt (key_cmp a b) ≡ false → is_lt (session_cmp a.session b.session) ≡ false
session_rises a b =
    elim (session_cmp a.session b.session) as (λ o. is_lt (ordering_then o (template_cmp a.sender b.sender)) ≡ false → is_lt o ≡ false) [ Less ↦ λ h. h | Equal ↦ λ h. refl | Greater ↦ λ h. refl ]

-- an element at a place passes a test
one_passes : {A : Type 0} (p : A → Bool) (xs : List A) (i : ℕ) → i < length xs → ((d : A) → p (get_or xs i d) ≡ true) → list_any p xs ≡ true
one_passes p [] i within passes = absurd (omega (arith, within))
one_passes p (x ∷ xs) i within passes = list_any_at p (x ∷ xs) i x within (passes x)

module _ {X : Type 0} (session : Session) (rows : List (Key × X)) where
  -- how the session compares with a row's, by how that compares with it
  turned : (row : Key × X) (o : Ordering) → session_cmp row.0.session session ≡ o → is_same_session session row.0.session ≡ is_eq (ordering_reverse o)
  turned row o is = ap is_eq (session_total.antisymm session row.0.session ∙ ap ordering_reverse is)

  -- What a binary search by sessions found is whether one of the rows is of the session.
  pub found_where : (r : Result ℕ ℕ) → T (is_sorted key_cmp rows) → IsSearchInRange r (length rows) → IsBinarySearchResult (λ row. session_cmp row.0.session session) rows r → is_ok r ≡ list_any (λ row. is_same_session session row.0.session) rows
  found_where (Ok i) h within tie = sym (one_passes (λ row. is_same_session session row.0.session) rows i within (λ d. turned (get_or rows i d) Equal (tie d)))
  found_where (Err i) h within parted =
      let gap = parted (searchable_from_sorted session_total (λ (row : Key × X). row.0.session) rows session (λ k d from below. session_rises (get_or rows (k + 1) d).0 (get_or rows k d).0 (sorted_by key_cmp key_total rows h k d from below))) in
      sym (list_any_none (λ row. is_same_session session row.0.session) rows (λ k d below. elim (cases_lt k i) [
        | inl before ↦ turned (get_or rows k d) Less (gap.0 k d (omega arith) before)
        | inr after ↦ turned (get_or rows k d) Greater (gap.1 k d after below)
      ]))
