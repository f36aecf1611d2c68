-- A wheel beside a table in slots, whose rows may have moments.
use Rattle.std.specs.Prelude.{ℕ, ◌≡◌, ◌≢◌, ◌<◌, ◌≤◌, true, List, Option, None, Some, length, nat_eq, replicate, slice_index_or, slice_set, refl}
use Rattle.std.proofs.Common.{◌∙◌, inl, inr, ap, sym, subst, get_or-set_same, get_or-set_other, arith}
use Rattle.std.proofs.lemmas.Bool.{cases_eq}
use Rattle.std.proofs.lemmas.Bool.Decides.{nat_tests}
use Rattle.std.proofs.lemmas.List.{get_or_past, get_or-replicate, length-replicate}
use Rattle.std.specs.List.{list_any}
use Rattle.std.specs.Option.{option_and_then}
use Rattle.timer_wheel.specs.Due.{has_come, is_due}

-- Each slot has the moment of the row in it; none where it has no row, or its row no moment.
pub record IsTimed {R : Type 0} (moment_of : R → Option ℕ) (row_of : ℕ → Option R) (moments : List (Option ℕ)) : Type 0 where
  pub timed : (slot : ℕ) → slice_index_or moments slot None ≡ option_and_then moment_of (row_of slot)

-- no slot of these has a moment
pub none_has : (n slot : ℕ) → slice_index_or (replicate {A = Option ℕ} n None) slot None ≡ None
none_has n slot = grind (arith, get_or-replicate, get_or_past, length-replicate)

-- a slot that is due has a moment
pub due_moment : (now : ℕ) (moment : Option ℕ) → has_come now moment ≡ true → (m : ℕ) × (moment ≡ Some m) × (m ≤ now)
due_moment now None h = absurd cc
due_moment now (Some m) h = (m, refl, grind (arith, nat_tests))

-- a slot whose moment is not after `now` is due
pub moment_due : (now m : ℕ) (moments : List (Option ℕ)) (slot : ℕ) → slice_index_or moments slot None ≡ Some m → m ≤ now → is_due now moments slot ≡ true
moment_due now m moments slot h le = ap (has_come now) h ∙ grind (arith, nat_tests)

-- what a row's moment tells of the row
row_told : {R : Type 0} (moment_of : R → Option ℕ) (row : Option R) (m : ℕ) → option_and_then moment_of row ≡ Some m → (r : R) × (row ≡ Some r) × (moment_of r ≡ Some m)
row_told moment_of None m h = absurd cc
row_told moment_of (Some r) m h = (r, refl, h)

module _ {R : Type 0} (moment_of : R → Option ℕ) (row_of : ℕ → Option R) (moments : List (Option ℕ)) where
  -- a wheel without moments beside a table without rows
  pub timed_none : ((slot : ℕ) → row_of slot ≡ None) → ((slot : ℕ) → slice_index_or moments slot None ≡ None) → IsTimed moment_of row_of moments
  timed_none empty none = record { timed = λ slot. none slot ∙ sym (ap (option_and_then moment_of) (empty slot)) }

  -- a slot was set to the moment of the row that it has now, and the other slots have their rows
  pub timed_set : IsTimed moment_of row_of moments → (slot : ℕ) (value : Option ℕ) (rows_now : ℕ → Option R) → slot < length moments → value ≡ option_and_then moment_of (rows_now slot) → ((other : ℕ) → other ≢ slot → rows_now other ≡ row_of other) → IsTimed moment_of rows_now (slice_set moments slot value)
  timed_set was slot value rows_now within same others =
      record {
        timed = λ other.
            elim (cases_eq other slot) [
              | inl here ↦ subst (λ s. slice_index_or (slice_set moments slot value) s None ≡ option_and_then moment_of (rows_now s)) (sym here) (get_or-set_same moments slot value None within ∙ same)
              | inr differs ↦ get_or-set_other moments slot other value None differs ∙ (was.timed other ∙ ap (option_and_then moment_of) (sym (others other differs)))
            ];
      }

  -- rows that have the moments that they had
  pub timed_kept : IsTimed moment_of row_of moments → (rows_now : ℕ → Option R) → ((slot : ℕ) → option_and_then moment_of (rows_now slot) ≡ option_and_then moment_of (row_of slot)) → IsTimed moment_of rows_now moments
  timed_kept was rows_now same = record { timed = λ slot. was.timed slot ∙ sym (same slot) }

  module _ (timed : IsTimed moment_of row_of moments) (now : ℕ) (due : List ℕ) (exact : (slot : ℕ) → list_any (nat_eq slot) due ≡ is_due now moments slot) where
    -- each row whose moment is not after `now` is among what is due
    pub due_covers : (slot : ℕ) (row : R) (m : ℕ) → row_of slot ≡ Some row → moment_of row ≡ Some m → m ≤ now → list_any (nat_eq slot) due ≡ true
    due_covers slot row m here moment le = exact slot ∙ moment_due now m moments slot (timed.timed slot ∙ (ap (option_and_then moment_of) here ∙ moment)) le

    -- and what is due has such a row
    pub due_sound : (slot : ℕ) → list_any (nat_eq slot) due ≡ true → (row : R) × (m : ℕ) × (row_of slot ≡ Some row) × (moment_of row ≡ Some m) × (m ≤ now)
    due_sound slot among =
        let moment = due_moment now (slice_index_or moments slot None) (sym (exact slot) ∙ among) in
        let told = row_told moment_of (row_of slot) moment.0 (sym (timed.timed slot) ∙ moment.1) in
        (told.0, moment.0, told.1, told.2, moment.2)
