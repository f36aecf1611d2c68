-- What writes make of slots.
use Rattle.std.proofs.Common.{◌≡◌, ℕ, ◌-◌, ◌<◌, ◌≤◌, Bool, true, false, cond, eqb, leb, List, [], ◌∷◌, ◌++◌, Option, Some, None, length, set, get_or, replicate, refl, ap, sym, ◌∙◌, arith}
use Rattle.std.specs.FinMap.Entries.{find}
use Rattle.std.specs.Cmp.{unsigned_tied}
use Rattle.std.specs.Ordering.{eq_by_cmp, nat_cmp}
use Rattle.std.proofs.lemmas.Bool.{eqb-true, eqb-false, ne_eqb, leb-true, leb-false, le-leb}
use Rattle.std.proofs.lemmas.List.{get_or-set_same, get_or-set_other, get_or-replicate, get_or_past, length-set, length-replicate}
use Rattle.sorted_rows.specs.Edits.{over}
use Rattle.forwarding_table.specs.declared.action.Action.{Action}
use Rattle.lookup_plane.specs.Slots.{emptied, slot_at, with_slot, written}

-- the last row is written first
pub written_last : (first : ℕ) (rows : List (ℕ × Option Action)) (row : ℕ × Option Action) (slots : List (Option Action)) → written first (rows ++ row ∷ []) slots ≡ written first rows (with_slot first row slots)
written_last first [] row slots = refl
written_last first (r ∷ rows) row slots = ap (with_slot first r) (written_last first rows row slots)

-- no slot comes or goes
length-with_slot : (first : ℕ) (row : ℕ × Option Action) (slots : List (Option Action)) → length (with_slot first row slots) ≡ length slots
length-with_slot first row slots =
    elim (leb first row.0) as (λ t. length (cond t (set slots (row.0 - first) row.1) slots) ≡ length slots) [ true ↦ length-set slots (row.0 - first) row.1 | false ↦ refl ]

pub length-written : (first : ℕ) (rows : List (ℕ × Option Action)) (slots : List (Option Action)) → length (written first rows slots) ≡ length slots
length-written first [] slots = refl
length-written first (row ∷ rows) slots = length-with_slot first row (written first rows slots) ∙ length-written first rows slots

pub length-emptied : (cleared : Bool) (slots : List (Option Action)) → length (emptied cleared slots) ≡ length slots
length-emptied true slots = length-replicate (length slots) None
length-emptied false slots = refl

-- a number's slot, by where it lies
pub slot_at-within : (first number : ℕ) (slots : List (Option Action)) → first ≤ number → slot_at first slots number ≡ get_or slots (number - first) None
slot_at-within first number slots from = ap (λ t. cond t (get_or slots (number - first) None) None) (le-leb first number from)

-- a number without a slot
pub slot_at-outside : (first number : ℕ) (slots : List (Option Action)) → (first ≤ number → length slots ≤ number - first) → slot_at first slots number ≡ None
slot_at-outside first number slots past =
    elim (leb first number) as (λ t. leb first number ≡ t → cond t (get_or slots (number - first) None) None ≡ None) [
      | true ↦ λ from. get_or_past slots (number - first) None (past (leb-true first number from))
      | false ↦ λ _. refl
    ] refl

-- the slot of a number after a row is written
slot_at-with_slot : (first number : ℕ) (row : ℕ × Option Action) (slots : List (Option Action)) → first ≤ number → number - first < length slots
    → slot_at first (with_slot first row slots) number ≡ cond (eqb number row.0) row.1 (slot_at first slots number)
slot_at-with_slot first number row slots from within =
    let here = slot_at-within first number (with_slot first row slots) from in
    let there = slot_at-within first number slots from in
    elim (leb first row.0) as (λ t. leb first row.0 ≡ t → slot_at first (cond t (set slots (row.0 - first) row.1) slots) number ≡ cond (eqb number row.0) row.1 (slot_at first slots number)) [
      | true ↦ λ above.
          slot_at-within first number (set slots (row.0 - first) row.1) from
          ∙ elim (eqb number row.0) as (λ t. eqb number row.0 ≡ t → get_or (set slots (row.0 - first) row.1) (number - first) None ≡ cond t row.1 (slot_at first slots number)) [
            | true ↦ λ same. ap (λ n. get_or (set slots (row.0 - first) row.1) (n - first) None) (eqb-true number row.0 same)
                ∙ get_or-set_same slots (row.0 - first) row.1 None (rw (sym (eqb-true number row.0 same)) within)
            | false ↦ λ other. get_or-set_other slots (row.0 - first) (number - first) row.1 None (λ e. eqb-false number row.0 other (omega (arith, e, from, leb-true first row.0 above))) ∙ sym there
          ] refl
      | false ↦ λ below. ap (λ t. cond t row.1 (slot_at first slots number)) (sym (ne_eqb number row.0 (λ e. absurd (omega (arith, e, from, leb-false first row.0 below)))))
    ] refl

-- and after many
pub slot_at-written : (first number : ℕ) (rows : List (ℕ × Option Action)) (slots : List (Option Action)) → first ≤ number → number - first < length slots
    → slot_at first (written first rows slots) number ≡ over (find nat_cmp number rows) (slot_at first slots number)
slot_at-written first number [] slots from within = refl
slot_at-written first number (row ∷ rows) slots from within =
    slot_at-with_slot first number row (written first rows slots) from (rw (length-written first rows slots) within)
    ∙ ap (λ t. cond t row.1 (slot_at first (written first rows slots) number)) (sym (unsigned_tied number row.0))
    ∙ elim (eq_by_cmp nat_cmp number row.0) as (λ t. cond t row.1 (slot_at first (written first rows slots) number) ≡ over (cond t (Some row.1) (find nat_cmp number rows)) (slot_at first slots number)) [
      | true ↦ refl
      | false ↦ slot_at-written first number rows slots from within
    ]

-- a slot that is emptied has nothing
pub slot_at-emptied : (first number : ℕ) (cleared : Bool) (slots : List (Option Action)) → first ≤ number → number - first < length slots
    → slot_at first (emptied cleared slots) number ≡ cond cleared None (slot_at first slots number)
slot_at-emptied first number true slots from within =
    slot_at-within first number (replicate (length slots) None) from ∙ get_or-replicate (length slots) (number - first) None None within
slot_at-emptied first number false slots from within = refl

pub get_or-nothing : (count place : ℕ) → get_or {A = Option Action} (replicate count None) place None ≡ None
get_or-nothing count place =
    elim (leb count place) as (λ t. leb count place ≡ t → get_or {A = Option Action} (replicate count None) place None ≡ None) [
      | true ↦ λ past. get_or_past (replicate count None) place None (rw (length-replicate {A = Option Action} count None) (leb-true count place past))
      | false ↦ λ within. get_or-replicate count place None None (leb-false count place within)
    ] refl

-- where no slot has anything, nothing is done with a number
pub slot_at-empty : (first number count : ℕ) → slot_at first (replicate count None) number ≡ None
slot_at-empty first number count =
    elim (leb first number) as (λ t. cond t (get_or {A = Option Action} (replicate count None) (number - first) None) None ≡ None) [ true ↦ get_or-nothing count (number - first) | false ↦ refl ]
