-- The edits between rows and others lead from the ones to the others, and each changes something.
use Rattle.std.proofs.Common.{◌≡◌, ◌≢◌, ◌&&◌, ◌==◌, nat_eq, ℕ, Bool, true, false, if◌then◌else◌, cond, List, [], ◌∷◌, Option, Some, None, is_some, refl, sym, ap, ◌∙◌}
use Rattle.std.specs.Prelude.{◌||◌}
use Rattle.std.specs.FinMap.Entries.{find}
use Rattle.std.specs.Option.{option_eq, option_or}
use Rattle.std.specs.Ordering.{eq_by_cmp, nat_cmp}
use Rattle.std.proofs.lemmas.Bool.{and_parts, eq-eqb, eqb-true}
use Rattle.sorted_rows.specs.Edits.{over}
use Rattle.forwarding_table.specs.declared.action.Action.{Action}
use Rattle.forwarding_table.specs.declared.action.Action.TheVariants.{Pop, PushHead, Swap, SwapPush}
use Rattle.label_table.proofs.Asking.{each_asked, is_asked}
use Rattle.label_table.specs.Turns.{Edit, change, change_at, is_same, is_same_action, put_each}

-- numbers that may be there, and are the same
same_numbers : (a b : Option ℕ) → option_eq nat_eq a b ≡ true → a ≡ b
same_numbers None None is = refl
same_numbers None (Some b) is = absurd (let e = is in cc)
same_numbers (Some a) None is = absurd (let e = is in cc)
same_numbers (Some a) (Some b) is = ap Some (eqb-true a b is)

itself_numbers : (a : Option ℕ) → option_eq nat_eq a a ≡ true
itself_numbers None = refl
itself_numbers (Some a) = eq-eqb a a refl

-- actions that are the same are equal
same_actions : (a b : Action) → is_same_action a b ≡ true → a ≡ b
same_actions (Swap label link) (Swap other out) is =
    let parts = and_parts (label == other) (link == out) is in
    λ i. Swap (eqb-true label other parts.0 i) (eqb-true link out parts.1 i)
same_actions (SwapPush inner outer link) (SwapPush below above out) is =
    let parts = and_parts ((inner == below) && (outer == above)) (link == out) is in
    let labels = and_parts (inner == below) (outer == above) parts.0 in
    λ i. SwapPush (eqb-true inner below labels.0 i) (eqb-true outer above labels.1 i) (eqb-true link out parts.1 i)
same_actions Pop Pop is = refl
same_actions (PushHead inner label link) (PushHead below other out) is =
    let parts = and_parts (option_eq nat_eq inner below && (label == other)) (link == out) is in
    let labels = and_parts (option_eq nat_eq inner below) (label == other) parts.0 in
    λ i. PushHead (same_numbers inner below labels.0 i) (eqb-true label other labels.1 i) (eqb-true link out parts.1 i)
same_actions _ _ is = absurd (let e = is in cc)

all_of : (a b : Bool) → a ≡ true → b ≡ true → (a && b) ≡ true
all_of true b p q = q
all_of false b p q = p

-- and each is the same as itself
itself : (a : Action) → is_same_action a a ≡ true
itself (Swap label link) = all_of _ _ (eq-eqb label label refl) (eq-eqb link link refl)
itself (SwapPush inner outer link) = all_of _ _ (all_of _ _ (eq-eqb inner inner refl) (eq-eqb outer outer refl)) (eq-eqb link link refl)
itself Pop = refl
itself (PushHead inner label link) = all_of _ _ (all_of _ _ (itself_numbers inner) (eq-eqb label label refl)) (eq-eqb link link refl)

same : (was now : Option Action) → is_same was now ≡ true → was ≡ now
same None None is = refl
same None (Some b) is = absurd (let e = is in cc)
same (Some a) None is = absurd (let e = is in cc)
same (Some a) (Some b) is = ap Some (same_actions a b is)

itself_there : (was : Option Action) → is_same was was ≡ true
itself_there None = refl
itself_there (Some a) = itself a

-- What there is after a change is what there is to be.
pub over_change : (was now : Option Action) → over (change was now) was ≡ now
over_change was now = elim (is_same was now) as (λ b. is_same was now ≡ b → over (if b then None else Some now) was ≡ now) [ true ↦ λ is. same was now is | false ↦ λ is. refl ] refl

-- Where both are the same there is none.
pub no_change : (was now : Option Action) → was ≡ now → change was now ≡ None
no_change was now same =
    ap (λ b. if b then None else Some now) (ap (is_same was) (sym same) ∙ itself_there was)

-- And there is one only where that is another; it says what is to be.
pub changes_something : (was now : Option Action) (edit : Option Action) → change was now ≡ Some edit → (was ≢ now) × (edit ≡ now)
changes_something was now edit =
    elim (is_same was now) as (λ b. is_same was now ≡ b → (if b then None else Some now) ≡ Some edit → (was ≢ now) × (edit ≡ now)) [
      | true ↦ λ is e. absurd (let h = e in cc)
      | false ↦ λ is e. (λ alike. let h : false ≡ true = sym is ∙ sym (ap (is_same was) alike) ∙ itself_there was in absurd cc, let h = e in cc)
    ] refl

module _ (was now : List (ℕ × Action)) (label : ℕ) where
  -- what becomes of a label
  abbrev becomes : ℕ → Option (Option Action)
  becomes other = change (find nat_cmp other was) (find nat_cmp other now)

  -- a label is asked where it is found
  asked_found : (rows : List (ℕ × Action)) → is_asked {K = ℕ} (λ l. l) becomes label rows ≡ is_some (find nat_cmp label rows)
  asked_found [] = refl
  asked_found (row ∷ rows) =
      elim (eq_by_cmp nat_cmp label row.0) as (λ b. (b || is_asked {K = ℕ} (λ l. l) becomes label rows) ≡ is_some (cond b (Some row.1) (find nat_cmp label rows))) [ true ↦ refl | false ↦ asked_found rows ]

  -- what is found once the labels of some rows were asked
  found_of : (rows : List (ℕ × Action)) (edits : List Edit) → find nat_cmp label (put_each (change_at was now) rows edits) ≡ option_or (cond (is_some (find nat_cmp label rows)) (becomes label) None) (find nat_cmp label edits)
  found_of rows edits = each_asked (λ l. l) becomes label rows edits ∙ ap (λ b. option_or (cond b (becomes label) None) (find nat_cmp label edits)) (asked_found rows)

  -- Once the labels of both were asked, each label has what becomes of it.
  pub found_changes : find nat_cmp label (put_each (change_at was now) now (put_each (change_at was now) was [])) ≡ becomes label
  found_changes =
      found_of now (put_each (change_at was now) was [])
      ∙ ap (option_or (cond (is_some (find nat_cmp label now)) (becomes label) None)) (found_of was [])
      ∙ by (find nat_cmp label was) (find nat_cmp label now)
    where
      each : (o : Option (Option Action)) (b : Bool) → option_or o (option_or (cond b o None) None) ≡ o
      each None true = refl
      each None false = refl
      each (Some x) b = refl

      once : (o : Option (Option Action)) → option_or o None ≡ o
      once None = refl
      once (Some x) = refl

      by : (a b : Option Action) → option_or (cond (is_some b) (change a b) None) (option_or (cond (is_some a) (change a b) None) None) ≡ change a b
      by None None = refl
      by (Some x) None = once (change (Some x) None)
      by a (Some y) = each (change a (Some y)) (is_some a)
