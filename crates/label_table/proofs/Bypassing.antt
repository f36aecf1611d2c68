-- The keys of rows among others, and that bypasses take no frames of other LSPs another way.
use Rattle.std.specs.Prelude.{◌≡◌, ◌+◌, ◌<◌, ◌||◌, ℕ, zero, suc, slice_get, Bool, true, false, cond, List, [], ◌∷◌, Option, Some, None, Result, Ok, Err, IfOk, is_some, length, drop}
use Rattle.std.specs.FinMap.Entries.{find, find-put, put}
use Rattle.std.specs.Ordering.{eq_by_cmp}
use Rattle.std.proofs.Common.{refl, sym, ap, add-one, arith, ◌∙◌, inl}
use Rattle.lsr_facts.specs.OrderLaws.{key_total}
use Rattle.lsr_facts.specs.Orders.{key_cmp}
use Rattle.lsr_facts.specs.declared.key.Key.{Key}
use Rattle.lsr_facts.specs.declared.router.Router.{Router}
use Rattle.abstract_paths.specs.Touched.{is_among}
use Rattle.abstract_router.specs.States.{State}
use Rattle.state_views.specs.EditLaws.{neither}
use Rattle.label_table.specs.Bypassed.{AreBypassed, with_keys}

-- the row at a place stands before those that are left behind it
left_from : {A : Type 0} (xs : List A) (place : ℕ) (x : A) → slice_get xs place ≡ Some x → drop place xs ≡ x ∷ drop (suc place) xs
left_from [] place x at = absurd (let f = at in cc)
left_from (y ∷ xs) zero x at = ap (λ v. v ∷ xs) (let same : y ≡ x = let f = at in cc in same)
left_from (y ∷ xs) (suc place) x at = left_from xs place x at

-- One more of the rows: its key is put among the keys.
pub one_more : {E : Type 0} (rows : List (Key × E)) (place : ℕ) (row : Key × E) (all after whole : List (Key × Unit {0})) → slice_get rows place ≡ Some row → after ≡ put key_cmp row.0 tt all → with_keys (drop place rows) all ≡ whole → with_keys (drop (place + 1) rows) after ≡ whole
one_more rows place row all after whole at is known =
    (λ i. with_keys (drop (add-one place i) rows) (is i)) ∙ sym (ap (λ left. with_keys left all) (left_from rows place row at)) ∙ known

-- a key that isn't among them once one was put is another, and wasn't among them before
apart-put : (key row : Key) (keys : List (Key × Unit {0})) → is_among key_cmp (put key_cmp row tt keys) key ≡ false → (eq_by_cmp key_cmp key row ≡ false) × (is_among key_cmp keys key ≡ false)
apart-put key row keys apart = neither (eq_by_cmp key_cmp key row) (is_among key_cmp keys key) (sym (ap is_some (find-put key_cmp key_total key row tt keys) ∙ by (eq_by_cmp key_cmp key row) (find key_cmp key keys)) ∙ apart)
  where
    by : (b : Bool) (o : Option (Unit {0})) → is_some (cond b (Some tt) o) ≡ (b || is_some o)
    by true o = refl
    by false o = refl

-- A key that isn't among others with those of rows is none of these, and isn't among the others.
pub apart : {E : Type 0} (key : Key) (rows : List (Key × E)) (keys : List (Key × Unit {0})) → is_among key_cmp (with_keys rows keys) key ≡ false → (find key_cmp key rows ≡ None) × (is_among key_cmp keys key ≡ false)
apart key [] keys none = (refl, none)
apart key (row ∷ rows) keys none =
    let later = apart key rows (put key_cmp row.0 tt keys) none in
    let first = apart-put key row.0 keys later.1 in
    (ap (λ b. cond b (Some row.1) (find key_cmp key rows)) first.0 ∙ later.0, first.1)

-- each place of a list has an element
pub none_past : {A : Type 0} (xs : List A) (place : ℕ) → place < length xs → slice_get xs place ≡ None → ⊥
none_past [] place within none = omega (arith, within)
none_past (x ∷ xs) zero within none = let f = none in cc
none_past (x ∷ xs) (suc place) within none = none_past xs place (omega (arith, within)) none

-- An LSP that isn't among others with all that are repaired isn't repaired: bypasses take none of its frames another way.
pub repaired_among : (r : Router) (before after : State) (keys all : List (Key × Unit {0})) → all ≡ with_keys before.repairs keys → AreBypassed r before after keys all
repaired_among r before after keys all is = record {
  kept = λ key none. (apart key before.repairs keys (sym (ap (λ lsps. is_among key_cmp lsps key) is) ∙ none)).1;
  others = λ key none. inl (apart key before.repairs keys (sym (ap (λ lsps. is_among key_cmp lsps key) is) ∙ none)).0;
}

-- So it is where there is memory for them.
pub repaired_are : {E : Type 0} (r : Router) (before after : State) (keys : List (Key × Unit {0})) (result : Result (List (Key × Unit {0})) E) → IfOk result (λ all. all ≡ with_keys before.repairs keys) → IfOk result (AreBypassed r before after keys)
repaired_are r before after keys (Ok all) is = repaired_among r before after keys all is
repaired_are r before after keys (Err e) is = tt
