-- Events in the first format: a command for a bypass has no capacity.
use Rattle.std.specs.Prelude.{◌≡◌, ◌==◌, ◌&&◌, ◌<◌, ◌≤◌, ◌-◌, ◌++◌, ◌∷◌, [], ℕ, Bool, T, true, false, if◌then◌else◌, List, length, replicate, slice_index, take, drop, Result, Ok, Err, refl}
use Rattle.std.proofs.Common.{sym, ap, subst, get_or, ◌∙◌, arith, eqb→eq, append-nil, length-drop, length-take-le, take-append-drop}
use Rattle.field_bytes.specs.NumberLaws.{heads_and_rests}
use Rattle.field_bytes.specs.Spelling.{Answers, IsOne}
use Rattle.field_bytes.specs.TextLaws.{IsText}
use Rattle.field_bytes.specs.declared.fault.ReadFault.{ReadFault}
use Rattle.field_bytes.specs.declared.fault.ReadFault.TheVariants as faults
use Rattle.event_fields.specs.Unread.{unread_bytes}
use Rattle.event_fields.specs.declared.unread.UnreadEvent.{UnreadEvent}
use Rattle.event_fields.specs.declared.unread.UnreadEvent.TheVariants as unread

-- a command (8) for a bypass that is to protect a link (5)
abbrev pub is_add_bypass : List ℕ → Bool
is_add_bypass bytes = (slice_index bytes 0 == 8) && (slice_index bytes 1 == 5)

-- the bytes of a capacity of 0
abbrev pub no_capacity : List ℕ
no_capacity = replicate 8 0

-- The event's bytes in the first format: those of such a command end before its capacity.
abbrev pub first_text : List ℕ → List ℕ
first_text text = if is_add_bypass text then take 8 text else text

-- it is the text of an event, and the capacity of such a command is 0
pub record FitsFirst (Fits : List ℕ → Type 0) (text : List ℕ) : Type 0 where
  pub is_text : Fits text
  pub plain : is_add_bypass text ≡ true → drop 8 text ≡ no_capacity

-- a text is spelled as it stands
abbrev pub StandsSo : (List ℕ → Type 0) → (List ℕ → List ℕ) → Type 0
StandsSo Fits spelling = (text : List ℕ) → Fits text → spelling text ≡ text

-- no text is empty, and a command has a code
abbrev pub HaveCodes : (List ℕ → Type 0) → Type 0
HaveCodes Fits = (text : List ℕ) → Fits text → (1 ≤ length text) × (slice_index text 0 ≡ 8 → 2 ≤ length text)

-- ---- the texts of events

event_long : (u : UnreadEvent) → (1 ≤ length (unread_bytes u)) × (slice_index (unread_bytes u) 0 ≡ 8 → 2 ≤ length (unread_bytes u))
event_long (unread.Arrive a) = (omega arith, λ e. absurd (omega (arith, e)))
event_long (unread.Relay r) = (omega arith, λ e. absurd (omega (arith, e)))
event_long (unread.Tick n) = (omega arith, λ e. absurd (omega (arith, e)))
event_long (unread.LinkUp n) = (omega arith, λ e. absurd (omega (arith, e)))
event_long (unread.LinkDown n) = (omega arith, λ e. absurd (omega (arith, e)))
event_long unread.Restart = (omega arith, λ e. absurd (omega (arith, e)))
event_long unread.Start = (omega arith, λ e. absurd (omega (arith, e)))
event_long (unread.Command c) = (omega arith, λ e. omega arith)

pub event_texts : (Fits : UnreadEvent → Type 0) → HaveCodes (IsText Fits unread_bytes)
event_texts Fits text is =
    let P : List ℕ → Type 0 = λ v. (1 ≤ length v) × (slice_index v 0 ≡ 8 → 2 ≤ length v) in
    subst P (sym is.1) (event_long is.0)

-- ---- laws

same_number : (a b : ℕ) → (a == b) ≡ true → a ≡ b
same_number a b e = eqb→eq a b (subst T (sym e) tt)

both_true : (a b : Bool) → (a && b) ≡ true → (a ≡ true) × (b ≡ true)
both_true true true e = (refl, refl)
both_true true false e = cc
both_true false b e = cc

-- such a command begins with these two bytes
pub begins_so : (text : List ℕ) → is_add_bypass text ≡ true → (rest : List ℕ) × (text ≡ 8 ∷ 5 ∷ rest)
begins_so [] e = cc
begins_so (a ∷ []) e =
    let h : 0 ≡ 5 = same_number 0 5 (both_true (a == 8) (0 == 5) e).1 in
    absurd (omega (arith, h))
begins_so (a ∷ b ∷ rest) e =
    let parts = both_true (a == 8) (b == 5) e in
    let first : a ≡ 8 = same_number a 8 parts.0 in
    let second : b ≡ 5 = same_number b 5 parts.1 in
    (rest, λ i. first i ∷ second i ∷ rest)

-- what begins with them is such a command
so_begun : (a b : ℕ) (rest : List ℕ) → a ≡ 8 → b ≡ 5 → is_add_bypass (a ∷ b ∷ rest) ≡ true
so_begun a b rest h k = λ i. (h i == 8) && (k i == 5)

-- its bytes in the first format, and a capacity of 0 after them, are its bytes
pub whole_again : (Fits : List ℕ → Type 0) (text : List ℕ) → FitsFirst Fits text → is_add_bypass text ≡ true →
    (first_text text ≡ take 8 text) × (text ≡ take 8 text ++ no_capacity) × (length (take 8 text) ≡ 8)
whole_again Fits text fits is =
    let zeros : drop 8 text ≡ no_capacity = fits.plain is in
    let len : length (drop 8 text) ≡ 8 = ap length zeros in
    let long : 8 ≤ length text = omega (arith, len, length-drop 8 text) in (
      ap (λ (b : Bool). if b then take 8 text else text) is,
      sym (take-append-drop 8 text) ∙ ap (λ (v : List ℕ). take 8 text ++ v) zeros,
      length-take-le 8 text long,
    )

-- other texts stay as they are
pub others_stay : (text : List ℕ) → is_add_bypass text ≡ false → first_text text ≡ text
others_stay text is = ap (λ (b : Bool). if b then take 8 text else text) is

-- a text that isn't such a command doesn't stand where one begins
pub not_there : (Fits : List ℕ → Type 0) → HaveCodes Fits → (text after rest : List ℕ) → Fits text → is_add_bypass text ≡ false → text ++ after ≡ 8 ∷ 5 ∷ rest → ⊥
not_there Fits codes [] after rest fits is e = absurd (omega (arith, (codes [] fits).0))
not_there Fits codes (a ∷ []) after rest fits is e =
    let first : a ≡ 8 = ap (λ (v : List ℕ). get_or v 0 0) e in
    absurd (omega (arith, (codes (a ∷ []) fits).1 first))
not_there Fits codes (a ∷ b ∷ more) after rest fits is e =
    let first : a ≡ 8 = ap (λ (v : List ℕ). get_or v 0 0) e in
    let second : b ≡ 5 = ap (λ (v : List ℕ). get_or v 1 0) e in
    let h : false ≡ true = sym is ∙ so_begun a b more first second in cc

-- and where one such command begins its bytes in the first format do
begun : (text after : List ℕ) → is_add_bypass text ≡ true → (rest : List ℕ) × (take 8 text ++ after ≡ 8 ∷ 5 ∷ rest)
begun text after is =
    let b = begins_so text is in
    (take 6 b.0 ++ after, λ i. take 8 (b.1 i) ++ after)

pub one_first : (Fits : List ℕ → Type 0) (spelling : List ℕ → List ℕ) → StandsSo Fits spelling → HaveCodes Fits → IsOne Fits spelling → IsOne (FitsFirst Fits) first_text
one_first Fits spelling stands codes own x y r s p q e = by_cases (is_add_bypass x) (is_add_bypass y) refl refl where
  by_cases : (a b : Bool) → is_add_bypass x ≡ a → is_add_bypass y ≡ b → (x ≡ y) × (r ≡ s)
  by_cases true true a b =
      let v = whole_again Fits x p a in
      let w = whole_again Fits y q b in
      let f : take 8 x ++ r ≡ take 8 y ++ s = ap (λ (t : List ℕ). t ++ r) (sym v.0) ∙ (e ∙ ap (λ (t : List ℕ). t ++ s) w.0) in
      let parts = heads_and_rests (take 8 x) (take 8 y) r s (v.2 ∙ sym w.2) f in
      (v.1 ∙ (ap (λ (t : List ℕ). t ++ no_capacity) parts.0 ∙ sym w.1), parts.1)
  by_cases true false a b =
      let v = whole_again Fits x p a in
      let g = begun x r a in
      let f : y ++ s ≡ take 8 x ++ r = ap (λ (t : List ℕ). t ++ s) (sym (others_stay y b)) ∙ (sym e ∙ ap (λ (t : List ℕ). t ++ r) v.0) in
      absurd (not_there Fits codes y s g.0 q.is_text b (f ∙ g.1))
  by_cases false true a b =
      let w = whole_again Fits y q b in
      let g = begun y s b in
      let f : x ++ r ≡ take 8 y ++ s = ap (λ (t : List ℕ). t ++ r) (sym (others_stay x a)) ∙ (e ∙ ap (λ (t : List ℕ). t ++ s) w.0) in
      absurd (not_there Fits codes x r g.0 p.is_text a (f ∙ g.1))
  by_cases false false a b =
      let f : spelling x ++ r ≡ spelling y ++ s =
      ap (λ (t : List ℕ). t ++ r) (stands x p.is_text ∙ sym (others_stay x a)) ∙ (e ∙ ap (λ (t : List ℕ). t ++ s) (others_stay y b ∙ sym (stands y q.is_text))) in
      own x y r s p.is_text q.is_text f
