-- What is due in a wheel, and how far it may turn.
use Rattle.std.proofs.Common.{◌≡◌, ℕ, zero, suc, ◌+◌, ◌-◌, ◌/◌, ◌%◌, ◌^◌, ◌≤◌, ◌<◌, min, max, List, [], ◌∷◌, Option, None, Some, Result, IfOk, Bool, true, false, filter, length, nat_eq, nat_le, get_or, ◌⊎◌, ◌||◌, inl, inr, refl, ap, sym, subst, ◌∙◌, arith}
use Rattle.std.proofs.lemmas.Bool.Decides.{nat_tests}
use Rattle.std.proofs.lemmas.List.{get_or_past}
use Rattle.std.proofs.lemmas.List.Folds.{list_any-append, list_any_at}
use Rattle.std.specs.List.{All, IsDistinct, list_any}
use Rattle.timer_wheel.specs.Due.{has_come, is_due}
use Rattle.timer_wheel.specs.Wheels.{IsWheel, AreOfPlaces, place_of, from_tick}
use Rattle.timer_wheel.specs.TimedLaws.{due_moment}
use Rattle.timer_wheel.proofs.Slots.{has, filter_has, has_passes, has_kept, none_twice, distinct_filter, distinct_both}

-- what one of the places gives is given
given_has : (base : ℕ) (given : ℕ → List ℕ) (x n offset : ℕ) → offset < n → has x (given ((base + offset) % 256)) ≡ true → has x (from_tick base given n) ≡ true
given_has base given x zero offset few h = absurd (omega arith)
given_has base given x (suc n) offset few h =
    let rest = given_has base given x n offset in
    let joined = list_any-append (nat_eq x) (from_tick base given n) (given ((base + n) % 256)) in
    let last : offset ≡ n → has x (given ((base + n) % 256)) ≡ true = λ e. subst (λ o. has x (given ((base + o) % 256)) ≡ true) e h in
    grind (arith, nat_tests)

-- and what is given passes the test of each place
given_passes : (base : ℕ) (test : ℕ → Bool) (slots_of : ℕ → List ℕ) (x n : ℕ) → has x (from_tick base (λ place. filter test (slots_of place)) n) ≡ true → test x ≡ true
given_passes base test slots_of x zero h = cc
given_passes base test slots_of x (suc n) h =
    let rest = given_passes base test slots_of x n in
    let here = has_passes test x (slots_of ((base + n) % 256)) in
    let joined = list_any-append (nat_eq x) (from_tick base (λ place. filter test (slots_of place)) n) (filter test (slots_of ((base + n) % 256))) in
    grind (arith, nat_tests)

either : (a b : Bool) → (a || b) ≡ true → (a ≡ true) ⊎ (b ≡ true)
either true b h = inl refl
either false b h = inr h

-- what is given is given by one of the places
given_by : (base : ℕ) (given : ℕ → List ℕ) (x n : ℕ) → has x (from_tick base given n) ≡ true → (offset : ℕ) × (offset < n) × (has x (given ((base + offset) % 256)) ≡ true)
given_by base given x zero h = absurd cc
given_by base given x (suc n) h =
    elim (either (has x (from_tick base given n)) (has x (given ((base + n) % 256))) (sym (list_any-append (nat_eq x) (from_tick base given n) (given ((base + n) % 256))) ∙ h)) [
      | inl early ↦ let rest = given_by base given x n early in (rest.0, omega (arith, rest.1), rest.2)
      | inr here ↦ (n, omega arith, here)
    ]

false_unless : (b : Bool) → (b ≡ true → ⊥) → b ≡ false
false_unless true h = absurd (h refl)
false_unless false h = refl

same_tests : (a b : Bool) → (a ≡ true → b ≡ true) → (b ≡ true → a ≡ true) → a ≡ b
same_tests true b f g = sym (f refl)
same_tests false true f g = g refl
same_tests false false f g = refl

-- how far a place is from that to which a wheel has come
offset_of : (base tick : ℕ) → base ≤ tick → (base + (tick - base) % 256) % 256 ≡ tick % 256
offset_of base tick h = omega arith

none_passes : (test : ℕ → Bool) (x : ℕ) (slots : List ℕ) → list_any test slots ≡ false → has x slots ≡ true → test x ≡ false
none_passes test x [] none h = cc
none_passes test x (slot ∷ slots) none h = let rest = none_passes test x slots in grind (arith, nat_tests)

-- a tick that is not passed over stays where it is
stays_from : (tick own base turned : ℕ) → tick ≡ max own base → (tick < base + turned → ⊥) → tick ≡ max own (base + turned)
stays_from tick own base turned is not_passed =
    let reached : base + turned ≤ tick = grind arith in
    omega arith

-- what a walk over the places gives
abbrev pub Gives : {X E : Type 0} → Result X E → (X → List ℕ) → ℕ → ℕ → ℕ → List (Option ℕ) → List ℕ → Type 0
Gives result items base now places moments after = (slots_of : ℕ → List ℕ) → AreOfPlaces after (length moments) slots_of → IfOk result (λ due. items due ≡ from_tick base (λ place. filter (is_due now moments) (slots_of place)) places)

module _ (moments : List (Option ℕ)) (after before : List ℕ) (base now : ℕ) (wheel : IsWheel moments after before base) where
  -- the slots that the places up to that of `now` give are those that are due
  pub due_slots : (slot : ℕ) → has slot (from_tick base (λ place. filter (is_due now moments) (wheel.slots_of place)) (min (now / 1024 - base) 255 + 1)) ≡ is_due now moments slot
  due_slots slot =
      same_tests _ _ (given_passes base (is_due now moments) wheel.slots_of slot (min (now / 1024 - base) 255 + 1))
      (λ due.
      let moment = due_moment now (get_or moments slot None) due in
      let tick = max (moment.0 / 1024) base in
      let offset = (tick - base) % 256 in
      let stands = filter_has (is_due now moments) slot (wheel.slots_of (place_of base moment.0)) due (wheel.standing slot moment.0 moment.1) in
      let place : (base + offset) % 256 ≡ place_of base moment.0 = offset_of base tick (omega arith) in
      given_has base (λ place. filter (is_due now moments) (wheel.slots_of place)) slot (min (now / 1024 - base) 255 + 1) offset (omega (arith, moment.2)) (subst (λ p. has slot (filter (is_due now moments) (wheel.slots_of p)) ≡ true) (sym place) stands))

  -- each of them is a slot of the wheel
  pub due_within : (slot : ℕ) → is_due now moments slot ≡ true → slot < length moments
  due_within slot due =
      let moment = due_moment now (get_or moments slot None) due in
      let some = moment.1 in
      let past = get_or_past moments slot None in
      grind arith

  -- so what a walk over the places up to that of `now` gives are the slots that are due
  pub due_given : {X E : Type 0} (result : Result X E) (items : X → List ℕ) (seen : List (Option ℕ)) (nodes : List ℕ) (places : ℕ) → seen ≡ moments → nodes ≡ after → places ≡ min (now / 1024 - base) 255 + 1 → Gives result items base now places seen nodes → IfOk result (λ due. items due ≡ from_tick base (λ place. filter (is_due now moments) (wheel.slots_of place)) (min (now / 1024 - base) 255 + 1))
  due_given result items seen nodes places same same_nodes same_places gives =
      let places_now = subst (λ n. Gives result items base now n seen nodes) same_places gives in
      let nodes_now = subst (Gives result items base now (min (now / 1024 - base) 255 + 1) seen) same_nodes places_now in
      subst (λ ms. Gives result items base now (min (now / 1024 - base) 255 + 1) ms after) same nodes_now wheel.slots_of wheel.places

  -- each of which is within the wheel
  pub all_within : (due : List ℕ) → ((slot : ℕ) → has slot due ≡ is_due now moments slot) → All (λ slot. slot < length moments) due
  all_within due exact = λ k d h.
      let slot = get_or due k d in
      let itself : nat_eq slot slot ≡ true = grind (arith, nat_tests) in
      due_within slot (sym (exact slot) ∙ list_any_at (nat_eq slot) due k d h itself)

  -- a slot that one of the first places gives is not given by the place after them
  apart_after : (n : ℕ) → n < 256 → (x : ℕ) → has x (from_tick base (λ place. filter (is_due now moments) (wheel.slots_of place)) n) ≡ true → has x (filter (is_due now moments) (wheel.slots_of ((base + n) % 256))) ≡ false
  apart_after n few x early =
      let test = is_due now moments in
      let given = given_by base (λ place. filter test (wheel.slots_of place)) x n early in
      let first = wheel.only ((base + given.0) % 256) x (omega arith) (has_kept test x (wheel.slots_of ((base + given.0) % 256)) given.2) in
      false_unless _ (λ again.
      let second = wheel.only ((base + n) % 256) x (omega arith) (has_kept test x (wheel.slots_of ((base + n) % 256)) again) in
      let told = first.1 in
      let told_too = second.1 in
      let same : first.0 ≡ second.0 = cc in
      let place : (base + given.0) % 256 ≡ (base + n) % 256 = sym first.2 ∙ (ap (place_of base) same ∙ second.2) in
      omega (arith, given.1))

  -- each of them once
  pub due_once : (n : ℕ) → n ≤ 256 → IsDistinct nat_eq (from_tick base (λ place. filter (is_due now moments) (wheel.slots_of place)) n)
  due_once zero few = none_twice
  due_once (suc n) few =
      let place = (base + n) % 256 in
      distinct_both (from_tick base (λ place. filter (is_due now moments) (wheel.slots_of place)) n) (filter (is_due now moments) (wheel.slots_of place)) (due_once n (omega arith)) (distinct_filter (is_due now moments) (wheel.slots_of place) (wheel.places place (omega arith)).once) (apart_after n few)

  -- a wheel may turn over places in which nothing is due
  module _ (turned idle : ℕ) (few : turned ≤ now / 1024 - base) (full : min turned 256 ≤ idle) (most : idle ≤ 256) (none : (offset : ℕ) → offset < idle → list_any (is_due now moments) (wheel.slots_of ((base + offset) % 256)) ≡ false) where
    -- a slot whose place is passed over would be due
    not_passed : (slot moment : ℕ) → get_or moments slot None ≡ Some moment → max (moment / 1024) base < base + turned → ⊥
    not_passed slot moment h passed =
        let tick = max (moment / 1024) base in
        let offset = (tick - base) % 256 in
        let place : (base + offset) % 256 ≡ place_of base moment = offset_of base tick (omega arith) in
        let idle_there = subst (λ p. list_any (is_due now moments) (wheel.slots_of p) ≡ false) place (none offset (omega arith)) in
        let not_due : has_come now (get_or moments slot None) ≡ false = none_passes (is_due now moments) slot (wheel.slots_of (place_of base moment)) idle_there (wheel.standing slot moment h) in
        let later : nat_le moment now ≡ false = sym (ap (has_come now) h) ∙ not_due in
        let after_now : now < moment = grind (arith, nat_tests) in
        omega arith

    -- so it stays where it is
    stays : (slot moment : ℕ) → get_or moments slot None ≡ Some moment → max (moment / 1024) base ≡ max (moment / 1024) (base + turned)
    stays slot moment h = stays_from (max (moment / 1024) base) (moment / 1024) base turned refl (not_passed slot moment h)

    pub wheel_turned : base + turned ≤ 2 ^ 54 → IsWheel moments after before (base + turned)
    wheel_turned early =
        record {
          nodes = wheel.nodes;
          rings = wheel.rings;
          slots_of = wheel.slots_of;
          places = wheel.places;
          standing = λ slot moment h. subst (λ tick. has slot (wheel.slots_of (tick % 256)) ≡ true) (stays slot moment h) (wheel.standing slot moment h);
          only = λ place slot h here.
              let stands = wheel.only place slot h here in
              (stands.0, stands.1, ap (λ tick. tick % 256) (sym (stays slot stands.0 stands.1)) ∙ stands.2);
          early = early;
        }
