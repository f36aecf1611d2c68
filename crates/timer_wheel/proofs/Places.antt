-- How a wheel stays one where slots go from place to place.
use Rattle.std.proofs.Common.{◌≡◌, ℕ, ◌+◌, ◌^◌, ◌≤◌, ◌<◌, ◌≢◌, List, [], ◌∷◌, Option, None, Some, Bool, true, false, cond, length, nat_eq, get_or, set, refl, ap, sym, subst, ◌∙◌, get_or-set_same, get_or-set_other, length-set, inl, inr, arith}
use Rattle.std.proofs.lemmas.Bool.{cases_eq, false≢true}
use Rattle.std.proofs.lemmas.Bool.Decides.{nat_tests}
use Rattle.std.proofs.lemmas.List.{get_or_default}
use Rattle.timer_wheel.specs.Rings.{AreRings, IsRing}
use Rattle.timer_wheel.specs.Wheels.{AreOfPlaces, IsWheel, place_of, stays_with}
use Rattle.timer_wheel.proofs.Slots.{without, has, has_tail, has_head, none_twice, without_fewer, without_none, without_some}

-- nodes that each stand alone
pub rings_alone : (after before : List ℕ) → length before ≡ length after → ((x : ℕ) → x < length after → get_or after x 0 ≡ x) → ((x : ℕ) → x < length before → get_or before x 0 ≡ x) → AreRings after before
rings_alone after before same after_alone before_alone =
    let before_too : (x : ℕ) → x < length after → get_or before x 0 ≡ x = λ x h. before_alone x (omega arith) in
    record {
      same_nodes = same;
      after_in = λ x h. rw (after_alone x h) h;
      before_in = λ x h. rw (before_too x h) h;
      back = λ x h. ap (λ y. get_or before y 0) (after_alone x h) ∙ before_too x h;
      forth = λ x h. ap (λ y. get_or after y 0) (before_too x h) ∙ after_alone x h;
    }

-- a wheel in which no slot has a moment
pub wheel_empty : (moments : List (Option ℕ)) (after before : List ℕ) (base : ℕ) → length after ≡ length moments + 256 → length before ≡ length after → ((x : ℕ) → x < length after → get_or after x 0 ≡ x) → ((x : ℕ) → x < length before → get_or before x 0 ≡ x) → ((slot : ℕ) → get_or moments slot None ≡ None) → base ≤ 2 ^ 54 → IsWheel moments after before base
wheel_empty moments after before base nodes same after_alone before_alone none early =
    record {
      nodes = nodes;
      rings = rings_alone after before same after_alone before_alone;
      slots_of = λ _. [];
      places = λ place h. record { leads = after_alone (length moments + place) (omega arith); below = λ slot has. cc; once = none_twice };
      standing = λ slot moment h. let not = none slot in cc;
      only = λ place slot h has. absurd cc;
      early = early;
    }

-- each slot that stands in a place has a moment of that place
abbrev pub StandOnly : List (Option ℕ) → ℕ → (ℕ → List ℕ) → Type 0
StandOnly moments base slots_of = (place slot : ℕ) → place < 256 → has slot (slots_of place) ≡ true → (moment : ℕ) × (get_or moments slot None ≡ Some moment) × (place_of base moment ≡ place)

-- so it is of the slots other than one
only_without : (moments : List (Option ℕ)) (base slot : ℕ) (slots_of : ℕ → List ℕ) (value : Option ℕ) → StandOnly moments base slots_of → StandOnly (set moments slot value) base (λ place. without slot (slots_of place))
only_without moments base slot slots_of value only place x h here =
    let stood = only place x h (without_fewer slot x (slots_of place) here) in
    let ne : x ≢ slot = λ e. false≢true (sym (without_none slot (slots_of place)) ∙ (ap (λ y. has y (without slot (slots_of place))) (sym e) ∙ here)) in
    (stood.0, get_or-set_other moments slot x value None ne ∙ stood.1, stood.2)

-- what holds of a slot's new moment, and of the moment of each other slot, holds of all after it was set
pub set_cases : (moments : List (Option ℕ)) (slot moment : ℕ) → slot < length moments → (P : ℕ → ℕ → Type 0) → P slot moment → ((x other : ℕ) → x ≢ slot → get_or moments x None ≡ Some other → P x other) → (x other : ℕ) → get_or (set moments slot (Some moment)) x None ≡ Some other → P x other
set_cases moments slot moment in' P now others x other h =
    elim (nat_eq x slot) as (λ b. nat_eq x slot ≡ b → P x other) [
      | true ↦ λ e.
          let same_slot : x ≡ slot = grind (arith, nat_tests) in
          let given = get_or-set_same moments slot (Some moment) None in' in
          let here = subst (λ y. get_or (set moments slot (Some moment)) y None ≡ Some other) same_slot h in
          let same_moment : moment ≡ other = cc in
          subst (λ y. P y other) (sym same_slot) (subst (P slot) same_moment now)
      | false ↦ λ e.
          let ne : x ≢ slot = grind (arith, nat_tests) in
          others x other ne (sym (get_or-set_other moments slot x (Some moment) None ne) ∙ h)
    ] refl

-- the moment that keeps a slot in its place
stays_same : (base : ℕ) (had : Option ℕ) (moment : ℕ) → stays_with base had moment ≡ true → (m : ℕ) × (had ≡ Some m) × (place_of base m ≡ place_of base moment)
stays_same base None moment h = absurd cc
stays_same base (Some m) moment h = (m, refl, grind (arith, nat_tests))

-- a slot got a moment of the place in which it stands
pub wheel_stays : (moments : List (Option ℕ)) (after before : List ℕ) (base slot : ℕ) → slot < length moments → IsWheel moments after before base → (had : Option ℕ) (moment : ℕ) → had ≡ get_or moments slot had → stays_with base had moment ≡ true → IsWheel (set moments slot (Some moment)) after before base
wheel_stays moments after before base slot in' wheel had moment was stays =
    let same : length (set moments slot (Some moment)) ≡ length moments = length-set moments slot (Some moment) in
    let stood = stays_same base had moment stays in
    let standing = wheel.standing slot stood.0 (get_or_default moments slot None had in' ∙ (sym was ∙ stood.1)) in
    record {
      nodes = wheel.nodes ∙ ap (λ n. n + 256) (sym same);
      rings = wheel.rings;
      slots_of = wheel.slots_of;
      places = subst (λ n. AreOfPlaces after n wheel.slots_of) (sym same) wheel.places;
      standing = set_cases moments slot moment in' (λ x other. has x (wheel.slots_of (place_of base other)) ≡ true)
          (subst (λ place. has slot (wheel.slots_of place) ≡ true) stood.2 standing)
          (λ x other ne h. wheel.standing x other h);
      only = λ place x h here.
          let stands = wheel.only place x h here in
          elim (cases_eq x slot) [
            | inl e ↦
                let there : get_or moments slot None ≡ Some stands.0 = ap (λ y. get_or moments y None) (sym e) ∙ stands.1 in
                let given : get_or moments slot None ≡ Some stood.0 = get_or_default moments slot None had in' ∙ (sym was ∙ stood.1) in
                let same_moment : stood.0 ≡ stands.0 = cc in
                (moment, ap (λ y. get_or (set moments slot (Some moment)) y None) e ∙ get_or-set_same moments slot (Some moment) None in', sym stood.2 ∙ (ap (place_of base) same_moment ∙ stands.2))
            | inr ne ↦ (stands.0, get_or-set_other moments slot x (Some moment) None ne ∙ stands.1, stands.2)
          ];
      early = wheel.early;
    }

-- what is known where a node was taken out of its ring
pub record IsUnlinked (after now now_before : List ℕ) (slot : ℕ) : Type 0 where
  pub rings : AreRings now now_before
  pub nodes : length now ≡ length after
  pub others : (bound head : ℕ) (slots : List ℕ) → bound ≤ length after → head < length after → head ≢ slot → IsRing after bound head slots → IsRing now bound head (without slot slots)

-- what is known where a slot was put after a head
pub record IsLinked (after now now_before : List ℕ) (slot head : ℕ) : Type 0 where
  pub rings : AreRings now now_before
  pub nodes : length now ≡ length after
  pub first : (bound : ℕ) (slots : List ℕ) → slot < bound → bound ≤ head → has slot slots ≡ false → IsRing after bound head slots → IsRing now bound head (slot ∷ slots)
  pub others : (bound other : ℕ) (slots : List ℕ) → bound ≤ head → other ≢ head → other ≢ slot → has slot slots ≡ false → IsRing after bound other slots → IsRing now bound other slots

module _ (moments : List (Option ℕ)) (after before : List ℕ) (base slot : ℕ) (in' : slot < length moments) (wheel : IsWheel moments after before base) (now now_before : List ℕ) (unlinked : IsUnlinked after now now_before slot) where
  -- the places without the slot
  places_without : (place : ℕ) → place < 256 → IsRing now (length moments) (length moments + place) (without slot (wheel.slots_of place))
  places_without place h =
      let nodes = wheel.nodes in
      unlinked.others (length moments) (length moments + place) (wheel.slots_of place) (omega arith) (omega arith) (omega arith) (wheel.places place h)

  -- a slot without a moment was taken out of its place
  pub wheel_cleared : IsWheel (set moments slot None) now now_before base
  wheel_cleared =
      let same : length (set moments slot None) ≡ length moments = length-set moments slot None in
      record {
        nodes = unlinked.nodes ∙ (wheel.nodes ∙ ap (λ n. n + 256) (sym same));
        rings = unlinked.rings;
        slots_of = λ place. without slot (wheel.slots_of place);
        places = λ place h. subst (λ n. IsRing now n (n + place) (without slot (wheel.slots_of place))) (sym same) (places_without place h);
        standing = λ x moment h.
            let ne : x ≢ slot = λ e. let gone = get_or-set_same moments slot None None in' in let here = subst (λ y. get_or (set moments slot None) y None ≡ Some moment) e h in cc in
            without_some slot x (wheel.slots_of (place_of base moment)) ne (wheel.standing x moment (sym (get_or-set_other moments slot x None None ne) ∙ h));
        only = only_without moments base slot wheel.slots_of None wheel.only;
        early = wheel.early;
      }

  -- a slot with a moment was put into the place of that moment
  module _ (moment : ℕ) (last last_before : List ℕ) (linked : IsLinked now last last_before slot (length moments + place_of base moment)) where
    -- the slots of a place then
    abbrev slots_now : ℕ → List ℕ
    slots_now place = cond (nat_eq place (place_of base moment)) (slot ∷ without slot (wheel.slots_of place)) (without slot (wheel.slots_of place))

    places_now : (place : ℕ) → place < 256 → (b : Bool) → nat_eq place (place_of base moment) ≡ b → IsRing last (length moments) (length moments + place) (cond b (slot ∷ without slot (wheel.slots_of place)) (without slot (wheel.slots_of place)))
    places_now place h true e =
        let same : place ≡ place_of base moment = grind (arith, nat_tests) in
        let here = places_without place h in
        subst (λ p. IsRing last (length moments) (length moments + p) (slot ∷ without slot (wheel.slots_of place))) (sym same)
        (linked.first (length moments) (without slot (wheel.slots_of place)) in' (omega arith) (without_none slot (wheel.slots_of place)) (subst (λ p. IsRing now (length moments) (length moments + p) (without slot (wheel.slots_of place))) same here))
    places_now place h false e =
        let apart : place ≢ place_of base moment = grind (arith, nat_tests) in
        linked.others (length moments) (length moments + place) (without slot (wheel.slots_of place)) (omega arith) (omega arith) (omega arith) (without_none slot (wheel.slots_of place)) (places_without place h)

    -- whatever stood in a place stands there
    stays_now : (x place : ℕ) → has x (without slot (wheel.slots_of place)) ≡ true → has x (slots_now place) ≡ true
    stays_now x place h = elim (nat_eq place (place_of base moment)) as (λ b. has x (cond b (slot ∷ without slot (wheel.slots_of place)) (without slot (wheel.slots_of place))) ≡ true) [ true ↦ has_tail x slot (without slot (wheel.slots_of place)) h | false ↦ h ]

    -- and the slot stands in its place
    comes_now : has slot (slots_now (place_of base moment)) ≡ true
    comes_now =
        let here : nat_eq (place_of base moment) (place_of base moment) ≡ true = grind (arith, nat_tests) in
        subst (λ b. has slot (cond b (slot ∷ without slot (wheel.slots_of (place_of base moment))) (without slot (wheel.slots_of (place_of base moment)))) ≡ true) (sym here) (has_head slot (without slot (wheel.slots_of (place_of base moment))))

    -- what stands in a place now has a moment of it
    only_now : (place x : ℕ) → place < 256 → (b : Bool) → nat_eq place (place_of base moment) ≡ b → has x (cond b (slot ∷ without slot (wheel.slots_of place)) (without slot (wheel.slots_of place))) ≡ true → (m : ℕ) × (get_or (set moments slot (Some moment)) x None ≡ Some m) × (place_of base m ≡ place)
    only_now place x h false e here = only_without moments base slot wheel.slots_of (Some moment) wheel.only place x h here
    only_now place x h true e here =
        elim (cases_eq x slot) [
          | inl same ↦ (moment, ap (λ y. get_or (set moments slot (Some moment)) y None) same ∙ get_or-set_same moments slot (Some moment) None in', grind (arith, nat_tests))
          | inr ne ↦
              let stays : has x (without slot (wheel.slots_of place)) ≡ true = grind (arith, nat_tests) in
              only_without moments base slot wheel.slots_of (Some moment) wheel.only place x h stays
        ]

    pub wheel_set : IsWheel (set moments slot (Some moment)) last last_before base
    wheel_set =
        let same : length (set moments slot (Some moment)) ≡ length moments = length-set moments slot (Some moment) in
        record {
          nodes = linked.nodes ∙ (unlinked.nodes ∙ (wheel.nodes ∙ ap (λ n. n + 256) (sym same)));
          rings = linked.rings;
          slots_of = slots_now;
          places = λ place h. subst (λ n. IsRing last n (n + place) (slots_now place)) (sym same) (places_now place h (nat_eq place (place_of base moment)) refl);
          standing = set_cases moments slot moment in' (λ x other. has x (slots_now (place_of base other)) ≡ true) comes_now
              (λ x other ne h. stays_now x (place_of base other) (without_some slot x (wheel.slots_of (place_of base other)) ne (wheel.standing x other h)));
          only = λ place x h here. only_now place x h (nat_eq place (place_of base moment)) refl here;
          early = wheel.early;
        }
