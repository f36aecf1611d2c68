-- Turns of wishes that ask for no more than what may come of them.
use Rattle.std.specs.Prelude.{◌≡◌, ℕ, ◌+◌, ◌≤◌, ◌==◌, ◌||◌, nat_le, Bool, true, false, cond, if◌then◌else◌, T, List, [], ◌∷◌, filter, filter_map, find as find_first, is_some, length, Option, Some, None}
use Rattle.std.specs.Cmp.{IsTotalOrder}
use Rattle.std.specs.FinMap.Entries.{find, find-put, is_sorted, is_sorted-put, put}
use Rattle.std.specs.List.{cons_option, list_any}
use Rattle.std.specs.Option.{option_and_then, option_map}
use Rattle.std.specs.Ordering.{eq_by_cmp}
use Rattle.std.specs.declared.cmp.Ordering.{Ordering}
use Rattle.std.proofs.Common.{refl, sym, ap, ◌∙◌, arith}
use Rattle.std.proofs.lemmas.Bool.{eqb-true, le-leb, leb-true}
use Rattle.lsr_facts.specs.declared.assignment.Assignment.{Assignment}
use Rattle.bypass_shares.specs.Left.{AreLeft, left_at}
use Rattle.bypass_shares.specs.Shares.{assigned_of, each_in_turn, has_room, kept_for, new_for, stays, with_given}
use Rattle.bypass_shares.specs.SumLaws.{assigned_of-put}
use Rattle.bypass_shares.specs.TurnLaws.{Gives, IsGiven, kept_gives, new_gives}
use Rattle.bypass_shares.specs.declared.wish.Wish.{Wish}
use Rattle.bandwidth_protection.specs.Narrowing.{has_left, narrowed, of_open, unless_none}

-- whoever passes one test passes another that is weaker, so the first who does is the first of those who pass that
first_narrowed : (p q : ℕ → Bool) → ((x : ℕ) → p x ≡ true → q x ≡ true) → (xs : List ℕ) → find_first p (filter q xs) ≡ find_first p xs
first_narrowed p q weaker [] = refl
first_narrowed p q weaker (x ∷ xs) = by (p x) (q x) refl refl (first_narrowed p q weaker xs)
  where
    by : (a b : Bool) → p x ≡ a → q x ≡ b → find_first p (filter q xs) ≡ find_first p xs → find_first p (cond b (x ∷ filter q xs) (filter q xs)) ≡ cond a (Some x) (find_first p xs)
    by true true is_p is_q so = ap (λ c. cond c (Some x) (find_first p (filter q xs))) is_p
    by true false is_p is_q so = let yes = weaker x is_p in absurd cc
    by false true is_p is_q so = ap (λ c. cond c (Some x) (find_first p (filter q xs))) is_p ∙ so
    by false false is_p is_q so = so

-- who passes a test is among those who do
pub any_narrowed : (p : ℕ → Bool) (xs : List ℕ) → list_any p (filter p xs) ≡ list_any p xs
any_narrowed p [] = refl
any_narrowed p (x ∷ xs) = by (p x) refl (any_narrowed p xs)
  where
    by : (b : Bool) → p x ≡ b → list_any p (filter p xs) ≡ list_any p xs → list_any p (cond b (x ∷ filter p xs) (filter p xs)) ≡ (b || list_any p xs)
    by true is so = ap (λ c. c || list_any p (filter p xs)) is
    by false is so = so

-- of no bypasses none is first
none_of_none : {Y : Type 0} (p : ℕ → Bool) (f : ℕ → Y) (xs : List ℕ) → length xs ≡ 0 → option_map f (find_first p xs) ≡ None
none_of_none p f [] none = refl
none_of_none p f (x ∷ xs) none = absurd (let e = none in cc)

-- the step of the law on what is left
room_is_left : (left assigned before rate most : ℕ) → left + before ≡ most → before ≤ assigned → nat_le (assigned + rate) most ≡ true → nat_le rate left ≡ true
room_is_left left assigned before rate most is more room = let fits = leb-true (assigned + rate) most room in le-leb rate left (omega arith)

module _ {K : Type 0} (cmp : K → K → Ordering) (capacity : ℕ → ℕ) (total : IsTotalOrder cmp) where
  -- Later in a round: in order, no less is assigned than at its start, and who had some then has some.
  pub record IsLater (start pairs : List (K × Assignment)) : Type 0 where
    pub in_order : T (is_sorted cmp pairs)
    pub assigned : (number : ℕ) → assigned_of number start ≤ assigned_of number pairs
    pub found : (key : K) → is_some (find cmp key start) ≡ true → is_some (find cmp key pairs) ≡ true

  -- at its start it is so
  pub at_start : (start : List (K × Assignment)) → T (is_sorted cmp start) → IsLater start start
  at_start start in_order = record { in_order = in_order; assigned = λ number. omega arith; found = λ key is. is }

  -- who is found stays found
  still_found : (key k : K) (given : Assignment) (pairs : List (K × Assignment)) → is_some (find cmp key pairs) ≡ true → is_some (find cmp key (put cmp k given pairs)) ≡ true
  still_found key k given pairs is =
      ap is_some (find-put cmp total key k given pairs)
      ∙ elim (eq_by_cmp cmp key k) as (λ b. is_some (cond b (Some given) (find cmp key pairs)) ≡ true) [ true ↦ refl | false ↦ is ]

  -- one more is given
  later_given : (start pairs : List (K × Assignment)) (wish : K × Wish) (given : Assignment) → IsLater start pairs → IsGiven cmp capacity pairs wish given → IsLater start (put cmp wish.0 given pairs)
  later_given start pairs wish given later is = record {
    in_order = is_sorted-put cmp total wish.0 given pairs later.in_order;
    assigned = λ number.
        let sum = assigned_of-put cmp total number wish.0 given pairs later.in_order is.absent in
        let before = later.assigned number in
        omega (arith, sum, before);
    found = λ key was. still_found key wish.0 given pairs (later.found key was);
  }

  module _ (choose : List (K × Assignment) → K × Wish → Option Assignment) (gives : Gives cmp capacity choose) (start : List (K × Assignment)) where
    -- after a turn
    later_turn : (pairs : List (K × Assignment)) (wish : K × Wish) → IsLater start pairs → IsLater start (with_given cmp capacity wish.0 (choose pairs wish) pairs)
    later_turn pairs wish later =
        elim (choose pairs wish) as (λ o. choose pairs wish ≡ o → IsLater start (with_given cmp capacity wish.0 o pairs)) [
          | None ↦ λ is. later
          | Some given ↦ λ is. later_given start pairs wish given later (gives pairs wish given is)
        ] refl

    module _ (narrow : K × Wish → Option Wish) (same : (pairs : List (K × Assignment)) → IsLater start pairs → (wish : K × Wish) → choose pairs wish ≡ option_and_then (λ w. choose pairs (wish.0, w)) (narrow wish)) where
      -- the wishes that are left, each narrowed
      abbrev left_of : List (K × Wish) → List (K × Wish)
      left_of wishes = filter_map (λ wish. option_map (λ w. (wish.0, w)) (narrow wish)) wishes

      -- A round gives the same where each turn does that is later in it.
      pub narrowed_turns : (wishes : List (K × Wish)) (pairs : List (K × Assignment)) → IsLater start pairs → each_in_turn cmp capacity choose pairs (left_of wishes) ≡ each_in_turn cmp capacity choose pairs wishes
      narrowed_turns [] pairs later = refl
      narrowed_turns (wish ∷ more) pairs later =
          by (narrow wish) (same pairs later wish) (narrowed_turns more (with_given cmp capacity wish.0 (choose pairs wish) pairs) (later_turn pairs wish later))
        where
          next : List (K × Assignment)
          next = with_given cmp capacity wish.0 (choose pairs wish) pairs

          by : (o : Option Wish) → choose pairs wish ≡ option_and_then (λ w. choose pairs (wish.0, w)) o → each_in_turn cmp capacity choose next (left_of more) ≡ each_in_turn cmp capacity choose next more
              → each_in_turn cmp capacity choose pairs (cons_option (option_map (λ (w : Wish). (wish.0, w)) o) (left_of more)) ≡ each_in_turn cmp capacity choose next more
          by None is rest = ap (λ o. each_in_turn cmp capacity choose (with_given cmp capacity wish.0 o pairs) (left_of more)) (sym is) ∙ rest
          by (Some w) is rest = ap (λ o. each_in_turn cmp capacity choose (with_given cmp capacity wish.0 o pairs) (left_of more)) (sym is) ∙ rest

  -- ---- the first round

  -- An LSP that had none keeps none.
  kept_narrowed : (old pairs : List (K × Assignment)) (wish : K × Wish) → kept_for cmp capacity old pairs wish ≡ option_and_then (λ w. kept_for cmp capacity old pairs (wish.0, w)) (option_map (λ had. wish.1) (find cmp wish.0 old))
  kept_narrowed old pairs wish = by (find cmp wish.0 old) refl (is_some (find cmp wish.0 pairs)) refl
    where
      by : (o : Option Assignment) → find cmp wish.0 old ≡ o → (b : Bool) → is_some (find cmp wish.0 pairs) ≡ b
          → kept_for cmp capacity old pairs wish ≡ option_and_then (λ w. kept_for cmp capacity old pairs (wish.0, w)) (option_map (λ had. wish.1) o)
      by None is true has = ap (λ b. if b then None else option_and_then (stays cmp capacity pairs wish.1) (find cmp wish.0 old)) has
      by None is false has = (λ i. if has i then None else option_and_then (stays cmp capacity pairs wish.1) (is i))
      by (Some had) is b has = refl

  -- So none but those that had some are asked.
  pub kept_turns : (old start : List (K × Assignment)) (wishes : List (K × Wish)) → T (is_sorted cmp start)
      → each_in_turn cmp capacity (kept_for cmp capacity old) start (filter_map (λ wish. option_map (λ w. (wish.0, w)) (option_map (λ had. wish.1) (find cmp wish.0 old))) wishes) ≡ each_in_turn cmp capacity (kept_for cmp capacity old) start wishes
  kept_turns old start wishes in_order =
      narrowed_turns (kept_for cmp capacity old) (kept_gives cmp capacity old) start (λ wish. option_map (λ had. wish.1) (find cmp wish.0 old)) (λ pairs later wish. kept_narrowed old pairs wish) wishes start (at_start start in_order)

  -- ---- the second round

  module _ (start : List (K × Assignment)) (left : List (ℕ × ℕ)) (are_left : AreLeft capacity left start) where
    -- what is asked for in it
    abbrev pub narrow_open : K × Wish → Option Wish
    narrow_open wish = if is_some (find cmp wish.0 start) then None else of_open left wish.1

    -- An LSP is given the same of those alone of which so much was left.
    new_narrowed : (pairs : List (K × Assignment)) → IsLater start pairs → (wish : K × Wish) → new_for cmp capacity pairs (wish.0, narrowed (has_left left wish.1.rate) wish.1) ≡ new_for cmp capacity pairs wish
    new_narrowed pairs later wish =
        let rate = wish.1.rate in
        ap (λ o. if is_some (find cmp wish.0 pairs) then None else option_map (λ (number : ℕ). record { bypass = number; rate = rate }) o)
        (first_narrowed (has_room cmp capacity pairs rate) (has_left left rate)
        (λ number room. room_is_left (left_at left number) (assigned_of number pairs) (assigned_of number start) rate (capacity number) (are_left number) (later.assigned number) room)
        wish.1.bypasses)

    -- One that names no bypass is given none,
    unless_new : (pairs : List (K × Assignment)) (key : K) (wish : Wish) → option_and_then (λ w. new_for cmp capacity pairs (key, w)) (unless_none wish) ≡ new_for cmp capacity pairs (key, wish)
    unless_new pairs key wish = by (length wish.bypasses == 0) refl
      where
        by : (b : Bool) → (length wish.bypasses == 0) ≡ b → option_and_then (λ w. new_for cmp capacity pairs (key, w)) (if b then None else Some wish) ≡ new_for cmp capacity pairs (key, wish)
        by false is = refl
        by true is =
            elim (is_some (find cmp key pairs)) as (λ b. ◌≡◌ {A = Option Assignment} None (if b then None else option_map (λ number. record { bypass = number; rate = wish.rate }) (find_first (has_room cmp capacity pairs wish.rate) wish.bypasses))) [
              | true ↦ refl
              | false ↦ sym (none_of_none (has_room cmp capacity pairs wish.rate) (λ (number : ℕ). record { bypass = number; rate = wish.rate }) wish.bypasses (eqb-true (length wish.bypasses) 0 is))
            ]

    -- and so is one that had some.
    same_open : (pairs : List (K × Assignment)) → IsLater start pairs → (wish : K × Wish) → new_for cmp capacity pairs wish ≡ option_and_then (λ w. new_for cmp capacity pairs (wish.0, w)) (narrow_open wish)
    same_open pairs later wish = by (is_some (find cmp wish.0 start)) refl
      where
        by : (b : Bool) → is_some (find cmp wish.0 start) ≡ b → new_for cmp capacity pairs wish ≡ option_and_then (λ w. new_for cmp capacity pairs (wish.0, w)) (if b then None else of_open left wish.1)
        by true is = ap (λ b. if b then None else option_map (λ (number : ℕ). record { bypass = number; rate = wish.1.rate }) (find_first (has_room cmp capacity pairs wish.1.rate) wish.1.bypasses)) (later.found wish.0 is)
        by false is = sym (unless_new pairs wish.0 (narrowed (has_left left wish.1.rate) wish.1) ∙ new_narrowed pairs later wish)

    -- So all are.
    pub open_turns : (wishes : List (K × Wish)) → T (is_sorted cmp start)
        → each_in_turn cmp capacity (new_for cmp capacity) start (filter_map (λ wish. option_map (λ w. (wish.0, w)) (narrow_open wish)) wishes) ≡ each_in_turn cmp capacity (new_for cmp capacity) start wishes
    open_turns wishes in_order = narrowed_turns (new_for cmp capacity) (new_gives cmp capacity) start narrow_open same_open wishes start (at_start start in_order)
