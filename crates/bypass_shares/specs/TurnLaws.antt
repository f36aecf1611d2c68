-- What one turn may do, and what all do.
use Rattle.std.specs.Prelude.{◌≡◌, ℕ, ◌+◌, ◌≤◌, ◌==◌, ◌&&◌, ◌||◌, Bool, true, false, cond, if◌then◌else◌, T, List, [], ◌∷◌, find as find_first, Option, Some, None, is_some, option_map}
use Rattle.std.specs.Cmp.{IsTotalOrder}
use Rattle.std.specs.FinMap.Entries.{find, find-put, is_sorted, is_sorted-put, put}
use Rattle.std.specs.List.{AllByRecursion, list_any}
use Rattle.std.specs.Option.{option_and_then}
use Rattle.std.specs.Ordering.{eq_by_cmp}
use Rattle.std.specs.declared.cmp.Ordering.{Ordering}
use Rattle.std.proofs.Common.{refl, sym, ap, subst, ◌∙◌, arith}
use Rattle.std.proofs.lemmas.Bool.{eq-eqb, eqb-true, leb-true, or_parts}
use Rattle.std.proofs.lemmas.Map.Lookups.{CmpEqualImpliesEq}
use Rattle.std.proofs.Math.Bool.{or-true}
use Rattle.std.proofs.lemmas.Option.{option_and_then_some}
use Rattle.sorted_rows.specs.ListLaws.{all-always}
use Rattle.sorted_rows.specs.RowsLaws.{ties}
use Rattle.lsr_facts.specs.declared.assignment.Assignment.{Assignment}
use Rattle.bypass_shares.specs.declared.wish.Wish.{Wish}
use Rattle.bypass_shares.specs.Shares.{IsWithin, assigned_of, each_in_turn, has_room, is_candidate, kept_for, new_for, stays, with_given}
use Rattle.bypass_shares.specs.SumLaws.{assigned_of-put, some_none}

-- a value that isn't some is none
pub none_is : {A : Type 0} (o : Option A) → is_some o ≡ false → o ≡ None
none_is None h = refl
none_is (Some x) h = cc

-- the first element that passes a test passes it, and is among them
first_passes : (p : ℕ → Bool) (xs : List ℕ) (x : ℕ) → find_first p xs ≡ Some x → (list_any (λ y. y == x) xs ≡ true) × (p x ≡ true)
first_passes p [] x is = cc
first_passes p (y ∷ ys) x is =
    elim (p y) as (λ b. p y ≡ b → cond b (Some y) (find_first p ys) ≡ Some x → ((y == x) || list_any (λ z. z == x) ys ≡ true) × (p x ≡ true)) [
      | true ↦ λ passes found. let same : y ≡ x = cc in (ap (λ b. b || list_any (λ z. z == x) ys) (eq-eqb y x same), ap p (sym same) ∙ passes)
      | false ↦ λ fails found. let rest = first_passes p ys x found in (ap (λ b. (y == x) || b) rest.0 ∙ or-true (y == x), rest.1)
    ] refl is

-- where none is first, none passes
pub none_passes : (p : ℕ → Bool) (xs : List ℕ) → find_first p xs ≡ None → list_any p xs ≡ false
none_passes p [] is = refl
none_passes p (y ∷ ys) is =
    elim (p y) as (λ b. cond b (Some y) (find_first p ys) ≡ None → (b || list_any p ys) ≡ false) [ true ↦ λ found. cc | false ↦ λ none. none_passes p ys none ] is

-- and the other way round
pub none_first : (p : ℕ → Bool) (xs : List ℕ) → list_any p xs ≡ false → find_first p xs ≡ None
none_first p [] is = refl
none_first p (y ∷ ys) is =
    elim (p y) as (λ b. (b || list_any p ys) ≡ false → cond b (Some y) (find_first p ys) ≡ None) [ true ↦ λ passes. cc | false ↦ λ none. none_first p ys none ] is

-- where none passes a test, none passes one from which it follows
pub none_passes_more : (p q : ℕ → Bool) → ((x : ℕ) → q x ≡ true → p x ≡ true) → (xs : List ℕ) → list_any p xs ≡ false → list_any q xs ≡ false
none_passes_more p q follows [] is = refl
none_passes_more p q follows (x ∷ xs) is =
    let parts = or_parts (p x) (list_any p xs) is in
    elim (q x) as (λ b. q x ≡ b → (b || list_any q xs) ≡ false) [
      | true ↦ λ passes. let yes = follows x passes in cc
      | false ↦ λ fails. none_passes_more p q follows xs parts.1
    ] refl

-- an option of a pair of tests is there where both pass
both_pass : (a b : Bool) (x y : Assignment) → ◌≡◌ {A = Option Assignment} (if a && b then Some x else None) (Some y) → (a ≡ true) × (b ≡ true) × (x ≡ y)
both_pass true true x y is = let same : x ≡ y = cc in (refl, refl, same)
both_pass true false x y is = cc
both_pass false b x y is = cc

-- what is made of a value was made of one
mapped : {A B : Type 0} (f : A → B) (o : Option A) (y : B) → option_map f o ≡ Some y → (x : A) × (o ≡ Some x) × (f x ≡ y)
mapped f None y is = cc
mapped f (Some x) y is = let same : f x ≡ y = cc in (x, refl, same)

module _ {K : Type 0} (cmp : K → K → Ordering) (capacity : ℕ → ℕ) where
  -- What a turn may give an LSP: it has none yet, and is given what it asks for of one of its bypasses, where there is room.
  pub record IsGiven (pairs : List (K × Assignment)) (wish : K × Wish) (given : Assignment) : Type 0 where
    pub absent : find cmp wish.0 pairs ≡ None
    pub rate : given.rate ≡ wish.1.rate
    pub candidate : is_candidate wish.1 given.bypass ≡ true
    pub room : has_room cmp capacity pairs given.rate given.bypass ≡ true

  -- what turns give
  abbrev pub Gives : (List (K × Assignment) → K × Wish → Option Assignment) → Type 0
  Gives choose = (pairs : List (K × Assignment)) (wish : K × Wish) (given : Assignment) → choose pairs wish ≡ Some given → IsGiven pairs wish given

  -- what stays is what the LSP had, at its rate
  stays_given : (pairs : List (K × Assignment)) (wish : K × Wish) (had given : Assignment) → find cmp wish.0 pairs ≡ None → stays cmp capacity pairs wish.1 had ≡ Some given → IsGiven pairs wish given
  stays_given pairs wish had given absent is =
      let parts = both_pass (is_candidate wish.1 had.bypass) (has_room cmp capacity pairs wish.1.rate had.bypass) (record { bypass = had.bypass; rate = wish.1.rate }) given is in
      subst (IsGiven pairs wish) parts.2 (record { absent = absent; rate = refl; candidate = parts.0; room = parts.1 })

  -- the turns in which LSPs keep what they had
  pub kept_gives : (old : List (K × Assignment)) → Gives (kept_for cmp capacity old)
  kept_gives old pairs wish given is =
      elim (is_some (find cmp wish.0 pairs)) as (λ b. is_some (find cmp wish.0 pairs) ≡ b → ◌≡◌ {A = Option Assignment} (if b then None else option_and_then (stays cmp capacity pairs wish.1) (find cmp wish.0 old)) (Some given) → IsGiven pairs wish given) [
        | true ↦ λ found none. cc
        | false ↦ λ absent some. option_and_then_some (stays cmp capacity pairs wish.1) (find cmp wish.0 old) given some (λ had was stayed. stays_given pairs wish had given (none_is _ absent) stayed)
      ] refl is

  -- what is new is of a bypass that has room
  new_given : (pairs : List (K × Assignment)) (wish : K × Wish) (given : Assignment) → find cmp wish.0 pairs ≡ None → option_map (λ number. record { bypass = number; rate = wish.1.rate }) (find_first (has_room cmp capacity pairs wish.1.rate) wish.1.bypasses) ≡ Some given → IsGiven pairs wish given
  new_given pairs wish given absent is =
      let made = mapped (λ number. record { bypass = number; rate = wish.1.rate }) (find_first (has_room cmp capacity pairs wish.1.rate) wish.1.bypasses) given is in
      let chosen = first_passes (has_room cmp capacity pairs wish.1.rate) wish.1.bypasses made.0 made.1 in
      subst (IsGiven pairs wish) made.2 (record { absent = absent; rate = refl; candidate = chosen.0; room = chosen.1 })

  -- the turns in which others are given what is left
  pub new_gives : Gives (new_for cmp capacity)
  new_gives pairs wish given is =
      elim (is_some (find cmp wish.0 pairs)) as (λ b. is_some (find cmp wish.0 pairs) ≡ b → ◌≡◌ {A = Option Assignment} (if b then None else option_map (λ number. record { bypass = number; rate = wish.1.rate }) (find_first (has_room cmp capacity pairs wish.1.rate) wish.1.bypasses)) (Some given) → IsGiven pairs wish given) [
        | true ↦ λ found none. cc
        | false ↦ λ absent some. new_given pairs wish given (none_is _ absent) some
      ] refl is

  module _ (choose : List (K × Assignment) → K × Wish → Option Assignment) (gives : Gives choose) where
    -- what holds of the assignments before a turn, and with what it gives, holds after it
    turn : (P : List (K × Assignment) → Type 0) (pairs : List (K × Assignment)) (wish : K × Wish) → P pairs → ((given : Assignment) → IsGiven pairs wish given → P (put cmp wish.0 given pairs)) → P (with_given cmp capacity wish.0 (choose pairs wish) pairs)
    turn P pairs wish same more =
        elim (choose pairs wish) as (λ o. choose pairs wish ≡ o → P (with_given cmp capacity wish.0 o pairs)) [
          | None ↦ λ is. same
          | Some given ↦ λ is. more given (gives pairs wish given is)
        ] refl

    -- what each turn keeps, all keep
    pub turns : (P : List (K × Assignment) → Type 0) (Q : K × Wish → Type 0) → ((pairs : List (K × Assignment)) (wish : K × Wish) (given : Assignment) → P pairs → Q wish → IsGiven pairs wish given → P (put cmp wish.0 given pairs)) → (pairs : List (K × Assignment)) (wishes : List (K × Wish)) → AllByRecursion Q wishes → P pairs → P (each_in_turn cmp capacity choose pairs wishes)
    turns P Q step pairs [] q p = p
    turns P Q step pairs (wish ∷ more) q p =
        turns P Q step (with_given cmp capacity wish.0 (choose pairs wish) pairs) more q.1 (turn P pairs wish p (λ given is. step pairs wish given p q.0 is))

  -- no turn gives anything where none can
  pub turns_none : (choose : List (K × Assignment) → K × Wish → Option Assignment) (pairs : List (K × Assignment)) (wishes : List (K × Wish)) → AllByRecursion (λ wish. choose pairs wish ≡ None) wishes → each_in_turn cmp capacity choose pairs wishes ≡ pairs
  turns_none choose pairs [] none = refl
  turns_none choose pairs (wish ∷ more) none =
      ap (λ o. each_in_turn cmp capacity choose (with_given cmp capacity wish.0 o pairs) more) none.0 ∙ turns_none choose pairs more none.1

  module _ (total : IsTotalOrder cmp) where
    -- rows in order, and within the capacities
    abbrev pub AreGood : List (K × Assignment) → Type 0
    AreGood pairs = T (is_sorted cmp pairs) × IsWithin cmp capacity pairs

    -- what is given fits what is left of its bypass
    fits : (number bypass rate : ℕ) (pairs : List (K × Assignment)) → IsWithin cmp capacity pairs → has_room cmp capacity pairs rate bypass ≡ true → (b : Bool) → (bypass == number) ≡ b → assigned_of number pairs + (if b then rate else 0) ≤ capacity number
    fits number bypass rate pairs within room true is =
        subst (λ n. assigned_of n pairs + rate ≤ capacity n) (eqb-true bypass number is) (leb-true _ _ room)
    fits number bypass rate pairs within room false is = let same = within number in omega arith

    -- a turn keeps both
    pub good-given : (pairs : List (K × Assignment)) (wish : K × Wish) (given : Assignment) → AreGood pairs → IsGiven pairs wish given → AreGood (put cmp wish.0 given pairs)
    good-given pairs wish given good is = (
      is_sorted-put cmp total wish.0 given pairs good.0,
      λ number.
          subst (λ n. n ≤ capacity number) (sym (assigned_of-put cmp total number wish.0 given pairs good.0 is.absent)) (fits number given.bypass given.rate pairs good.1 is.room (given.bypass == number) refl),
    )

    module _ (exact : CmpEqualImpliesEq cmp) where
      -- what is found stays
      pub still-given : (key : K) (was : Assignment) (pairs : List (K × Assignment)) (k : K) (given : Assignment) → find cmp k pairs ≡ None → find cmp key pairs ≡ Some was → find cmp key (put cmp k given pairs) ≡ Some was
      still-given key was pairs k given absent found =
          find-put cmp total key k given pairs
          ∙ elim (eq_by_cmp cmp key k) as (λ b. eq_by_cmp cmp key k ≡ b → cond b (Some given) (find cmp key pairs) ≡ Some was) [
            | true ↦ λ tie. some_none (find cmp key pairs) was found (ap (λ q. find cmp q pairs) (exact key k (ties _ tie)) ∙ absent)
            | false ↦ λ apart. found
          ] refl

      -- through all turns
      pub still-turns : (choose : List (K × Assignment) → K × Wish → Option Assignment) → Gives choose → (key : K) (was : Assignment) (pairs : List (K × Assignment)) (wishes : List (K × Wish)) → find cmp key pairs ≡ Some was → find cmp key (each_in_turn cmp capacity choose pairs wishes) ≡ Some was
      still-turns choose gives key was pairs wishes found =
          turns choose gives (λ rows. find cmp key rows ≡ Some was) (λ wish. Unit {0}) (λ rows wish given is q may. still-given key was rows wish.0 given may.absent is) pairs wishes (all-always (λ wish. Unit {0}) (λ wish. tt) wishes) found
