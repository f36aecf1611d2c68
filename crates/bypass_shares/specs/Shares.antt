-- How bandwidth of bypasses is assigned to LSPs (RFC 4090, 4.3: bandwidth protection).
use Rattle.std.specs.Prelude.{◌≡◌, ℕ, ◌+◌, ◌≤◌, ◌⊎◌, ◌==◌, ◌&&◌, nat_le, Bool, true, false, if◌then◌else◌, T, List, [], ◌∷◌, find as find_first, Option, Some, None, is_some, option_map}
use Rattle.std.specs.FinMap.Entries.{find, is_sorted, put}
use Rattle.std.specs.List.{list_any, sum_by}
use Rattle.std.specs.Option.{option_and_then, option_map_or}
use Rattle.std.specs.Ordering.{nat_cmp}
use Rattle.std.specs.declared.cmp.Ordering.{Ordering}
use Rattle.lsr_facts.specs.declared.assignment.Assignment.{Assignment}
use Rattle.lsr_facts.specs.declared.bypass.Bypass.{Bypass}
use Rattle.bypass_shares.specs.declared.wish.Wish.{Wish}

-- what an assignment takes of a bypass
abbrev pub taken_of : ℕ → Assignment → ℕ
taken_of number given = if given.bypass == number then given.rate else 0

-- what is assigned of a bypass
abbrev pub assigned_of : {K : Type 0} → ℕ → List (K × Assignment) → ℕ
assigned_of number pairs = sum_by (λ pair. taken_of number pair.1) pairs

-- the capacity of a bypass, 0 where there is no such bypass
abbrev pub capacity_in : List (ℕ × Bypass) → ℕ → ℕ
capacity_in bypasses number = option_map_or (λ bypass. bypass.capacity) (find nat_cmp number bypasses) 0

-- the LSP may be assigned bandwidth of the bypass
abbrev pub is_candidate : Wish → ℕ → Bool
is_candidate wish number = list_any (λ candidate. candidate == number) wish.bypasses

module _ {K : Type 0} (cmp : K → K → Ordering) (capacity : ℕ → ℕ) where
  -- no bypass is assigned above its capacity
  abbrev pub IsWithin : List (K × Assignment) → Type 0
  IsWithin pairs = (number : ℕ) → assigned_of number pairs ≤ capacity number

  -- a bypass has so much left
  abbrev pub has_room : List (K × Assignment) → ℕ → ℕ → Bool
  has_room pairs rate number = nat_le (assigned_of number pairs + rate) (capacity number)

  -- What an LSP had stays, at the rate that it asks for now, where it may have that bypass still and there is room.
  abbrev pub stays : List (K × Assignment) → Wish → Assignment → Option Assignment
  stays pairs wish had =
      if is_candidate wish had.bypass && has_room pairs wish.rate had.bypass
      then Some (record { bypass = had.bypass; rate = wish.rate })
      else None

  -- what an LSP that has none yet keeps of what it had
  abbrev pub kept_for : List (K × Assignment) → List (K × Assignment) → K × Wish → Option Assignment
  kept_for old pairs wish =
      if is_some (find cmp wish.0 pairs) then None else option_and_then (stays pairs wish.1) (find cmp wish.0 old)

  -- what an LSP that has none yet is given: of the first of its bypasses that has room
  abbrev pub new_for : List (K × Assignment) → K × Wish → Option Assignment
  new_for pairs wish =
      if is_some (find cmp wish.0 pairs)
      then None
      else option_map (λ number. record { bypass = number; rate = wish.1.rate }) (find_first (has_room pairs wish.1.rate) wish.1.bypasses)

  -- the assignments with what an LSP is given, if anything
  abbrev pub with_given : K → Option Assignment → List (K × Assignment) → List (K × Assignment)
  with_given key given pairs = option_map_or (λ assignment. put cmp key assignment pairs) given pairs

  -- one wish after the other is answered, each with what is left by those before
  abbrev pub each_in_turn : (List (K × Assignment) → K × Wish → Option Assignment) → List (K × Assignment) → List (K × Wish) → List (K × Assignment)
  each_in_turn choose pairs [] = pairs
  each_in_turn choose pairs (wish ∷ more) = each_in_turn choose (with_given wish.0 (choose pairs wish) pairs) more

  -- The assignments, made anew of those of before, of those in use, and of wishes in the order of keys: those in use stay,
  -- then LSPs keep what they had, and then others are given what is left.
  unfoldable pub assigned : List (K × Assignment) → List (K × Assignment) → List (K × Wish) → List (K × Assignment)
  assigned old in_use wishes = each_in_turn new_for (each_in_turn (kept_for old) in_use wishes) wishes

  -- the assignment answers its LSP's wish: at its rate, of one of its bypasses
  abbrev pub AnswersWish : List (K × Wish) → K → Assignment → Type 0
  AnswersWish wishes key given =
      (wish : Wish) × (find cmp key wishes ≡ Some wish) × (given.rate ≡ wish.rate) × (is_candidate wish given.bypass ≡ true)

  -- it is in use, or answers its LSP's wish
  abbrev pub IsAnswer : List (K × Assignment) → List (K × Wish) → K → Assignment → Type 0
  IsAnswer in_use wishes key given = (find cmp key in_use ≡ Some given) ⊎ AnswersWish wishes key given

  -- Assignments that stand, by those in use and by wishes.
  pub record AreShares (in_use : List (K × Assignment)) (wishes : List (K × Wish)) (all : List (K × Assignment)) : Type 0 where
    pub in_order : T (is_sorted cmp all)
    pub within : IsWithin all
    -- what is in use is among them
    pub kept : (key : K) (given : Assignment) → find cmp key in_use ≡ Some given → find cmp key all ≡ Some given
    pub answers : (key : K) (given : Assignment) → find cmp key all ≡ Some given → IsAnswer in_use wishes key given
    -- an LSP that asks and has none finds no room
    pub refused : (key : K) (wish : Wish) → find cmp key wishes ≡ Some wish → find cmp key all ≡ None → list_any (has_room all wish.rate) wish.bypasses ≡ false
