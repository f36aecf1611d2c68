-- The bandwidth of bypasses that is promised anew is promised as it should be, once what follows from an event's own change has
-- been done.
use Rattle.std.specs.Prelude.{◌≡◌, ◌≢◌, ◌⊎◌, ℕ, ◌≤◌, ◌==◌, ◌&&◌, ◌||◌, not, Bool, true, false, cond, T, List, [], ◌∷◌, filter, map, find as find_first, Option, Some, None, is_some, IfSome}
use Rattle.std.specs.FinMap.Entries.{find, is_sorted, is_sorted-where_key}
use Rattle.std.specs.List.{AllByRecursion, list_any}
use Rattle.std.specs.Option.{option_and_then, option_map_or}
use Rattle.std.specs.Ordering.{nat_cmp}
use Rattle.std.proofs.Common.{refl, ap, sym, ◌∙◌, subst, inl, inr, ⊎_elim, arith, le_trans}
use Rattle.std.proofs.lemmas.Bool.{and_parts, eqb-false, eqb-true}
use Rattle.std.proofs.lemmas.Option.{same_Some}
use Rattle.sorted_rows.specs.EditLaws.{is_sorted-edited}
use Rattle.sorted_rows.specs.ListLaws.{all-weaker}
use Rattle.sorted_rows.specs.RowsLaws.{all-from_find, is_sorted-filter}
use Rattle.lsr_facts.specs.OrderLaws.{key_exact, key_total}
use Rattle.lsr_facts.specs.Orders.{key_cmp}
use Rattle.lsr_facts.specs.declared.assignment.Assignment.{Assignment}
use Rattle.lsr_facts.specs.declared.key.Key.{Key}
use Rattle.lsr_facts.specs.declared.path_fact.PathFact.{PathFact}
use Rattle.lsr_facts.specs.declared.repair.Repair.{Repair}
use Rattle.lsr_facts.specs.declared.repair.Selected.{Selected}
use Rattle.lsr_facts.specs.declared.resv_fact.ResvFact.{ResvFact}
use Rattle.lsr_facts.specs.declared.router.Router.{Router}
use Rattle.bypass_shares.specs.ShareLaws.{are_assigned}
use Rattle.bypass_shares.specs.Shares.{AnswersWish, AreShares, IsWithin, is_candidate}
use Rattle.bypass_shares.specs.SumLaws.{assigned_of-among}
use Rattle.bypass_shares.specs.declared.wish.Wish.{Wish}
use Rattle.abstract_paths.specs.Places.{is_up}
use Rattle.abstract_paths.specs.RowLaws.{find-holds, find-passes}
use Rattle.abstract_paths.specs.Tears.{leaves_by}
use Rattle.abstract_paths.specs.TouchedLaws.{find-made, find-touched, is_sorted-made}
use Rattle.abstract_router.specs.Assigning.{assigned_anew, assignments_left, assignments_of, capacity_in, has_capacity, in_use_of, is_in_use, rate_in, wants_bandwidth, wish_of, wish_on, wishes_of}
use Rattle.abstract_router.specs.BypassTunnels.{bypass_tunnels_of, over_at}
use Rattle.abstract_router.specs.Lsps.{around_of}
use Rattle.abstract_router.specs.Protecting.{candidates_of, may_serve, repair_with, selected}
use Rattle.abstract_router.specs.Repairing.{new_repairs, put_repair, repair_stands, repaired, repairs_left}
use Rattle.abstract_router.specs.Soundness.{AreAssigned, AreRepaired, IsHolding, IsOfCapacity, IsServed}
use Rattle.abstract_router.specs.Standing.{stands}
use Rattle.abstract_router.specs.States.{State, is_held}
use Rattle.abstract_router.specs.Steps.{left_standing, resvs_left}
use Rattle.router_soundness.proofs.AssigningRepairs.{IsLost, IsNewRepair, chosen, found_filter, found_where, leaves, lost, made_of, new_repair, of_found, old_or_new, old_repair, passed_by, passes_filter, repaired_lost}
use Rattle.router_soundness.proofs.AssigningWays.{IsWay, candidates-are}
use Rattle.router_soundness.proofs.Repairing.{none-kept}
use Rattle.router_soundness.specs.Drafted.{HasEnough}

-- What is known once tunnels have gone over to new LSPs, such that the bandwidth of bypasses may be promised anew.
pub record MayPromise (s : State) : Type 0 where
  pub resvs : T (is_sorted key_cmp s.resvs)
  pub repairs : AreRepaired s
  pub bypasses : T (is_sorted nat_cmp s.facts.bypasses)
  pub assignments : T (is_sorted key_cmp s.assignments)
  pub served : AllByRecursion (IsServed s) s.repairs
  pub enough : AllByRecursion (HasEnough s) s.repairs
  pub within : IsWithin key_cmp (capacity_in s.facts.bypasses) (in_use_of s)

-- ---- of lists

-- what holds of each holds of the one that is among them
of_candidate : (P : ℕ → Type 0) (number : ℕ) (numbers : List ℕ) → AllByRecursion P numbers → list_any (λ candidate. candidate == number) numbers ≡ true → P number
of_candidate P number [] all is = absurd (let e = is in cc)
of_candidate P number (n ∷ ns) all is = by (n == number) refl (of_candidate P number ns all.1) is
  where
    by : (b : Bool) → (n == number) ≡ b → (list_any (λ candidate. candidate == number) ns ≡ true → P number) → (b || list_any (λ candidate. candidate == number) ns) ≡ true → P number
    by true same rest any = subst P (eqb-true n number same) all.0
    by false other rest any = rest any

-- the numbers of the bypasses of these that have bandwidth to promise
abbrev pub numbers_of : List Selected → List ℕ
numbers_of choices = map (λ choice. choice.bypass) (filter has_capacity choices)

all_numbers : (P : ℕ → Type 0) (choices : List Selected) → AllByRecursion (λ choice. has_capacity choice ≡ true → P choice.bypass) choices → AllByRecursion P (numbers_of choices)
all_numbers P [] all = tt
all_numbers P (choice ∷ choices) all = by (has_capacity choice) refl (all_numbers P choices all.1)
  where
    by : (b : Bool) → has_capacity choice ≡ b → AllByRecursion P (numbers_of choices) → AllByRecursion P (map (λ (choice : Selected). choice.bypass) (cond b (choice ∷ filter has_capacity choices) (filter has_capacity choices)))
    by true has rest = (all.0 has, rest)
    by false none rest = rest

-- The choice that serves an LSP that is promised bandwidth of a bypass that may protect it.
record Serves (given : Assignment) (choices : List Selected) : Type 0 where
  choice : Selected
  first : find_first (may_serve (Some given)) choices ≡ Some choice
  bypass : choice.bypass ≡ given.bypass

serves : (given : Assignment) (choices : List Selected) → list_any (λ candidate. candidate == given.bypass) (numbers_of choices) ≡ true → Serves given choices
serves given [] is = absurd (let e = is in cc)
serves given (choice ∷ choices) is = by (choice.bypass == given.bypass) refl (serves given choices)
  where
    behind : (b : Bool) → (choice.bypass == given.bypass) ≡ false → list_any (λ (candidate : ℕ). candidate == given.bypass) (map (λ (choice : Selected). choice.bypass) (cond b (choice ∷ filter has_capacity choices) (filter has_capacity choices))) ≡ true
        → list_any (λ (candidate : ℕ). candidate == given.bypass) (numbers_of choices) ≡ true
    behind true other any = sym (ap (λ b. b || list_any (λ (candidate : ℕ). candidate == given.bypass) (numbers_of choices)) other) ∙ any
    behind false other any = any

    by : (b : Bool) → (choice.bypass == given.bypass) ≡ b → (list_any (λ (candidate : ℕ). candidate == given.bypass) (numbers_of choices) ≡ true → Serves given choices) → Serves given (choice ∷ choices)
    by true own later = record { choice = choice; first = ap (λ b. cond b (Some choice) (find_first (may_serve (Some given)) choices)) own; bypass = eqb-true choice.bypass given.bypass own }
    by false other later =
        let rest = later (behind (has_capacity choice) other is) in
        record { choice = rest.choice; first = ap (λ b. cond b (Some choice) (find_first (may_serve (Some given)) choices)) other ∙ rest.first; bypass = rest.bypass }

-- ---- wishes

-- What the LSP of a reservation asks for.
pub record IsWish (r : Router) (s : State) (key : Key) (resv : ResvFact) (wish : Wish) : Type 0 where
  pub path : PathFact
  pub known : find key_cmp key s.facts.paths ≡ Some path
  pub leaving : leaves_by resv.link path ≡ true
  pub same : wish ≡ record { rate = rate_in resv; bypasses = numbers_of (candidates_of (around_of r s) key path resv) }

pub wished : (r : Router) (s : State) (key : Key) (resv : ResvFact) (wish : Wish) → wish_of r s (key, resv) ≡ Some wish → IsWish r s key resv wish
wished r s key resv wish asks =
    let path = made_of (wish_on (around_of r s) key resv) (find key_cmp key s.facts.paths) wish asks in
    let test = chosen (wants_bandwidth path.0 && leaves_by resv.link path.0) (Some (record { rate = rate_in resv; bypasses = numbers_of (candidates_of (around_of r s) key path.0 resv) })) wish path.2 in
    record { path = path.0; known = path.1; leaving = (and_parts (wants_bandwidth path.0) (leaves_by resv.link path.0) test.0).1; same = sym (same_Some _ wish test.1) }

-- the wish that is found of an LSP is its reservation's
pub record IsAsked (r : Router) (s : State) (key : Key) (wish : Wish) : Type 0 where
  pub resv : ResvFact
  pub reserved : find key_cmp key s.resvs ≡ Some resv
  pub asks : wish_of r s (key, resv) ≡ Some wish

pub found_wish : (r : Router) (s : State) (key : Key) → T (is_sorted key_cmp s.resvs) → find key_cmp key (wishes_of r s) ≡ option_and_then (λ resv. wish_of r s (key, resv)) (find key_cmp key s.resvs)
unfolding wishes_of
found_wish r s key in_order = find-made key_cmp key_total key_exact (wish_of r s) key s.resvs in_order

pub asked : (r : Router) (s : State) (key : Key) (wish : Wish) → T (is_sorted key_cmp s.resvs) → find key_cmp key (wishes_of r s) ≡ Some wish → IsAsked r s key wish
asked r s key wish in_order found =
    let resv = made_of (λ (resv : ResvFact). wish_of r s (key, resv)) (find key_cmp key s.resvs) wish (sym (found_wish r s key in_order) ∙ found) in
    record { resv = resv.0; reserved = resv.1; asks = resv.2 }

pub wishes_sorted : (r : Router) (s : State) → T (is_sorted key_cmp s.resvs) → T (is_sorted key_cmp (wishes_of r s))
unfolding wishes_of
wishes_sorted r s in_order = is_sorted-made key_cmp key_total key_exact (wish_of r s) s.resvs in_order

-- A bypass that an LSP asks for is up, and has bandwidth to promise.
pub record IsAskable (r : Router) (s : State) (number : ℕ) : Type 0 where
  pub up : is_some (over_at (bypass_tunnels_of r s) number) ≡ true
  pub capable : 1 ≤ capacity_in s.facts.bypasses number

pub all_askable : (r : Router) (s : State) (key : Key) (resv : ResvFact) (wish : Wish) → T (is_sorted nat_cmp s.facts.bypasses) → wish_of r s (key, resv) ≡ Some wish → AllByRecursion (IsAskable r s) wish.bypasses
all_askable r s key resv wish in_order asks =
    let is = wished r s key resv wish asks in
    subst (λ (wish : Wish). AllByRecursion (IsAskable r s) wish.bypasses) (sym is.same)
    (all_numbers (IsAskable r s) (candidates_of (around_of r s) key is.path resv)
    (all-weaker (IsWay r s) (λ choice. has_capacity choice ≡ true → IsAskable r s choice.bypass) askable (candidates_of (around_of r s) key is.path resv) (candidates-are r s in_order key is.path resv)))
  where
    some : (n m : ℕ) → n ≡ m → (b : Bool) → (n == 0) ≡ b → not b ≡ true → 1 ≤ m
    some n m same true none has = absurd (let e = has in cc)
    some n m same false is has = let other : n ≢ 0 = eqb-false n 0 is in omega arith

    askable : (choice : Selected) → IsWay r s choice → has_capacity choice ≡ true → IsAskable r s choice.bypass
    askable choice way has = record { up = way.up; capable = some choice.capacity (capacity_in s.facts.bypasses choice.bypass) way.capacity (choice.capacity == 0) refl has }

-- ---- who holds what is promised

module _ (r : Router) (s : State) (may : MayPromise s) where
  -- what is promised anew
  abbrev all : List (Key × Assignment)
  all = assignments_of r s

  abbrev capacity : ℕ → ℕ
  capacity = capacity_in s.facts.bypasses

  -- what is known then, once what a lost link took away is repaired, and once what stands no more went
  abbrev then_repaired : State
  then_repaired = repaired r (assigned_anew r s)

  abbrev then_left : State
  then_left = left_standing r then_repaired

  abbrev then_assigned : State
  then_assigned = assignments_left then_left

  in_use_sorted : T (is_sorted key_cmp (in_use_of s))
  in_use_sorted = is_sorted-where_key key_cmp (is_in_use s) s.assignments may.assignments

  pub shares : AreShares key_cmp capacity (in_use_of s) (wishes_of r s) all
  unfolding assignments_of
  shares = are_assigned key_cmp capacity key_total key_exact s.assignments (in_use_of s) (wishes_of r s) in_use_sorted may.within (wishes_sorted r s may.resvs)

  -- The LSP is repaired over the bypass that it is promised bandwidth of.
  pub record IsRepairedSo (key : Key) (given : Assignment) : Type 0 where
    pub repair : Repair
    pub found : find key_cmp key then_repaired.repairs ≡ Some repair
    pub leaving : leaves s key repair.resv.link ≡ true
    pub rate : rate_in repair.resv ≤ given.rate
    pub bypass : repair.bypass ≡ given.bypass
    pub alone : find key_cmp key (filter (stands s.facts) s.resvs) ≡ None

  -- Or it is reserved for as much, and its reservation stands.
  pub record IsReservedSo (key : Key) (given : Assignment) : Type 0 where
    pub resv : ResvFact
    pub found : find key_cmp key (filter (stands s.facts) s.resvs) ≡ Some resv
    pub rate : rate_in resv ≡ given.rate
    pub asks : AnswersWish key_cmp capacity (wishes_of r s) key given

  -- what is in use is a repair's
  pub record IsUsedBy (key : Key) (given : Assignment) : Type 0 where
    pub repair : Repair
    pub found : find key_cmp key s.repairs ≡ Some repair
    pub leaving : leaves s key repair.resv.link ≡ true
    pub rate : rate_in repair.resv ≤ given.rate
    pub bypass : repair.bypass ≡ given.bypass
    pub capable : 1 ≤ capacity given.bypass
    pub free : find key_cmp key s.resvs ≡ None

  used_by : (key : Key) (given : Assignment) → find key_cmp key (in_use_of s) ≡ Some given → IsUsedBy key given
  used_by key given used =
      let is = found_where (is_in_use s) key given s.assignments used in
      let repair = passed_by (λ (repair : Repair). leaves s key repair.resv.link) (find key_cmp key s.repairs) is.0 in
      let enough : (rate_in repair.0.resv ≤ given.rate) × (repair.0.bypass ≡ given.bypass) × (1 ≤ capacity given.bypass) =
      subst (λ (o : Option Assignment). IfSome o (λ given. (rate_in repair.0.resv ≤ given.rate) × (repair.0.bypass ≡ given.bypass) × (1 ≤ capacity given.bypass))) is.1 (of_found (HasEnough s) key repair.0 s.repairs may.enough repair.1) in
      record {
        repair = repair.0;
        found = repair.1;
        leaving = repair.2;
        rate = enough.0;
        bypass = enough.1;
        capable = enough.2;
        free = of_found (λ (repair : Key × Repair). find key_cmp repair.0 s.resvs ≡ None) key repair.0 s.repairs may.repairs.apart repair.1;
      }

  of_used : (key : Key) (given : Assignment) → IsUsedBy key given → IsRepairedSo key given
  of_used key given is = record {
    repair = is.repair;
    found = old_repair r (assigned_anew r s) may.resvs key is.repair is.free is.found;
    leaving = is.leaving;
    rate = is.rate;
    bypass = is.bypass;
    alone = none-kept (stands s.facts) key s.resvs may.resvs is.free;
  }

  -- an LSP that is reserved and asks for what it is promised is repaired so where its link is down
  of_down : (key : Key) (given : Assignment) (asks : AnswersWish key_cmp capacity (wishes_of r s) key given) → find key_cmp key all ≡ Some given → (is : IsAsked r s key asks.0) → is_up s.facts.up is.resv.link ≡ false → IsRepairedSo key given
  unfolding bypass_tunnels_of selected
  of_down key given asks found is down =
      let wish = wished r s key is.resv asks.0 is.asks in
      let choices = candidates_of (around_of r s) key wish.path is.resv in
      let choice = serves given choices (ap (λ (wish : Wish). is_candidate wish given.bypass) (sym wish.same) ∙ asks.3) in
      let leaving : leaves s key is.resv.link ≡ true = ap (λ (o : Option PathFact). option_map_or (leaves_by is.resv.link) o false) wish.known ∙ wish.leaving in
      record {
        repair = repair_with is.resv choice.choice;
        found = new_repair r (assigned_anew r s) may.resvs key is.resv (repair_with is.resv choice.choice) is.reserved
            (repaired_lost r (assigned_anew r s) key is.resv wish.path choice.choice wish.known wish.leaving down (ap (λ (o : Option Assignment). find_first (may_serve o) choices) found ∙ choice.first));
        leaving = leaving;
        rate = same_le (rate_in is.resv) given.rate (ap (λ (wish : Wish). wish.rate) (sym wish.same) ∙ sym asks.2);
        bypass = choice.bypass;
        alone = down_falls (find key_cmp key (filter (stands s.facts) s.resvs)) refl;
      }
    where
      same_le : (a b : ℕ) → a ≡ b → a ≤ b
      same_le a b same = omega arith

      down_falls : (o : Option ResvFact) → find key_cmp key (filter (stands s.facts) s.resvs) ≡ o → o ≡ None
      down_falls None at = refl
      down_falls (Some resv) at =
          let kept = found_filter (stands s.facts) key resv s.resvs may.resvs at in
          let same : resv ≡ is.resv = same_Some resv is.resv (sym kept.1 ∙ is.reserved) in
          let up : is_up s.facts.up is.resv.link ≡ true = ap (λ (resv : ResvFact). is_up s.facts.up resv.link) (sym same) ∙ (and_parts (is_up s.facts.up resv.link) (leaves s key resv.link) kept.0).0 in
          absurd (let e = sym down ∙ up in cc)

  of_up : (key : Key) (given : Assignment) (asks : AnswersWish key_cmp capacity (wishes_of r s) key given) → (is : IsAsked r s key asks.0) → is_up s.facts.up is.resv.link ≡ true → IsReservedSo key given
  of_up key given asks is up =
      let wish = wished r s key is.resv asks.0 is.asks in
      let leaving : leaves s key is.resv.link ≡ true = ap (λ (o : Option PathFact). option_map_or (leaves_by is.resv.link) o false) wish.known ∙ wish.leaving in
      record {
        resv = is.resv;
        found = passes_filter (stands s.facts) key is.resv s.resvs may.resvs is.reserved (ap (λ (b : Bool). b && leaves s key is.resv.link) up ∙ leaving);
        rate = ap (λ (wish : Wish). wish.rate) (sym wish.same) ∙ sym asks.2;
        asks = asks;
      }

  -- Whoever is promised bandwidth is repaired over that bypass, or reserved.
  pub holder : (key : Key) (given : Assignment) → find key_cmp key all ≡ Some given → IsRepairedSo key given ⊎ IsReservedSo key given
  holder key given found = ⊎_elim (λ used. inl (of_used key given (used_by key given used))) of_asked (shares.answers key given found)
    where
      of_asked : AnswersWish key_cmp capacity (wishes_of r s) key given → IsRepairedSo key given ⊎ IsReservedSo key given
      of_asked asks = by (is_up s.facts.up is.resv.link) refl
        where
          is : IsAsked r s key asks.0
          is = asked r s key asks.0 may.resvs asks.1

          by : (b : Bool) → is_up s.facts.up is.resv.link ≡ b → IsRepairedSo key given ⊎ IsReservedSo key given
          by true up = inr (of_up key given asks is up)
          by false down = inl (of_down key given asks found is down)

  -- Its bypass has bandwidth to promise.
  capable : (key : Key) (given : Assignment) → find key_cmp key all ≡ Some given → 1 ≤ capacity given.bypass
  capable key given found =
      ⊎_elim (λ used. (used_by key given used).capable)
      (λ (asks : AnswersWish key_cmp capacity (wishes_of r s) key given).
      let is = asked r s key asks.0 may.resvs asks.1 in
      of_candidate (λ number. 1 ≤ capacity number) given.bypass asks.0.bypasses (all-weaker (IsAskable r s) (λ number. 1 ≤ capacity number) (λ number ask. ask.capable) asks.0.bypasses (all_askable r s key is.resv asks.0 may.bypasses is.asks)) asks.3)
      (shares.answers key given found)

  -- ---- what is left of it

  -- reservations stand in order still
  pub left_resvs : T (is_sorted key_cmp (filter (stands s.facts) s.resvs))
  left_resvs = is_sorted-filter key_cmp (stands s.facts) s.resvs may.resvs

  -- what is left is promised to an LSP that is held
  pub still_held : (key : Key) (given : Assignment) → find key_cmp key then_assigned.assignments ≡ Some given → (is_held then_left key ≡ true) × (find key_cmp key all ≡ Some given)
  unfolding repaired repairs_left
  still_held key given found = found_where (is_held then_left) key given all found

  pub repairs_sorted : T (is_sorted key_cmp then_repaired.repairs)
  unfolding repaired
  repairs_sorted = is_sorted-edited key_cmp key_total (map put_repair (new_repairs r (assigned_anew r s))) s.repairs may.repairs.in_order

  assignments_sorted : T (is_sorted key_cmp then_assigned.assignments)
  unfolding repaired repairs_left
  assignments_sorted = is_sorted-where_key key_cmp (is_held then_left) all shares.in_order

  -- what is promised to an LSP that is held is left
  pub held_kept : (key : Key) (given : Assignment) → is_held then_left key ≡ true → find key_cmp key all ≡ Some given → find key_cmp key then_assigned.assignments ≡ Some given
  unfolding repaired repairs_left
  held_kept key given held found = find-touched key_cmp key_total key_exact (is_held then_left) key all held ∙ found

  -- an LSP that is repaired so, and held at the end, is repaired so at the end
  pub still_repaired : (key : Key) (given : Assignment) (is : IsRepairedSo key given) → is_held then_left key ≡ true → find key_cmp key then_left.repairs ≡ Some is.repair
  unfolding repaired repairs_left
  still_repaired key given is held = by (find key_cmp key then_left.repairs) refl
    where
      by : (o : Option Repair) → find key_cmp key then_left.repairs ≡ o → o ≡ Some is.repair
      by None none = absurd (let e = sym held ∙ ap (λ (o : Option ResvFact). is_some o || is_some (find key_cmp key then_left.repairs)) is.alone ∙ ap is_some none in cc)
      by (Some repair) at = sym (found_filter (repair_stands r (resvs_left then_repaired)) key repair then_repaired.repairs repairs_sorted at).1 ∙ is.found

  held_all : AllByRecursion (IsHolding then_assigned) then_assigned.assignments
  unfolding repaired repairs_left
  held_all = all-from_find key_cmp key_total (IsHolding then_assigned) then_assigned.assignments assignments_sorted holding
    where
      holding : (key : Key) (given : Assignment) → find key_cmp key then_assigned.assignments ≡ Some given → IsHolding then_assigned (key, given)
      holding key given found =
          let still = still_held key given found in
          ⊎_elim (λ (is : IsRepairedSo key given). inr (is.repair, still_repaired key given is still.0, is.rate, is.bypass)) (λ (is : IsReservedSo key given). inl (is.resv, is.found, is.rate)) (holder key given still.1)

  capable_all : AllByRecursion (IsOfCapacity s.facts.bypasses) then_assigned.assignments
  capable_all = all-from_find key_cmp key_total (IsOfCapacity s.facts.bypasses) then_assigned.assignments assignments_sorted (λ key given found. capable key given (still_held key given found).1)

  -- no bypass has promised more than it has
  pub within_left : IsWithin key_cmp capacity then_assigned.assignments
  within_left number =
      le_trans (assigned_of-among key_cmp key_total number then_assigned.assignments all assignments_sorted shares.in_order (λ key given found. (still_held key given found).1)) (shares.within number)

  -- A repair that is left stands: its path leaves by the link that was lost, and its bypass is up.
  pub record IsStandingRepair (key : Key) (repair : Repair) : Type 0 where
    pub found : find key_cmp key then_repaired.repairs ≡ Some repair
    pub leaving : leaves s key repair.resv.link ≡ true
    pub held : is_held then_left key ≡ true

  standing_repair : (key : Key) (repair : Repair) → find key_cmp key then_left.repairs ≡ Some repair → IsStandingRepair key repair
  unfolding repaired repairs_left
  standing_repair key repair found =
      let is = found_filter (repair_stands r (resvs_left then_repaired)) key repair then_repaired.repairs repairs_sorted found in
      let parts = and_parts (is_some (over_at (bypass_tunnels_of r (resvs_left then_repaired)) repair.bypass)) (leaves s key repair.resv.link) is.0 in
      record { found = is.1; leaving = parts.1; held = or_held (is_some (find key_cmp key then_left.resvs)) (is_some (find key_cmp key then_left.repairs)) (ap is_some found) }
    where
      or_held : (a b : Bool) → b ≡ true → (a || b) ≡ true
      or_held true b is = refl
      or_held false b is = is

  -- it takes no bandwidth that its LSP wasn't promised
  served_left : AllByRecursion (IsServed then_assigned) then_left.repairs
  unfolding repaired repairs_left bypass_tunnels_of selected
  served_left = all-from_find key_cmp key_total (IsServed then_assigned) then_left.repairs left_sorted (λ key repair found. serves_it key repair (standing_repair key repair found))
    where
      left_sorted : T (is_sorted key_cmp then_left.repairs)
      left_sorted = is_sorted-filter key_cmp (repair_stands r (resvs_left then_repaired)) then_repaired.repairs repairs_sorted

      -- one of before
      old : (key : Key) (repair : Repair) → IsStandingRepair key repair → find key_cmp key s.repairs ≡ Some repair → IsServed then_assigned (key, repair)
      old key repair is was =
          let used : is_in_use s key ≡ true = ap (λ (o : Option Repair). option_map_or (λ (repair : Repair). leaves s key repair.resv.link) o false) was ∙ is.leaving in
          ⊎_elim inl (λ (given : (given : Assignment) × (find key_cmp key s.assignments ≡ Some given) × (given.bypass ≡ repair.bypass)).
          inr (given.0, held_kept key given.0 is.held (shares.kept key given.0 (find-touched key_cmp key_total key_exact (is_in_use s) key s.assignments used ∙ given.1)), given.2))
          (of_found (IsServed s) key repair s.repairs may.served was)

      -- a new one
      new : (key : Key) (repair : Repair) → IsStandingRepair key repair → IsNewRepair r (assigned_anew r s) may.resvs key repair → IsServed then_assigned (key, repair)
      new key repair is made = by (find key_cmp key all) refl lost_so.selects
        where
          lost_so : IsLost r (assigned_anew r s) key made.resv repair
          lost_so = lost r (assigned_anew r s) key made.resv repair made.made

          choices : List Selected
          choices = candidates_of (around_of r s) key lost_so.path made.resv

          same : repair.bypass ≡ lost_so.choice.bypass
          same = ap (λ (repair : Repair). repair.bypass) lost_so.made_with

          by : (o : Option Assignment) → find key_cmp key all ≡ o → find_first (may_serve o) choices ≡ Some lost_so.choice → IsServed then_assigned (key, repair)
          by None none first =
              let way : IsWay r s lost_so.choice = subst (λ (o : Option Selected). IfSome o (IsWay r s)) first (find-holds (IsWay r s) (may_serve None) choices (candidates-are r s may.bypasses key lost_so.path made.resv)) in
              let passes : may_serve None lost_so.choice ≡ true = subst (λ (o : Option Selected). IfSome o (λ choice. may_serve None choice ≡ true)) first (find-passes (may_serve None) choices) in
              inl (ap capacity same ∙ sym way.capacity ∙ eqb-true lost_so.choice.capacity 0 passes)
          by (Some given) some first =
              let passes : may_serve (Some given) lost_so.choice ≡ true = subst (λ (o : Option Selected). IfSome o (λ choice. may_serve (Some given) choice ≡ true)) first (find-passes (may_serve (Some given)) choices) in
              inr (given, held_kept key given is.held some, sym (same ∙ eqb-true lost_so.choice.bypass given.bypass passes))

      serves_it : (key : Key) (repair : Repair) → IsStandingRepair key repair → IsServed then_assigned (key, repair)
      serves_it key repair is = ⊎_elim (old key repair is) (new key repair is) (old_or_new r (assigned_anew r s) may.resvs key repair is.found)

  -- The bandwidth of bypasses is promised as it should be.
  pub assigned-left : AreAssigned then_assigned
  unfolding repaired repairs_left
  assigned-left = record { in_order = assignments_sorted; held = held_all; capable = capable_all; within = within_left; served = served_left }
