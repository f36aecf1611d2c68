-- What a step promises of bypasses: what is in use stays, and who asks and is promised none finds no room beside what came before.
use Rattle.std.specs.Prelude.{◌≡◌, ◌≢◌, ◌⊎◌, ℕ, ◌+◌, ◌<◌, ◌≤◌, ◌==◌, ◌&&◌, ◌||◌, not, Bool, true, false, cond, if◌then◌else◌, T, List, [], ◌∷◌, filter, Option, Some, None, is_some, option_to_list}
use Rattle.std.specs.FinMap.Entries.{find, is_sorted, is_sorted-where_key}
use Rattle.std.specs.List.{AllByRecursion, list_any}
use Rattle.std.specs.Option.{option_and_then, option_map_or}
use Rattle.std.specs.Ordering.{is_lt}
use Rattle.std.specs.declared.cmp.Ordering.{Ordering}
use Rattle.std.specs.declared.cmp.Ordering.TheVariants.{Less}
use Rattle.std.proofs.Common.{refl, ap, sym, subst, ◌∙◌, inl, inr, ⊎_elim, arith}
use Rattle.std.proofs.Math.Bool.{or-true}
use Rattle.std.proofs.lemmas.Bool.{and_parts, cond_both, eq-eqb, eqb-true, leb-false, or_parts}
use Rattle.std.proofs.lemmas.List.Sums.{sum_by-cons}
use Rattle.sorted_rows.specs.ListLaws.{all-weaker, filter-all_pass}
use Rattle.sorted_rows.specs.RowsLaws.{all_found, is_sorted-filter}
use Rattle.lsr_facts.specs.OrderLaws.{key_exact, key_total}
use Rattle.lsr_facts.specs.Orders.{key_cmp}
use Rattle.lsr_facts.specs.Reservations.{expire_resvs, resv_lives_past}
use Rattle.lsr_facts.specs.Routers.{IsRouter}
use Rattle.lsr_facts.specs.declared.assignment.Assignment.{Assignment}
use Rattle.lsr_facts.specs.declared.key.Key.{Key}
use Rattle.lsr_facts.specs.declared.repair.BypassTunnel.{BypassTunnel}
use Rattle.lsr_facts.specs.declared.repair.Repair.{Repair}
use Rattle.lsr_facts.specs.declared.refusal.Refusal.TheVariants.{InUse}
use Rattle.lsr_facts.specs.declared.resv_fact.ResvFact.{ResvFact}
use Rattle.lsr_facts.specs.declared.router.Router.{Router}
use Rattle.bypass_shares.specs.Shares.{AnswersWish, assigned_of, has_room, is_candidate, taken_of}
use Rattle.bypass_shares.specs.SumLaws.{assigned_of-among}
use Rattle.bypass_shares.specs.declared.wish.Wish.{Wish}
use Rattle.abstract_paths.specs.declared.commands.Command.{Command}
use Rattle.abstract_paths.specs.declared.events.Event.{Event}
use Rattle.abstract_paths.specs.declared.events.Event.TheVariants as events
use Rattle.abstract_paths.specs.declared.events.Made.{Made}
use Rattle.abstract_paths.specs.Commands.{begun_by, command}
use Rattle.abstract_paths.specs.Places.{is_up}
use Rattle.abstract_paths.specs.TouchedLaws.{find-touched}
use Rattle.abstract_paths.specs.Time.{tick}
use Rattle.abstract_router.specs.Arrivals.{arrival, command_comes, moment_comes, outcome, takes_used_bypass}
use Rattle.abstract_router.specs.Assigning.{assigned_anew, assignments_left, assignments_of, capacity_in, in_use_of, is_in_use, wish_of, wish_on, wishes_of}
use Rattle.abstract_router.specs.BypassTunnels.{bypass_tunnels_of, over_at}
use Rattle.abstract_router.specs.Outcomes.{Outcome, of_paths, refused}
use Rattle.abstract_router.specs.Repairing.{repair_stands, repaired, repairs_left}
use Rattle.abstract_router.specs.Soundness.{IsSound}
use Rattle.abstract_router.specs.Standing.{stands}
use Rattle.abstract_router.specs.States.{State, is_held, is_one_of, is_reserved}
use Rattle.abstract_router.specs.Steps.{Step, left_standing, resvs_left, settled, taken_over, with_moments}
use Rattle.router_soundness.proofs.Assigning.{IsAskable, IsRepairedSo, IsReservedSo, MayPromise, all_askable, asked, assigned-left, found_wish, held_kept, holder, left_resvs, repairs_sorted, shares, still_held, wishes_sorted}
use Rattle.router_soundness.proofs.AssigningRepairs.{IsNewRepair, found_filter, found_where, leaves, lost, of_found, old_or_new, passes_filter}
use Rattle.router_soundness.proofs.AssigningStands.{stands_step}
use Rattle.router_soundness.proofs.AssigningTaken.{may_promise}
use Rattle.router_soundness.proofs.AssigningWays.{tunnels-left}
use Rattle.router_soundness.proofs.Drafting.{outcome-leaves}
use Rattle.router_soundness.proofs.Running.{sound_step}
use Rattle.router_soundness.proofs.Settling.{LeavesBy}
use Rattle.router_soundness.proofs.Silence.{silent_keeps}
use Rattle.router_soundness.specs.Assigned.{AreStanding}
use Rattle.router_soundness.specs.Drafted.{IsDrafted}
use Rattle.router_laws.specs.Promises.{came_before}
use Rattle.router_laws.proofs.KeptPromises.{shares_standing}
use Rattle.router_laws.proofs.Settled.{none_of_fewer, runs_for}
use Rattle.router_laws.proofs.Touching.{Keeps, arrival-keeps}
use Rattle.router_laws.proofs.Turns.{IsTurn, in_turn}

-- ---- of lists

-- a test that none passes isn't passed by one of them
none_of : (p : ℕ → Bool) (number : ℕ) (numbers : List ℕ) → list_any p numbers ≡ false → list_any (λ candidate. candidate == number) numbers ≡ true → p number ≡ false
none_of p number [] none is = absurd (let e = is in cc)
none_of p number (n ∷ ns) none is = by (n == number) refl (none_of p number ns parts.1) is
  where
    parts : (p n ≡ false) × (list_any p ns ≡ false)
    parts = or_parts (p n) (list_any p ns) none

    by : (b : Bool) → (n == number) ≡ b → (list_any (λ candidate. candidate == number) ns ≡ true → p number ≡ false) → (b || list_any (λ candidate. candidate == number) ns) ≡ true → p number ≡ false
    by true same rest any = ap p (sym (eqb-true n number same)) ∙ parts.0
    by false other rest any = rest any

-- what holds of each holds of one of them
of_one : (P : ℕ → Type 0) (number : ℕ) (numbers : List ℕ) → AllByRecursion P numbers → list_any (λ candidate. candidate == number) numbers ≡ true → P number
of_one P number [] all is = absurd (let e = is in cc)
of_one P number (n ∷ ns) all is = by (n == number) refl (of_one P number ns all.1) is
  where
    by : (b : Bool) → (n == number) ≡ b → (list_any (λ candidate. candidate == number) ns ≡ true → P number) → (b || list_any (λ candidate. candidate == number) ns) ≡ true → P number
    by true same rest any = subst P (eqb-true n number same) all.0
    by false other rest any = rest any

-- rows that take nothing may be left out
none_more : (a b taken whole : ℕ) → a ≡ b → taken ≡ 0 → whole ≡ taken + b → a ≡ whole
none_more a b taken whole same nothing sum = omega arith

own_rows : (number : ℕ) (pairs : List (Key × Assignment)) → assigned_of number (filter (λ pair. pair.1.bypass == number) pairs) ≡ assigned_of number pairs
own_rows number [] = refl
own_rows number (pair ∷ pairs) = by (pair.1.bypass == number) refl (own_rows number pairs)
  where
    rest : List (Key × Assignment)
    rest = filter (λ pair. pair.1.bypass == number) pairs

    front : (rows : List (Key × Assignment)) → assigned_of number (pair ∷ rows) ≡ taken_of number pair.1 + assigned_of number rows
    front rows = sum_by-cons (λ (row : Key × Assignment). taken_of number row.1) pair rows

    by : (b : Bool) → (pair.1.bypass == number) ≡ b → assigned_of number rest ≡ assigned_of number pairs → assigned_of number (cond b (pair ∷ rest) rest) ≡ assigned_of number (pair ∷ pairs)
    by true own same = front rest ∙ ap (λ (n : ℕ). taken_of number pair.1 + n) same ∙ sym (front pairs)
    by false other same = none_more _ _ (taken_of number pair.1) _ same (ap (λ (b : Bool). cond b pair.1.rate 0) other) (front pairs)

-- the step of the law on room
less_room : (most before all rate : ℕ) → most < before + rate → before ≤ all → most < all + rate
less_room most before all rate p q = omega arith

-- ---- at the end of a step

module _ (r : Router) (s : State) (may : MayPromise s) where
  abbrev all : List (Key × Assignment)
  all = assignments_of r s

  abbrev capacity : ℕ → ℕ
  capacity = capacity_in s.facts.bypasses

  abbrev then_repaired : State
  then_repaired = repaired r (assigned_anew r s)

  abbrev then_left : State
  then_left = left_standing r then_repaired

  abbrev then_assigned : State
  then_assigned = assignments_left then_left

  -- bypasses run over the same at the end
  same_tunnels : bypass_tunnels_of r then_assigned ≡ bypass_tunnels_of r s
  unfolding repaired repairs_left bypass_tunnels_of
  same_tunnels = tunnels-left r s may.resvs

  -- so an LSP that is reserved still asks for the same
  same_wish : (key : Key) (resv : ResvFact) → wish_of r then_assigned (key, resv) ≡ wish_of r s (key, resv)
  unfolding repaired repairs_left
  same_wish key resv =
      ap (λ (tunnels : List (ℕ × BypassTunnel)). option_and_then (wish_on (record { place = record { router = r; up = s.facts.up; routes = s.facts.routes }; bypass_tunnels = tunnels }) key resv) (find key_cmp key s.facts.paths)) same_tunnels

  -- What is promised of a bypass that is up is so at the end.
  still_there : (key : Key) (given : Assignment) → find key_cmp key all ≡ Some given → is_some (over_at (bypass_tunnels_of r s) given.bypass) ≡ true → find key_cmp key then_assigned.assignments ≡ Some given
  unfolding repaired repairs_left bypass_tunnels_of
  still_there key given found up = held_kept r s may key given (⊎_elim of_repaired of_reserved (holder r s may key given found)) found
    where
      of_reserved : IsReservedSo r s may key given → is_held then_left key ≡ true
      of_reserved is = ap (λ (o : Option ResvFact). is_some o || is_some (find key_cmp key then_left.repairs)) is.found

      of_repaired : IsRepairedSo r s may key given → is_held then_left key ≡ true
      of_repaired is =
          let stood : repair_stands r (resvs_left then_repaired) (key, is.repair) ≡ true =
          ap (λ (b : Bool). b && leaves s key is.repair.resv.link) (ap (λ (tunnels : List (ℕ × BypassTunnel)). is_some (over_at tunnels is.repair.bypass)) same_tunnels ∙ ap (λ (n : ℕ). is_some (over_at (bypass_tunnels_of r s) n)) is.bypass ∙ up) ∙ is.leaving in
          let kept = passes_filter (repair_stands r (resvs_left then_repaired)) key is.repair then_repaired.repairs (repairs_sorted r s may) is.found stood in
          ap (λ (o : Option ResvFact). is_some o || is_some (find key_cmp key then_left.repairs)) is.alone ∙ ap is_some kept

  -- What an LSP asks for at the end it asked for before promises were made; it is held at the end, and its bypasses are up.
  record IsAskedBefore (key : Key) (wish : Wish) : Type 0 where
    before : find key_cmp key (wishes_of r s) ≡ Some wish
    held : is_held then_left key ≡ true
    askable : AllByRecursion (IsAskable r s) wish.bypasses

  asked_before : (key : Key) (wish : Wish) → find key_cmp key (wishes_of r then_assigned) ≡ Some wish → IsAskedBefore key wish
  unfolding repaired repairs_left
  asked_before key wish found =
      let is = asked r then_assigned key wish (left_resvs r s may) found in
      let was = found_filter (stands s.facts) key is.resv s.resvs may.resvs is.reserved in
      let asks = sym (same_wish key is.resv) ∙ is.asks in
      record {
        before = found_wish r s key may.resvs ∙ ap (option_and_then (λ (resv : ResvFact). wish_of r s (key, resv))) was.1 ∙ asks;
        held = ap (λ (o : Option ResvFact). is_some o || is_some (find key_cmp key then_left.repairs)) is.reserved;
        askable = all_askable r s key is.resv wish may.bypasses asks;
      }

  -- An LSP that asks and is promised none finds no room beside what came before.
  module _ (before : State) (same : s.assignments ≡ before.assignments) (key : Key) (wish : Wish) (number : ℕ) (asks : IsAskedBefore key wish) (none : find key_cmp key then_assigned.assignments ≡ None) (candidate : is_candidate wish number ≡ true) where
    turn : IsTurn key_cmp capacity key_total key_exact s.assignments key all wish
    unfolding assignments_of repaired repairs_left
    turn =
        in_turn key_cmp capacity key_total key_exact s.assignments key (in_use_of s) (wishes_of r s) (is_sorted-where_key key_cmp (is_in_use s) s.assignments may.assignments) may.within
        (λ k given found. (found_where (is_in_use s) k given s.assignments found).1) (wishes_sorted r s may.resvs) wish asks.before
        (sym (find-touched key_cmp key_total key_exact (is_held then_left) key all asks.held) ∙ none)

    abbrev mine : List (Key × Assignment)
    mine = filter (λ pair. pair.1.bypass == number) turn.pairs

    abbrev earlier : List (Key × Assignment)
    earlier = filter (came_before before key) then_assigned.assignments

    sorted : T (is_sorted key_cmp then_assigned.assignments)
    sorted = (assigned-left r s may).in_order

    -- what came before it passes the test
    passes : (q : Key) (given : Assignment) → find key_cmp q turn.pairs ≡ Some given → came_before before key (q, given) ≡ true
    passes q given found =
        ⊎_elim
        (λ (had : (had : Assignment) × (find key_cmp q s.assignments ≡ Some had) × (had.bypass ≡ given.bypass)).
        ap (λ (b : Bool). b || is_lt (key_cmp q key))
        (ap (λ (o : Option Assignment). option_map_or (λ had. had.bypass == given.bypass) o false) (ap (λ (rows : List (Key × Assignment)). find key_cmp q rows) (sym same) ∙ had.1) ∙ eq-eqb had.0.bypass given.bypass had.2))
        (λ (less : key_cmp q key ≡ Less).
        ap (λ (o : Ordering). option_map_or (λ had. had.bypass == given.bypass) (find key_cmp q before.assignments) false || is_lt o) less
        ∙ or-true (option_map_or (λ (had : Assignment). had.bypass == given.bypass) (find key_cmp q before.assignments) false))
        (turn.came q given found)

    there : (q : Key) (given : Assignment) → find key_cmp q mine ≡ Some given → find key_cmp q earlier ≡ Some given
    there q given found =
        let its = found_filter (λ (pair : Key × Assignment). pair.1.bypass == number) q given turn.pairs turn.in_order found in
        let up = (of_one (IsAskable r s) number wish.bypasses asks.askable candidate).up in
        passes_filter (came_before before key) q given then_assigned.assignments sorted
        (still_there q given (turn.among q given its.1) (ap (λ (n : ℕ). is_some (over_at (bypass_tunnels_of r s) n)) (eqb-true given.bypass number its.0) ∙ up)) (passes q given its.1)

    no_room : capacity number < assigned_of number earlier + wish.rate
    no_room =
        less_room (capacity number) (assigned_of number turn.pairs) (assigned_of number earlier) wish.rate
        (leb-false (assigned_of number turn.pairs + wish.rate) (capacity number) (none_of (has_room key_cmp capacity turn.pairs wish.rate) number wish.bypasses turn.refused candidate))
        (subst (λ (n : ℕ). n ≤ assigned_of number earlier) (own_rows number turn.pairs)
        (assigned_of-among key_cmp key_total number mine earlier (is_sorted-filter key_cmp (λ (pair : Key × Assignment). pair.1.bypass == number) turn.pairs turn.in_order) (is_sorted-filter key_cmp (came_before before key) then_assigned.assignments sorted) there))

  -- An LSP whose repair is one of before, and is left, is promised what it was.
  module _ (key : Key) (repair : Repair) (old : find key_cmp key s.repairs ≡ Some repair) (left : find key_cmp key then_left.repairs ≡ Some repair) where
    leaving : leaves s key repair.resv.link ≡ true
    unfolding repaired repairs_left
    leaving =
        (and_parts (is_some (over_at (bypass_tunnels_of r (resvs_left then_repaired)) repair.bypass)) (leaves s key repair.resv.link)
        (found_filter (repair_stands r (resvs_left then_repaired)) key repair then_repaired.repairs (repairs_sorted r s may) left).0).1

    in_use : find key_cmp key (in_use_of s) ≡ find key_cmp key s.assignments
    in_use = find-touched key_cmp key_total key_exact (is_in_use s) key s.assignments (ap (λ (o : Option Repair). option_map_or (λ (repair : Repair). leaves s key repair.resv.link) o false) old ∙ leaving)

    held : is_held then_left key ≡ true
    held = ap (λ (o : Option Repair). is_some (find key_cmp key then_left.resvs) || is_some o) left ∙ or-true (is_some (find key_cmp key then_left.resvs))

    -- it asks for nothing
    asks_nothing : (given : Assignment) → AnswersWish key_cmp capacity (wishes_of r s) key given → ⊥
    asks_nothing given asks =
        let reserved = (asked r s key asks.0 may.resvs asks.1).reserved in
        let free = of_found (λ (repair : Key × Repair). find key_cmp repair.0 s.resvs ≡ None) key repair s.repairs may.repairs.apart old in
        let e = sym free ∙ reserved in cc

    still_promised : find key_cmp key then_assigned.assignments ≡ find key_cmp key s.assignments
    still_promised = by (find key_cmp key s.assignments) refl
      where
        by_none : find key_cmp key s.assignments ≡ None → (o : Option Assignment) → find key_cmp key then_assigned.assignments ≡ o → o ≡ None
        by_none none None is = refl
        by_none none (Some given) is =
            absurd (⊎_elim (λ (used : find key_cmp key (in_use_of s) ≡ Some given). let e = sym none ∙ sym in_use ∙ used in cc) (asks_nothing given) ((shares r s may).answers key given (still_held r s may key given is).1))

        by : (o : Option Assignment) → find key_cmp key s.assignments ≡ o → find key_cmp key then_assigned.assignments ≡ o
        by None none = by_none none (find key_cmp key then_assigned.assignments) refl
        by (Some given) some = held_kept r s may key given held ((shares r s may).kept key given (in_use ∙ some))

-- ---- what events do of themselves

module _ (r : Router) (s : State) (key : Key) where
  -- neither a moment nor a command reserves
  tick_fewer : (n : ℕ) → is_reserved s key ≡ false → is_reserved (moment_comes r s n).after key ≡ false
  unfolding moment_comes expire_resvs
  tick_fewer n none =
      let o = of_paths s (tick r s.facts n) in
      cond_both o.is_silent o _ (λ (o : Outcome). is_reserved o.after key ≡ false) (λ silent. none) (λ heard. none_of_fewer (λ resv. resv_lives_past n resv.1) key s.resvs none)

  command_fewer : (c : Command) → is_reserved s key ≡ false → is_reserved (command_comes r s c).after key ≡ false
  unfolding command_comes
  command_fewer c none =
      let o = of_paths s (command r s.facts c) in
      cond_both o.is_silent o _ (λ (o : Outcome). is_reserved o.after key ≡ false) (λ silent. none)
      (λ heard. cond_both (takes_used_bypass s c) (refused s InUse) _ (λ (o : Outcome). is_reserved o.after key ≡ false) (λ used. none)
      (λ other. none_of_fewer (λ resv. not (is_one_of (option_to_list (begun_by r s.facts c)) resv.0)) key s.resvs none))

  -- An LSP that isn't reserved is reserved by no event over a link that is down.
  none_lost : IsSound r s → (event : Event) (resv : ResvFact) → find key_cmp key s.resvs ≡ None → find key_cmp key (outcome r s event).after.resvs ≡ Some resv → is_up (outcome r s event).after.facts.up resv.link ≡ false → ⊥
  none_lost is (events.Arrive a) resv free reserved down =
      let keeps : Keeps (λ k. true) s (arrival r s a).after = arrival-keeps r (λ k. true) s is a (λ k apart. absurd (let e = apart in cc)) in
      let up : is_up (arrival r s a).after.facts.up resv.link ≡ true = of_found (λ (row : Key × ResvFact). is_up (arrival r s a).after.facts.up row.1.link ≡ true) key resv (arrival r s a).after.resvs keeps.over_up reserved in
      let e = sym down ∙ up in cc
  none_lost is (events.Relay m) resv free reserved down = let e = sym free ∙ reserved in cc
  none_lost is (events.Tick n) resv free reserved down = let e = sym (tick_fewer n (ap is_some free)) ∙ ap is_some reserved in cc
  none_lost is (events.LinkUp number) resv free reserved down = let e = sym free ∙ reserved in cc
  none_lost is (events.LinkDown number) resv free reserved down = let e = sym free ∙ reserved in cc
  none_lost is (events.Command c) resv free reserved down = let e = sym (command_fewer c (ap is_some free)) ∙ ap is_some reserved in cc
  none_lost is events.Restart resv free reserved down = let e = reserved in cc
  none_lost is events.Start resv free reserved down = let e = sym free ∙ reserved in cc

-- What a silent event leaves: all that was promised, or neither reservations nor repairs.
abbrev LeavesPromises : State → State → Type 0
LeavesPromises before after = (after.assignments ≡ before.assignments) ⊎ ((after.resvs ≡ []) × (after.repairs ≡ []))

silent_leaves : (r : Router) (s : State) (event : Event) → (s.facts.cold ≡ true → event ≡ events.Start) → (outcome r s event).is_silent ≡ true → LeavesPromises s (outcome r s event).after
silent_leaves r s event awake silent = by event awake silent
  where
    kept : (event : Event) → (event ≡ events.Start → ⊥) → event ≢ events.Restart → (s.facts.cold ≡ true → event ≡ events.Start) → (outcome r s event).is_silent ≡ true → LeavesPromises s (outcome r s event).after
    kept event no_start other awake silent = inl (ap (λ (t : State). t.assignments) (silent_keeps r s event (runs_for s.facts.cold event no_start awake) other silent))

    by : (event : Event) → (s.facts.cold ≡ true → event ≡ events.Start) → (outcome r s event).is_silent ≡ true → LeavesPromises s (outcome r s event).after
    by (events.Arrive a) = kept (events.Arrive a) (λ e. cc) (λ e. cc)
    by (events.Relay m) = kept (events.Relay m) (λ e. cc) (λ e. cc)
    by (events.Tick n) = kept (events.Tick n) (λ e. cc) (λ e. cc)
    by (events.LinkUp number) = kept (events.LinkUp number) (λ e. cc) (λ e. cc)
    by (events.LinkDown number) = kept (events.LinkDown number) (λ e. cc) (λ e. cc)
    by (events.Command c) = kept (events.Command c) (λ e. cc) (λ e. cc)
    by events.Restart = λ awake silent. inr (refl, refl)
    by events.Start = λ awake silent. inl refl

-- ---- a step

-- one that isn't silent
module _ (r : Router) (before : State) (is : IsSound r before) (o : Outcome) (drafted : IsDrafted r before o.after) (chosen : List (Key × ℕ)) where
  abbrev over : State
  over = taken_over r o.after

  abbrev after_all : State
  after_all = with_moments r before o (settled r chosen o.after)

  may : MayPromise over
  may = may_promise r before o.after is drafted

  same : over.assignments ≡ before.assignments
  unfolding taken_over
  same = drafted.assignments

  heard_stays : (key : Key) (now : Repair) → ((resv : ResvFact) → find key_cmp key o.after.resvs ≡ Some resv → is_up o.after.facts.up resv.link ≡ false → ⊥) → find key_cmp key after_all.repairs ≡ Some now → find key_cmp key after_all.assignments ≡ find key_cmp key before.assignments
  unfolding taken_over repaired repairs_left
  heard_stays key now never left = still_promised r over may key now old left ∙ ap (find key_cmp key) same
    where
      mid : State
      mid = repaired r (assigned_anew r over)

      found : find key_cmp key mid.repairs ≡ Some now
      found = (found_filter (repair_stands r (resvs_left mid)) key now mid.repairs (repairs_sorted r over may) left).1

      is_new : IsNewRepair r (assigned_anew r over) may.resvs key now → ⊥
      is_new new = never new.resv new.reserved (lost r (assigned_anew r over) key new.resv now new.made).down

      old : find key_cmp key over.repairs ≡ Some now
      old = ⊎_elim (λ was. was) (λ new. absurd (is_new new)) (old_or_new r (assigned_anew r over) may.resvs key now found)

  heard_in_turn : (key : Key) (wish : Wish) (number : ℕ) → find key_cmp key (wishes_of r after_all) ≡ Some wish → find key_cmp key after_all.assignments ≡ None → is_candidate wish number ≡ true
      → capacity_in after_all.facts.bypasses number < assigned_of number (filter (came_before before key) after_all.assignments) + wish.rate
  unfolding repaired repairs_left wishes_of bypass_tunnels_of
  heard_in_turn key wish number found none candidate = no_room r over may before same key wish number (asked_before r over may key wish found) none candidate

-- and one after which the same is promised
silent_in_turn : (r : Router) (before after : State) → IsSound r after → AreStanding r after → after.assignments ≡ before.assignments → (key : Key) (wish : Wish) (number : ℕ) → find key_cmp key (wishes_of r after) ≡ Some wish → find key_cmp key after.assignments ≡ None
    → is_candidate wish number ≡ true → capacity_in after.facts.bypasses number < assigned_of number (filter (came_before before key) after.assignments) + wish.rate
silent_in_turn r before after sound standing same key wish number found none candidate =
    subst (λ (rows : List (Key × Assignment)). capacity_in after.facts.bypasses number < assigned_of number rows + wish.rate) (sym all_came)
    (leb-false (assigned_of number after.assignments + wish.rate) (capacity_in after.facts.bypasses number)
    (none_of (has_room key_cmp (capacity_in after.facts.bypasses) after.assignments wish.rate) number wish.bypasses ((shares_standing r after sound standing).refused key wish found none) candidate))
  where
    own : (row : Key × Assignment) → find key_cmp row.0 after.assignments ≡ Some row.1 → came_before before key row ≡ true
    own row at =
        ap (λ (b : Bool). b || is_lt (key_cmp row.0 key))
        (ap (λ (o : Option Assignment). option_map_or (λ had. had.bypass == row.1.bypass) o false) (ap (λ (rows : List (Key × Assignment)). find key_cmp row.0 rows) (sym same) ∙ at) ∙ eq-eqb row.1.bypass row.1.bypass refl)

    all_came : filter (came_before before key) after.assignments ≡ after.assignments
    all_came =
        filter-all_pass (came_before before key) after.assignments
        (all-weaker (λ row. find key_cmp row.0 after.assignments ≡ Some row.1) (λ row. came_before before key row ≡ true) own after.assignments (all_found key_cmp key_total after.assignments sound.assigned.in_order))

-- What a repaired LSP is promised stays while it is repaired.
pub in_use_stays : (r : Router) (before after : State) (made : Made) (key : Key) (was now : Repair) → IsRouter r → IsSound r before → Step r before made after → find key_cmp key before.repairs ≡ Some was → find key_cmp key after.repairs ≡ Some now
    → find key_cmp key after.assignments ≡ find key_cmp key before.assignments
in_use_stays r before after made key was now router is x repaired_before repaired_after =
    by o.is_silent refl (outcome-leaves r before made.event router is x.possible x.awake) x.changed repaired_after
  where
    o : Outcome
    o = outcome r before made.event

    Stays : State → Type 0
    Stays s = find key_cmp key s.repairs ≡ Some now → find key_cmp key s.assignments ≡ find key_cmp key before.assignments

    free : find key_cmp key before.resvs ≡ None
    free = of_found (λ (repair : Key × Repair). find key_cmp repair.0 before.resvs ≡ None) key was before.repairs is.repaired.apart repaired_before

    by : (silent : Bool) → o.is_silent ≡ silent → LeavesBy r before silent o.after → after ≡ (if silent then o.after else with_moments r before o (settled r made.labels o.after)) → Stays after
    by true quiet sound came =
        subst Stays (sym came)
        (⊎_elim (λ (same : o.after.assignments ≡ before.assignments) left. ap (find key_cmp key) same)
        (λ (gone : (o.after.resvs ≡ []) × (o.after.repairs ≡ [])) left. absurd (let e = ap (find key_cmp key) (sym gone.1) ∙ left in cc))
        (silent_leaves r before made.event x.awake quiet))
    by false loud drafted came = subst Stays (sym came) (heard_stays r before is o drafted made.labels key now (λ resv reserved down. none_lost r before key is made.event resv free reserved down))

-- An LSP that asks and is promised none finds no room beside what came before it.
pub shared_in_turn : (r : Router) (before after : State) (made : Made) (key : Key) (wish : Wish) (number : ℕ) → IsRouter r → IsSound r before → AreStanding r before → Step r before made after → find key_cmp key (wishes_of r after) ≡ Some wish → find key_cmp key after.assignments ≡ None
    → is_candidate wish number ≡ true → capacity_in after.facts.bypasses number < assigned_of number (filter (came_before before key) after.assignments) + wish.rate
shared_in_turn r before after made key wish number router is standing x =
    by o.is_silent refl (outcome-leaves r before made.event router is x.possible x.awake) x.changed
  where
    o : Outcome
    o = outcome r before made.event

    Shares : State → Type 0
    Shares s =
        find key_cmp key (wishes_of r s) ≡ Some wish → find key_cmp key s.assignments ≡ None → is_candidate wish number ≡ true
        → capacity_in s.facts.bypasses number < assigned_of number (filter (came_before before key) s.assignments) + wish.rate

    sound_after : IsSound r after
    sound_after = sound_step r before made after router is x

    none_asks : after.resvs ≡ [] → Shares after
    none_asks gone = λ found. absurd (let e = sym (asked r after key wish sound_after.held.in_order found).reserved ∙ ap (find key_cmp key) gone in cc)

    by : (silent : Bool) → o.is_silent ≡ silent → LeavesBy r before silent o.after → after ≡ (if silent then o.after else with_moments r before o (settled r made.labels o.after)) → Shares after
    by true quiet sound came =
        ⊎_elim (λ (same : o.after.assignments ≡ before.assignments). silent_in_turn r before after sound_after (stands_step r before made after router is standing x) (ap (λ (s : State). s.assignments) came ∙ same) key wish number)
        (λ (gone : (o.after.resvs ≡ []) × (o.after.repairs ≡ [])). none_asks (ap (λ (s : State). s.resvs) came ∙ gone.0)) (silent_leaves r before made.event x.awake quiet)
    by false loud drafted came = subst Shares (sym came) (heard_in_turn r before is o drafted made.labels key wish number)
