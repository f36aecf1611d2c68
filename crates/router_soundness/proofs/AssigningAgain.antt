-- At the end of a step the bandwidth that bypasses promise stands: promised anew, it would be the same.
use Rattle.std.specs.Prelude.{◌≡◌, ℕ, ◌+◌, ◌==◌, ◌&&◌, ◌||◌, nat_le, Bool, true, false, cond, List, [], ◌∷◌, Option, Some, None, is_some}
use Rattle.std.specs.FinMap.Entries.{find, is_sorted-where_key, where_key}
use Rattle.std.specs.List.{AllByRecursion, list_any}
use Rattle.std.specs.Option.{option_and_then, option_map_or}
use Rattle.std.proofs.Common.{refl, ap, sym, ◌∙◌, inl, inr, ⊎_elim, arith}
use Rattle.std.proofs.lemmas.Bool.{eqb-true, false_from_ne_true}
use Rattle.std.proofs.lemmas.List.Sums.{sum_by-cons}
use Rattle.sorted_rows.specs.ListLaws.{all-weaker}
use Rattle.sorted_rows.specs.RowsLaws.{all-from_find}
use Rattle.lsr_facts.specs.OrderLaws.{key_exact, key_total}
use Rattle.lsr_facts.specs.Orders.{key_cmp}
use Rattle.lsr_facts.specs.declared.assignment.Assignment.{Assignment}
use Rattle.lsr_facts.specs.declared.key.Key.{Key}
use Rattle.lsr_facts.specs.declared.repair.BypassTunnel.{BypassTunnel}
use Rattle.lsr_facts.specs.declared.repair.Repair.{Repair}
use Rattle.lsr_facts.specs.declared.resv_fact.ResvFact.{ResvFact}
use Rattle.lsr_facts.specs.declared.router.Router.{Router}
use Rattle.bypass_shares.specs.ShareLaws.{assigned_again}
use Rattle.bypass_shares.specs.Shares.{AreShares, IsAnswer, assigned_of, has_room, taken_of}
use Rattle.bypass_shares.specs.declared.wish.Wish.{Wish}
use Rattle.abstract_paths.specs.TouchedLaws.{find-touched}
use Rattle.abstract_router.specs.Assigning.{assigned_anew, assignments_left, assignments_of, capacity_in, in_use_of, is_in_use, wish_of, wish_on, wishes_of}
use Rattle.abstract_router.specs.BypassTunnels.{bypass_tunnels_of, over_at}
use Rattle.abstract_router.specs.Repairing.{repair_stands, repaired, repairs_left}
use Rattle.abstract_router.specs.Standing.{stands}
use Rattle.abstract_router.specs.States.{State, is_held}
use Rattle.abstract_router.specs.Steps.{left_standing, resvs_left}
use Rattle.router_soundness.proofs.Assigning.{IsAskable, IsRepairedSo, IsReservedSo, MayPromise, all_askable, asked, found_wish, holder, left_resvs, repairs_sorted, shares, still_held, still_repaired, wishes_sorted, within_left}
use Rattle.router_soundness.proofs.AssigningRepairs.{found_filter, found_where, leaves, passes_filter}
use Rattle.router_soundness.proofs.AssigningWays.{tunnels-left}
use Rattle.router_soundness.specs.Assigned.{AreStanding}

-- ---- of lists

-- nothing adds nothing
nothing_more : (a b taken whole : ℕ) → a ≡ b → taken ≡ 0 → whole ≡ taken + b → a ≡ whole
nothing_more a b taken whole same nothing sum = omega arith

-- rows that go and take nothing of a bypass leave as much of it assigned
none_taken : (test : Key → Bool) (number : ℕ) (pairs : List (Key × Assignment)) → AllByRecursion (λ pair. test pair.0 ≡ false → (pair.1.bypass == number) ≡ false) pairs → assigned_of number (where_key key_cmp test pairs) ≡ assigned_of number pairs
none_taken test number [] others = refl
none_taken test number (pair ∷ pairs) others = by (test pair.0) refl (none_taken test number pairs others.1)
  where
    first : (rows : List (Key × Assignment)) → assigned_of number (pair ∷ rows) ≡ taken_of number pair.1 + assigned_of number rows
    first rows = sum_by-cons (λ (row : Key × Assignment). taken_of number row.1) pair rows

    by : (b : Bool) → test pair.0 ≡ b → assigned_of number (where_key key_cmp test pairs) ≡ assigned_of number pairs
        → assigned_of number (cond b (pair ∷ where_key key_cmp test pairs) (where_key key_cmp test pairs)) ≡ assigned_of number (pair ∷ pairs)
    by true kept rest = first (where_key key_cmp test pairs) ∙ ap (λ (n : ℕ). taken_of number pair.1 + n) rest ∙ sym (first pairs)
    by false gone rest = nothing_more _ _ (taken_of number pair.1) _ rest (ap (λ (b : Bool). cond b pair.1.rate 0) (others.0 gone)) (first pairs)

-- tests that answer alike of each of these answer alike of them all
any_alike : (p q : ℕ → Bool) (numbers : List ℕ) → AllByRecursion (λ number. p number ≡ q number) numbers → list_any p numbers ≡ list_any q numbers
any_alike p q [] alike = refl
any_alike p q (n ∷ ns) alike = ap (λ (b : Bool). b || list_any p ns) alike.0 ∙ ap (λ (b : Bool). q n || b) (any_alike p q ns alike.1)

-- ---- at the end

module _ (r : Router) (s : State) (may : MayPromise s) where
  abbrev all : List (Key × Assignment)
  all = assignments_of r s

  abbrev capacity : ℕ → ℕ
  capacity = capacity_in s.facts.bypasses

  abbrev then_repaired : State
  then_repaired = repaired r (assigned_anew r s)

  abbrev then_left : State
  then_left = left_standing r then_repaired

  abbrev then_assigned : State
  then_assigned = assignments_left then_left

  -- bypasses run over the same at the end
  same_tunnels : bypass_tunnels_of r then_assigned ≡ bypass_tunnels_of r s
  unfolding repaired repairs_left bypass_tunnels_of
  same_tunnels = tunnels-left r s may.resvs

  -- so an LSP that is reserved still asks for the same
  same_wish : (key : Key) (resv : ResvFact) → wish_of r then_assigned (key, resv) ≡ wish_of r s (key, resv)
  unfolding repaired repairs_left
  same_wish key resv =
      ap (λ (tunnels : List (ℕ × BypassTunnel)). option_and_then (wish_on (record { place = record { router = r; up = s.facts.up; routes = s.facts.routes }; bypass_tunnels = tunnels }) key resv) (find key_cmp key s.facts.paths)) same_tunnels

  -- what it asks for at the end is what it asked for
  record IsAskedStill (key : Key) (wish : Wish) : Type 0 where
    before : find key_cmp key (wishes_of r s) ≡ Some wish
    held : is_held then_left key ≡ true
    askable : AllByRecursion (IsAskable r s) wish.bypasses

  asked_still : (key : Key) (wish : Wish) → find key_cmp key (wishes_of r then_assigned) ≡ Some wish → IsAskedStill key wish
  unfolding repaired repairs_left
  asked_still key wish found =
      let is = asked r then_assigned key wish (left_resvs r s may) found in
      let was = found_filter (stands s.facts) key is.resv s.resvs may.resvs is.reserved in
      let asks = sym (same_wish key is.resv) ∙ is.asks in
      record {
        before = found_wish r s key may.resvs ∙ ap (option_and_then (λ (resv : ResvFact). wish_of r s (key, resv))) was.1 ∙ asks;
        held = ap (λ (o : Option ResvFact). is_some o || is_some (find key_cmp key then_left.repairs)) is.reserved;
        askable = all_askable r s key is.resv wish may.bypasses asks;
      }

  -- The bypass of an assignment that goes isn't up.
  gone_down : (key : Key) (given : Assignment) → find key_cmp key all ≡ Some given → is_held then_left key ≡ false → is_some (over_at (bypass_tunnels_of r s) given.bypass) ≡ false
  unfolding repaired repairs_left bypass_tunnels_of
  gone_down key given found none = ⊎_elim of_repaired of_reserved (holder r s may key given found)
    where
      of_reserved : IsReservedSo r s may key given → is_some (over_at (bypass_tunnels_of r s) given.bypass) ≡ false
      of_reserved is = absurd (let e = sym none ∙ ap (λ (o : Option ResvFact). is_some o || is_some (find key_cmp key then_left.repairs)) is.found in cc)

      of_repaired : IsRepairedSo r s may key given → is_some (over_at (bypass_tunnels_of r s) given.bypass) ≡ false
      of_repaired is = false_from_ne_true (is_some (over_at (bypass_tunnels_of r s) given.bypass)) (λ up. absurd (let e = sym none ∙ still up in cc))
        where
          still : is_some (over_at (bypass_tunnels_of r s) given.bypass) ≡ true → is_held then_left key ≡ true
          still up =
              let stood : repair_stands r (resvs_left then_repaired) (key, is.repair) ≡ true =
              ap (λ (b : Bool). b && leaves s key is.repair.resv.link) (ap (λ (tunnels : List (ℕ × BypassTunnel)). is_some (over_at tunnels is.repair.bypass)) same_tunnels ∙ ap (λ (n : ℕ). is_some (over_at (bypass_tunnels_of r s) n)) is.bypass ∙ up) ∙ is.leaving in
              let kept = passes_filter (repair_stands r (resvs_left then_repaired)) key is.repair then_repaired.repairs (repairs_sorted r s may) is.found stood in
              ap (λ (o : Option ResvFact). is_some o || is_some (find key_cmp key then_left.repairs)) is.alone ∙ ap is_some kept

  -- so of a bypass that is up as much is assigned at the end
  same_assigned : (number : ℕ) → is_some (over_at (bypass_tunnels_of r s) number) ≡ true → assigned_of number then_assigned.assignments ≡ assigned_of number all
  unfolding repaired repairs_left
  same_assigned number up =
      none_taken (is_held then_left) number all
      (all-from_find key_cmp key_total (λ (pair : Key × Assignment). is_held then_left pair.0 ≡ false → (pair.1.bypass == number) ≡ false) all (shares r s may).in_order
      (λ key given found gone. false_from_ne_true (given.bypass == number) (λ same. absurd (let e = sym (gone_down key given found gone) ∙ ap (λ (n : ℕ). is_some (over_at (bypass_tunnels_of r s) n)) (eqb-true given.bypass number same) ∙ up in cc))))

  -- what is promised at the end answers what is asked for at the end
  answers_left : (key : Key) (given : Assignment) → find key_cmp key then_assigned.assignments ≡ Some given → IsAnswer key_cmp capacity (in_use_of then_assigned) (wishes_of r then_assigned) key given
  unfolding repaired repairs_left
  answers_left key given found = ⊎_elim of_repaired of_reserved (holder r s may key given still.1)
    where
      still : (is_held then_left key ≡ true) × (find key_cmp key all ≡ Some given)
      still = still_held r s may key given found

      of_repaired : IsRepairedSo r s may key given → IsAnswer key_cmp capacity (in_use_of then_assigned) (wishes_of r then_assigned) key given
      of_repaired is =
          let used : is_in_use then_assigned key ≡ true = ap (λ (o : Option Repair). option_map_or (λ (repair : Repair). leaves s key repair.resv.link) o false) (still_repaired r s may key given is still.0) ∙ is.leaving in
          inl (find-touched key_cmp key_total key_exact (is_in_use then_assigned) key then_assigned.assignments used ∙ found)

      of_reserved : IsReservedSo r s may key given → IsAnswer key_cmp capacity (in_use_of then_assigned) (wishes_of r then_assigned) key given
      of_reserved is =
          let was = found_filter (stands s.facts) key is.resv s.resvs may.resvs is.found in
          let asks = sym (found_wish r s key may.resvs ∙ ap (option_and_then (λ (resv : ResvFact). wish_of r s (key, resv))) was.1) ∙ is.asks.1 in
          inr (is.asks.0, found_wish r then_assigned key (left_resvs r s may) ∙ ap (option_and_then (λ (resv : ResvFact). wish_of r then_assigned (key, resv))) is.found ∙ same_wish key is.resv ∙ asks, is.asks.2, is.asks.3)

  -- and an LSP that asks and has none finds no room
  refused_left : (key : Key) (wish : Wish) → find key_cmp key (wishes_of r then_assigned) ≡ Some wish → find key_cmp key then_assigned.assignments ≡ None → list_any (has_room key_cmp capacity then_assigned.assignments wish.rate) wish.bypasses ≡ false
  unfolding repaired repairs_left
  refused_left key wish found none =
      let is = asked_still key wish found in
      let before : find key_cmp key all ≡ None = sym (find-touched key_cmp key_total key_exact (is_held then_left) key all is.held) ∙ none in
      any_alike (has_room key_cmp capacity then_assigned.assignments wish.rate) (has_room key_cmp capacity all wish.rate) wish.bypasses
      (all-weaker (IsAskable r s) (λ number. has_room key_cmp capacity then_assigned.assignments wish.rate number ≡ has_room key_cmp capacity all wish.rate number)
      (λ number ask. ap (λ (n : ℕ). nat_le (n + wish.rate) (capacity number)) (same_assigned number ask.up)) wish.bypasses is.askable)
      ∙ (shares r s may).refused key wish is.before before

  shares_left : AreShares key_cmp capacity (in_use_of then_assigned) (wishes_of r then_assigned) then_assigned.assignments
  unfolding repaired repairs_left
  shares_left = record {
    in_order = is_sorted-where_key key_cmp (is_held then_left) all (shares r s may).in_order;
    within = within_left r s may;
    kept = λ key given found. (found_where (is_in_use then_assigned) key given then_assigned.assignments found).1;
    answers = answers_left;
    refused = refused_left;
  }

  -- Promised anew at the end, the bandwidth of bypasses is the same.
  pub standing-left : AreStanding r then_assigned
  unfolding repaired repairs_left assignments_of
  standing-left =
      assigned_again key_cmp capacity key_total key_exact (in_use_of then_assigned) (wishes_of r then_assigned) then_assigned.assignments
      (is_sorted-where_key key_cmp (is_in_use then_assigned) then_assigned.assignments shares_left.in_order) (wishes_sorted r then_assigned (left_resvs r s may)) shares_left
