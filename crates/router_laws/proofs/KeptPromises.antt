-- What bypasses promised they promise still where the LSP asks for the same of them, and so each LSP that was reserved on a
-- link that goes down is repaired over the bypass that it was promised bandwidth of.
use Rattle.std.specs.Prelude.{◌≡◌, ℕ, ◌+◌, ◌≤◌, ◌==◌, ◌&&◌, ◌||◌, ◌++◌, not, Bool, true, false, cond, if◌then◌else◌, T, List, [], ◌∷◌, filter, filter_map, map, Option, Some, None, is_some}
use Rattle.std.specs.Cmp.{IsTotalOrder}
use Rattle.std.specs.FinMap.Entries.{find, find-put, is_sorted, is_sorted-put, is_sorted-where_key, put}
use Rattle.std.specs.List.{AllByRecursion, cons_option, list_any}
use Rattle.std.specs.Option.{option_and_then, option_map, option_map_or, unwrap_or}
use Rattle.std.specs.Ordering.{eq_by_cmp, nat_cmp}
use Rattle.std.specs.declared.cmp.Ordering.{Ordering}
use Rattle.std.proofs.Common.{refl, ap, sym, subst, ◌∙◌, ⊎_elim, inl, inr, arith, le_trans}
use Rattle.std.proofs.lemmas.Bool.{and_parts, cases_eq, eq-eqb, le-leb}
use Rattle.std.proofs.lemmas.Cmp.{nat_cmp_total}
use Rattle.std.proofs.lemmas.Map.Lookups.{CmpEqualImpliesEq, exact_unsigned}
use Rattle.std.proofs.lemmas.Option.{same_Some}
use Rattle.sorted_rows.specs.ListLaws.{all-weaker}
use Rattle.sorted_rows.specs.RowsLaws.{all_found, find-put_apart, find-put_same, ties}
use Rattle.lsr_facts.specs.Lifetimes.{begins_here}
use Rattle.lsr_facts.specs.OrderLaws.{key_exact, key_total}
use Rattle.lsr_facts.specs.Orders.{key_cmp}
use Rattle.lsr_facts.specs.Routers.{HasLink, IsRouter}
use Rattle.lsr_facts.specs.Tunnels.{current_key}
use Rattle.lsr_facts.specs.declared.assignment.Assignment.{Assignment}
use Rattle.lsr_facts.specs.declared.bypass.Bypass.{Bypass}
use Rattle.lsr_facts.specs.declared.key.Key.{Key}
use Rattle.lsr_facts.specs.declared.path_fact.PathFact.{PathFact}
use Rattle.lsr_facts.specs.declared.repair.BypassTunnel.{BypassTunnel}
use Rattle.lsr_facts.specs.declared.repair.Over.{Over}
use Rattle.lsr_facts.specs.declared.repair.Repair.{Repair}
use Rattle.lsr_facts.specs.declared.repair.Selected.{Selected}
use Rattle.lsr_facts.specs.declared.resv_fact.ResvFact.{ResvFact}
use Rattle.lsr_facts.specs.declared.router.Router.{Router}
use Rattle.lsr_facts.specs.declared.tunnel.Tunnel.{Tunnel}
use Rattle.bypass_shares.specs.ShareLaws.{are_assigned}
use Rattle.bypass_shares.specs.Shares.{AnswersWish, AreShares, IsWithin, assigned, assigned_of, each_in_turn, has_room, is_candidate, kept_for, new_for, stays, with_given}
use Rattle.bypass_shares.specs.SumLaws.{assigned_of-among, assigned_of-put, taken_of_own}
use Rattle.bypass_shares.specs.TurnLaws.{AreGood, kept_gives, new_gives, still-turns}
use Rattle.bypass_shares.specs.declared.wish.Wish.{Wish}
use Rattle.abstract_paths.specs.declared.events.Event.TheVariants as events
use Rattle.abstract_paths.specs.declared.events.Made.{Made}
use Rattle.abstract_paths.specs.Changes.{with_link}
use Rattle.abstract_paths.specs.Places.{is_up}
use Rattle.abstract_paths.specs.Tears.{leaves_by}
use Rattle.abstract_router.specs.Assigning.{assigned_anew, assignments_of, capacity_in, has_capacity, in_use_of, is_in_use, rate_in, wants_bandwidth, wish_of, wish_on, wishes_of}
use Rattle.abstract_router.specs.BypassTunnels.{bypass_tunnel_by, bypass_tunnel_of, bypass_tunnels_of, over_by, over_of}
use Rattle.abstract_router.specs.Lsps.{around_of}
use Rattle.abstract_router.specs.Protecting.{candidates_of, ends_at_peer, is_preferred, is_protected, label_after, repair_with, selected_by, wants_protection, ways_around}
use Rattle.abstract_router.specs.Soundness.{IsHolding, IsSound}
use Rattle.abstract_router.specs.Standing.{stands}
use Rattle.abstract_router.specs.States.{State, with_facts}
use Rattle.abstract_router.specs.Steps.{AreSettled, Step}
use Rattle.router_soundness.proofs.Assigning.{IsAsked, IsRepairedSo, IsReservedSo, MayPromise, asked, found_wish, holder, wished, wishes_sorted}
use Rattle.router_soundness.proofs.AssigningRepairs.{IsLost, IsNewRepair, chosen, found_where, lost, made_of, of_found, old_or_new, passed_by}
use Rattle.router_soundness.specs.Assigned.{AreStanding}
use Rattle.router_laws.proofs.LostLinks.{falls, may, repaired_over, up_known}

-- ---- what is kept of what was assigned

-- what is there where a test fails
otherwise : {A : Type 0} (b : Bool) (o : Option A) (x : A) → cond b None o ≡ Some x → o ≡ Some x
otherwise true o x is = absurd (let e = is in cc)
otherwise false o x is = is

-- the steps of the law on room
fits : (sum before rate own among most : ℕ) → sum ≡ before + own → own ≡ rate → sum ≤ among → among ≤ most → before + rate ≤ most
fits sum before rate own among most p q r t = omega arith

module _ {K : Type 0} (cmp : K → K → Ordering) (capacity : ℕ → ℕ) (total : IsTotalOrder cmp) (exact : CmpEqualImpliesEq cmp) (old : List (K × Assignment)) (good : AreGood cmp capacity total old) where
  -- what is assigned so far is among what was
  pub record IsPart (pairs : List (K × Assignment)) : Type 0 where
    pub in_order : T (is_sorted cmp pairs)
    pub among : (key : K) (given : Assignment) → find cmp key pairs ≡ Some given → find cmp key old ≡ Some given

  -- an LSP that had some asks for as much as it had
  abbrev pub AsksAsMuch : K × Wish → Type 0
  AsksAsMuch wish = (had : Assignment) → find cmp wish.0 old ≡ Some had → had.rate ≡ wish.1.rate

  -- so is what is assigned with what an LSP had
  among_put : (pairs : List (K × Assignment)) (k : K) (had : Assignment) → IsPart pairs → find cmp k old ≡ Some had → (key : K) (given : Assignment) → find cmp key (put cmp k had pairs) ≡ Some given → find cmp key old ≡ Some given
  among_put pairs k had part was key given found =
      elim (eq_by_cmp cmp key k) as (λ b. eq_by_cmp cmp key k ≡ b → cond b (Some had) (find cmp key pairs) ≡ Some given → find cmp key old ≡ Some given) [
        | true ↦ λ tie is. ap (λ q. find cmp q old) (exact key k (ties _ tie)) ∙ was ∙ is
        | false ↦ λ apart is. part.among key given is
      ] refl (sym (find-put cmp total key k had pairs) ∙ found)

  -- what an LSP keeps is what it had
  keeps_own : (pairs : List (K × Assignment)) (wish : K × Wish) (given : Assignment) → AsksAsMuch wish → kept_for cmp capacity old pairs wish ≡ Some given → find cmp wish.0 old ≡ Some given
  keeps_own pairs wish given as_much is =
      let had = made_of (stays cmp capacity pairs wish.1) (find cmp wish.0 old) given (otherwise (is_some (find cmp wish.0 pairs)) (option_and_then (stays cmp capacity pairs wish.1) (find cmp wish.0 old)) given is) in
      let stayed = chosen (is_candidate wish.1 had.0.bypass && has_room cmp capacity pairs wish.1.rate had.0.bypass) (Some (record { bypass = had.0.bypass; rate = wish.1.rate })) given had.2 in
      had.1 ∙ ap (λ (n : ℕ). Some (record { bypass = had.0.bypass; rate = n })) (as_much had.0 had.1) ∙ stayed.1

  -- each turn keeps the part
  next_part : (pairs : List (K × Assignment)) (wish : K × Wish) → IsPart pairs → AsksAsMuch wish → IsPart (with_given cmp capacity wish.0 (kept_for cmp capacity old pairs wish) pairs)
  next_part pairs wish part as_much = by (kept_for cmp capacity old pairs wish) refl
    where
      by : (o : Option Assignment) → kept_for cmp capacity old pairs wish ≡ o → IsPart (with_given cmp capacity wish.0 o pairs)
      by None is = part
      by (Some given) is = record { in_order = is_sorted-put cmp total wish.0 given pairs part.in_order; among = among_put pairs wish.0 given part (keeps_own pairs wish given as_much is) }

  -- there is room for what an LSP had
  room : (pairs : List (K × Assignment)) (key : K) (had : Assignment) → IsPart pairs → find cmp key old ≡ Some had → find cmp key pairs ≡ None → has_room cmp capacity pairs had.rate had.bypass ≡ true
  room pairs key had part was absent =
      let sum = assigned_of-put cmp total had.bypass key had pairs part.in_order absent in
      let fewer = assigned_of-among cmp total had.bypass (put cmp key had pairs) old (is_sorted-put cmp total key had pairs part.in_order) good.0 (among_put pairs key had part was) in
      le-leb (assigned_of had.bypass pairs + had.rate) (capacity had.bypass) (fits _ _ _ _ _ _ sum (taken_of_own had) fewer (good.1 had.bypass))

  -- An LSP that had some of a bypass that it asks for still has it after its turn.
  has_own : (pairs : List (K × Assignment)) (wish : K × Wish) (had : Assignment) → IsPart pairs → AsksAsMuch wish → find cmp wish.0 old ≡ Some had → is_candidate wish.1 had.bypass ≡ true
      → find cmp wish.0 (with_given cmp capacity wish.0 (kept_for cmp capacity old pairs wish) pairs) ≡ Some had
  has_own pairs wish had part as_much was candidate = by (find cmp wish.0 pairs) refl
    where
      keeps : find cmp wish.0 pairs ≡ None → kept_for cmp capacity old pairs wish ≡ Some had
      keeps absent =
          ap (λ (o : Option Assignment). if is_some o then None else option_and_then (stays cmp capacity pairs wish.1) (find cmp wish.0 old)) absent
          ∙ ap (option_and_then (stays cmp capacity pairs wish.1)) was
          ∙ ap (λ (n : ℕ). if is_candidate wish.1 had.bypass && has_room cmp capacity pairs n had.bypass then Some (record { bypass = had.bypass; rate = n }) else None) (sym (as_much had was))
          ∙ (λ i. if candidate i && room pairs wish.0 had part was absent i then Some had else None)

      by : (o : Option Assignment) → find cmp wish.0 pairs ≡ o → find cmp wish.0 (with_given cmp capacity wish.0 (kept_for cmp capacity old pairs wish) pairs) ≡ Some had
      by (Some given) found =
          ap (λ (o : Option Assignment). find cmp wish.0 (with_given cmp capacity wish.0 (if is_some o then None else option_and_then (stays cmp capacity pairs wish.1) (find cmp wish.0 old)) pairs)) found
          ∙ found ∙ sym (part.among wish.0 given found) ∙ was
      by None absent =
          ap (λ (o : Option Assignment). find cmp wish.0 (with_given cmp capacity wish.0 o pairs)) (keeps absent)
          ∙ find-put_same cmp total wish.0 had pairs

  -- So it has it after all turns in which LSPs keep what they had,
  kept_through : (key : K) (had : Assignment) (wish : Wish) → find cmp key old ≡ Some had → is_candidate wish had.bypass ≡ true → (pairs : List (K × Assignment)) (wishes : List (K × Wish)) → IsPart pairs → AllByRecursion AsksAsMuch wishes → find cmp key wishes ≡ Some wish
      → find cmp key (each_in_turn cmp capacity (kept_for cmp capacity old) pairs wishes) ≡ Some had
  kept_through key had wish was candidate pairs [] part as_much asks = absurd (let e = asks in cc)
  kept_through key had wish was candidate pairs (first ∷ more) part as_much asks =
      let next = with_given cmp capacity first.0 (kept_for cmp capacity old pairs first) pairs in
      elim (eq_by_cmp cmp key first.0) as (λ b. eq_by_cmp cmp key first.0 ≡ b → cond b (Some first.1) (find cmp key more) ≡ Some wish → find cmp key (each_in_turn cmp capacity (kept_for cmp capacity old) next more) ≡ Some had) [
        | true ↦ λ tie is.
            let same : key ≡ first.0 = exact key first.0 (ties _ tie) in
            let own = has_own pairs first had part as_much.0 (ap (λ q. find cmp q old) (sym same) ∙ was) (ap (λ (w : Wish). is_candidate w had.bypass) (same_Some first.1 wish is) ∙ candidate) in
            still-turns cmp capacity total exact (kept_for cmp capacity old) (kept_gives cmp capacity old) key had next more (ap (λ q. find cmp q next) same ∙ own)
        | false ↦ λ apart is. kept_through key had wish was candidate next more (next_part pairs first part as_much.0) as_much.1 is
      ] refl asks

  -- and in the end.
  pub keeps_share : (in_use : List (K × Assignment)) (wishes : List (K × Wish)) (key : K) (had : Assignment) (wish : Wish) → IsPart in_use → AllByRecursion AsksAsMuch wishes → find cmp key old ≡ Some had → find cmp key wishes ≡ Some wish → is_candidate wish had.bypass ≡ true
      → find cmp key (assigned cmp capacity old in_use wishes) ≡ Some had
  unfolding assigned
  keeps_share in_use wishes key had wish part as_much was asks candidate =
      still-turns cmp capacity total exact (new_for cmp capacity) (new_gives cmp capacity) key had (each_in_turn cmp capacity (kept_for cmp capacity old) in_use wishes) wishes
      (kept_through key had wish was candidate in_use wishes part as_much asks)

-- ---- of lists

-- what is made of the first of what is made
made_first : {B C : Type 0} (f : B → Option C) (o : Option B) (ys : List B) → filter_map f (cons_option o ys) ≡ cons_option (option_and_then f o) (filter_map f ys)
made_first f None ys = refl
made_first f (Some y) ys = refl

-- what is made of what is made of each is the same where it is the same of each
made_alike : {A B C : Type 0} (f : B → Option C) (g h : A → Option B) (xs : List A) → ((x : A) → option_and_then f (g x) ≡ option_and_then f (h x)) → filter_map f (filter_map g xs) ≡ filter_map f (filter_map h xs)
made_alike f g h [] alike = refl
made_alike f g h (x ∷ xs) alike =
    made_first f (g x) (filter_map g xs) ∙ (λ i. cons_option (alike x i) (made_alike f g h xs alike i)) ∙ sym (made_first f (h x) (filter_map h xs))

-- so of a test of what is made of each
any_first : {B : Type 0} (test : B → Bool) (o : Option B) (ys : List B) → list_any test (cons_option o ys) ≡ (option_map_or test o false || list_any test ys)
any_first test None ys = refl
any_first test (Some y) ys = refl

any_made_alike : {A B : Type 0} (test : B → Bool) (g h : A → Option B) (xs : List A) → ((x : A) → option_map_or test (g x) false ≡ option_map_or test (h x) false) → list_any test (filter_map g xs) ≡ list_any test (filter_map h xs)
any_made_alike test g h [] alike = refl
any_made_alike test g h (x ∷ xs) alike =
    any_first test (g x) (filter_map g xs) ∙ (λ i. alike x i || any_made_alike test g h xs alike i) ∙ sym (any_first test (h x) (filter_map h xs))

-- ---- what an LSP asks for that is reserved on a link

-- the link is down
abbrev without_link : ℕ → State → State
without_link n s = with_facts (with_link n false s.facts) s

-- a bypass with its number, where its tunnel is known
abbrev numbered : Router → State → ℕ × Bypass → Option (ℕ × BypassTunnel)
numbered r s bypass = option_map (λ bypass_tunnel. (bypass.0, bypass_tunnel)) (bypass_tunnel_by r s bypass)

module _ (r : Router) (before : State) (n : ℕ) (resv : ResvFact) (on : resv.link ≡ n) where
  abbrev s : State
  s = without_link n before

  -- it leads over another link than that of the reservation
  abbrev is_other : Option Over → Bool
  is_other over = option_map_or (λ over. not (over.link == resv.link)) over false

  -- what leads over the lost link doesn't, be that up or not
  not_over_own : (b : Bool) (over : Over) → over.link ≡ n → is_other (cond b (Some over) None) ≡ false
  not_over_own false over same = refl
  not_over_own true over same = ap not (eq-eqb over.link resv.link (same ∙ sym on))

  -- A tunnel leads over another link where it did.
  same_other : (tunnel : ℕ × Tunnel) → is_other (over_of r s tunnel) ≡ is_other (over_of r before tunnel)
  unfolding is_up
  same_other tunnel = by (find key_cmp key before.resvs)
    where
      key : Key
      key = current_key r tunnel

      by : (o : Option ResvFact) → is_other (option_and_then (over_by s.facts key) o) ≡ is_other (option_and_then (over_by before.facts key) o)
      by None = refl
      by (Some v) = elim (cases_eq v.link n) as (λ c. is_other (over_by s.facts key v) ≡ is_other (over_by before.facts key v)) [
        | inl same ↦ not_over_own (stands s.facts (key, v)) (record { link = v.link; label = v.label }) same ∙ sym (not_over_own (stands before.facts (key, v)) (record { link = v.link; label = v.label }) same)
        | inr other ↦
            ap (λ (o : Option Bool). is_other (cond (option_map_or (λ is. is) o false && option_map_or (leaves_by v.link) (find key_cmp key before.facts.paths) false) (Some (record { link = v.link; label = v.label })) None))
            (find-put_apart nat_cmp nat_cmp_total exact_unsigned v.link n false before.facts.up other)
      ]

  -- what may be selected of a bypass, by whether that leads over another link
  abbrev selected_where : ℕ → Bypass → Tunnel → Bool → Option Selected
  selected_where number bypass tunnel other =
      if not ((bypass.link == resv.link) && other) then None
      else if ends_at_peer r resv (bypass_tunnel_of r before bypass tunnel) then Some (record { bypass = number; is_nnhop = false; label = resv.label; capacity = bypass.capacity })
      else option_map (λ label. record { bypass = number; is_nnhop = true; label = label; capacity = bypass.capacity }) (label_after tunnel.endpoint (unwrap_or resv.recorded []))

  same_selected : (bypass : ℕ × Bypass) → option_and_then (selected_by r resv) (numbered r s bypass) ≡ option_and_then (selected_by r resv) (numbered r before bypass)
  same_selected bypass = by (find nat_cmp bypass.1.tunnel before.facts.tunnels)
    where
      by : (o : Option Tunnel) → option_and_then (selected_by r resv) (option_map {U = ℕ × BypassTunnel} (λ bypass_tunnel. (bypass.0, bypass_tunnel)) (option_map (bypass_tunnel_of r s bypass.1) o))
          ≡ option_and_then (selected_by r resv) (option_map (λ bypass_tunnel. (bypass.0, bypass_tunnel)) (option_map (bypass_tunnel_of r before bypass.1) o))
      by None = refl
      by (Some tunnel) = ap (selected_where bypass.0 bypass.1 tunnel) (same_other (bypass.1.tunnel, tunnel))

  -- So the ways around the link are the same,
  same_ways : ways_around (around_of r s) resv ≡ ways_around (around_of r before) resv
  unfolding ways_around bypass_tunnels_of
  same_ways = made_alike (selected_by r resv) (numbered r s) (numbered r before) before.facts.bypasses same_selected

  -- the same LSPs are protected,
  same_protected : (key : Key) (path : PathFact) → is_protected (around_of r s) key path ≡ is_protected (around_of r before) key path
  unfolding bypass_tunnels_of
  same_protected key path =
      ap (λ (carries : Bool). wants_protection path && not (begins_here path.role && carries))
      (any_made_alike in_tunnel (numbered r s) (numbered r before) before.facts.bypasses (λ bypass. by bypass (find nat_cmp bypass.1.tunnel before.facts.tunnels)))
    where
      in_tunnel : ℕ × BypassTunnel → Bool
      in_tunnel bypass_tunnel = bypass_tunnel.1.tunnel == key.session.tunnel

      by : (bypass : ℕ × Bypass) (o : Option Tunnel) → option_map_or in_tunnel (option_map (λ bypass_tunnel. (bypass.0, bypass_tunnel)) (option_map (bypass_tunnel_of r s bypass.1) o)) false
          ≡ option_map_or in_tunnel (option_map (λ bypass_tunnel. (bypass.0, bypass_tunnel)) (option_map (bypass_tunnel_of r before bypass.1) o)) false
      by bypass None = refl
      by bypass (Some tunnel) = refl

  -- an LSP has the same candidates,
  same_candidates : (key : Key) (path : PathFact) → candidates_of (around_of r s) key path resv ≡ candidates_of (around_of r before) key path resv
  unfolding candidates_of
  same_candidates key path = λ i.
      if same_protected key path i
      then filter (is_preferred path) (same_ways i) ++ filter (λ choice. not (is_preferred path choice)) (same_ways i)
      else []

  -- and asks for the same.
  pub same_wish : (key : Key) → wish_of r s (key, resv) ≡ wish_of r before (key, resv)
  same_wish key = by (find key_cmp key before.facts.paths)
    where
      by : (o : Option PathFact) → option_and_then (wish_on (around_of r s) key resv) o ≡ option_and_then (wish_on (around_of r before) key resv) o
      by None = refl
      by (Some path) =
          ap (λ (choices : List Selected). if wants_bandwidth path && leaves_by resv.link path then Some (record { rate = rate_in resv; bypasses = map (λ choice. choice.bypass) (filter has_capacity choices) }) else None) (same_candidates key path)

-- ---- what is known of a reserved LSP

-- its reservation stands
stood : (r : Router) (before : State) → IsSound r before → (key : Key) (resv : ResvFact) → find key_cmp key before.resvs ≡ Some resv → (is_up before.facts.up resv.link ≡ true) × (option_map_or (leaves_by resv.link) (find key_cmp key before.facts.paths) false ≡ true)
stood r before is key resv reserved =
    and_parts (is_up before.facts.up resv.link) (option_map_or (leaves_by resv.link) (find key_cmp key before.facts.paths) false) (of_found (λ resv. stands before.facts resv ≡ true) key resv before.resvs is.standing reserved)

-- it has a path
known_path : (r : Router) (before : State) → IsSound r before → (key : Key) (resv : ResvFact) → find key_cmp key before.resvs ≡ Some resv → (path : PathFact) × (find key_cmp key before.facts.paths ≡ Some path)
known_path r before is key resv reserved =
    let path = passed_by (leaves_by resv.link) (find key_cmp key before.facts.paths) (stood r before is key resv reserved).1 in
    (path.0, path.1)

-- its link is one of the router's
link_known : (r : Router) (before : State) → IsSound r before → (key : Key) (resv : ResvFact) (n : ℕ) → find key_cmp key before.resvs ≡ Some resv → resv.link ≡ n → HasLink r n
link_known r before is key resv n reserved on = up_known r before n is (ap (is_up before.facts.up) (sym on) ∙ (stood r before is key resv reserved).0)

-- it isn't repaired
not_repaired : (r : Router) (before : State) → IsSound r before → (key : Key) (resv : ResvFact) (repair : Repair) → find key_cmp key before.resvs ≡ Some resv → find key_cmp key before.repairs ≡ Some repair → ⊥
not_repaired r before is key resv repair reserved found =
    let e = sym (of_found (λ (repair : Key × Repair). find key_cmp repair.0 before.resvs ≡ None) key repair before.repairs is.repaired.apart found) ∙ reserved in cc

-- ---- what a reserved LSP is promised

module _ (r : Router) (before : State) (is : IsSound r before) where
  -- it is for the rate of its reservation,
  rate_promised : (key : Key) (resv : ResvFact) (given : Assignment) → find key_cmp key before.resvs ≡ Some resv → find key_cmp key before.assignments ≡ Some given → given.rate ≡ rate_in resv
  rate_promised key resv given reserved promised =
      ⊎_elim
      (λ (own : (own : ResvFact) × (find key_cmp key before.resvs ≡ Some own) × (rate_in own ≡ given.rate)). sym own.2 ∙ ap rate_in (same_Some own.0 resv (sym own.1 ∙ reserved)))
      (λ (over : (repair : Repair) × (find key_cmp key before.repairs ≡ Some repair) × (rate_in repair.resv ≤ given.rate) × (repair.bypass ≡ given.bypass)). absurd (not_repaired r before is key resv over.0 reserved over.1))
      (of_found (IsHolding before) key given before.assignments is.assigned.held promised)

  abbrev capacity : ℕ → ℕ
  capacity = capacity_in before.facts.bypasses

  -- what is in use is among all that is promised
  in_use_part : IsPart key_cmp capacity key_total key_exact before.assignments (is.assigned.in_order, is.assigned.within) (in_use_of before)
  in_use_part = record {
    in_order = is_sorted-where_key key_cmp (is_in_use before) before.assignments is.assigned.in_order;
    among = λ key given found. (found_where (is_in_use before) key given before.assignments found).1;
  }

  in_use_within : IsWithin key_cmp capacity (in_use_of before)
  in_use_within number = le_trans (assigned_of-among key_cmp key_total number (in_use_of before) before.assignments in_use_part.in_order is.assigned.in_order in_use_part.among) (is.assigned.within number)

  -- What is promised stands, by what is in use and what is asked for.
  pub shares_standing : AreStanding r before → AreShares key_cmp capacity (in_use_of before) (wishes_of r before) before.assignments
  unfolding assignments_of
  shares_standing standing =
      subst (AreShares key_cmp capacity (in_use_of before) (wishes_of r before)) standing
      (are_assigned key_cmp capacity key_total key_exact before.assignments (in_use_of before) (wishes_of r before) in_use_part.in_order in_use_within (wishes_sorted r before is.held.in_order))

  -- So what a reserved LSP is promised is what it asks for.
  answers_promised : AreStanding r before → (key : Key) (resv : ResvFact) (given : Assignment) → find key_cmp key before.resvs ≡ Some resv → find key_cmp key before.assignments ≡ Some given → AnswersWish key_cmp capacity (wishes_of r before) key given
  answers_promised standing key resv given reserved promised =
      ⊎_elim (λ (used : find key_cmp key (in_use_of before) ≡ Some given). absurd (in_use used)) (λ (asks : AnswersWish key_cmp capacity (wishes_of r before) key given). asks) ((shares_standing standing).answers key given promised)
    where
      in_use : find key_cmp key (in_use_of before) ≡ Some given → ⊥
      in_use used =
          let repair = passed_by (λ (repair : Repair). option_map_or (leaves_by repair.resv.link) (find key_cmp key before.facts.paths) false) (find key_cmp key before.repairs) (found_where (is_in_use before) key given before.assignments used).0 in
          not_repaired r before is key resv repair.0 reserved repair.1

  -- Once the link is down that it is reserved on, it is promised the same.
  module _ (n : ℕ) (standing : AreStanding r before) (key : Key) (resv : ResvFact) (given : Assignment) (reserved : find key_cmp key before.resvs ≡ Some resv) (on : resv.link ≡ n) (promised : find key_cmp key before.assignments ≡ Some given) where
    -- each LSP asks for as much as it is promised
    all_as_much : AllByRecursion (AsksAsMuch key_cmp capacity key_total key_exact before.assignments (is.assigned.in_order, is.assigned.within)) (wishes_of r (without_link n before))
    all_as_much =
        all-weaker (λ wish. find key_cmp wish.0 (wishes_of r (without_link n before)) ≡ Some wish.1) (AsksAsMuch key_cmp capacity key_total key_exact before.assignments (is.assigned.in_order, is.assigned.within))
        (λ wish found had was.
        let asks : IsAsked r (without_link n before) wish.0 wish.1 = asked r (without_link n before) wish.0 wish.1 is.held.in_order found in
        rate_promised wish.0 asks.resv had asks.reserved was ∙ ap (λ (w : Wish). w.rate) (sym (wished r (without_link n before) wish.0 asks.resv wish.1 asks.asks).same))
        (wishes_of r (without_link n before)) (all_found key_cmp key_total (wishes_of r (without_link n before)) (wishes_sorted r (without_link n before) is.held.in_order))

    pub promised_still : find key_cmp key (assignments_of r (without_link n before)) ≡ Some given
    unfolding assignments_of
    promised_still =
        keeps_share key_cmp capacity key_total key_exact before.assignments (is.assigned.in_order, is.assigned.within) (in_use_of (without_link n before)) (wishes_of r (without_link n before)) key given asks.0 in_use_part all_as_much promised
        (found_wish r (without_link n before) key is.held.in_order
        ∙ ap (option_and_then (λ (resv : ResvFact). wish_of r (without_link n before) (key, resv))) reserved
        ∙ same_wish r before n resv on key
        ∙ sym (found_wish r before key is.held.in_order ∙ ap (option_and_then (λ (resv : ResvFact). wish_of r before (key, resv))) reserved)
        ∙ asks.1)
        asks.3
      where
        asks : AnswersWish key_cmp capacity (wishes_of r before) key given
        asks = answers_promised standing key resv given reserved promised

-- ---- in a step

module _ (r : Router) (before after : State) (made : Made) (n : ℕ) (router : IsRouter r) (is : IsSound r before) (rests : AreSettled r before) (there : HasLink r n)
    (x : Step r before made after) (event : made.event ≡ events.LinkDown n) (standing : AreStanding r before)
    (key : Key) (resv : ResvFact) (given : Assignment) (reserved : find key_cmp key before.resvs ≡ Some resv) (on : resv.link ≡ n) (promised : find key_cmp key before.assignments ≡ Some given) where
  abbrev lost_link : State
  lost_link = without_link n before

  abbrev promises : State
  promises = assigned_anew r lost_link

  promising : MayPromise lost_link
  promising = may r before after made n router is rests there x event

  still : find key_cmp key promises.assignments ≡ Some given
  still = promised_still r before is n standing key resv given reserved on promised

  abbrev IsKept : Type 0
  IsKept = (repair : Repair) × (find key_cmp key after.repairs ≡ Some repair) × (repair.bypass ≡ given.bypass) × (rate_in repair.resv ≡ given.rate) × (find key_cmp key after.assignments ≡ Some given)

  -- it is repaired over its bypass
  over_promised : (so : IsRepairedSo r lost_link promising key given) → IsNewRepair r promises is.held.in_order key so.repair → IsKept
  over_promised so new =
      let went : IsLost r promises key new.resv so.repair = lost r promises key new.resv so.repair new.made in
      let same : resv ≡ new.resv = same_Some resv new.resv (sym reserved ∙ new.reserved) in
      let over = repaired_over r before after made n router is rests there x event key new.resv went.path new.reserved went.known (ap (λ (v : ResvFact). v.link) (sym same) ∙ on) went.choice went.selects in
      (repair_with new.resv went.choice, over.0, ap (λ (repair : Repair). repair.bypass) (sym went.made_with) ∙ so.bypass, sym (rate_promised r before is key new.resv given new.reserved promised), over.1 ∙ still)

  -- and is in no other way held, nor repaired already
  keeps_promise : IsKept
  keeps_promise = ⊎_elim of_repaired of_reserved (holder r lost_link promising key given still)
    where
      of_reserved : IsReservedSo r lost_link promising key given → IsKept
      of_reserved so =
          let path = known_path r before is key resv reserved in
          absurd (let e = sym (falls r before after made n router is rests there x event key resv path.0 reserved path.1 on) ∙ so.found in cc)

      of_repaired : IsRepairedSo r lost_link promising key given → IsKept
      of_repaired so =
          ⊎_elim
          (λ (old : find key_cmp key before.repairs ≡ Some so.repair). absurd (not_repaired r before is key resv so.repair reserved old))
          (over_promised so) (old_or_new r promises is.held.in_order key so.repair so.found)

-- An LSP that was reserved on the link is repaired over the bypass that it was promised bandwidth of, and is promised the same.
pub promise_kept : (r : Router) (before after : State) (made : Made) (n : ℕ) (key : Key) (resv : ResvFact) (given : Assignment) → IsRouter r → IsSound r before → AreSettled r before → AreStanding r before → Step r before made after → made.event ≡ events.LinkDown n
    → find key_cmp key before.resvs ≡ Some resv → resv.link ≡ n → find key_cmp key before.assignments ≡ Some given
    → (repair : Repair) × (find key_cmp key after.repairs ≡ Some repair) × (repair.bypass ≡ given.bypass) × (rate_in repair.resv ≡ given.rate) × (find key_cmp key after.assignments ≡ Some given)
promise_kept r before after made n key resv given router is rests standing x event reserved on promised =
    keeps_promise r before after made n router is rests (link_known r before is key resv n reserved on) x event standing key resv given reserved on promised
