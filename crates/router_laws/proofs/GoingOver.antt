-- How a tunnel goes over to its new LSP: in the step in which that LSP is reserved.
use Rattle.std.specs.Prelude.{◌≡◌, ◌≢◌, ◌⊎◌, ◌&&◌, ℕ, not, Bool, true, false, cond, if◌then◌else◌, T, List, [], ◌∷◌, filter, map, Option, Some, None, is_some, option_map}
use Rattle.std.specs.FinMap.Entries.{find, find-where_key, is_sorted}
use Rattle.std.specs.List.{AllByRecursion}
use Rattle.std.specs.Option.{option_map_or}
use Rattle.std.specs.Ordering.{eq_by_cmp, nat_cmp}
use Rattle.std.proofs.Common.{refl, sym, ap, subst, ◌∙◌, inl, inr}
use Rattle.std.proofs.lemmas.Map.Lookups.{exact_unsigned}
use Rattle.std.proofs.lemmas.Option.{same_Some}
use Rattle.sorted_rows.specs.ListLaws.{all-weaker}
use Rattle.sorted_rows.specs.RowsLaws.{ties}
use Rattle.lsr_facts.specs.OrderLaws.{key_exact}
use Rattle.lsr_facts.specs.Orders.{is_one_of, key_cmp}
use Rattle.lsr_facts.specs.Routers.{IsRouter}
use Rattle.lsr_facts.specs.Tunnels.{AreTunnels, current_key, head_key}
use Rattle.lsr_facts.specs.declared.facts.Facts.{Facts}
use Rattle.lsr_facts.specs.declared.key.Key.{Key}
use Rattle.lsr_facts.specs.declared.router.Router.{Router}
use Rattle.lsr_facts.specs.declared.tunnel.Tunnel.{Tunnel}
use Rattle.lsr_facts.specs.declared.tunnel.TunnelLsp.{TunnelLsp}
use Rattle.lsr_facts.specs.Changes.{switched, switched_to}
use Rattle.lsr_facts.specs.declared.repair.Over.{Over}
use Rattle.lsr_facts.specs.declared.repair.Repair.{Repair}
use Rattle.lsr_facts.specs.declared.resv_fact.ResvFact.{ResvFact}
use Rattle.forwarding_table.specs.declared.action.Action.TheVariants.{PushHead}
use Rattle.abstract_paths.specs.declared.events.Made.{Made}
use Rattle.abstract_paths.proofs.Heads.{is_one_of-first, is_one_of-later}
use Rattle.abstract_paths.specs.Places.{is_up}
use Rattle.abstract_paths.specs.Soundness.{IsStanding}
use Rattle.abstract_paths.specs.Tears.{leaves_by}
use Rattle.abstract_router.specs.Arrivals.{outcome}
use Rattle.abstract_router.specs.BypassTunnels.{bypass_tunnels_of, over_at}
use Rattle.abstract_router.specs.Outcomes.{Outcome}
use Rattle.abstract_router.specs.Repairing.{repair_stands, repaired, repairs_left}
use Rattle.abstract_router.specs.Soundness.{IsSound}
use Rattle.abstract_router.specs.States.{State, is_reserved}
use Rattle.abstract_router.specs.Steps.{AreSettled, Step, given_up, is_ready, promised, resvs_left, settled, stands, switched_where, taken_over, with_moments}
use Rattle.abstract_router.specs.Tables.{look_tunnel}
use Rattle.router_soundness.proofs.Running.{sound_step}
use Rattle.router_soundness.proofs.TakingOver.{found_switched, new_id, new_kept, standing_taken}
use Rattle.router_laws.proofs.GivenUp.{path_left}
use Rattle.router_laws.proofs.Pushing.{entry_is, entry_repaired}
use Rattle.router_laws.proofs.Settled.{taken_over-same}
use Rattle.router_laws.proofs.TunnelEvents.{IsReserving, IsSameTunnel, Moves, event_moves}

-- where each row of a key passes a test, what is found of it is found among those that pass
found_left : (test : Key × ResvFact → Bool) (key : Key) (rows : List (Key × ResvFact)) → AllByRecursion (λ row. key ≡ row.0 → test row ≡ true) rows → find key_cmp key (filter test rows) ≡ find key_cmp key rows
found_left test key [] passes = refl
found_left test key (row ∷ rows) passes =
    let rest = found_left test key rows passes.1 in
    elim (test row) as (λ b. (key ≡ row.0 → b ≡ true) → find key_cmp key (cond b (row ∷ filter test rows) (filter test rows)) ≡ find key_cmp key (row ∷ rows)) [
      | true ↦ λ own. ap (λ o. cond (eq_by_cmp key_cmp key row.0) (Some row.1) o) rest
      | false ↦ λ own. by (eq_by_cmp key_cmp key row.0) refl own ∙ ap (λ o. cond (eq_by_cmp key_cmp key row.0) (Some row.1) o) rest
    ] passes.0
  where
    by : (tie : Bool) → eq_by_cmp key_cmp key row.0 ≡ tie → (key ≡ row.0 → false ≡ true) → find key_cmp key (filter test rows) ≡ cond tie (Some row.1) (find key_cmp key (filter test rows))
    by true is own = absurd (let e = own (key_exact key row.0 (ties _ is)) in cc)
    by false is own = refl

-- and where none passes, nothing is found of it
found_none : {X : Type 0} (test : Key × X → Bool) (key : Key) (rows : List (Key × X)) → ((row : Key × X) → key ≡ row.0 → test row ≡ false) → find key_cmp key (filter test rows) ≡ None
found_none test key [] fails = refl
found_none test key (row ∷ rows) fails =
    let rest = found_none test key rows fails in
    elim (test row) as (λ b. (key ≡ row.0 → b ≡ false) → find key_cmp key (cond b (row ∷ filter test rows) (filter test rows)) ≡ None) [
      | true ↦ λ own. by (eq_by_cmp key_cmp key row.0) refl own rest
      | false ↦ λ own. rest
    ] (fails row)
  where
    by : (tie : Bool) → eq_by_cmp key_cmp key row.0 ≡ tie → (key ≡ row.0 → true ≡ false) → find key_cmp key (filter test rows) ≡ None → cond tie (Some row.1) (find key_cmp key (filter test rows)) ≡ None
    by true is own rest = absurd (let e = own (key_exact key row.0 (ties _ is)) in cc)
    by false is own rest = rest

-- The current LSP of a tunnel that is ready is given up.
pub ready_given_up : (r : Router) (ready : ℕ × Tunnel → Bool) (number : ℕ) (old : Tunnel) (tunnels : List (ℕ × Tunnel)) → find nat_cmp number tunnels ≡ Some old → ready (number, old) ≡ true → is_one_of (map (current_key r) (filter ready tunnels)) (current_key r (number, old)) ≡ true
ready_given_up r ready number old [] found goes = absurd (let e = found in cc)
ready_given_up r ready number old (tunnel ∷ tunnels) found goes =
    elim (eq_by_cmp nat_cmp number tunnel.0) as (λ b. eq_by_cmp nat_cmp number tunnel.0 ≡ b → cond b (Some tunnel.1) (find nat_cmp number tunnels) ≡ Some old → is_one_of (map (current_key r) (filter ready (tunnel ∷ tunnels))) (current_key r (number, old)) ≡ true) [
      | true ↦ λ tie its.
          let own : (number, old) ≡ tunnel = λ i. (exact_unsigned number tunnel.0 (ties _ tie) i, same_Some old tunnel.1 (sym its) i) in
          subst (λ (t : ℕ × Tunnel). is_one_of (map (current_key r) (filter ready (t ∷ tunnels))) (current_key r (number, old)) ≡ true) own
          (ap (λ b. is_one_of (map (current_key r) (cond b ((number, old) ∷ filter ready tunnels) (filter ready tunnels))) (current_key r (number, old))) goes ∙ is_one_of-first (current_key r (number, old)) (map (current_key r) (filter ready tunnels)))
      | false ↦ λ tie its. later (ready tunnel) (ready_given_up r ready number old tunnels its goes)
    ] refl found
  where
    later : (b : Bool) → is_one_of (map (current_key r) (filter ready tunnels)) (current_key r (number, old)) ≡ true → is_one_of (map (current_key r) (cond b (tunnel ∷ filter ready tunnels) (filter ready tunnels))) (current_key r (number, old)) ≡ true
    later true there = is_one_of-later (current_key r tunnel) (current_key r (number, old)) (map (current_key r) (filter ready tunnels)) there
    later false there = there

-- nothing stands whose path went
none_stands : (b : Bool) → (b && false) ≡ false
none_stands true = refl
none_stands false = refl

-- The tunnel went over to its new LSP, which is reserved, and the one that carried its traffic went.
record WentOver (r : Router) (number : ℕ) (old new : Tunnel) (after : State) : Type 0 where
  switched : new ≡ switched old
  pending : old.pending ≡ Some new.current
  other : new.current.id ≢ old.current.id
  resv : ResvFact
  reserved : find key_cmp (current_key r (number, new)) after.resvs ≡ Some resv
  no_path : find key_cmp (current_key r (number, old)) after.facts.paths ≡ None
  no_resv : find key_cmp (current_key r (number, old)) after.resvs ≡ None
  no_repair : find key_cmp (current_key r (number, old)) after.repairs ≡ None

module _ (r : Router) (before after : State) (made : Made) (is : IsSound r before) (rests : AreSettled r before) (x : Step r before made after) where
  abbrev o : Outcome
  o = outcome r before made.event

  abbrev mid : State
  mid = o.after

  moves : Moves r before mid
  moves = event_moves r before is rests made.event

  -- what is known after a Resv is of facts that stand
  stands_mid : IsReserving before mid → IsStanding r mid.facts
  stands_mid reserving = subst (IsStanding r) (sym reserving.facts) is.paths

  -- Tunnels stand in the order of their numbers after a step.
  pub tunnels_in_order : T (is_sorted nat_cmp after.facts.tunnels)
  unfolding repaired repairs_left
  tunnels_in_order = by_silence o.is_silent x.changed
    where
      Ordered : State → Type 0
      Ordered s = T (is_sorted nat_cmp s.facts.tunnels)

      by_rests : AreSettled r mid ⊎ IsReserving before mid → Ordered (taken_over r mid)
      by_rests (inl still) = subst Ordered (sym (taken_over-same r mid still)) (moves.in_order is.paths.tunnels.in_order)
      by_rests (inr reserving) = (standing_taken r mid (stands_mid reserving)).tunnels.in_order

      by_silence : (silent : Bool) → after ≡ (if silent then mid else with_moments r before o (settled r made.labels mid)) → Ordered after
      by_silence true came = subst Ordered (sym came) (moves.in_order is.paths.tunnels.in_order)
      by_silence false came = subst Ordered (sym came) (by_rests moves.rests)

  module _ (number : ℕ) (old new : Tunnel) (was : find nat_cmp number before.facts.tunnels ≡ Some old) (found : find nat_cmp number after.facts.tunnels ≡ Some new) where
    -- A tunnel that is known before a step and after it has the same current LSP, or went over to its new one.
    abbrev SameOrOver : Type 0
    SameOrOver = IsSameTunnel old new ⊎ WentOver r number old new after

    -- what follows from a Resv
    module _ (came : after ≡ with_moments r before o (settled r made.labels mid)) (reserving : IsReserving before mid) where
      known : find nat_cmp number mid.facts.tunnels ≡ Some old
      known = ap (λ (f : Facts). find nat_cmp number f.tunnels) reserving.facts ∙ was

      are_mid : AreTunnels r mid.facts.tunnels
      are_mid = (stands_mid reserving).tunnels

      -- the tunnels as they are then
      tunnel_then : (switched_where (is_ready r mid) (number, old)).1 ≡ new
      unfolding taken_over repaired repairs_left
      tunnel_then =
          same_Some (switched_where (is_ready r mid) (number, old)).1 new
          (sym (found_switched (is_ready r mid) number mid.facts.tunnels ∙ ap (option_map (λ t. (switched_where (is_ready r mid) (number, t)).1)) known)
          ∙ ap (λ (s : State). find nat_cmp number s.facts.tunnels) (sym came) ∙ found)

      -- the reservation of the new LSP stands
      resv_then : (lsp : TunnelLsp) (resv : ResvFact) → old.pending ≡ Some lsp → find key_cmp (head_key r number old.endpoint lsp.id) mid.resvs ≡ Some resv → find key_cmp (head_key r number old.endpoint lsp.id) after.resvs ≡ Some resv
      unfolding taken_over repaired repairs_left
      resv_then lsp resv pending reserved =
          ap (λ (s : State). find key_cmp key s.resvs) came
          ∙ found_left (stands (taken_over r mid).facts) key mid.resvs
          (all-weaker (λ row. stands before.facts row ≡ true) (λ row. key ≡ row.0 → stands (taken_over r mid).facts row ≡ true) (λ row stood own. still row own ∙ stood) mid.resvs reserving.stand)
          ∙ reserved
        where
          key : Key
          key = head_key r number old.endpoint lsp.id

          still : (row : Key × ResvFact) → key ≡ row.0 → stands (taken_over r mid).facts row ≡ stands before.facts row
          still row own =
              let kept : is_one_of (given_up r mid) row.0 ≡ false = subst (λ k. is_one_of (given_up r mid) k ≡ false) own (new_kept r mid are_mid number old lsp known pending) in
              let path = path_left r mid row.0 kept ∙ ap (λ (f : Facts). find key_cmp row.0 f.paths) reserving.facts in
              λ i. is_up (reserving.facts i).up row.1.link && option_map_or (leaves_by row.1.link) (path i) false

      -- the LSP that carried its traffic goes
      path_gone : is_ready r mid (number, old) ≡ true → find key_cmp (current_key r (number, old)) (taken_over r mid).facts.paths ≡ None
      unfolding taken_over
      path_gone ready =
          let key = current_key r (number, old) in
          let left : Key → Bool = λ k. not (is_one_of (given_up r mid) k) in
          find-where_key key_cmp left key (λ k tie. ap left (sym (key_exact key k tie))) mid.facts.paths
          ∙ ap (λ b. cond (not b) (find key_cmp key mid.facts.paths) None) (ready_given_up r (is_ready r mid) number old mid.facts.tunnels known ready)

      resv_gone : is_ready r mid (number, old) ≡ true → find key_cmp (current_key r (number, old)) after.resvs ≡ None
      unfolding repaired repairs_left
      resv_gone ready =
          let facts : Facts = (taken_over r mid).facts in
          ap (λ (s : State). find key_cmp (current_key r (number, old)) s.resvs) came
          ∙ found_none (stands facts) (current_key r (number, old)) (taken_over r mid).resvs (λ row own.
          ap (λ k. is_up facts.up row.1.link && option_map_or (leaves_by row.1.link) (find key_cmp k facts.paths) false) (sym own)
          ∙ ap (λ o. is_up facts.up row.1.link && option_map_or (leaves_by row.1.link) o false) (path_gone ready)
          ∙ none_stands (is_up facts.up row.1.link))

      repair_gone : is_ready r mid (number, old) ≡ true → find key_cmp (current_key r (number, old)) after.repairs ≡ None
      unfolding repaired repairs_left
      repair_gone ready =
          let s = resvs_left (repaired r (promised r mid)) in
          let is_over = λ (repair : Repair). is_some (over_at (bypass_tunnels_of r s) repair.bypass) in
          ap (λ (s : State). find key_cmp (current_key r (number, old)) s.repairs) came
          ∙ found_none (repair_stands r s) (current_key r (number, old)) s.repairs (λ row own.
          ap (λ k. is_over row.1 && option_map_or (leaves_by row.1.resv.link) (find key_cmp k s.facts.paths) false) (sym own)
          ∙ ap (λ o. is_over row.1 && option_map_or (leaves_by row.1.resv.link) o false) (path_gone ready)
          ∙ none_stands (is_over row.1))

      over : SameOrOver
      unfolding repaired repairs_left
      over = by_ready (is_ready r mid (number, old)) refl tunnel_then
        where
          by_resv : (lsp : TunnelLsp) → is_ready r mid (number, old) ≡ true → old.pending ≡ Some lsp → switched old ≡ new → (resv : Option ResvFact) → find key_cmp (head_key r number old.endpoint lsp.id) mid.resvs ≡ resv → is_some resv ≡ true → SameOrOver
          by_resv lsp ready pending goes None reserved some = absurd (let e = some in cc)
          by_resv lsp ready pending goes (Some resv) reserved some =
              let by_lsp : switched_to (Some lsp) old ≡ new = ap (λ p. switched_to p old) (sym pending) ∙ goes in
              let current : lsp ≡ new.current = ap (λ (t : Tunnel). t.current) by_lsp in
              inr (record {
                switched = sym goes;
                pending = pending ∙ ap Some current;
                other = λ e. new_id r mid are_mid number old lsp known pending (ap (λ (l : TunnelLsp). l.id) current ∙ e);
                resv = resv;
                reserved = ap (λ (t : Tunnel). find key_cmp (current_key r (number, t)) after.resvs) (sym by_lsp) ∙ resv_then lsp resv pending reserved;
                no_path = ap (λ (s : State). find key_cmp (current_key r (number, old)) s.facts.paths) came ∙ path_gone ready;
                no_resv = resv_gone ready;
                no_repair = repair_gone ready;
              })

          by_pending : is_ready r mid (number, old) ≡ true → (pending : Option TunnelLsp) → old.pending ≡ pending → switched old ≡ new → option_map_or (is_reserved mid) (option_map (λ (l : TunnelLsp). head_key r number old.endpoint l.id) pending) false ≡ true → SameOrOver
          by_pending now None none goes ready = absurd (let e = ready in cc)
          by_pending now (Some lsp) pending goes ready = by_resv lsp now pending goes (find key_cmp (head_key r number old.endpoint lsp.id) mid.resvs) refl ready

          by_ready : (ready : Bool) → is_ready r mid (number, old) ≡ ready → (cond {A = ℕ × Tunnel} ready (number, switched old) (number, old)).1 ≡ new → SameOrOver
          by_ready false waits same = inl (record { current = ap (λ (t : Tunnel). t.current) (sym same); endpoint = ap (λ (t : Tunnel). t.endpoint) (sym same) })
          by_ready true ready goes = by_pending ready old.pending refl goes ready

    same_or_over : SameOrOver
    unfolding repaired repairs_left
    same_or_over = by_silence o.is_silent x.changed
      where
        by_rests : after ≡ with_moments r before o (settled r made.labels mid) → AreSettled r mid ⊎ IsReserving before mid → SameOrOver
        by_rests came (inl still) = inl (moves.keeps number old new was (sym (ap (λ (s : State). find nat_cmp number s.facts.tunnels) came ∙ ap (λ (s : State). find nat_cmp number s.facts.tunnels) (taken_over-same r mid still)) ∙ found))
        by_rests came (inr reserving) = over came reserving

        by_silence : (silent : Bool) → after ≡ (if silent then mid else with_moments r before o (settled r made.labels mid)) → SameOrOver
        by_silence true came = inl (moves.keeps number old new was (sym (ap (λ (s : State). find nat_cmp number s.facts.tunnels) came) ∙ found))
        by_silence false came = by_rests came moves.rests

    -- Where the LSP is another, the tunnel went over, and its traffic leaves under the label reserved for that LSP.
    pub goes_over : new.current.id ≢ old.current.id
        → (new ≡ switched old) × (old.pending ≡ Some new.current)
        × ((resv : ResvFact) × (find key_cmp (current_key r (number, new)) after.resvs ≡ Some resv) × (look_tunnel r after number ≡ Some (PushHead None resv.label resv.link)))
    goes_over other = by same_or_over
      where
        by : SameOrOver → (new ≡ switched old) × (old.pending ≡ Some new.current) × ((resv : ResvFact) × (find key_cmp (current_key r (number, new)) after.resvs ≡ Some resv) × (look_tunnel r after number ≡ Some (PushHead None resv.label resv.link)))
        by (inl same) = absurd (other (ap (λ (l : TunnelLsp). l.id) same.current))
        by (inr over) = (over.switched, over.pending, (over.resv, over.reserved, entry_is r after number new tunnels_in_order found over.resv over.reserved))

    -- The LSP that carried the traffic until then goes, with its reservation or its repair.
    abbrev IsGone : Type 0
    IsGone =
        (find key_cmp (current_key r (number, old)) after.facts.paths ≡ None) × (find key_cmp (current_key r (number, old)) after.resvs ≡ None)
        × (find key_cmp (current_key r (number, old)) after.repairs ≡ None)

    pub goes_from : new.current.id ≢ old.current.id → IsGone
    goes_from other = by same_or_over
      where
        by : SameOrOver → IsGone
        by (inl same) = absurd (other (ap (λ (l : TunnelLsp). l.id) same.current))
        by (inr over) = (over.no_path, over.no_resv, over.no_repair)

    -- Where it has the same ID, it is the same.
    pub stays_current : new.current.id ≡ old.current.id → (new.current ≡ old.current) × (current_key r (number, new) ≡ current_key r (number, old))
    stays_current own = by same_or_over
      where
        by : SameOrOver → (new.current ≡ old.current) × (current_key r (number, new) ≡ current_key r (number, old))
        by (inl same) = (same.current, λ i. head_key r number (same.endpoint i) (same.current i).id)
        by (inr over) = absurd (over.other own)

    -- so its traffic leaves under the label that is reserved for it
    pub stays_entry : (resv : ResvFact) → new.current.id ≡ old.current.id → find key_cmp (current_key r (number, old)) after.resvs ≡ Some resv → look_tunnel r after number ≡ Some (PushHead None resv.label resv.link)
    stays_entry resv own reserved = entry_is r after number new tunnels_in_order found resv (ap (λ k. find key_cmp k after.resvs) (stays_current own).1 ∙ reserved)

    -- and where it is repaired, under that of its bypass's end, under that of the bypass
    pub stays_repaired : IsRouter r → (repair : Repair) → new.current.id ≡ old.current.id → find key_cmp (current_key r (number, old)) after.repairs ≡ Some repair
        → (over : Over) × (over_at (bypass_tunnels_of r after) repair.bypass ≡ Some over) × (look_tunnel r after number ≡ Some (PushHead (Some repair.resv.label) over.label over.link))
    stays_repaired router repair own repairs = entry_repaired r after (sound_step r before made after router is x) number new repair found (ap (λ k. find key_cmp k after.repairs) (stays_current own).1 ∙ repairs)
