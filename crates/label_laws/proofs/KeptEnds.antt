-- A bypass that is known before a step and after it is the same, and its tunnel goes to the same address.
use Rattle.std.specs.Prelude.{◌≡◌, ◌^◌, ◌+◌, ℕ, not, nat_lt, nat_le, Bool, true, false, if◌then◌else◌, List, [], ◌∷◌, length, Option, Some, None, is_none, is_some, option_map, find as find_first}
use Rattle.std.specs.FinMap.Entries.{find, put, where_key}
use Rattle.std.specs.Option.{option_and_then, option_map_or}
use Rattle.std.specs.Ordering.{is_eq, nat_cmp}
use Rattle.std.proofs.Common.{refl, sym, ap, subst, ◌∙◌, inl, inr, ⊎_elim}
use Rattle.std.proofs.lemmas.Bool.{and_parts, cases_eq, cond_both}
use Rattle.std.proofs.lemmas.Cmp.{nat_cmp_total}
use Rattle.std.proofs.lemmas.Map.Lookups.{exact_unsigned}
use Rattle.std.proofs.lemmas.Option.{same_Some}
use Rattle.sorted_rows.specs.RowsLaws.{find-put_apart, find-removed_apart, find-removed_same}
use Rattle.lsr_facts.specs.Bypasses.{carries}
use Rattle.lsr_facts.specs.Changes.{begun, switched, switched_to}
use Rattle.lsr_facts.specs.Limits.{max_bypasses}
use Rattle.lsr_facts.specs.Orders.{key_cmp}
use Rattle.lsr_facts.specs.Routers.{IsRouter, link_at}
use Rattle.lsr_facts.specs.declared.bypass.Bypass.{Bypass}
use Rattle.lsr_facts.specs.declared.facts.Facts.{Facts}
use Rattle.lsr_facts.specs.declared.key.Key.{Key}
use Rattle.lsr_facts.specs.declared.refusal.Refusal.{Refusal}
use Rattle.lsr_facts.specs.declared.refusal.Refusal.TheVariants.{BadCapacity, BypassExists, BypassOnItsLink, Full, InUse, NoMatch, UnknownLink, UnknownTunnel}
use Rattle.lsr_facts.specs.declared.repair.BypassTunnel.{BypassTunnel}
use Rattle.lsr_facts.specs.declared.repair.Repair.{Repair}
use Rattle.lsr_facts.specs.declared.router.Router.{Router}
use Rattle.lsr_facts.specs.declared.tunnel.Tunnel.{Tunnel}
use Rattle.lsr_facts.specs.declared.tunnel.TunnelLsp.{TunnelLsp}
use Rattle.abstract_paths.proofs.Alongside.{signalled-same, with_head-same, with_noted-same}
use Rattle.abstract_paths.specs.Changes.{with_link}
use Rattle.abstract_paths.specs.Commands.{bypass_by, command, commanded, is_tunnel_such, is_unknown, refusal_of, runs_over, tunnel_by, with_cancelled, with_change, with_dropped}
use Rattle.abstract_paths.specs.Heads.{signalled}
use Rattle.abstract_paths.specs.Links.{link_change}
use Rattle.abstract_paths.specs.Outcomes as paths
use Rattle.abstract_paths.specs.Places.{is_up, place_of}
use Rattle.abstract_paths.specs.Relays.{relay, relayed_by}
use Rattle.abstract_paths.specs.Routing.{route_to}
use Rattle.abstract_paths.specs.Tears.{leaves_by}
use Rattle.abstract_paths.specs.Time.{tick}
use Rattle.abstract_paths.specs.declared.commands.Command.{Command}
use Rattle.abstract_paths.specs.declared.commands.Command.TheVariants.{AddBypass, AddRoute, AddTunnel, CancelChange, ChangeTunnel, DropBypass, DropRoute, DropTunnel}
use Rattle.abstract_paths.specs.declared.events.Event.{Event}
use Rattle.abstract_paths.specs.declared.events.Event.TheVariants as events
use Rattle.abstract_paths.specs.declared.events.Made.{Made}
use Rattle.abstract_paths.specs.declared.tunnels.NewBypass.{NewBypass}
use Rattle.abstract_paths.specs.declared.ways.Relay.{Relay}
use Rattle.abstract_router.specs.Arrivals.{command_comes, commanded_by, for_reservations, moment_comes, outcome, takes_used_bypass}
use Rattle.abstract_router.specs.BypassTunnels.{bypass_tunnel_by, bypass_tunnel_of, bypass_tunnels_of, over_at}
use Rattle.abstract_router.specs.Outcomes.{Outcome, of_paths, refused}
use Rattle.abstract_router.specs.Repairing.{repair_stands, repaired, repairs_left}
use Rattle.abstract_router.specs.Soundness.{IsSound}
use Rattle.abstract_router.specs.States.{State}
use Rattle.abstract_router.specs.Steps.{AreSettled, Step, settled, taken_over, with_moments}
use Rattle.lsr_facts.specs.Lifetimes.{expire}
use Rattle.router_soundness.proofs.AssigningRepairs.{of_found}
use Rattle.router_soundness.proofs.BypassTunnels.{RunsIn, find-bypass_tunnels, runs-up}
use Rattle.router_soundness.proofs.Running.{sound_step}
use Rattle.router_laws.proofs.Arriving.{arrival_leaves}
use Rattle.router_laws.proofs.GoingOver.{goes_over, stays_current}
use Rattle.label_laws.specs.Held.{IsMadeOf, IsRenewed}
use Rattle.label_laws.proofs.Repaired.{made_or_renewed}

-- ---- bypasses

-- each bypass that is known before and after is the same
abbrev KeepBypasses : List (ℕ × Bypass) → List (ℕ × Bypass) → Type 0
KeepBypasses before after = (number : ℕ) (old new : Bypass) → find nat_cmp number before ≡ Some old → find nat_cmp number after ≡ Some new → new ≡ old

keep_same : (before after : List (ℕ × Bypass)) → after ≡ before → KeepBypasses before after
keep_same before after same number old new was now = same_Some new old (sym now ∙ ap (find nat_cmp number) same ∙ was)

-- one is put where none was
keep_put : (bypasses : List (ℕ × Bypass)) (number : ℕ) (bypass : Bypass) → find nat_cmp number bypasses ≡ None → KeepBypasses bypasses (put nat_cmp number bypass bypasses)
keep_put bypasses number bypass free n old new was now = elim (cases_eq n number) as (λ c. new ≡ old) [
  | inl own ↦ absurd (let e = sym free ∙ ap (λ k. find nat_cmp k bypasses) (sym own) ∙ was in cc)
  | inr other ↦ same_Some new old (sym now ∙ find-put_apart nat_cmp nat_cmp_total exact_unsigned n number bypass bypasses other ∙ was)
]

-- one goes
keep_removed : (bypasses : List (ℕ × Bypass)) (number : ℕ) → KeepBypasses bypasses (where_key nat_cmp (λ k. not (is_eq (nat_cmp number k))) bypasses)
keep_removed bypasses number n old new was now = elim (cases_eq n number) as (λ c. new ≡ old) [
  | inl own ↦ absurd (let e = sym (find-removed_same nat_cmp nat_cmp_total number bypasses) ∙ ap (λ k. find nat_cmp k (where_key nat_cmp (λ k. not (is_eq (nat_cmp number k))) bypasses)) (sym own) ∙ now in cc)
  | inr other ↦ same_Some new old (sym now ∙ find-removed_apart nat_cmp nat_cmp_total exact_unsigned n number bypasses other ∙ was)
]

-- A bypass is added only under a number that none has.
bypass_free : (r : Router) (s : Facts) (b : NewBypass) → refusal_of r s (AddBypass b) ≡ None → find nat_cmp b.number s.bypasses ≡ None
bypass_free r s b =
    by (is_none (link_at r b.link)) (is_unknown s b.tunnel) (find nat_cmp b.number s.bypasses)
    ((nat_le max_bypasses (length s.bypasses), Full) ∷ (is_tunnel_such (λ tunnel. runs_over r s b.link (b.tunnel, tunnel)) s b.tunnel, BypassOnItsLink) ∷ (not (is_tunnel_such (carries b.capacity) s b.tunnel), BadCapacity) ∷ [])
  where
    by : (no_link no_tunnel : Bool) (known : Option Bypass) (more : List (Bool × Refusal))
        → option_map (λ (test : Bool × Refusal). test.1) (find_first (λ (test : Bool × Refusal). test.0) ((no_link, UnknownLink) ∷ (no_tunnel, UnknownTunnel) ∷ (is_some known, BypassExists) ∷ more)) ≡ None → known ≡ None
    by true no_tunnel known more none = absurd (let e = none in cc)
    by false true known more none = absurd (let e = none in cc)
    by false false (Some bypass) more none = absurd (let e = none in cc)
    by false false None more none = refl

module _ (r : Router) (s : State) where
  abbrev Keeps : Facts → Type 0
  Keeps f = KeepBypasses s.facts.bypasses f.bypasses

  stays : (f : Facts) → f.bypasses ≡ s.facts.bypasses → Keeps f
  stays f same = keep_same s.facts.bypasses f.bypasses same

  abbrev KeepsBy : Outcome → Type 0
  KeepsBy o = Keeps o.after.facts

  relay-keeps : (m : Relay) → KeepsBy (of_paths s (relay r s.facts m))
  unfolding relay
  relay-keeps m =
      cond_both (is_none (link_at r m.link)) _ _ (λ (o : paths.PathOutcome). KeepsBy (of_paths s o)) (λ none. stays s.facts refl)
      (λ there. cond_both (not (is_up s.facts.up m.link)) _ _ (λ (o : paths.PathOutcome). KeepsBy (of_paths s o)) (λ down. stays s.facts refl) (λ up. by (route_to (place_of r s.facts) m.to)))
    where
      by : (way : Option ℕ) → KeepsBy (of_paths s (option_map_or (λ link. paths.done (relayed_by m link ∷ []) s.facts) way (paths.refused s.facts NoMatch)))
      by None = stays s.facts refl
      by (Some link) = stays s.facts refl

  link-keeps : (n : ℕ) (up : Bool) → KeepsBy (of_paths s (link_change r s.facts n up))
  unfolding link_change
  link-keeps n up = cond_both (is_none (link_at r n)) _ _ (λ (o : paths.PathOutcome). KeepsBy (of_paths s o)) (λ unknown. stays s.facts refl) (λ known. stays (with_link n up s.facts) refl)

  tick-keeps : (n : ℕ) → KeepsBy (moment_comes r s n)
  unfolding moment_comes tick
  tick-keeps n =
      cond_both (nat_lt (2 ^ 62) n) _ _ (λ (o : paths.PathOutcome). KeepsBy (for_reservations r s n (of_paths s o))) (λ above. stays s.facts refl)
      (λ most. cond_both (nat_lt n s.facts.moment) _ _ (λ (o : paths.PathOutcome). KeepsBy (for_reservations r s n (of_paths s o))) (λ below. stays s.facts refl)
      (λ later.
      let lived : Facts = record s.facts { moment = n; paths = expire n s.facts.paths } in
      stays (signalled r lived) (ap (λ (x : Facts). x.bypasses) (signalled-same r lived))))

  commanded-keeps : (c : Command) → refusal_of r s.facts c ≡ None → Keeps (commanded r s.facts c)
  commanded-keeps (AddTunnel t) none = stays (commanded r s.facts (AddTunnel t)) (ap (λ (x : Facts). x.bypasses) (with_head-same r (t.number, tunnel_by t) (tunnel_by t).current s.facts))
  commanded-keeps (ChangeTunnel c) none = by (find nat_cmp c.number s.facts.tunnels)
    where
      by : (known : Option Tunnel) → Keeps (option_map_or (λ t. with_change r c.number (begun c.route c.tspec t) s.facts) known s.facts)
      by None = stays s.facts refl
      by (Some t) =
          let new = begun c.route c.tspec t in
          stays (with_change r c.number new s.facts) (ap (λ (x : Facts). x.bypasses) (with_head-same r (c.number, new) (record { id = t.last + 1; route = c.route; tspec = c.tspec }) s.facts))
  commanded-keeps (CancelChange n) none = by (find nat_cmp n s.facts.tunnels)
    where
      by : (known : Option Tunnel) → Keeps (option_map_or (λ t. with_cancelled r n t s.facts) known s.facts)
      by None = stays s.facts refl
      by (Some t) = stays (with_cancelled r n t s.facts) refl
  commanded-keeps (DropTunnel n) none = by (find nat_cmp n s.facts.tunnels)
    where
      by : (known : Option Tunnel) → Keeps (option_map_or (λ t. with_dropped r n t s.facts) known s.facts)
      by None = stays s.facts refl
      by (Some t) = stays (with_dropped r n t s.facts) refl
  commanded-keeps (AddBypass b) none = keep_put s.facts.bypasses b.number (bypass_by b) (bypass_free r s.facts b none)
  commanded-keeps (DropBypass n) none = keep_removed s.facts.bypasses n
  commanded-keeps (AddRoute prefix link) none = stays (commanded r s.facts (AddRoute prefix link)) refl
  commanded-keeps (DropRoute prefix) none = stays (commanded r s.facts (DropRoute prefix)) refl

  command-keeps : (c : Command) → KeepsBy (command_comes r s c)
  unfolding command_comes command
  command-keeps c = by (refusal_of r s.facts c) refl
    where
      after_by : paths.PathOutcome → Outcome
      after_by o = if o.is_silent then of_paths s o else commanded_by r s c (of_paths s o)

      by : (refusal : Option Refusal) → refusal_of r s.facts c ≡ refusal → KeepsBy (after_by (option_map_or (paths.refused s.facts) refusal (paths.done [] (commanded r s.facts c))))
      by (Some refusal) is = stays s.facts refl
      by None is = cond_both (takes_used_bypass s c) (refused s InUse) _ KeepsBy (λ used. stays s.facts refl) (λ goes. commanded-keeps c is)

  event-keeps : (event : Event) → KeepsBy (outcome r s event)
  event-keeps (events.Arrive a) =
      stays (outcome r s (events.Arrive a)).after.facts
      (arrival_leaves r s (λ (f : Facts). f.bypasses ≡ s.facts.bypasses) refl (λ key fact. refl) (λ key. refl) (λ e n. ap (λ (f : Facts). f.bypasses) (with_noted-same e n s.facts)) a)
  event-keeps (events.Relay m) = relay-keeps m
  event-keeps (events.Tick n) = tick-keeps n
  event-keeps (events.LinkUp n) = link-keeps n true
  event-keeps (events.LinkDown n) = link-keeps n false
  event-keeps (events.Command c) = command-keeps c
  event-keeps events.Restart = stays (outcome r s events.Restart).after.facts refl
  event-keeps events.Start = stays (outcome r s events.Start).after.facts refl

step-keeps : (r : Router) (before after : State) (made : Made) → Step r before made after → KeepBypasses before.facts.bypasses after.facts.bypasses
unfolding taken_over repaired repairs_left
step-keeps r before after made x = subst (λ (t : State). KeepBypasses before.facts.bypasses t.facts.bypasses) (sym x.changed) (by o.is_silent)
  where
    o : Outcome
    o = outcome r before made.event

    by : (silent : Bool) → KeepBypasses before.facts.bypasses (if silent then o.after else with_moments r before o (settled r made.labels o.after)).facts.bypasses
    by true = event-keeps r before made.event
    by false = event-keeps r before made.event

-- ---- where they end

-- a tunnel that goes over to its new LSP goes to the same address
switched-endpoint : (tunnel : Tunnel) → (switched tunnel).endpoint ≡ tunnel.endpoint
switched-endpoint tunnel = by tunnel.pending
  where
    by : (o : Option TunnelLsp) → (switched_to o tunnel).endpoint ≡ tunnel.endpoint
    by None = refl
    by (Some lsp) = refl

module _ (r : Router) (before after : State) (made : Made) (is : IsSound r before) (rests : AreSettled r before) (x : Step r before made after) where
  same_endpoint : (number : ℕ) (old new : Tunnel) → find nat_cmp number before.facts.tunnels ≡ Some old → find nat_cmp number after.facts.tunnels ≡ Some new → new.endpoint ≡ old.endpoint
  same_endpoint number old new was now = elim (cases_eq new.current.id old.current.id) as (λ c. new.endpoint ≡ old.endpoint) [
    | inl own ↦ ap (λ (k : Key). k.session.endpoint) (stays_current r before after made is rests x number old new was now own).1
    | inr other ↦ ap (λ (t : Tunnel). t.endpoint) (goes_over r before after made is rests x number old new was now other).0 ∙ switched-endpoint old
  ]

  -- a bypass that is up before and after ends at the same router
  abbrev EndsThere : ℕ → ℕ → Type 0
  EndsThere old new =
      (was : BypassTunnel) × (now : BypassTunnel) × (find nat_cmp old (bypass_tunnels_of r before) ≡ Some was) × (find nat_cmp new (bypass_tunnels_of r after) ≡ Some now) × (now.ends_at ≡ was.ends_at)

  same_bypass : IsSound r after → (number : ℕ) → RunsIn before.facts number → RunsIn after.facts number → EndsThere number number
  same_bypass sound number was now =
      let same : now.bypass ≡ was.bypass = step-keeps r before after made x number was.bypass now.bypass was.known now.known in
      let then_tunnel : find nat_cmp was.bypass.tunnel after.facts.tunnels ≡ Some now.tunnel = ap (λ (b : Bypass). find nat_cmp b.tunnel after.facts.tunnels) (sym same) ∙ now.runs in (
        bypass_tunnel_of r before was.bypass was.tunnel,
        bypass_tunnel_of r after now.bypass now.tunnel,
        find-bypass_tunnels r before number is.paths.bypasses.in_order ∙ ap (option_and_then (λ bypass. bypass_tunnel_by r before (number, bypass))) was.known ∙ ap (option_map (bypass_tunnel_of r before was.bypass)) was.runs,
        find-bypass_tunnels r after number sound.paths.bypasses.in_order ∙ ap (option_and_then (λ bypass. bypass_tunnel_by r after (number, bypass))) now.known ∙ ap (option_map (bypass_tunnel_of r after now.bypass)) now.runs,
        same_endpoint was.bypass.tunnel was.tunnel now.tunnel was.runs then_tunnel,
      )

-- the bypass of a repair is known, and its tunnel
runs_in : (r : Router) (s : State) (key : Key) (repair : Repair) → IsSound r s → find key_cmp key s.repairs ≡ Some repair → RunsIn s.facts repair.bypass
runs_in r s key repair is found =
    let stood : repair_stands r s (key, repair) ≡ true = of_found (λ (u : Key × Repair). repair_stands r s u ≡ true) key repair s.repairs is.repairs_standing found in
    runs-up r s repair.bypass is.paths.bypasses.in_order (and_parts (is_some (over_at (bypass_tunnels_of r s) repair.bypass)) (option_map_or (leaves_by repair.resv.link) (find key_cmp key s.facts.paths) false) stood).0

-- a repair keeps bypass and link
module _ (r : Router) (before after : State) (made : Made) (key : Key) (old new : Repair) (router : IsRouter r) (is : IsSound r before) (x : Step r before made after) (was : find key_cmp key before.repairs ≡ Some old) (now : find key_cmp key after.repairs ≡ Some new) where
  abbrev IsSameWay : Type 0
  IsSameWay = (new.bypass ≡ old.bypass) × (new.resv.link ≡ old.resv.link)

  same_repair : new ≡ old → IsSameWay
  same_repair same = (ap (λ (u : Repair). u.bypass) same, ap (λ (u : Repair). u.resv.link) same)

  same_way : IsSameWay
  same_way =
      ⊎_elim (λ (kept : find key_cmp key before.repairs ≡ Some new). same_repair (same_Some new old (sym kept ∙ was)))
      (⊎_elim
      (λ (made_new : IsMadeOf r before after key new).
      absurd (let e = sym (of_found (λ (u : Key × Repair). find key_cmp u.0 before.resvs ≡ None) key old before.repairs is.repaired.apart was) ∙ made_new.reserved in cc))
      (λ (renewed : IsRenewed r before made.event key new).
      let own : renewed.old ≡ old = same_Some renewed.old old (sym renewed.was ∙ was) in
      (ap (λ (u : Repair). u.bypass) renewed.renewed ∙ ap (λ (u : Repair). u.bypass) own, ap (λ (u : Repair). u.resv.link) renewed.renewed ∙ ap (λ (u : Repair). u.resv.link) own))) (made_or_renewed r before after made key new router is x now)

pub keeps_end : (r : Router) (before after : State) (made : Made) (key : Key) (old new : Repair) → IsRouter r → IsSound r before → AreSettled r before → Step r before made after → find key_cmp key before.repairs ≡ Some old → find key_cmp key after.repairs ≡ Some new
    → (new.bypass ≡ old.bypass) × (new.resv.link ≡ old.resv.link)
    × ((was : BypassTunnel) × (now : BypassTunnel) × (find nat_cmp old.bypass (bypass_tunnels_of r before) ≡ Some was) × (find nat_cmp new.bypass (bypass_tunnels_of r after) ≡ Some now) × (now.ends_at ≡ was.ends_at))
keeps_end r before after made key old new router is rests x was now =
    let way = same_way r before after made key old new router is x was now in
    let sound = sound_step r before made after router is x in
    let then_in : RunsIn after.facts old.bypass = subst (RunsIn after.facts) way.0 (runs_in r after key new sound now) in (
      way.0,
      way.1,
      subst (λ (number : ℕ). EndsThere r before after made is rests x old.bypass number) (sym way.0) (same_bypass r before after made is rests x sound old.bypass (runs_in r before key old is was) then_in),
    )
