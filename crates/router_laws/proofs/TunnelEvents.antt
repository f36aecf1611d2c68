-- What events do of themselves to tunnels: each that is known before and after has the same current LSP, and only a Resv
-- reserves an LSP that is to take another's place.
use Rattle.std.specs.Prelude.{◌≡◌, ◌⊎◌, ◌+◌, IfSome, ◌^◌, ◌&&◌, ◌||◌, ℕ, not, nat_le, nat_lt, Bool, true, false, cond, if◌then◌else◌, T, List, [], ◌∷◌, filter, filter_map, fold, length, Option, Some, None, is_none, is_some, option_map, option_to_list, find as find_first}
use Rattle.std.specs.FinMap.Entries.{find, find-where_key, is_sorted, is_sorted-put, is_sorted-where_key, put, where_key}
use Rattle.std.specs.List.{AllByRecursion, list_any}
use Rattle.std.specs.Option.{option_map_or}
use Rattle.std.specs.Ordering.{is_eq, nat_cmp}
use Rattle.std.proofs.Common.{refl, sym, ap, subst, ◌∙◌, inl, inr}
use Rattle.std.proofs.lemmas.Bool.{cases_eq, cond_both, not-false}
use Rattle.std.proofs.lemmas.Cmp.{nat_cmp_total}
use Rattle.std.proofs.lemmas.Map.Lookups.{exact_unsigned}
use Rattle.std.proofs.lemmas.Option.{same_Some}
use Rattle.rsvp_contents.specs.declared.message.Reading.TheVariants as readings
use Rattle.rsvp_contents.specs.declared.message.Reading.{Reading}
use Rattle.rsvp_contents.specs.declared.messages.Content.TheVariants as contents
use Rattle.rsvp_contents.specs.declared.messages.Content.{Content}
use Rattle.rsvp_contents.specs.declared.messages.Path.{Path}
use Rattle.rsvp_contents.specs.declared.messages.PathErr.{PathErr}
use Rattle.rsvp_contents.specs.declared.messages.PathTear.{PathTear}
use Rattle.rsvp_contents.specs.declared.messages.Resv.{Resv}
use Rattle.rsvp_contents.specs.declared.messages.ResvErr.{ResvErr}
use Rattle.rsvp_contents.specs.declared.messages.ResvTear.{ResvTear}
use Rattle.rsvp_contents.specs.declared.descriptors.FlowDescriptor.{FlowDescriptor}
use Rattle.rsvp_objects.specs.declared.values.ErrorSpec.{ErrorSpec}
use Rattle.sorted_rows.specs.ListLaws.{all-always, all-filter, all-map, all-weaker}
use Rattle.sorted_rows.specs.RowsLaws.{all-put_row, find-all_row, find-map, find-put_apart, find-put_same, find-removed_apart, find-removed_same, is_sorted-both}
use Rattle.lsr_facts.specs.OrderLaws.{key_exact}
use Rattle.lsr_facts.specs.Orders.{is_one_of, key_cmp}
use Rattle.lsr_facts.specs.Routers.{link_at}
use Rattle.lsr_facts.specs.Tunnels.{head_key}
use Rattle.lsr_facts.specs.declared.errors.RsvpError.{RsvpError}
use Rattle.lsr_facts.specs.declared.facts.Facts.{Facts}
use Rattle.lsr_facts.specs.declared.key.Key.{Key}
use Rattle.lsr_facts.specs.declared.path_fact.PathFact.{PathFact}
use Rattle.lsr_facts.specs.declared.refusal.Refusal.{Refusal}
use Rattle.lsr_facts.specs.declared.refusal.Refusal.TheVariants.{BadRoute, Full, InUse, LinkDown, NoMatch, TunnelExists, UnknownLink}
use Rattle.lsr_facts.specs.declared.router.Router.{Router}
use Rattle.lsr_facts.specs.declared.tunnel.Tunnel.{Tunnel}
use Rattle.lsr_facts.specs.declared.tunnel.TunnelLsp.{TunnelLsp}
use Rattle.lsr_facts.specs.Changes.{begun, cancelled}
use Rattle.lsr_facts.specs.Reservations.{style_of}
use Rattle.lsr_facts.specs.declared.resv_fact.ResvFact.{ResvFact}
use Rattle.lsr_facts.specs.declared.resv_fact.ResvStyle.{ResvStyle}
use Rattle.abstract_paths.specs.declared.commands.Command.{Command}
use Rattle.abstract_paths.specs.declared.commands.Command.TheVariants.{AddTunnel, ChangeTunnel, CancelChange, DropTunnel, AddBypass, DropBypass, AddRoute, DropRoute}
use Rattle.abstract_paths.specs.declared.events.Event.{Event}
use Rattle.abstract_paths.specs.declared.events.Event.TheVariants as events
use Rattle.abstract_paths.specs.declared.events.Output.{Output}
use Rattle.abstract_paths.specs.declared.tunnels.NewTunnel.{NewTunnel}
use Rattle.abstract_paths.specs.declared.ways.ArrivalWay.{ArrivalWay}
use Rattle.abstract_paths.specs.declared.ways.ArrivalWay.TheVariants as ways
use Rattle.abstract_paths.specs.declared.ways.Arrive.{Arrive}
use Rattle.abstract_paths.specs.declared.ways.Relay.{Relay}
use Rattle.abstract_paths.proofs.Alongside.{signalled-same, with_head-same}
use Rattle.abstract_paths.proofs.Heads.{is_one_of-first}
use Rattle.abstract_paths.specs.Changes.{with_tunnel}
use Rattle.abstract_paths.specs.Commands.{begun_by, command, commanded, is_bad_tunnel, refusal_of, tunnel_by, with_cancelled, with_change, with_dropped}
use Rattle.abstract_paths.specs.Heads.{is_full, noted, with_head, with_noted}
use Rattle.abstract_paths.specs.Links.{link_change}
use Rattle.abstract_paths.specs.Merging.{stack_path_arrival, stack_tear_arrival}
use Rattle.abstract_paths.specs.Outcomes as paths
use Rattle.abstract_paths.specs.Outcomes.{lsp}
use Rattle.abstract_paths.specs.Paths.{failed, key_of, path_arrival}
use Rattle.abstract_paths.specs.Places.{is_up, place_of}
use Rattle.abstract_paths.specs.Relays.{relay, relayed_by}
use Rattle.abstract_paths.specs.Restarts.{all_cancelled, started}
use Rattle.abstract_paths.specs.Routing.{route_to}
use Rattle.abstract_paths.specs.RowLaws.{keys-map}
use Rattle.abstract_paths.specs.Tears.{leaves_by, path_err_arrival, path_tear_arrival}
use Rattle.abstract_paths.specs.Time.{tick}
use Rattle.abstract_router.specs.Arrivals.{arrival, arrival_by, command_comes, commanded_by, for_reservations, is_done, labelled_path_arrival, lost, message_arrival, moment_comes, outcome, reading_arrival, routed_arrival, stack_arrival, takes_used_bypass}
use Rattle.lsr_facts.specs.Errors.{no_label, no_sender, unknown_style}
use Rattle.abstract_router.specs.Labels.{has_free_label}
use Rattle.abstract_router.specs.Outcomes.{Outcome, of_paths, refused}
use Rattle.abstract_router.specs.Preempting.{giving_way}
use Rattle.abstract_router.specs.Reserving.{Failed, Granted, PassedOver, Progress, Verdict, all_descriptors, carried_on, key_in, next_descriptor, resv_arrival, resv_by, resv_failed, resv_replied, unknown_resv, verdict_of, verdict_on_path}
use Rattle.lsr_facts.specs.Claims.{is_same_session}
use Rattle.abstract_router.specs.Soundness.{IsSound}
use Rattle.abstract_router.specs.Returning.{all_returned}
use Rattle.abstract_router.specs.States.{State, is_repaired, is_reserved, with_facts, with_repairs_where, without_held}
use Rattle.abstract_router.specs.Steps.{AreSettled, is_ready, stands}
use Rattle.abstract_router.specs.Tearing.{err_onward, is_resv_torn_by, resv_err_arrival, resv_err_passed_on, resv_tear_arrival, stack_err_arrival, stack_err_onward}
use Rattle.router_soundness.proofs.OtherWays.{returned_err_by, returned_resv_by, returned_tear_by, returned_unknown_by, unknown_routed_by, unknown_stack_by}
use Rattle.router_laws.proofs.Arriving.{err_leaves, err_of_path_leaves, path_leaves, returned-same, stack_path_leaves, stack_tear_leaves, tear_leaves}
use Rattle.router_laws.proofs.Settled.{none_of_fewer, still_waits}
use Rattle.router_laws.proofs.Ticks.{lived, ticked, ticked-settled}
use Rattle.router_laws.proofs.Touching.{neither}

-- The tunnel carries its traffic by the same LSP, to the same end.
pub record IsSameTunnel (old new : Tunnel) : Type 0 where
  pub current : new.current ≡ old.current
  pub endpoint : new.endpoint ≡ old.endpoint

-- A tunnel is known that does so in the place of this one.
abbrev pub IsTunnelThen : ℕ → Tunnel → List (ℕ × Tunnel) → Type 0
IsTunnelThen number old tunnels = (new : Tunnel) × (find nat_cmp number tunnels ≡ Some new) × IsSameTunnel old new

module _ (tunnels : List (ℕ × Tunnel)) (number other : ℕ) (old : Tunnel) where
  -- So it is where a tunnel is put that does so, if it has the number.
  pub then_put : (t : Tunnel) → find nat_cmp number tunnels ≡ Some old → (other ≡ number → IsSameTunnel old t) → IsTunnelThen number old (put nat_cmp other t tunnels)
  then_put t was same = elim (cases_eq other number) as (λ c. IsTunnelThen number old (put nat_cmp other t tunnels)) [
    | inl own ↦ (t, ap (λ n. find nat_cmp n (put nat_cmp other t tunnels)) (sym own) ∙ find-put_same nat_cmp nat_cmp_total other t tunnels, same own)
    | inr apart ↦ (old, find-put_apart nat_cmp nat_cmp_total exact_unsigned number other t tunnels (λ e. apart (sym e)) ∙ was, record { current = refl; endpoint = refl })
  ]

  -- And so it is where it has the current LSP of the tunnel that had its number.
  pub then_known : (known t : Tunnel) → find nat_cmp number tunnels ≡ Some old → find nat_cmp other tunnels ≡ Some known → IsSameTunnel known t → IsTunnelThen number old (put nat_cmp other t tunnels)
  then_known known t was its same = then_put t was (λ own. subst (λ u. IsSameTunnel u t) (same_Some known old (sym its ∙ ap (λ n. find nat_cmp n tunnels) own ∙ was)) same)

-- So does each that is known before and after.
abbrev pub KeepTunnels : List (ℕ × Tunnel) → List (ℕ × Tunnel) → Type 0
KeepTunnels before after = (number : ℕ) (old new : Tunnel) → find nat_cmp number before ≡ Some old → find nat_cmp number after ≡ Some new → IsSameTunnel old new

same_tunnel : (old new : Tunnel) → new ≡ old → IsSameTunnel old new
same_tunnel old new same = record { current = ap (λ (t : Tunnel). t.current) same; endpoint = ap (λ (t : Tunnel). t.endpoint) same }

keep_same : (before after : List (ℕ × Tunnel)) → after ≡ before → KeepTunnels before after
keep_same before after same number old new was is = same_tunnel old new (same_Some new old (sym is ∙ ap (find nat_cmp number) same ∙ was))

module _ (number : ℕ) (tunnels : List (ℕ × Tunnel)) where
  -- a tunnel is put that is the same as before, if one was there
  keep_put : (t : Tunnel) → ((old : Tunnel) → find nat_cmp number tunnels ≡ Some old → IsSameTunnel old t) → KeepTunnels tunnels (put nat_cmp number t tunnels)
  keep_put t same n old new was is = elim (cases_eq n number) as (λ c. IsSameTunnel old new) [
    | inl own ↦
        let put_there : t ≡ new = same_Some t new (sym (find-put_same nat_cmp nat_cmp_total number t tunnels) ∙ ap (λ k. find nat_cmp k (put nat_cmp number t tunnels)) (sym own) ∙ is) in
        subst (IsSameTunnel old) put_there (same old (ap (λ k. find nat_cmp k tunnels) (sym own) ∙ was))
    | inr other ↦ same_tunnel old new (same_Some new old (sym is ∙ find-put_apart nat_cmp nat_cmp_total exact_unsigned n number t tunnels other ∙ was))
  ]

  -- a tunnel goes
  keep_removed : KeepTunnels tunnels (where_key nat_cmp (λ k. not (is_eq (nat_cmp number k))) tunnels)
  keep_removed n old new was is = elim (cases_eq n number) as (λ c. IsSameTunnel old new) [
    | inl own ↦ absurd (let e = sym (find-removed_same nat_cmp nat_cmp_total number tunnels) ∙ ap (λ k. find nat_cmp k (where_key nat_cmp (λ k. not (is_eq (nat_cmp number k))) tunnels)) (sym own) ∙ is in cc)
    | inr other ↦ same_tunnel old new (same_Some new old (sym is ∙ find-removed_apart nat_cmp nat_cmp_total exact_unsigned n number tunnels other ∙ was))
  ]

-- all changes are given up
keep_cancelled : (tunnels : List (ℕ × Tunnel)) → KeepTunnels tunnels (all_cancelled tunnels)
keep_cancelled tunnels number old new was is =
    let found : cancelled old ≡ new = same_Some (cancelled old) new (sym (find-map nat_cmp cancelled number tunnels ∙ ap (option_map cancelled) was) ∙ is) in
    record { current = ap (λ (t : Tunnel). t.current) (sym found); endpoint = ap (λ (t : Tunnel). t.endpoint) (sym found) }

-- All facts are as before, and each reservation stands.
pub record IsReserving (before after : State) : Type 0 where
  pub facts : after.facts ≡ before.facts
  pub stand : AllByRecursion (λ resv. stands before.facts resv ≡ true) after.resvs

-- What an event leaves of tunnels: they stand in order; each that is known still has its current LSP; and no LSP that is
-- to take another's place is reserved, unless the event reserves LSPs and does no more.
pub record Moves (r : Router) (before after : State) : Type 0 where
  pub in_order : T (is_sorted nat_cmp before.facts.tunnels) → T (is_sorted nat_cmp after.facts.tunnels)
  pub keeps : KeepTunnels before.facts.tunnels after.facts.tunnels
  pub rests : AreSettled r after ⊎ IsReserving before after

-- no more LSPs are reserved than before
abbrev NoMore : State → State → Type 0
NoMore before after = (key : Key) → is_reserved before key ≡ false → is_reserved after key ≡ false

-- A tunnel is begun only under a number that none has.
pub number_free : (r : Router) (s : Facts) (t : NewTunnel) → refusal_of r s (AddTunnel t) ≡ None → find nat_cmp t.number s.tunnels ≡ None
number_free r s t = by (find nat_cmp t.number s.tunnels) ((nat_le 256 (length s.tunnels) || is_full s, Full) ∷ (is_bad_tunnel r s t, BadRoute) ∷ [])
  where
    by : (known : Option Tunnel) (more : List (Bool × Refusal)) → option_map (λ (test : Bool × Refusal). test.1) (find_first (λ (test : Bool × Refusal). test.0) ((not (is_none known), TunnelExists) ∷ more)) ≡ None → known ≡ None
    by None more none = refl
    by (Some u) more none = absurd (let e : Some TunnelExists ≡ None = none in cc)

module _ (r : Router) (s : State) (rests : AreSettled r s) where
  -- tunnels stay, and no more LSPs are reserved than before
  settles_same : (after : State) → after.facts.tunnels ≡ s.facts.tunnels → NoMore s after → AreSettled r after
  settles_same after same fewer =
      subst (λ (tunnels : List (ℕ × Tunnel)). AllByRecursion (λ tunnel. is_ready r after tunnel ≡ false) tunnels) (sym same)
      (all-weaker (λ tunnel. is_ready r s tunnel ≡ false) (λ tunnel. is_ready r after tunnel ≡ false) (λ tunnel waits. still_waits r s after tunnel.0 tunnel.1 fewer waits) s.facts.tunnels rests)

  moves_same : (after : State) → after.facts.tunnels ≡ s.facts.tunnels → NoMore s after → Moves r s after
  moves_same after same fewer = record { in_order = subst (λ (tunnels : List (ℕ × Tunnel)). T (is_sorted nat_cmp tunnels)) (sym same); keeps = keep_same s.facts.tunnels after.facts.tunnels same; rests = inl (settles_same after same fewer) }

  -- where no more LSPs are reserved than before, none waits
  settles_moved : (after : State) → NoMore s after → AreSettled r after ⊎ IsReserving s after → AreSettled r after
  settles_moved after fewer (inl still) = still
  settles_moved after fewer (inr reserving) = settles_same after (ap (λ (x : Facts). x.tunnels) reserving.facts) fewer

  -- a tunnel is put
  moves_put : (after : State) (number : ℕ) (t : Tunnel) → after.facts.tunnels ≡ put nat_cmp number t s.facts.tunnels → NoMore s after → is_ready r after (number, t) ≡ false
      → ((old : Tunnel) → find nat_cmp number s.facts.tunnels ≡ Some old → IsSameTunnel old t) → Moves r s after
  moves_put after number t is fewer waits same = record {
    in_order = λ h. subst (λ (tunnels : List (ℕ × Tunnel)). T (is_sorted nat_cmp tunnels)) (sym is) (is_sorted-put nat_cmp nat_cmp_total number t s.facts.tunnels h);
    keeps = subst (KeepTunnels s.facts.tunnels) (sym is) (keep_put number s.facts.tunnels t same);
    rests = inl (subst (λ (tunnels : List (ℕ × Tunnel)). AllByRecursion (λ tunnel. is_ready r after tunnel ≡ false) tunnels) (sym is)
        (all-put_row nat_cmp (λ tunnel. is_ready r after tunnel ≡ false) number t (λ k tied. subst (λ n. is_ready r after (n, t) ≡ false) (exact_unsigned number k tied) waits) waits s.facts.tunnels
        (all-weaker (λ tunnel. is_ready r s tunnel ≡ false) (λ tunnel. is_ready r after tunnel ≡ false) (λ tunnel waits. still_waits r s after tunnel.0 tunnel.1 fewer waits) s.facts.tunnels rests)));
  }

  -- nothing changes
  moves_none : Moves r s s
  moves_none = moves_same s refl (λ key none. none)

  -- what an event does to paths
  moves_paths : (o : paths.PathOutcome) → o.after.tunnels ≡ s.facts.tunnels → Moves r s (of_paths s o).after
  moves_paths o same = moves_same (of_paths s o).after same (λ key none. none)

  -- a Path
  path_tunnels : (link : ℕ) (p : Path) → (path_arrival r s.facts link p).after.tunnels ≡ s.facts.tunnels
  path_tunnels link p = path_leaves s.facts (λ facts. facts.tunnels ≡ s.facts.tunnels) refl r link p (λ fact. refl)

  path_moves : (link : ℕ) (p : Path) → Moves r s (labelled_path_arrival r s link p).after
  unfolding labelled_path_arrival
  path_moves link p =
      cond_both (is_done (path_arrival r s.facts link p).reply && is_none (find key_cmp (key_of p) s.facts.paths) && not (has_free_label r s.labels s.resting)) (of_paths s (failed r s.facts link p no_label)) (of_paths s (path_arrival r s.facts link p)) (λ (o : Outcome). Moves r s o.after)
      (λ full. moves_paths (failed r s.facts link p no_label) refl) (λ room. moves_paths (path_arrival r s.facts link p) (path_tunnels link p))

  -- a PathTear
  tear_moves : (link : ℕ) (t : PathTear) → Moves r s (of_paths s (path_tear_arrival s.facts link t)).after
  tear_moves link t = moves_paths (path_tear_arrival s.facts link t) (tear_leaves s.facts (λ facts. facts.tunnels ≡ s.facts.tunnels) refl link t (λ fact. refl) refl)

  -- the new LSP of a tunnel that is known isn't reserved
  waits_known : (number : ℕ) (t : Tunnel) → find nat_cmp number s.facts.tunnels ≡ Some t → is_ready r s (number, t) ≡ false
  waits_known number t found = subst (λ o. IfSome o (λ u. is_ready r s (number, u) ≡ false)) found (find-all_row nat_cmp exact_unsigned (λ tunnel. is_ready r s tunnel ≡ false) number s.facts.tunnels rests)

  -- an error is noted
  noted_moves : (e : ErrorSpec) (number : ℕ) → Moves r s (with_facts (with_noted e number s.facts) s)
  noted_moves e number = by (find nat_cmp number s.facts.tunnels) refl
    where
      by : (known : Option Tunnel) → find nat_cmp number s.facts.tunnels ≡ known → Moves r s (with_facts (option_map_or (λ t. with_tunnel number (noted e t) s.facts) known s.facts) s)
      by None found = moves_none
      by (Some t) found =
          let after = with_facts (with_tunnel number (noted e t) s.facts) s in
          moves_put after number (noted e t) refl (λ key none. none)
          (still_waits r s after number (noted e t) (λ key none. none) (waits_known number t found))
          (λ old was. let own : t ≡ old = same_Some t old (sym found ∙ was) in record { current = ap (λ (u : Tunnel). u.current) own; endpoint = ap (λ (u : Tunnel). u.endpoint) own })

  -- No LSP that is to take another's place is reserved then.
  pub noted_rests : (e : ErrorSpec) (number : ℕ) → AreSettled r (with_facts (with_noted e number s.facts) s)
  noted_rests e number = settles_moved (with_facts (with_noted e number s.facts) s) (λ key none. none) (noted_moves e number).rests

  -- a PathErr
  err_moves : (link : ℕ) (e : PathErr) → Moves r s (of_paths s (path_err_arrival r s.facts link e)).after
  err_moves link e = err_leaves s.facts (λ facts. Moves r s (with_facts facts s)) moves_none r link e (noted_moves e.error e.session.tunnel)

  -- a ResvTear
  resv_tear_moves : (link : ℕ) (t : ResvTear) → Moves r s (resv_tear_arrival s link t).after
  unfolding resv_tear_arrival
  resv_tear_moves link t =
      cond_both (list_any (is_resv_torn_by link t) s.resvs) _ (refused s NoMatch) (λ (o : Outcome). Moves r s o.after)
      (λ some. moves_same _ refl (λ key none. none_of_fewer (λ resv. not (is_resv_torn_by link t resv)) key s.resvs none)) (λ none. moves_none)

  -- a ResvErr
  passed_on_moves : (matched : List (List Output)) → Moves r s (resv_err_passed_on s matched).after
  passed_on_moves [] = moves_none
  passed_on_moves (one ∷ more) = moves_none

  resv_err_moves : (link : ℕ) (e : ResvErr) → Moves r s (resv_err_arrival r s link e).after
  unfolding resv_err_arrival
  resv_err_moves link e = passed_on_moves (filter_map (err_onward r s link e) e.descriptors)

  -- ---- what comes by other ways

  stack_err_moves : (e : ResvErr) → Moves r s (stack_err_arrival r s e).after
  unfolding stack_err_arrival
  stack_err_moves e = passed_on_moves (filter_map (stack_err_onward r s e) e.descriptors)

  -- what comes through a stack
  stack_moves : (content : Content) → Moves r s (stack_arrival r s content).after
  stack_moves (contents.Path p) = moves_paths (stack_path_arrival s.facts p) (stack_path_leaves s.facts (λ facts. facts.tunnels ≡ s.facts.tunnels) refl p (λ path only. refl))
  stack_moves (contents.Resv v) = moves_none
  stack_moves (contents.PathErr e) = moves_none
  stack_moves (contents.ResvErr e) = stack_err_moves e
  stack_moves (contents.PathTear t) = moves_paths (stack_tear_arrival s.facts t) (stack_tear_leaves s.facts (λ facts. facts.tunnels ≡ s.facts.tunnels) refl t (λ path found. (λ fact. refl, refl)))
  stack_moves (contents.ResvTear t) = moves_none

  -- and what comes in a Routed frame
  routed_moves : (content : Content) → Moves r s (routed_arrival r s content).after
  routed_moves (contents.Path p) = moves_none
  routed_moves (contents.Resv v) =
      returned_resv_by (λ o. Moves r s o.after) r s moves_none v (λ style reply heard. subst (Moves r s) (sym (returned-same r s style v)) (moves_same (record s { repairs = (all_returned r s style v).state.repairs }) refl (λ key none. none)))
  routed_moves (contents.PathErr e) =
      returned_err_by (λ o. Moves r s o.after) r s moves_none e (λ key path. err_of_path_leaves s.facts (λ facts. Moves r s (with_facts facts s)) moves_none r key e path (noted_moves e.error e.session.tunnel))
  routed_moves (contents.ResvErr e) = moves_none
  routed_moves (contents.PathTear t) = moves_none
  routed_moves (contents.ResvTear t) = returned_tear_by (λ o. Moves r s o.after) r s moves_none t (λ test. moves_same (with_repairs_where test s) refl (λ key none. none))

  -- a message for another router
  relay_moves : (m : Relay) → Moves r s (of_paths s (relay r s.facts m)).after
  unfolding relay
  relay_moves m =
      cond_both (is_none (link_at r m.link)) _ _ (λ (o : paths.PathOutcome). Moves r s (of_paths s o).after) (λ none. moves_none)
      (λ there. cond_both (not (is_up s.facts.up m.link)) _ _ (λ (o : paths.PathOutcome). Moves r s (of_paths s o).after) (λ down. moves_none) (λ up. by (route_to (place_of r s.facts) m.to)))
    where
      by : (way : Option ℕ) → Moves r s (of_paths s (option_map_or (λ link. paths.done (relayed_by m link ∷ []) s.facts) way (paths.refused s.facts NoMatch))).after
      by None = moves_none
      by (Some link) = moves_none

  -- a link
  link_moves : (number : ℕ) (so : Bool) → Moves r s (of_paths s (link_change r s.facts number so)).after
  unfolding link_change
  link_moves number so = cond_both (is_none (link_at r number)) _ _ (λ (o : paths.PathOutcome). Moves r s (of_paths s o).after) (λ unknown. moves_none) (λ known. moves_same _ refl (λ key none. none))

  -- a moment
  tick_moves : (n : ℕ) → Moves r s (moment_comes r s n).after
  unfolding moment_comes tick ticked lived
  tick_moves n =
      cond_both (nat_lt (2 ^ 62) n) _ _ After (λ above. moves_none)
      (λ most. cond_both (nat_lt n s.facts.moment) _ _ After (λ below. moves_none)
      (λ later.
      let same = ap (λ (x : Facts). x.tunnels) (signalled-same r (lived s.facts n)) in
      record { in_order = subst (λ (tunnels : List (ℕ × Tunnel)). T (is_sorted nat_cmp tunnels)) (sym same); keeps = keep_same s.facts.tunnels (ticked r s n).after.facts.tunnels same; rests = inl (ticked-settled r s n rests) }))
    where
      After : paths.PathOutcome → Type 0
      After o = Moves r s (for_reservations r s n (of_paths s o)).after

  -- a restart
  lost_moves : Moves r s (lost s).after
  lost_moves = record {
    in_order = subst T (sym (is_sorted-both nat_cmp (all_cancelled s.facts.tunnels) s.facts.tunnels (keys-map (λ tunnel. cancelled tunnel.1) s.facts.tunnels)));
    keeps = keep_cancelled s.facts.tunnels;
    rests = inl (all-map (λ tunnel. is_ready r (lost s).after tunnel ≡ false) (λ tunnel. (tunnel.0, cancelled tunnel.1)) s.facts.tunnels (all-always (λ tunnel. is_ready r (lost s).after (tunnel.0, cancelled tunnel.1) ≡ false) (λ tunnel. refl) s.facts.tunnels));
  }

  -- ---- commands

  -- what is left of reservations without those of some LSPs
  fewer_without : (keys : List Key) (facts : Facts) → NoMore s (without_held keys (with_facts facts s))
  fewer_without keys facts key none = none_of_fewer (λ resv. not (is_one_of keys resv.0)) key s.resvs none

  -- None of the LSP that is left out.
  pub none_without : (key : Key) (facts : Facts) → is_reserved (without_held (key ∷ []) (with_facts facts s)) key ≡ false
  none_without key facts =
      let left : Key → Bool = λ k. not (is_one_of (key ∷ []) k) in
      ap is_some (find-where_key key_cmp left key (λ x tie. ap left (sym (key_exact key x tie))) s.resvs ∙ ap (λ b. cond (not b) (find key_cmp key s.resvs) None) (is_one_of-first key []))

  pub unrepaired_without : (key : Key) (facts : Facts) → is_repaired (without_held (key ∷ []) (with_facts facts s)) key ≡ false
  unrepaired_without key facts =
      let left : Key → Bool = λ k. not (is_one_of (key ∷ []) k) in
      ap is_some (find-where_key key_cmp left key (λ x tie. ap left (sym (key_exact key x tie))) s.repairs ∙ ap (λ b. cond (not b) (find key_cmp key s.repairs) None) (is_one_of-first key []))

  -- a tunnel's new LSP is signalled, and the tunnel put
  signalled_tunnels : (number : ℕ) (t u : Tunnel) (l : TunnelLsp) → (with_tunnel number t (with_head r (number, u) l s.facts)).tunnels ≡ put nat_cmp number t s.facts.tunnels
  signalled_tunnels number t u l = ap (λ (x : Facts). put nat_cmp number t x.tunnels) (with_head-same r (number, u) l s.facts)

  -- what is known after a command that isn't refused
  abbrev pub left_by : Command → State
  left_by c = without_held (option_to_list (begun_by r s.facts c)) (with_facts (commanded r s.facts c) s)

  commanded_moves : (c : Command) → refusal_of r s.facts c ≡ None → Moves r s (left_by c)
  commanded_moves (AddTunnel t) none =
      let after = left_by (AddTunnel t) in
      moves_put after t.number (tunnel_by t) (signalled_tunnels t.number (tunnel_by t) (tunnel_by t) (tunnel_by t).current) (fewer_without (option_to_list (begun_by r s.facts (AddTunnel t))) (commanded r s.facts (AddTunnel t))) refl
      (λ old was. absurd (let e = sym (number_free r s.facts t none) ∙ was in cc))
  commanded_moves (ChangeTunnel c) none = by (find nat_cmp c.number s.facts.tunnels) refl
    where
      by : (known : Option Tunnel) → find nat_cmp c.number s.facts.tunnels ≡ known
          → Moves r s (without_held (option_to_list (option_map (λ (t : Tunnel). head_key r c.number t.endpoint (t.last + 1)) known)) (with_facts (option_map_or (λ t. with_change r c.number (begun c.route c.tspec t) s.facts) known s.facts) s))
      by None found = moves_same _ refl (fewer_without [] s.facts)
      by (Some t) found =
          let new = begun c.route c.tspec t in
          let facts = with_change r c.number new s.facts in
          let key = head_key r c.number t.endpoint (t.last + 1) in
          moves_put (without_held (key ∷ []) (with_facts facts s)) c.number new (signalled_tunnels c.number new new (record { id = t.last + 1; route = c.route; tspec = c.tspec })) (fewer_without (key ∷ []) facts) (none_without key facts)
          (λ old was. let own : t ≡ old = same_Some t old (sym found ∙ was) in record { current = ap (λ (u : Tunnel). u.current) own; endpoint = ap (λ (u : Tunnel). u.endpoint) own })
  commanded_moves (CancelChange number) none = by (find nat_cmp number s.facts.tunnels) refl
    where
      by : (known : Option Tunnel) → find nat_cmp number s.facts.tunnels ≡ known → Moves r s (without_held [] (with_facts (option_map_or (λ t. with_cancelled r number t s.facts) known s.facts) s))
      by None found = moves_same _ refl (fewer_without [] s.facts)
      by (Some t) found =
          let facts = with_cancelled r number t s.facts in
          moves_put (without_held [] (with_facts facts s)) number (cancelled t) refl (fewer_without [] facts) refl
          (λ old was. let own : t ≡ old = same_Some t old (sym found ∙ was) in record { current = ap (λ (u : Tunnel). u.current) own; endpoint = ap (λ (u : Tunnel). u.endpoint) own })
  commanded_moves (DropTunnel number) none = by (find nat_cmp number s.facts.tunnels)
    where
      by : (known : Option Tunnel) → Moves r s (without_held [] (with_facts (option_map_or (λ t. with_dropped r number t s.facts) known s.facts) s))
      by None = moves_same _ refl (fewer_without [] s.facts)
      by (Some t) =
          let facts = with_dropped r number t s.facts in
          let after = without_held [] (with_facts facts s) in
          record {
            in_order = is_sorted-where_key nat_cmp (λ k. not (is_eq (nat_cmp number k))) s.facts.tunnels;
            keeps = keep_removed number s.facts.tunnels;
            rests = inl (all-filter (λ tunnel. is_ready r after tunnel ≡ false) (λ tunnel. not (is_eq (nat_cmp number tunnel.0))) s.facts.tunnels
                (all-weaker (λ tunnel. is_ready r s tunnel ≡ false) (λ tunnel. is_ready r after tunnel ≡ false) (λ tunnel waits. still_waits r s after tunnel.0 tunnel.1 (fewer_without [] facts) waits) s.facts.tunnels rests));
          }
  commanded_moves (AddBypass b) none = moves_same _ refl (fewer_without [] (commanded r s.facts (AddBypass b)))
  commanded_moves (DropBypass n) none = moves_same _ refl (fewer_without [] (commanded r s.facts (DropBypass n)))
  commanded_moves (AddRoute prefix link) none = moves_same _ refl (fewer_without [] (commanded r s.facts (AddRoute prefix link)))
  commanded_moves (DropRoute prefix) none = moves_same _ refl (fewer_without [] (commanded r s.facts (DropRoute prefix)))

  -- No LSP that is to take another's place is reserved then.
  pub commanded_rests : (c : Command) → refusal_of r s.facts c ≡ None → AreSettled r (left_by c)
  commanded_rests c none = settles_moved (left_by c) (fewer_without (option_to_list (begun_by r s.facts c)) (commanded r s.facts c)) (commanded_moves c none).rests

  command_moves : (c : Command) → Moves r s (command_comes r s c).after
  unfolding command_comes command
  command_moves c = by (refusal_of r s.facts c) refl
    where
      after_by : paths.PathOutcome → State
      after_by o = (if o.is_silent then of_paths s o else commanded_by r s c (of_paths s o)).after

      by : (refusal : Option Refusal) → refusal_of r s.facts c ≡ refusal → Moves r s (after_by (option_map_or (paths.refused s.facts) refusal (paths.done [] (commanded r s.facts c))))
      by (Some refusal) is = moves_none
      by None is = cond_both (takes_used_bypass s c) (refused s InUse) _ (λ (o : Outcome). Moves r s o.after) (λ used. moves_none) (λ other. commanded_moves c is)

-- ---- a Resv

module _ (r : Router) (s : State) (link : ℕ) (style : ResvStyle) (v : Resv) (up : is_up s.facts.up link ≡ true) where
  -- what a verdict that grants says of the path: it leaves by the link
  abbrev Leaves : Key → Verdict → Type 0
  Leaves key verdict = verdict ≡ Granted → option_map_or (leaves_by link) (find key_cmp key s.facts.paths) false ≡ true

  granted_leaves : (key : Key) (state : State) (fact : ResvFact) → state.facts ≡ s.facts → fact.link ≡ link → Leaves key (verdict_of r state key fact)
  unfolding verdict_of
  granted_leaves key state fact same on =
      cond_both (not (list_any (λ path. is_same_session key.session path.0.session) state.facts.paths)) _ _ (Leaves key) (λ none. λ e. absurd (let h = e in cc))
      (λ some. by_path (find key_cmp key state.facts.paths) (ap (λ (x : Facts). find key_cmp key x.paths) same))
    where
      by_path : (o : Option PathFact) → o ≡ find key_cmp key s.facts.paths → Leaves key (option_map_or (verdict_on_path r state key fact) o (Failed no_sender))
      by_path None is = λ e. absurd (let h = e in cc)
      by_path (Some path) is =
          subst (λ o. verdict_on_path r state key fact path ≡ Granted → option_map_or (leaves_by link) o false ≡ true) is
          (cond_both (not (leaves_by fact.link path) || is_repaired state key) PassedOver _ (λ verdict. verdict ≡ Granted → leaves_by link path ≡ true) (λ other. λ e. absurd (let h = e in cc))
          (λ leaves. λ e. subst (λ l. leaves_by l path ≡ true) on (not-false _ (neither (not (leaves_by fact.link path)) (is_repaired state key) leaves).0)))

  reserving_granted : (d : FlowDescriptor) (fact : ResvFact) (progress : Progress) (verdict : Verdict) → fact.link ≡ link → IsReserving s progress.state → verdict_of r progress.state (key_in v d) fact ≡ verdict
      → IsReserving s (carried_on r link v d fact progress verdict).state
  reserving_granted d fact progress (Failed e) on is by = is
  reserving_granted d fact progress PassedOver on is by = is
  reserving_granted d fact progress Granted on is by =
      let key = key_in v d in
      let gone = giving_way r progress.state key fact in
      let stood : stands s.facts (key, fact) ≡ true =
      subst (λ l. (is_up s.facts.up l && option_map_or (leaves_by l) (find key_cmp key s.facts.paths) false) ≡ true) (sym on)
      (ap (λ b. b && option_map_or (leaves_by link) (find key_cmp key s.facts.paths) false) up ∙ granted_leaves key progress.state fact is.facts on by) in
      record {
        facts = is.facts;
        stand = all-put_row key_cmp (λ resv. stands s.facts resv ≡ true) key fact (λ k tied. subst (λ q. stands s.facts (q, fact) ≡ true) (key_exact key k tied) stood) stood (filter (λ resv. not (is_one_of gone resv.0)) progress.state.resvs)
            (all-filter (λ resv. stands s.facts resv ≡ true) (λ resv. not (is_one_of gone resv.0)) progress.state.resvs is.stand);
      }

  reserving_all : (ds : List FlowDescriptor) (progress : Progress) → IsReserving s progress.state → IsReserving s (fold (next_descriptor r link style v) progress ds).state
  reserving_all [] progress is = is
  reserving_all (d ∷ ds) progress is =
      let fact = resv_by progress.state.facts.moment link style v d in
      reserving_all ds (next_descriptor r link style v progress d) (reserving_granted d fact progress (verdict_of r progress.state (key_in v d) fact) refl is refl)

module _ (r : Router) (s : State) (is : IsSound r s) (rests : AreSettled r s) where
  -- all reservations of a sound state stand
  reserving_same : IsReserving s s
  reserving_same = record { facts = refl; stand = is.standing }

  moves_reserving : (after : State) → IsReserving s after → Moves r s after
  moves_reserving after reserving =
      let same = ap (λ (x : Facts). x.tunnels) reserving.facts in
      record { in_order = subst (λ (tunnels : List (ℕ × Tunnel)). T (is_sorted nat_cmp tunnels)) (sym same); keeps = keep_same s.facts.tunnels after.facts.tunnels same; rests = inr reserving }

  resv_moves : (link : ℕ) (v : Resv) → is_up s.facts.up link ≡ true → Moves r s (resv_arrival r s link v).after
  unfolding resv_arrival
  resv_moves link v up = by_style (style_of v.style)
    where
      by_first : (progress : Progress) → IsReserving s progress.state → (first : Option RsvpError) → Moves r s (resv_replied s progress first).after
      by_first progress carried (Some e) = moves_reserving progress.state carried
      by_first progress carried None = cond_both progress.has_granted _ (refused s NoMatch) (λ (o : Outcome). Moves r s o.after) (λ some. moves_reserving progress.state carried) (λ none. moves_none r s rests)

      by_style : (style : Option ResvStyle) → Moves r s (option_map_or (λ style. let progress = all_descriptors r s link style v in resv_replied s progress progress.first) style (resv_failed r s link v false [] unknown_style)).after
      by_style None = moves_none r s rests
      by_style (Some style) =
          let progress = all_descriptors r s link style v in
          by_first progress (reserving_all r s link style v up v.descriptors (record { state = s; errors = []; first = None; has_granted = false }) reserving_same) progress.first

  message_moves : (link : ℕ) (content : Content) → is_up s.facts.up link ≡ true → Moves r s (message_arrival r s link content).after
  message_moves link (contents.Path p) up = path_moves r s rests link p
  message_moves link (contents.Resv v) up = resv_moves link v up
  message_moves link (contents.PathErr e) up = err_moves r s rests link e
  message_moves link (contents.ResvErr e) up = resv_err_moves r s rests link e
  message_moves link (contents.PathTear t) up = tear_moves r s rests link t
  message_moves link (contents.ResvTear t) up = resv_tear_moves r s rests link t

  reading_moves : (link : ℕ) (reading : Reading) → is_up s.facts.up link ≡ true → Moves r s (reading_arrival r s link reading).after
  unfolding unknown_resv
  reading_moves link (readings.Whole content) up = message_moves link content up
  reading_moves link (readings.Unknown (contents.Path p) class ctype) up = moves_none r s rests
  reading_moves link (readings.Unknown (contents.Resv v) class ctype) up = moves_none r s rests
  reading_moves link (readings.Unknown (contents.PathErr e) class ctype) up = message_moves link (contents.PathErr e) up
  reading_moves link (readings.Unknown (contents.ResvErr e) class ctype) up = message_moves link (contents.ResvErr e) up
  reading_moves link (readings.Unknown (contents.PathTear t) class ctype) up = message_moves link (contents.PathTear t) up
  reading_moves link (readings.Unknown (contents.ResvTear t) class ctype) up = message_moves link (contents.ResvTear t) up

  way_moves : (way : ArrivalWay) (link : ℕ) (reading : Reading) → is_up s.facts.up link ≡ true → Moves r s (arrival_by r s way link reading).after
  way_moves ways.Hop link reading up = reading_moves link reading up
  way_moves ways.Stack link (readings.Whole content) up = stack_moves r s rests content
  way_moves ways.Stack link (readings.Unknown content class ctype) up =
      unknown_stack_by (λ o. Moves r s o.after) r s class ctype content (λ p. moves_none r s rests) (stack_moves r s rests content)
  way_moves ways.Routed link (readings.Whole content) up = routed_moves r s rests content
  way_moves ways.Routed link (readings.Unknown content class ctype) up =
      unknown_routed_by (λ o. Moves r s o.after) r s class ctype content (λ v. returned_unknown_by (λ o. Moves r s o.after) r s (moves_none r s rests) v class ctype (λ repair. moves_none r s rests)) (routed_moves r s rests content)

  arrival_moves : (a : Arrive) → Moves r s (arrival r s a).after
  unfolding arrival
  arrival_moves a =
      cond_both (is_none (link_at r a.link)) (refused s UnknownLink) _ (λ (o : Outcome). Moves r s o.after) (λ none. moves_none r s rests)
      (λ there. cond_both (not (is_up s.facts.up a.link)) (refused s LinkDown) _ (λ (o : Outcome). Moves r s o.after) (λ down. moves_none r s rests) (λ up. way_moves a.way a.link a.reading (not-false _ up)))

  -- What an event does of itself to tunnels.
  pub event_moves : (event : Event) → Moves r s (outcome r s event).after
  event_moves (events.Arrive a) = arrival_moves a
  event_moves (events.Relay m) = relay_moves r s rests m
  event_moves (events.Tick n) = tick_moves r s rests n
  event_moves (events.LinkUp number) = link_moves r s rests number true
  event_moves (events.LinkDown number) = link_moves r s rests number false
  event_moves (events.Command c) = command_moves r s rests c
  event_moves events.Restart = lost_moves r s rests
  event_moves events.Start = moves_same r s rests (of_paths s (started s.facts)).after refl (λ key none. none)
