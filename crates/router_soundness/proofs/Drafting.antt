-- Whatever an event does of itself leaves the state such that what follows makes it sound: each by its few primitives.
use Rattle.std.specs.Prelude.{◌≡◌, ℕ, ◌^◌, Bool, true, false, not, nat_lt, List, [], ◌∷◌, filter, Option, Some, None, is_none, option_to_list, if◌then◌else◌}
use Rattle.std.specs.List.{AllByRecursion}
use Rattle.std.specs.Option.{option_map_or}
use Rattle.std.proofs.Common.{refl, ap, sym, subst, inl, arith}
use Rattle.std.proofs.lemmas.Bool.{cond_both, ltb-false, ltb-true}
use Rattle.sorted_rows.specs.ListLaws.{all-map, all-both, all-filter, all-filter_passes}
use Rattle.lsr_facts.specs.Lifetimes as lifetimes
use Rattle.lsr_facts.specs.Routers.{IsRouter, link_at}
use Rattle.lsr_facts.specs.declared.choice.Choice.{Choice}
use Rattle.lsr_facts.specs.declared.facts.Facts.{Facts}
use Rattle.lsr_facts.specs.declared.key.Key.{Key}
use Rattle.lsr_facts.specs.declared.refusal.Refusal.{Refusal}
use Rattle.lsr_facts.specs.declared.refusal.Refusal.TheVariants.{InUse, NoMatch}
use Rattle.lsr_facts.specs.declared.router.Router.{Router}
use Rattle.lsr_facts.specs.declared.tunnel.Tunnel.{Tunnel}
use Rattle.lsr_facts.specs.declared.tunnel.TunnelLsp.{TunnelLsp}
use Rattle.lsr_facts.specs.Reservations.{expire_repairs, expire_resvs, resv_lives_past}
use Rattle.lsr_facts.specs.declared.repair.Repair.{Repair}
use Rattle.lsr_facts.specs.declared.resv_fact.ResvFact.{ResvFact}
use Rattle.abstract_paths.specs.declared.commands.Command.{Command}
use Rattle.abstract_paths.specs.declared.ways.Relay.{Relay}
use Rattle.abstract_paths.specs.declared.events.Event.TheVariants as events
use Rattle.abstract_paths.specs.declared.events.Event.{Event}
use Rattle.abstract_paths.proofs.Alongside.{commanded-all, commanded-time, signalled-all, signalled-same}
use Rattle.abstract_paths.proofs.Commanding.{command-stands}
use Rattle.abstract_paths.specs.Commands.{begun_by, command, commanded, refusal_of}
use Rattle.abstract_paths.specs.Heads.{head_path, signalled}
use Rattle.abstract_paths.proofs.EventStanding.{LeavesStanding, link_change-stands, tick-stands}
use Rattle.abstract_paths.specs.Links.{link_change}
use Rattle.abstract_paths.specs.Outcomes as paths
use Rattle.abstract_paths.specs.Outcomes.{lsp}
use Rattle.abstract_paths.specs.Places.{is_up, place_of}
use Rattle.abstract_paths.proofs.Primitives.{sound_restarted, sound_started}
use Rattle.abstract_paths.specs.Restarts.{restarted, started}
use Rattle.abstract_paths.specs.Soundness.{IsStanding}
use Rattle.abstract_paths.specs.Relays.{relay, relayed_by}
use Rattle.abstract_paths.specs.Routing.{route_to}
use Rattle.abstract_router.specs.Steps.{IsEvent}
use Rattle.abstract_paths.specs.Time.{tick}
use Rattle.router_soundness.proofs.Holding.{held_where, held_with_facts, held_with_repairs}
use Rattle.router_soundness.proofs.Repairing.{repaired_resvs_where, repaired_where, repaired_with_facts}
use Rattle.router_soundness.proofs.Beside.{sound_cold}
use Rattle.router_soundness.proofs.Capacities.{capacities_commanded}
use Rattle.router_soundness.proofs.Serving.{served_beside, served_sound, served_where, served_with_facts, within_in_use}
use Rattle.router_soundness.proofs.Settling.{Leaves}
use Rattle.router_soundness.proofs.Bare.{sound_bare}
use Rattle.router_soundness.specs.Drafted.{IsDrafted}
use Rattle.abstract_router.specs.Arrivals.{command_comes, commanded_by, for_reservations, lost, moment_comes, outcome, takes_used_bypass}
use Rattle.label_space.specs.Rests.{resting_past}
use Rattle.abstract_router.specs.Choosing.{HasLabel}
use Rattle.abstract_router.specs.Outcomes.{Outcome, of_paths, refused}
use Rattle.abstract_router.specs.Soundness.{IsResv, IsSound}
use Rattle.abstract_router.specs.States.{State, is_one_of, with_facts, with_repairs_where, with_resvs_where, without_held, without_resvs}
use Rattle.router_soundness.proofs.Arriving.{arrival-leaves}
use Rattle.router_soundness.proofs.Keeping.{keeps_link, labelled, of_paths-leaves, rest_now, unchanged}

-- the path of a tunnel's LSP needs no label
head_has : (labels : List (Key × ℕ)) (key : Key) (tunnel : Tunnel) (lsp : TunnelLsp) (way : Choice) → HasLabel labels (key, head_path tunnel lsp way)
head_has labels key tunnel lsp way ours = absurd (let e = ours in cc)

-- a message for another router
relay-leaves : (r : Router) (s : State) (m : Relay) → IsSound r s → Leaves r s (of_paths s (relay r s.facts m))
unfolding relay
relay-leaves r s m is =
    cond_both (is_none (link_at r m.link)) _ _ (λ o. Leaves r s (of_paths s o)) (λ none. is)
    (λ there. cond_both (not (is_up s.facts.up m.link)) _ _ (λ o. Leaves r s (of_paths s o)) (λ down. is)
    (λ up. by (route_to (place_of r s.facts) m.to)))
  where
    by : (way : Option ℕ) → Leaves r s (of_paths s (option_map_or (λ link. paths.done (relayed_by m link ∷ []) s.facts) way (paths.refused s.facts NoMatch)))
    by None = is
    by (Some link) = unchanged r s is

-- a router runs that is awake for another event than its start
pub runs_for : (cold : Bool) (event : Event) → (event ≡ events.Start → ⊥) → (cold ≡ true → event ≡ events.Start) → cold ≡ false
runs_for true event other wakes = absurd (other (wakes refl))
runs_for false event other wakes = refl

-- a reservation is as it should be at a later moment that it outlives
still_resv : (m n : ℕ) (resv : Key × ResvFact) → IsResv m resv → resv_lives_past n resv.1 ≡ true → IsResv n resv
still_resv m n resv was lives = record { has_rate = was.has_rate; label = was.label; live = omega (arith, ltb-true n resv.1.expiry lives); recorded = was.recorded; passing = was.passing; passed_on = was.passed_on; adspec_last = was.adspec_last }

module _ (r : Router) (s : State) (n : ℕ) (is : IsSound r s) where
  -- the reservations that outlive a moment
  living_resvs : AllByRecursion (IsResv n) (filter (λ (resv : Key × ResvFact). resv_lives_past n resv.1) s.resvs)
  living_resvs =
      all-both (IsResv s.facts.moment) (λ resv. resv_lives_past n resv.1 ≡ true) (IsResv n) (still_resv s.facts.moment n) (filter (λ resv. resv_lives_past n resv.1) s.resvs)
      (all-filter (IsResv s.facts.moment) (λ resv. resv_lives_past n resv.1) s.resvs is.held.each) (all-filter_passes (λ resv. resv_lives_past n resv.1 ≡ true) (λ resv. resv_lives_past n resv.1) (λ resv passes. passes) s.resvs)

  -- and the repairs that do
  living_repairs : AllByRecursion (λ repair. IsResv n (repair.0, repair.1.resv)) (filter (λ (repair : Key × Repair). resv_lives_past n repair.1.resv) s.repairs)
  living_repairs =
      all-both (λ (repair : Key × Repair). IsResv s.facts.moment (repair.0, repair.1.resv)) (λ repair. resv_lives_past n repair.1.resv ≡ true) (λ repair. IsResv n (repair.0, repair.1.resv))
      (λ repair was lives. still_resv s.facts.moment n (repair.0, repair.1.resv) was lives) (filter (λ (repair : Key × Repair). resv_lives_past n repair.1.resv) s.repairs)
      (all-filter (λ (repair : Key × Repair). IsResv s.facts.moment (repair.0, repair.1.resv)) (λ repair. resv_lives_past n repair.1.resv) s.repairs is.repaired.each)
      (all-filter_passes (λ (repair : Key × Repair). resv_lives_past n repair.1.resv ≡ true) (λ repair. resv_lives_past n repair.1.resv) (λ repair passes. passes) s.repairs)

-- a moment that comes
tick-leaves : (r : Router) (s : State) (n : ℕ) → IsSound r s → LeavesStanding r (tick r s.facts n) → Leaves r s (moment_comes r s n)
unfolding moment_comes tick expire_resvs expire_repairs lifetimes.expire
tick-leaves r s n is =
    cond_both (nat_lt (2 ^ 62) n) _ _ (λ o. LeavesStanding r o → Leaves r s (for_reservations r s n (of_paths s o))) (λ above. λ leaves. is)
    (λ most. cond_both (nat_lt n s.facts.moment) _ _ (λ o. LeavesStanding r o → Leaves r s (for_reservations r s n (of_paths s o))) (λ below. λ leaves. is)
    (λ later. λ leaves.
    let living = record s.facts { moment = n; paths = lifetimes.expire n s.facts.paths } in
    let moment = sym (ap (λ (x : Facts). x.moment) (signalled-same r living)) in
    let resvs = with_resvs_where (λ resv. resv_lives_past n resv.1) s in
    let kept = with_repairs_where (λ repair. resv_lives_past n repair.1.resv) s in
    let served = served_beside kept (signalled r living) (ap (λ (x : Facts). x.bypasses) (signalled-same r living)) (served_where s (λ repair. resv_lives_past n repair.1.resv) (served_sound r s is)) in
    let held = held_with_facts r resvs (signalled r living) (held_where r s (λ resv. resv_lives_past n resv.1) is.held) (subst (λ (m : ℕ). AllByRecursion (IsResv m) resvs.resvs) moment (living_resvs r s n is)) in
    let repaired =
    repaired_with_facts (with_repairs_where (λ repair. resv_lives_past n repair.1.resv) resvs) (signalled r living)
    (repaired_where resvs (λ repair. resv_lives_past n repair.1.resv) (repaired_resvs_where s (λ resv. resv_lives_past n resv.1) is.held.in_order is.repaired))
    (subst (λ (m : ℕ). AllByRecursion (λ repair. IsResv m (repair.0, repair.1.resv)) (filter (λ (repair : Key × Repair). resv_lives_past n repair.1.resv) s.repairs)) moment (living_repairs r s n is)) in
    record {
      later = omega (arith, ltb-false n s.facts.moment later, moment);
      paths = leaves;
      held = record { in_order = held.in_order; each = held.each; one_style = held.one_style; within = held.within };
      repaired = record { in_order = repaired.in_order; each = repaired.each; apart = repaired.apart };
      labels = refl;
      assignments = refl;
      served = served.1;
      enough = served.2;
      within = within_in_use (with_facts (signalled r living) kept) served;
      resting = ap (λ m. resting_past m s.resting) moment;
      choice = inl (signalled-all r (HasLabel s.labels) (head_has s.labels) living
          (all-map (HasLabel s.labels) (lifetimes.with_living n) (filter (lifetimes.lives_on n) s.facts.paths) (all-filter (HasLabel s.labels) (lifetimes.lives_on n) s.facts.paths (labelled r s is))));
    }))

-- a command
command-leaves : (r : Router) (s : State) (c : Command) → IsSound r s → LeavesStanding r (command r s.facts c) → Leaves r s (command_comes r s c)
unfolding command_comes command
command-leaves r s c is = by (refusal_of r s.facts c) refl
  where
    done_by : paths.PathOutcome → Outcome
    done_by o = if o.is_silent then of_paths s o else commanded_by r s c (of_paths s o)

    -- it drops no bypass that is used
    left : refusal_of r s.facts c ≡ None → takes_used_bypass s c ≡ false → IsStanding r (commanded r s.facts c) → IsDrafted r s (without_held (option_to_list (begun_by r s.facts c)) (with_facts (commanded r s.facts c) s))
    left done other leaves =
        let after = with_facts (commanded r s.facts c) s in
        let served = served_where after (λ repair. not (is_one_of (option_to_list (begun_by r s.facts c)) repair.0)) (served_with_facts s (commanded r s.facts c) (capacities_commanded r s c is done other) (served_sound r s is)) in
        let keys = option_to_list (begun_by r s.facts c) in
        let moment = sym (commanded-time r s.facts c).moment in
        let held = held_with_facts r s after.facts is.held (subst (λ (m : ℕ). AllByRecursion (IsResv m) s.resvs) moment is.held.each) in
        let repaired = repaired_with_facts s after.facts is.repaired (subst (λ (m : ℕ). AllByRecursion (λ repair. IsResv m (repair.0, repair.1.resv)) s.repairs) moment is.repaired.each) in
        record {
          later = omega (arith, moment);
          paths = leaves;
          held = held_with_repairs r (without_resvs keys after) (filter (λ repair. not (is_one_of keys repair.0)) s.repairs) (held_where r after (λ resv. not (is_one_of keys resv.0)) held);
          repaired = repaired_where (without_resvs keys after) (λ repair. not (is_one_of keys repair.0)) (repaired_resvs_where after (λ resv. not (is_one_of keys resv.0)) is.held.in_order repaired);
          labels = refl;
          assignments = refl;
          served = served.1;
          enough = served.2;
          within = within_in_use (without_held keys after) served;
          resting = subst (λ (m : ℕ). s.resting ≡ resting_past m s.resting) moment (rest_now r s is);
          choice = inl (commanded-all r (HasLabel s.labels) (head_has s.labels) s.facts c (labelled r s is));
        }

    by : (refusal : Option Refusal) → refusal_of r s.facts c ≡ refusal → LeavesStanding r (option_map_or (paths.refused s.facts) refusal (paths.done [] (commanded r s.facts c))) → Leaves r s (done_by (option_map_or (paths.refused s.facts) refusal (paths.done [] (commanded r s.facts c))))
    by (Some refusal) some leaves = is
    by None none leaves = cond_both (takes_used_bypass s c) (refused s InUse) _ (Leaves r s) (λ used. is) (λ other. left none other leaves)

-- What is lost by a restart leaves nothing but links, static routes and the moment.
lost-sound : (r : Router) (s : State) → IsSound r s → IsSound r (lost s).after
lost-sound r s is = sound_bare r (restarted s.facts).after (sound_restarted r s.facts is.paths)

-- A start leaves all else as it was.
started-sound : (r : Router) (s : State) → IsSound r s → IsSound r (of_paths s (started s.facts)).after
started-sound r s is = sound_cold r s false (sound_started r s.facts is.paths) is

-- Whatever an event does of itself leaves the state so that what follows makes it sound.
pub outcome-leaves : (r : Router) (s : State) (event : Event) → IsRouter r → IsSound r s → IsEvent event → (s.facts.cold ≡ true → event ≡ events.Start) → Leaves r s (outcome r s event)
outcome-leaves r s (events.Arrive a) router is possible awake = arrival-leaves r s a router (runs_for s.facts.cold (events.Arrive a) (λ e. cc) awake) is possible.message
outcome-leaves r s (events.Relay m) router is possible awake = relay-leaves r s m is
outcome-leaves r s (events.Tick n) router is possible awake = tick-leaves r s n is (tick-stands r s.facts n router (runs_for s.facts.cold (events.Tick n) (λ e. cc) awake) is.paths)
outcome-leaves r s (events.LinkUp number) router is possible awake =
    of_paths-leaves r s (link_change r s.facts number true) is (link_change-stands r s.facts number true router is.paths) (keeps_link r s (labelled r s is) number true)
outcome-leaves r s (events.LinkDown number) router is possible awake =
    of_paths-leaves r s (link_change r s.facts number false) is (link_change-stands r s.facts number false router is.paths) (keeps_link r s (labelled r s is) number false)
outcome-leaves r s (events.Command c) router is possible awake =
    command-leaves r s c is (command-stands r s.facts router (runs_for s.facts.cold (events.Command c) (λ e. cc) awake) is.paths c possible)
outcome-leaves r s events.Restart router is possible awake = lost-sound r s is
outcome-leaves r s events.Start router is possible awake = started-sound r s is
