-- The LSP ID that was given last for a tunnel only grows, and each that is given is one above it.
use Rattle.std.specs.Prelude.{◌≡◌, ◌≢◌, ◌^◌, ◌+◌, ◌<◌, ◌≤◌, ℕ, not, nat_lt, Bool, true, false, cond, if◌then◌else◌, List, [], ◌∷◌, Option, Some, None, IfSome, is_none, option_map}
use Rattle.std.specs.FinMap.Entries.{find, put}
use Rattle.std.specs.List.{AllByRecursion}
use Rattle.std.specs.Option.{option_map_or}
use Rattle.std.specs.Ordering.{nat_cmp}
use Rattle.std.proofs.Common.{arith, refl, sym, ap, subst, ◌∙◌, inl, inr}
use Rattle.std.proofs.lemmas.Bool.{cases_eq, cond_both}
use Rattle.std.proofs.lemmas.Cmp.{nat_cmp_total}
use Rattle.std.proofs.lemmas.Map.Lookups.{exact_unsigned}
use Rattle.std.proofs.lemmas.Option.{same_Some}
use Rattle.rsvp_objects.specs.declared.values.ErrorSpec.{ErrorSpec}
use Rattle.sorted_rows.specs.RowsLaws.{find-all_row, find-map, find-put_apart, find-put_same, find-removed_apart}
use Rattle.lsr_facts.specs.Changes.{begun, cancelled, switched, switched_to}
use Rattle.lsr_facts.specs.Lifetimes.{expire}
use Rattle.lsr_facts.specs.Routers.{link_at}
use Rattle.lsr_facts.specs.Tunnels.{IsTunnel, head_key}
use Rattle.lsr_facts.specs.declared.facts.Facts.{Facts}
use Rattle.lsr_facts.specs.declared.key.Key.{Key}
use Rattle.lsr_facts.specs.declared.refusal.Refusal.{Refusal}
use Rattle.lsr_facts.specs.declared.refusal.Refusal.TheVariants.{InUse, NoMatch}
use Rattle.lsr_facts.specs.declared.reply.Reply.TheVariants as replies
use Rattle.lsr_facts.specs.declared.router.Router.{Router}
use Rattle.lsr_facts.specs.declared.tunnel.Tunnel.{Tunnel}
use Rattle.lsr_facts.specs.declared.tunnel.TunnelLsp.{TunnelLsp}
use Rattle.abstract_paths.proofs.Alongside.{signalled-same, with_head-same}
use Rattle.abstract_paths.specs.Changes.{with_tunnel}
use Rattle.abstract_paths.specs.Commands.{begun_by, command, commanded, refusal_of, tunnel_by, with_cancelled, with_change, with_dropped}
use Rattle.abstract_paths.specs.Heads.{noted, signalled, with_head, with_noted}
use Rattle.abstract_paths.specs.Links.{link_change}
use Rattle.abstract_paths.specs.Outcomes as paths
use Rattle.abstract_paths.specs.Places.{is_up, place_of}
use Rattle.abstract_paths.specs.Relays.{relay, relayed_by}
use Rattle.abstract_paths.specs.Restarts.{all_cancelled}
use Rattle.abstract_paths.specs.Routing.{route_to}
use Rattle.abstract_paths.specs.Time.{tick}
use Rattle.abstract_paths.specs.declared.commands.Command.{Command}
use Rattle.abstract_paths.specs.declared.commands.Command.TheVariants.{AddBypass, AddRoute, AddTunnel, CancelChange, ChangeTunnel, DropBypass, DropRoute, DropTunnel}
use Rattle.abstract_paths.specs.declared.events.Event.{Event}
use Rattle.abstract_paths.specs.declared.events.Event.TheVariants as events
use Rattle.abstract_paths.specs.declared.events.Made.{Made}
use Rattle.abstract_paths.specs.declared.ways.Relay.{Relay}
use Rattle.abstract_router.specs.Arrivals.{command_comes, commanded_by, for_reservations, moment_comes, outcome, takes_used_bypass}
use Rattle.abstract_router.specs.Outcomes.{Outcome, of_paths, refused}
use Rattle.abstract_router.specs.Repairing.{repaired, repairs_left}
use Rattle.abstract_router.specs.Soundness.{IsSound}
use Rattle.abstract_router.specs.States.{State}
use Rattle.abstract_router.specs.Steps.{Run, Step, is_ready, settled, switched_where, taken_over, with_moments}
use Rattle.router_soundness.proofs.TakingOver.{found_switched}
use Rattle.router_laws.specs.LspIds.{Begins, IsNoDrop}
use Rattle.router_laws.proofs.Arriving.{arrival_leaves}
use Rattle.router_laws.proofs.TunnelEvents.{number_free}

-- a tunnel of the number is known, and the ID that was given last for it is this one or above
abbrev GaveUpTo : ℕ → ℕ → Facts → Type 0
GaveUpTo number id s = (tunnel : Tunnel) × (find nat_cmp number s.tunnels ≡ Some tunnel) × (id ≤ tunnel.last)

module _ (number id : ℕ) (s : Facts) (gave : GaveUpTo number id s) where
  -- so it is where the same tunnels are known,
  gave-same : (t : Facts) → t.tunnels ≡ s.tunnels → GaveUpTo number id t
  gave-same t same = (gave.0, ap (find nat_cmp number) same ∙ gave.1, gave.2)

  -- where a tunnel is put for which no fewer were given,
  gave-put : (t : Facts) (other : ℕ) (new : Tunnel) → t.tunnels ≡ put nat_cmp other new s.tunnels → ((old : Tunnel) → find nat_cmp other s.tunnels ≡ Some old → old.last ≤ new.last) → GaveUpTo number id t
  gave-put t other new is more = elim (cases_eq number other) as (λ c. GaveUpTo number id t) [
    | inl own ↦ (
      new,
      ap (find nat_cmp number) is ∙ ap (λ n. find nat_cmp n (put nat_cmp other new s.tunnels)) own ∙ find-put_same nat_cmp nat_cmp_total other new s.tunnels,
      let grows = more gave.0 (ap (λ n. find nat_cmp n s.tunnels) (sym own) ∙ gave.1) in
          let below = gave.2 in
          omega (arith, grows, below),
    )
    | inr apart ↦ (gave.0, ap (find nat_cmp number) is ∙ find-put_apart nat_cmp nat_cmp_total exact_unsigned number other new s.tunnels apart ∙ gave.1, gave.2)
  ]

  -- and where one is put in place of this one, for which no fewer were given
  gave-changed : (t : Facts) (other : ℕ) (known new : Tunnel) → find nat_cmp other s.tunnels ≡ Some known → known.last ≤ new.last → t.tunnels ≡ put nat_cmp other new s.tunnels → GaveUpTo number id t
  gave-changed t other known new its grows is = gave-put t other new is (λ old was. subst (λ (u : Tunnel). u.last ≤ new.last) (same_Some known old (sym its ∙ was)) grows)

  gave-noted : (e : ErrorSpec) (other : ℕ) → GaveUpTo number id (with_noted e other s)
  gave-noted e other = by (find nat_cmp other s.tunnels) refl
    where
      by : (known : Option Tunnel) → find nat_cmp other s.tunnels ≡ known → GaveUpTo number id (option_map_or (λ t. with_tunnel other (noted e t) s) known s)
      by None its = gave
      by (Some t) its = gave-changed (with_tunnel other (noted e t) s) other t (noted e t) its (omega arith) refl

-- ---- what events leave

module _ (r : Router) (s : State) (number id : ℕ) (gave : GaveUpTo number id s.facts) where
  abbrev Gave : Outcome → Type 0
  Gave o = GaveUpTo number id o.after.facts

  relay-gave : (m : Relay) → Gave (of_paths s (relay r s.facts m))
  unfolding relay
  relay-gave m =
      cond_both (is_none (link_at r m.link)) _ _ (λ (o : paths.PathOutcome). Gave (of_paths s o)) (λ none. gave)
      (λ there. cond_both (not (is_up s.facts.up m.link)) _ _ (λ (o : paths.PathOutcome). Gave (of_paths s o)) (λ down. gave) (λ up. by (route_to (place_of r s.facts) m.to)))
    where
      by : (way : Option ℕ) → Gave (of_paths s (option_map_or (λ link. paths.done (relayed_by m link ∷ []) s.facts) way (paths.refused s.facts NoMatch)))
      by None = gave
      by (Some link) = gave

  link-gave : (n : ℕ) (up : Bool) → Gave (of_paths s (link_change r s.facts n up))
  unfolding link_change
  link-gave n up = cond_both (is_none (link_at r n)) _ _ (λ (o : paths.PathOutcome). Gave (of_paths s o)) (λ unknown. gave) (λ known. gave)

  tick-gave : (n : ℕ) → Gave (moment_comes r s n)
  unfolding moment_comes tick
  tick-gave n =
      cond_both (nat_lt (2 ^ 62) n) _ _ (λ (o : paths.PathOutcome). Gave (for_reservations r s n (of_paths s o))) (λ above. gave)
      (λ most. cond_both (nat_lt n s.facts.moment) _ _ (λ (o : paths.PathOutcome). Gave (for_reservations r s n (of_paths s o))) (λ below. gave)
      (λ later.
      let lived : Facts = record s.facts { moment = n; paths = expire n s.facts.paths } in
      gave-same number id s.facts gave (signalled r lived) (ap (λ (x : Facts). x.tunnels) (signalled-same r lived))))

  commanded-gave : (c : Command) → c ≢ DropTunnel number → refusal_of r s.facts c ≡ None → GaveUpTo number id (commanded r s.facts c)
  commanded-gave (AddTunnel t) other none =
      gave-put number id s.facts gave (commanded r s.facts (AddTunnel t)) t.number (tunnel_by t) (ap (λ (x : Facts). put nat_cmp t.number (tunnel_by t) x.tunnels) (with_head-same r (t.number, tunnel_by t) (tunnel_by t).current s.facts))
      (λ old was. absurd (let e = sym (number_free r s.facts t none) ∙ was in cc))
  commanded-gave (ChangeTunnel c) other none = by (find nat_cmp c.number s.facts.tunnels) refl
    where
      by : (known : Option Tunnel) → find nat_cmp c.number s.facts.tunnels ≡ known → GaveUpTo number id (option_map_or (λ t. with_change r c.number (begun c.route c.tspec t) s.facts) known s.facts)
      by None its = gave
      by (Some t) its =
          let new = begun c.route c.tspec t in
          gave-changed number id s.facts gave (with_change r c.number new s.facts) c.number t new its (omega arith)
          (ap (λ (x : Facts). put nat_cmp c.number new x.tunnels) (with_head-same r (c.number, new) (record { id = t.last + 1; route = c.route; tspec = c.tspec }) s.facts))
  commanded-gave (CancelChange n) other none = by (find nat_cmp n s.facts.tunnels) refl
    where
      by : (known : Option Tunnel) → find nat_cmp n s.facts.tunnels ≡ known → GaveUpTo number id (option_map_or (λ t. with_cancelled r n t s.facts) known s.facts)
      by None its = gave
      by (Some t) its = gave-changed number id s.facts gave (with_cancelled r n t s.facts) n t (cancelled t) its (omega arith) refl
  commanded-gave (DropTunnel n) other none = by (find nat_cmp n s.facts.tunnels)
    where
      by : (known : Option Tunnel) → GaveUpTo number id (option_map_or (λ t. with_dropped r n t s.facts) known s.facts)
      by None = gave
      by (Some t) = (gave.0, find-removed_apart nat_cmp nat_cmp_total exact_unsigned number n s.facts.tunnels (λ same. other (ap DropTunnel (sym same))) ∙ gave.1, gave.2)
  commanded-gave (AddBypass b) other none = gave
  commanded-gave (DropBypass n) other none = gave
  commanded-gave (AddRoute prefix link) other none = gave
  commanded-gave (DropRoute prefix) other none = gave

  command-gave : (c : Command) → c ≢ DropTunnel number → Gave (command_comes r s c)
  unfolding command_comes command
  command-gave c other = by (refusal_of r s.facts c) refl
    where
      after_by : paths.PathOutcome → Outcome
      after_by o = if o.is_silent then of_paths s o else commanded_by r s c (of_paths s o)

      by : (refusal : Option Refusal) → refusal_of r s.facts c ≡ refusal → Gave (after_by (option_map_or (paths.refused s.facts) refusal (paths.done [] (commanded r s.facts c))))
      by (Some refusal) is = gave
      by None is = cond_both (takes_used_bypass s c) (refused s InUse) _ Gave (λ used. gave) (λ goes. commanded-gave c other is)

  lost-gave : GaveUpTo number id (record s.facts { cold = true; tunnels = all_cancelled s.facts.tunnels; paths = []; sent = [] })
  lost-gave = (cancelled gave.0, find-map nat_cmp cancelled number s.facts.tunnels ∙ ap (option_map cancelled) gave.1, gave.2)

  event-gave : (event : Event) → event ≢ events.Command (DropTunnel number) → Gave (outcome r s event)
  event-gave (events.Arrive a) other = arrival_leaves r s (GaveUpTo number id) gave (λ key fact. gave) (λ key. gave) (gave-noted number id s.facts gave) a
  event-gave (events.Relay m) other = relay-gave m
  event-gave (events.Tick n) other = tick-gave n
  event-gave (events.LinkUp n) other = link-gave n true
  event-gave (events.LinkDown n) other = link-gave n false
  event-gave (events.Command c) other = command-gave c (λ same. other (ap (λ (d : Command). events.Command d) same))
  event-gave events.Restart other = lost-gave
  event-gave events.Start other = gave

-- ---- what steps leave

-- a tunnel that goes over to its new LSP was given as many
switched-last : (tunnel : Tunnel) → (switched tunnel).last ≡ tunnel.last
switched-last tunnel = by tunnel.pending
  where
    by : (o : Option TunnelLsp) → (switched_to o tunnel).last ≡ tunnel.last
    by None = refl
    by (Some lsp) = refl

taken-gave : (r : Router) (s : State) (number id : ℕ) → GaveUpTo number id s.facts → GaveUpTo number id (taken_over r s).facts
unfolding taken_over
taken-gave r s number id gave = (
  (switched_where (is_ready r s) (number, gave.0)).1,
  found_switched (is_ready r s) number s.facts.tunnels ∙ ap (option_map (λ t. (switched_where (is_ready r s) (number, t)).1)) gave.1,
  by (is_ready r s (number, gave.0)),
)
  where
    by : (ready : Bool) → id ≤ (cond {A = ℕ × Tunnel} ready (number, switched gave.0) (number, gave.0)).1.last
    by true = subst (λ last. id ≤ last) (sym (switched-last gave.0)) gave.2
    by false = gave.2

module _ (r : Router) (before after : State) (made : Made) (x : Step r before made after) (number id : ℕ) where
  -- what follows from the event takes no ID back
  left-gave : GaveUpTo number id (outcome r before made.event).after.facts → GaveUpTo number id after.facts
  unfolding repaired repairs_left
  left-gave gave = subst (λ (t : State). GaveUpTo number id t.facts) (sym x.changed) (by o.is_silent)
    where
      o : Outcome
      o = outcome r before made.event

      by : (silent : Bool) → GaveUpTo number id (if silent then o.after else with_moments r before o (settled r made.labels o.after)).facts
      by true = gave
      by false = taken-gave r o.after number id gave

  step-gave : IsNoDrop number made → GaveUpTo number id before.facts → GaveUpTo number id after.facts
  step-gave stays gave = left-gave (event-gave r before number id gave made.event stays)

run-gave : (r : Router) (number id : ℕ) (before after : State) (run : List Made) → Run r before run after → AllByRecursion (IsNoDrop number) run → GaveUpTo number id before.facts → GaveUpTo number id after.facts
run-gave r number id before after [] goes stays gave = subst (λ (t : State). GaveUpTo number id t.facts) (sym goes) gave
run-gave r number id before after (made ∷ run) goes stays gave = run-gave r number id goes.0 after run goes.2 stays.1 (step-gave r before goes.0 made goes.1 number id stays.0 gave)

-- ---- what is begun

-- a command that is done isn't refused, and makes its change
done-commanded : (r : Router) (s : State) (c : Command) → (command_comes r s c).reply ≡ replies.Done → (refusal_of r s.facts c ≡ None) × ((command_comes r s c).after.facts ≡ commanded r s.facts c)
unfolding command_comes command
done-commanded r s c = by (refusal_of r s.facts c) refl
  where
    answer : paths.PathOutcome → Outcome
    answer o = if o.is_silent then of_paths s o else commanded_by r s c (of_paths s o)

    Does : Outcome → Type 0
    Does o = o.reply ≡ replies.Done → (refusal_of r s.facts c ≡ None) × (o.after.facts ≡ commanded r s.facts c)

    by : (refusal : Option Refusal) → refusal_of r s.facts c ≡ refusal → Does (answer (option_map_or (paths.refused s.facts) refusal (paths.done [] (commanded r s.facts c))))
    by (Some refusal) is done = absurd (let e = done in cc)
    by None is done = cond_both (takes_used_bypass s c) (refused s InUse) _ Does (λ used done. absurd (let e = done in cc)) (λ goes done. (is, refl)) done

module _ (r : Router) (s : Facts) (key : Key) where
  -- the ID of what is begun is above those that were given,
  begun-above : (c : Command) (id : ℕ) → refusal_of r s c ≡ None → begun_by r s c ≡ Some key → GaveUpTo key.session.tunnel id s → id < key.sender.lsp
  begun-above (AddTunnel t) id none begins gave =
      let own : head_key r t.number t.endpoint 1 ≡ key = same_Some (head_key r t.number t.endpoint 1) key begins in
      absurd (let e = sym (number_free r s t none) ∙ ap (λ (k : Key). find nat_cmp k.session.tunnel s.tunnels) own ∙ gave.1 in cc)
  begun-above (ChangeTunnel c) id none begins gave = by (find nat_cmp c.number s.tunnels) refl begins
    where
      by : (known : Option Tunnel) → find nat_cmp c.number s.tunnels ≡ known → option_map (λ (t : Tunnel). head_key r c.number t.endpoint (t.last + 1)) known ≡ Some key → id < key.sender.lsp
      by None its is = absurd (let e = is in cc)
      by (Some t) its is =
          let own : head_key r c.number t.endpoint (t.last + 1) ≡ key = same_Some (head_key r c.number t.endpoint (t.last + 1)) key is in
          let same : t ≡ gave.0 = same_Some t gave.0 (sym its ∙ ap (λ (k : Key). find nat_cmp k.session.tunnel s.tunnels) own ∙ gave.1) in
          let lasts = ap (λ (u : Tunnel). u.last) same in
          let ids = ap (λ (k : Key). k.sender.lsp) own in
          let below = gave.2 in
          omega (arith, lasts, ids, below)
  begun-above (CancelChange n) id none begins gave = absurd (let e = begins in cc)
  begun-above (DropTunnel n) id none begins gave = absurd (let e = begins in cc)
  begun-above (AddBypass b) id none begins gave = absurd (let e = begins in cc)
  begun-above (DropBypass n) id none begins gave = absurd (let e = begins in cc)
  begun-above (AddRoute prefix link) id none begins gave = absurd (let e = begins in cc)
  begun-above (DropRoute prefix) id none begins gave = absurd (let e = begins in cc)

  -- and it is the last that was given then
  begun-gave : (c : Command) → begun_by r s c ≡ Some key → GaveUpTo key.session.tunnel key.sender.lsp (commanded r s c)
  begun-gave (AddTunnel t) begins =
      subst (λ (k : Key). GaveUpTo k.session.tunnel k.sender.lsp (commanded r s (AddTunnel t))) (same_Some (head_key r t.number t.endpoint 1) key begins)
      (tunnel_by t, find-put_same nat_cmp nat_cmp_total t.number (tunnel_by t) (with_head r (t.number, tunnel_by t) (tunnel_by t).current s).tunnels, omega arith)
  begun-gave (ChangeTunnel c) begins = by (find nat_cmp c.number s.tunnels) begins
    where
      by : (known : Option Tunnel) → option_map (λ (t : Tunnel). head_key r c.number t.endpoint (t.last + 1)) known ≡ Some key → GaveUpTo key.session.tunnel key.sender.lsp (option_map_or (λ t. with_change r c.number (begun c.route c.tspec t) s) known s)
      by None is = absurd (let e = is in cc)
      by (Some t) is =
          let new = begun c.route c.tspec t in
          subst (λ (k : Key). GaveUpTo k.session.tunnel k.sender.lsp (with_change r c.number new s)) (same_Some (head_key r c.number t.endpoint (t.last + 1)) key is)
          (new, find-put_same nat_cmp nat_cmp_total c.number new (with_head r (c.number, new) (record { id = t.last + 1; route = c.route; tspec = c.tspec }) s).tunnels, omega arith)
  begun-gave (CancelChange n) begins = absurd (let e = begins in cc)
  begun-gave (DropTunnel n) begins = absurd (let e = begins in cc)
  begun-gave (AddBypass b) begins = absurd (let e = begins in cc)
  begun-gave (DropBypass n) begins = absurd (let e = begins in cc)
  begun-gave (AddRoute prefix link) begins = absurd (let e = begins in cc)
  begun-gave (DropRoute prefix) begins = absurd (let e = begins in cc)

module _ (r : Router) (before after : State) (made : Made) (x : Step r before made after) (key : Key) (begins : Begins r before made key) where
  abbrev o : Outcome
  o = command_comes r before begins.command

  commands : outcome r before made.event ≡ o
  commands = ap (outcome r before) begins.event

  does : (refusal_of r before.facts begins.command ≡ None) × (o.after.facts ≡ commanded r before.facts begins.command)
  does = done-commanded r before begins.command (ap (λ (p : Outcome). p.reply) (sym commands) ∙ sym x.replied ∙ begins.is_done)

  is_above : (id : ℕ) → GaveUpTo key.session.tunnel id before.facts → id < key.sender.lsp
  is_above id gave = begun-above r before.facts key begins.command id does.0 begins.begun gave

  gave-then : GaveUpTo key.session.tunnel key.sender.lsp after.facts
  gave-then =
      left-gave r before after made x key.session.tunnel key.sender.lsp
      (subst (GaveUpTo key.session.tunnel key.sender.lsp) (sym (ap (λ (p : Outcome). p.after.facts) commands ∙ does.1)) (begun-gave r before.facts key begins.command begins.begun))

-- Of two LSPs of a tunnel the one that is begun later has the greater ID.
pub given_once : (r : Router) (before between last after : State) (one other : Made) (run : List Made) (first second : Key) → Step r before one between → Begins r before one first → Run r between run last → AllByRecursion (IsNoDrop first.session.tunnel) run
    → Step r last other after → Begins r last other second → second.session.tunnel ≡ first.session.tunnel → first.sender.lsp < second.sender.lsp
given_once r before between last after one other run first second x begins goes stays y too same =
    is_above r last after other y second too first.sender.lsp
    (subst (λ number. GaveUpTo number first.sender.lsp last.facts) (sym same) (run-gave r first.session.tunnel first.sender.lsp between last run goes stays (gave-then r before between one x first begins)))

-- And it is greater than that of each LSP that carried the tunnel's traffic before.
pub above_current : (r : Router) (before last after : State) (other : Made) (run : List Made) (number : ℕ) (tunnel : Tunnel) (key : Key) → IsSound r before → find nat_cmp number before.facts.tunnels ≡ Some tunnel
    → Run r before run last → AllByRecursion (IsNoDrop number) run → Step r last other after → Begins r last other key → key.session.tunnel ≡ number → tunnel.current.id < key.sender.lsp
above_current r before last after other run number tunnel key is found goes stays y begins same =
    let its : IsTunnel r (number, tunnel) = subst (λ (o : Option Tunnel). IfSome o (λ t. IsTunnel r (number, t))) found (find-all_row nat_cmp exact_unsigned (IsTunnel r) number before.facts.tunnels is.paths.tunnels.each) in
    let above = is_above r last after other y key begins tunnel.last (subst (λ n. GaveUpTo n tunnel.last last.facts) (sym same) (run-gave r number tunnel.last before last run goes stays (tunnel, found, omega arith))) in
    let below = its.current.given in
    omega (arith, above, below)
