-- What commands leave of LSPs: all but those that they signal or take away; so the current ones of all tunnels but one
-- that is dropped.
use Rattle.std.specs.Prelude.{◌≡◌, ◌≢◌, ◌+◌, ◌||◌, ◌==◌, ℕ, not, Bool, true, false, cond, if◌then◌else◌, T, List, [], ◌∷◌, filter, find as find_first, map, Option, Some, None, is_none, is_some, option_map, option_to_list, Result, Ok, Err}
use Rattle.std.specs.Bool.{then_some}
use Rattle.std.specs.Cmp.{nat_eq_equiv}
use Rattle.std.specs.FinMap.Entries.{find, find-where_key, is_sorted, is_sorted-put, is_sorted-where_key, put, where_key}
use Rattle.std.specs.List.{AllByRecursion}
use Rattle.std.specs.Option.{option_and_then, option_map_or, option_or}
use Rattle.std.specs.Ordering.{is_eq, nat_cmp}
use Rattle.std.specs.declared.net.ipv4_addr.Ipv4Addr.{Ipv4Addr}
use Rattle.std.proofs.Common.{refl, sym, ap, arith, subst, ◌∙◌, inl, inr}
use Rattle.std.proofs.lemmas.Bool.{cases_eq, false_from_ne_true}
use Rattle.std.proofs.lemmas.Cmp.{nat_cmp_total}
use Rattle.std.proofs.lemmas.Map.Lookups.{exact_unsigned}
use Rattle.std.proofs.lemmas.Option.{same_Some}
use Rattle.sorted_rows.specs.ListLaws.{all-filter}
use Rattle.sorted_rows.specs.RowsLaws.{find-put_apart, find-put_other, find-put_same, find-removed_apart, is_sorted-filter}
use Rattle.lsr_facts.specs.Bypasses.{is_for_bypass}
use Rattle.lsr_facts.specs.OrderLaws.{key_exact, key_total}
use Rattle.lsr_facts.specs.Orders.{is_one_of, key_cmp}
use Rattle.lsr_facts.specs.Tunnels.{current_key, head_key, heads_of, pending_key}
use Rattle.lsr_facts.specs.declared.bypass.Bypass.{Bypass}
use Rattle.lsr_facts.specs.declared.choice.Choice.{Choice}
use Rattle.lsr_facts.specs.declared.errors.RsvpError.{RsvpError}
use Rattle.lsr_facts.specs.declared.facts.Facts.{Facts}
use Rattle.lsr_facts.specs.declared.key.Key.{Key}
use Rattle.lsr_facts.specs.declared.path_fact.PathFact.{PathFact}
use Rattle.lsr_facts.specs.declared.refusal.Refusal.{Refusal}
use Rattle.lsr_facts.specs.declared.refusal.Refusal.TheVariants.{InUse, UnknownTunnel}
use Rattle.lsr_facts.specs.declared.router.Router.{Router}
use Rattle.lsr_facts.specs.declared.tunnel.Tunnel.{Tunnel}
use Rattle.lsr_facts.specs.declared.tunnel.TunnelLsp.{TunnelLsp}
use Rattle.lsr_facts.specs.Changes.{begun, cancelled}
use Rattle.lsr_facts.specs.declared.repair.Over.{Over}
use Rattle.lsr_facts.specs.declared.repair.Repair.{Repair}
use Rattle.lsr_facts.specs.declared.resv_fact.ResvFact.{ResvFact}
use Rattle.forwarding_table.specs.declared.action.Action.{Action}
use Rattle.forwarding_table.specs.declared.action.Action.TheVariants.{PushHead}
use Rattle.abstract_paths.specs.declared.commands.Command.{Command}
use Rattle.abstract_paths.specs.declared.commands.Command.TheVariants.{AddTunnel, ChangeTunnel, CancelChange, DropTunnel, AddBypass, DropBypass, AddRoute, DropRoute}
use Rattle.abstract_paths.specs.declared.tunnels.NewBypass.{NewBypass}
use Rattle.abstract_paths.specs.declared.events.Event.TheVariants as events
use Rattle.abstract_paths.specs.declared.events.Made.{Made}
use Rattle.abstract_paths.proofs.Alongside.{with_head-same}
use Rattle.abstract_paths.proofs.Heads.{same_keys}
use Rattle.abstract_paths.proofs.TunnelTable.{tunnel_known}
use Rattle.abstract_paths.specs.Changes.{with_tunnel, without_paths}
use Rattle.abstract_paths.specs.Commands.{begun_by, bypass_by, command, commanded, refusal_of, tests_of, tunnel_by, with_cancelled, with_change, with_dropped}
use Rattle.abstract_paths.specs.Heads.{head_hop, head_path, with_head, with_head_by}
use Rattle.abstract_paths.specs.Outcomes as paths
use Rattle.abstract_paths.specs.Places.{is_up, place_of}
use Rattle.abstract_paths.specs.StampLaws.{none-is}
use Rattle.router_soundness.proofs.Standing.{repair_on_bypass}
use Rattle.abstract_paths.proofs.Commanding.{all_fail}
use Rattle.abstract_router.specs.Assigning.{assigned_anew, assignments_left}
use Rattle.abstract_router.specs.Arrivals.{command_comes, commanded_by, outcome, takes_used_bypass}
use Rattle.abstract_router.specs.BypassTunnels.{bypass_tunnels_of, over_at}
use Rattle.abstract_router.specs.Outcomes.{Outcome, of_paths, refused}
use Rattle.abstract_router.specs.Repairing.{repair_stands, repaired, repairs_left}
use Rattle.abstract_router.specs.Soundness.{IsSound}
use Rattle.abstract_router.specs.States.{State, is_repaired, is_reserved, with_facts, without_held}
use Rattle.abstract_router.specs.Steps.{AreSettled, Step, given_up, is_ready, known_after, labelled, left_standing, resvs_left, stands, with_moments}
use Rattle.abstract_router.specs.Tables.{look_tunnel, push_by, push_of, push_through}
use Rattle.router_laws.specs.Words.{where_up}
use Rattle.router_soundness.proofs.BypassTunnels.{RunsIn, runs-up}
use Rattle.router_laws.proofs.BypassTunnels.{found-any, over_at-same}
use Rattle.router_soundness.proofs.TakingOver.{new_id}
use Rattle.router_laws.proofs.GoingOver.{tunnels_in_order}
use Rattle.router_laws.proofs.Led.{led}
use Rattle.router_laws.proofs.NoneRepaired.{over-up, repaired-same}
use Rattle.router_laws.proofs.Pushing.{look_tunnel-is}
use Rattle.router_laws.proofs.Settled.{filter-none_pass, none_of_fewer, taken_over-same}
use Rattle.router_laws.proofs.Touching.{IsLeft, Keeps, apart-back, neither, step-keeps}
use Rattle.router_laws.proofs.TunnelEvents.{IsSameTunnel, IsTunnelThen, commanded_rests, left_by, none_without, number_free, then_known, then_put, unrepaired_without}

-- The LSPs that a command signals or takes away.
touched_by : Router → Facts → Command → List Key
touched_by r s (AddTunnel t) = head_key r t.number t.endpoint 1 ∷ []
touched_by r s (ChangeTunnel c) = option_to_list (option_map (λ (t : Tunnel). head_key r c.number t.endpoint (t.last + 1)) (find nat_cmp c.number s.tunnels))
touched_by r s (CancelChange number) = option_map_or (λ t. option_to_list (pending_key r (number, t))) (find nat_cmp number s.tunnels) []
touched_by r s (DropTunnel number) = option_map_or (λ t. heads_of r (number, t)) (find nat_cmp number s.tunnels) []
touched_by r s (AddBypass b) = []
touched_by r s (DropBypass n) = []
touched_by r s (AddRoute prefix link) = []
touched_by r s (DropRoute prefix) = []

-- a key is none of those that it differs from
none_of : (key : Key) (keys : List Key) → AllByRecursion (λ k. k ≢ key) keys → is_one_of keys key ≡ false
none_of key [] apart = refl
none_of key (k ∷ ks) apart = ap (λ b. b || is_one_of ks key) (false_from_ne_true (is_eq (key_cmp k key)) (λ tie. apart.0 (same_keys k key tie))) ∙ none_of key ks apart.1

module _ (r : Router) (tunnel : ℕ × Tunnel) (lsp : TunnelLsp) (s : Facts) where
  -- No path is another once a tunnel's LSP is signalled, but that LSP's.
  head_other : (key : Key) → is_eq (key_cmp key (head_key r tunnel.0 tunnel.1.endpoint lsp.id)) ≡ false → find key_cmp key (with_head r tunnel lsp s).paths ≡ find key_cmp key s.paths
  unfolding with_head
  head_other key apart = by (head_hop (place_of r s) lsp.route tunnel.1.endpoint)
    where
      by : (way : Result Choice RsvpError) → find key_cmp key (with_head_by r tunnel lsp s way).paths ≡ find key_cmp key s.paths
      by (Ok way) = find-put_other key_cmp key_total key (head_key r tunnel.0 tunnel.1.endpoint lsp.id) (head_path tunnel.1 lsp way) s.paths apart
      by (Err e) = refl

  head_in_order : T (is_sorted key_cmp s.paths) → T (is_sorted key_cmp (with_head r tunnel lsp s).paths)
  unfolding with_head
  head_in_order h = by (head_hop (place_of r s) lsp.route tunnel.1.endpoint)
    where
      by : (way : Result Choice RsvpError) → T (is_sorted key_cmp (with_head_by r tunnel lsp s way).paths)
      by (Ok way) = is_sorted-put key_cmp key_total (head_key r tunnel.0 tunnel.1.endpoint lsp.id) (head_path tunnel.1 lsp way) s.paths h
      by (Err e) = h

module _ (r : Router) (s : State) (is : IsSound r s) where
  -- what is left of rows without those of some LSPs
  rows_without : {X : Type 0} (keys : List Key) (key : Key) (rows : List (Key × X)) → is_one_of keys key ≡ false → find key_cmp key (filter (λ row. not (is_one_of keys row.0)) rows) ≡ find key_cmp key rows
  rows_without keys key rows apart =
      let left : Key → Bool = λ k. not (is_one_of keys k) in
      find-where_key key_cmp left key (λ x tie. ap left (sym (key_exact key x tie))) rows ∙ ap (λ b. cond (not b) (find key_cmp key rows) None) apart

  -- what a command leaves that has these paths: reservations and repairs but those of the LSP that it signals
  keeps_held : (touched : Key → Bool) (keys : List Key) (facts : Facts) → facts.up ≡ s.facts.up → T (is_sorted key_cmp facts.paths)
      → ((key : Key) → touched key ≡ false → find key_cmp key facts.paths ≡ find key_cmp key s.facts.paths) → ((key : Key) → touched key ≡ false → is_one_of keys key ≡ false)
      → Keeps touched s (without_held keys (with_facts facts s))
  keeps_held touched keys facts up sorted paths among = record {
    up = up;
    labels = refl;
    paths_in_order = sorted;
    resvs_in_order = is_sorted-filter key_cmp (λ resv. not (is_one_of keys resv.0)) s.resvs is.held.in_order;
    repairs_in_order = is_sorted-filter key_cmp (λ repair. not (is_one_of keys repair.0)) s.repairs is.repaired.in_order;
    over_up = subst (λ links. AllByRecursion (λ resv. is_up links resv.1.link ≡ true) (filter (λ (resv : Key × ResvFact). not (is_one_of keys resv.0)) s.resvs)) (sym up)
        (all-filter (λ resv. is_up s.facts.up resv.1.link ≡ true) (λ resv. not (is_one_of keys resv.0)) s.resvs (over-up r s is));
    paths = paths;
    resvs = λ key apart. rows_without keys key s.resvs (among key apart);
    repairs = λ key apart. rows_without keys key s.repairs (among key apart);
  }

  -- where paths and links stay
  keeps_paths : (touched : Key → Bool) (facts : Facts) → facts.up ≡ s.facts.up → facts.paths ≡ s.facts.paths → Keeps touched s (without_held [] (with_facts facts s))
  keeps_paths touched facts up same =
      keeps_held touched [] facts up (subst (λ (rows : List (Key × PathFact)). T (is_sorted key_cmp rows)) (sym same) is.paths.paths.in_order) (λ key apart. ap (find key_cmp key) same) (λ key apart. refl)

  -- where an LSP is signalled
  keeps_begun : (number : ℕ) (t : Tunnel) (l : TunnelLsp) → let key = head_key r number t.endpoint l.id in Keeps (is_one_of (key ∷ [])) s (without_held (key ∷ []) (with_facts (with_tunnel number t (with_head r (number, t) l s.facts)) s))
  keeps_begun number t l =
      let own = head_key r number t.endpoint l.id in
      keeps_held (is_one_of (own ∷ [])) (own ∷ []) (with_tunnel number t (with_head r (number, t) l s.facts)) (ap (λ (x : Facts). x.up) (with_head-same r (number, t) l s.facts)) (head_in_order r (number, t) l s.facts is.paths.paths.in_order)
      (λ key apart. head_other r (number, t) l s.facts key (apart-back own key (neither (is_eq (key_cmp own key)) false apart).0)) (λ key apart. apart)

  -- where paths go
  keeps_without : (keys : List Key) (tunnels : List (ℕ × Tunnel)) → Keeps (is_one_of keys) s (without_held [] (with_facts (record (without_paths keys s.facts) { tunnels = tunnels }) s))
  keeps_without keys tunnels =
      keeps_held (is_one_of keys) [] (record (without_paths keys s.facts) { tunnels = tunnels }) refl (is_sorted-where_key key_cmp (λ k. not (is_one_of keys k)) s.facts.paths is.paths.paths.in_order)
      (λ key apart. rows_without keys key s.facts.paths apart) (λ key apart. refl)

  -- What a command that isn't refused leaves of itself.
  command_keeps : (c : Command) → Keeps (is_one_of (touched_by r s.facts c)) s (without_held (option_to_list (begun_by r s.facts c)) (with_facts (commanded r s.facts c) s))
  unfolding touched_by
  command_keeps (AddTunnel t) = keeps_begun t.number (tunnel_by t) (tunnel_by t).current
  command_keeps (ChangeTunnel c) = by (find nat_cmp c.number s.facts.tunnels)
    where
      keys : Option Tunnel → List Key
      keys known = option_to_list (option_map (λ (t : Tunnel). head_key r c.number t.endpoint (t.last + 1)) known)

      by : (known : Option Tunnel) → Keeps (is_one_of (keys known)) s (without_held (keys known) (with_facts (option_map_or (λ t. with_change r c.number (begun c.route c.tspec t) s.facts) known s.facts) s))
      by None = keeps_paths (is_one_of []) s.facts refl refl
      by (Some t) = keeps_begun c.number (begun c.route c.tspec t) (record { id = t.last + 1; route = c.route; tspec = c.tspec })
  command_keeps (CancelChange number) = by (find nat_cmp number s.facts.tunnels)
    where
      by : (known : Option Tunnel) → Keeps (is_one_of (option_map_or (λ t. option_to_list (pending_key r (number, t))) known [])) s (without_held [] (with_facts (option_map_or (λ t. with_cancelled r number t s.facts) known s.facts) s))
      by None = keeps_paths (is_one_of []) s.facts refl refl
      by (Some t) = keeps_without (option_to_list (pending_key r (number, t))) (put nat_cmp number (cancelled t) s.facts.tunnels)
  command_keeps (DropTunnel number) = by (find nat_cmp number s.facts.tunnels)
    where
      by : (known : Option Tunnel) → Keeps (is_one_of (option_map_or (λ t. heads_of r (number, t)) known [])) s (without_held [] (with_facts (option_map_or (λ t. with_dropped r number t s.facts) known s.facts) s))
      by None = keeps_paths (is_one_of []) s.facts refl refl
      by (Some t) = keeps_without (heads_of r (number, t)) (where_key nat_cmp (λ k. not (is_eq (nat_cmp number k))) s.facts.tunnels)
  command_keeps (AddBypass b) = keeps_paths (is_one_of []) (commanded r s.facts (AddBypass b)) refl refl
  command_keeps (DropBypass n) = keeps_paths (is_one_of []) (commanded r s.facts (DropBypass n)) refl refl
  command_keeps (AddRoute prefix link) = keeps_paths (is_one_of []) (commanded r s.facts (AddRoute prefix link)) refl refl
  command_keeps (DropRoute prefix) = keeps_paths (is_one_of []) (commanded r s.facts (DropRoute prefix)) refl refl

-- the current LSP of a tunnel
module _ (r : Router) (s : State) (is : IsSound r s) (number : ℕ) (old : Tunnel) (found : find nat_cmp number s.facts.tunnels ≡ Some old) where
  abbrev own : Key
  own = current_key r (number, old)

  -- isn't one of another tunnel
  apart_number : (other : ℕ) (endpoint : Ipv4Addr) (id : ℕ) → other ≢ number → head_key r other endpoint id ≢ own
  apart_number other endpoint id differs same = differs (ap (λ (k : Key). k.session.tunnel) same)

  -- nor one of its tunnel with another ID
  apart_id : (other : ℕ) (t : Tunnel) (id : ℕ) → find nat_cmp other s.facts.tunnels ≡ Some t → id ≢ t.current.id → head_key r other t.endpoint id ≢ own
  apart_id other t id its differs same =
      let tunnel : t ≡ old = same_Some t old (sym its ∙ ap (λ (k : Key). find nat_cmp k.session.tunnel s.facts.tunnels) same ∙ found) in
      differs (ap (λ (k : Key). k.sender.lsp) same ∙ ap (λ (u : Tunnel). u.current.id) (sym tunnel))

  -- so no command touches it but the one that drops its tunnel
  untouched : (c : Command) → refusal_of r s.facts c ≡ None → c ≢ DropTunnel number → is_one_of (touched_by r s.facts c) own ≡ false
  unfolding touched_by
  untouched (AddTunnel t) none other =
      none_of own (head_key r t.number t.endpoint 1 ∷ []) (apart_number t.number t.endpoint 1 (λ same. absurd (let e : None ≡ Some old = sym (number_free r s.facts t none) ∙ ap (λ n. find nat_cmp n s.facts.tunnels) same ∙ found in cc)), tt)
  untouched (ChangeTunnel c) none other = by (find nat_cmp c.number s.facts.tunnels) refl
    where
      by : (known : Option Tunnel) → find nat_cmp c.number s.facts.tunnels ≡ known → is_one_of (option_to_list (option_map (λ (t : Tunnel). head_key r c.number t.endpoint (t.last + 1)) known)) own ≡ false
      by None its = refl
      by (Some t) its =
          let given = (tunnel_known r c.number t s.facts.tunnels is.paths.tunnels its).current.given in
          none_of own (head_key r c.number t.endpoint (t.last + 1) ∷ []) (apart_id c.number t (t.last + 1) its (λ same. omega (arith, same, given)), tt)
  untouched (CancelChange n) none other = by (find nat_cmp n s.facts.tunnels) refl
    where
      by_pending : (t : Tunnel) → find nat_cmp n s.facts.tunnels ≡ Some t → (pending : Option TunnelLsp) → t.pending ≡ pending → is_one_of (option_to_list (option_map (λ (l : TunnelLsp). head_key r n t.endpoint l.id) pending)) own ≡ false
      by_pending t its None none = refl
      by_pending t its (Some l) pending = none_of own (head_key r n t.endpoint l.id ∷ []) (apart_id n t l.id its (new_id r s is.paths.tunnels n t l its pending), tt)

      by : (known : Option Tunnel) → find nat_cmp n s.facts.tunnels ≡ known → is_one_of (option_map_or (λ t. option_to_list (pending_key r (n, t))) known []) own ≡ false
      by None its = refl
      by (Some t) its = by_pending t its t.pending refl
  untouched (DropTunnel n) none other = by (find nat_cmp n s.facts.tunnels)
    where
      differs : n ≢ number
      differs same = other (ap DropTunnel same)

      by_pending : (t : Tunnel) (pending : Option TunnelLsp) → is_one_of (current_key r (n, t) ∷ option_to_list (option_map (λ (l : TunnelLsp). head_key r n t.endpoint l.id) pending)) own ≡ false
      by_pending t None = none_of own (current_key r (n, t) ∷ []) (apart_number n t.endpoint t.current.id differs, tt)
      by_pending t (Some l) = none_of own (current_key r (n, t) ∷ head_key r n t.endpoint l.id ∷ []) (apart_number n t.endpoint t.current.id differs, (apart_number n t.endpoint l.id differs, tt))

      by : (known : Option Tunnel) → is_one_of (option_map_or (λ t. heads_of r (n, t)) known []) own ≡ false
      by None = refl
      by (Some t) = by_pending t t.pending
  untouched (AddBypass b) none other = refl
  untouched (DropBypass n) none other = refl
  untouched (AddRoute prefix link) none other = refl
  untouched (DropRoute prefix) none other = refl

-- a number is the same as itself
same_number : (n : ℕ) → (n == n) ≡ true
same_number n = nat_eq_equiv.refl n

-- What a command leaves of tunnels and of bypasses.
module _ (r : Router) (s : Facts) where
  -- a tunnel that is known has the current LSP that it had, but where it is dropped
  tunnel_then : (c : Command) → refusal_of r s c ≡ None → (number : ℕ) (old : Tunnel) → find nat_cmp number s.tunnels ≡ Some old → c ≢ DropTunnel number → IsTunnelThen number old (commanded r s c).tunnels
  tunnel_then (AddTunnel t) none number old was other =
      subst (IsTunnelThen number old) (sym (ap (λ (x : Facts). put nat_cmp t.number (tunnel_by t) x.tunnels) (with_head-same r (t.number, tunnel_by t) (tunnel_by t).current s)))
      (then_put s.tunnels number t.number old (tunnel_by t) was (λ own. absurd (let e = sym (number_free r s t none) ∙ ap (λ n. find nat_cmp n s.tunnels) own ∙ was in cc)))
  tunnel_then (ChangeTunnel c) none number old was other = by (find nat_cmp c.number s.tunnels) refl
    where
      by : (known : Option Tunnel) → find nat_cmp c.number s.tunnels ≡ known → IsTunnelThen number old (option_map_or (λ t. with_change r c.number (begun c.route c.tspec t) s) known s).tunnels
      by None its = (old, was, record { current = refl; endpoint = refl })
      by (Some u) its =
          let t = begun c.route c.tspec u in
          subst (IsTunnelThen number old) (sym (ap (λ (x : Facts). put nat_cmp c.number t x.tunnels) (with_head-same r (c.number, t) (record { id = u.last + 1; route = c.route; tspec = c.tspec }) s)))
          (then_known s.tunnels number c.number old u t was its (record { current = refl; endpoint = refl }))
  tunnel_then (CancelChange n) none number old was other = by (find nat_cmp n s.tunnels) refl
    where
      by : (known : Option Tunnel) → find nat_cmp n s.tunnels ≡ known → IsTunnelThen number old (option_map_or (λ t. with_cancelled r n t s) known s).tunnels
      by None its = (old, was, record { current = refl; endpoint = refl })
      by (Some u) its = then_known s.tunnels number n old u (cancelled u) was its (record { current = refl; endpoint = refl })
  tunnel_then (DropTunnel n) none number old was other = by (find nat_cmp n s.tunnels)
    where
      by : (known : Option Tunnel) → IsTunnelThen number old (option_map_or (λ t. with_dropped r n t s) known s).tunnels
      by None = (old, was, record { current = refl; endpoint = refl })
      by (Some u) = (old, find-removed_apart nat_cmp nat_cmp_total exact_unsigned number n s.tunnels (λ e. other (ap DropTunnel (sym e))) ∙ was, record { current = refl; endpoint = refl })
  tunnel_then (AddBypass b) none number old was other = (old, was, record { current = refl; endpoint = refl })
  tunnel_then (DropBypass n) none number old was other = (old, was, record { current = refl; endpoint = refl })
  tunnel_then (AddRoute prefix link) none number old was other = (old, was, record { current = refl; endpoint = refl })
  tunnel_then (DropRoute prefix) none number old was other = (old, was, record { current = refl; endpoint = refl })

  -- no tunnel is dropped that a bypass runs in
  not_dropped : (c : Command) → refusal_of r s c ≡ None → (number : ℕ) (in_it : RunsIn s number) → c ≢ DropTunnel in_it.bypass.tunnel
  not_dropped c none number in_it drops =
      let used : is_for_bypass s.bypasses in_it.bypass.tunnel ≡ true = found-any nat_cmp (λ bypass. bypass.tunnel == in_it.bypass.tunnel) number in_it.bypass s.bypasses in_it.known (same_number in_it.bypass.tunnel) in
      let refused : refusal_of r s (DropTunnel in_it.bypass.tunnel) ≡ Some InUse =
      ap (λ o. option_map (λ (test : Bool × Refusal). test.1) (find_first (λ (test : Bool × Refusal). test.0) ((is_none o, UnknownTunnel) ∷ (is_for_bypass s.bypasses in_it.bypass.tunnel, InUse) ∷ []))) in_it.runs
      ∙ ap (λ b. option_map (λ (test : Bool × Refusal). test.1) (find_first (λ (test : Bool × Refusal). test.0) ((false, UnknownTunnel) ∷ (b, InUse) ∷ []))) used in
      absurd (let e = sym none ∙ ap (refusal_of r s) drops ∙ refused in cc)

  -- a bypass is begun only under a number that none has
  bypass_free : (b : NewBypass) → refusal_of r s (AddBypass b) ≡ None → find nat_cmp b.number s.bypasses ≡ None
  bypass_free b none = none-is (find nat_cmp b.number s.bypasses) (all_fail (tests_of r s (AddBypass b)) none).1.1.0

  -- a bypass that is known stays, but where it is dropped
  bypass_then : (c : Command) → refusal_of r s c ≡ None → (number : ℕ) (bypass : Bypass) → find nat_cmp number s.bypasses ≡ Some bypass → c ≢ DropBypass number → find nat_cmp number (commanded r s c).bypasses ≡ Some bypass
  bypass_then (AddTunnel t) none number bypass was other = ap (λ (x : Facts). find nat_cmp number x.bypasses) (with_head-same r (t.number, tunnel_by t) (tunnel_by t).current s) ∙ was
  bypass_then (ChangeTunnel c) none number bypass was other = by (find nat_cmp c.number s.tunnels)
    where
      by : (known : Option Tunnel) → find nat_cmp number (option_map_or (λ t. with_change r c.number (begun c.route c.tspec t) s) known s).bypasses ≡ Some bypass
      by None = was
      by (Some u) = ap (λ (x : Facts). find nat_cmp number x.bypasses) (with_head-same r (c.number, begun c.route c.tspec u) (record { id = u.last + 1; route = c.route; tspec = c.tspec }) s) ∙ was
  bypass_then (CancelChange n) none number bypass was other = by (find nat_cmp n s.tunnels)
    where
      by : (known : Option Tunnel) → find nat_cmp number (option_map_or (λ t. with_cancelled r n t s) known s).bypasses ≡ Some bypass
      by None = was
      by (Some u) = was
  bypass_then (DropTunnel n) none number bypass was other = by (find nat_cmp n s.tunnels)
    where
      by : (known : Option Tunnel) → find nat_cmp number (option_map_or (λ t. with_dropped r n t s) known s).bypasses ≡ Some bypass
      by None = was
      by (Some u) = was
  bypass_then (AddBypass b) none number bypass was other =
      find-put_apart nat_cmp nat_cmp_total exact_unsigned number b.number (bypass_by b) s.bypasses (λ own. absurd (let e = sym (bypass_free b none) ∙ ap (λ n. find nat_cmp n s.bypasses) (sym own) ∙ was in cc)) ∙ was
  bypass_then (DropBypass n) none number bypass was other = find-removed_apart nat_cmp nat_cmp_total exact_unsigned number n s.bypasses (λ own. other (ap DropBypass (sym own))) ∙ was
  bypass_then (AddRoute prefix link) none number bypass was other = was
  bypass_then (DropRoute prefix) none number bypass was other = was

  -- bypasses stand in the order of their numbers
  bypasses_sorted : (c : Command) → T (is_sorted nat_cmp s.bypasses) → T (is_sorted nat_cmp (commanded r s c).bypasses)
  bypasses_sorted (AddTunnel t) h = subst (λ (x : Facts). T (is_sorted nat_cmp x.bypasses)) (sym (with_head-same r (t.number, tunnel_by t) (tunnel_by t).current s)) h
  bypasses_sorted (ChangeTunnel c) h = by (find nat_cmp c.number s.tunnels)
    where
      by : (known : Option Tunnel) → T (is_sorted nat_cmp (option_map_or (λ t. with_change r c.number (begun c.route c.tspec t) s) known s).bypasses)
      by None = h
      by (Some u) = subst (λ (x : Facts). T (is_sorted nat_cmp x.bypasses)) (sym (with_head-same r (c.number, begun c.route c.tspec u) (record { id = u.last + 1; route = c.route; tspec = c.tspec }) s)) h
  bypasses_sorted (CancelChange n) h = by (find nat_cmp n s.tunnels)
    where
      by : (known : Option Tunnel) → T (is_sorted nat_cmp (option_map_or (λ t. with_cancelled r n t s) known s).bypasses)
      by None = h
      by (Some u) = h
  bypasses_sorted (DropTunnel n) h = by (find nat_cmp n s.tunnels)
    where
      by : (known : Option Tunnel) → T (is_sorted nat_cmp (option_map_or (λ t. with_dropped r n t s) known s).bypasses)
      by None = h
      by (Some u) = h
  bypasses_sorted (AddBypass b) h = is_sorted-put nat_cmp nat_cmp_total b.number (bypass_by b) s.bypasses h
  bypasses_sorted (DropBypass n) h = is_sorted-where_key nat_cmp (λ k. not (is_eq (nat_cmp n k))) s.bypasses h
  bypasses_sorted (AddRoute prefix link) h = h
  bypasses_sorted (DropRoute prefix) h = h

-- What is pushed for tunnels as a command leaves them: what was before, where that is so of the same tunnels, and of the
-- LSP that it signals nothing is.
module _ (r : Router) (before after : State) (number : ℕ) where
  -- what is pushed for a tunnel of the number, if there is one
  abbrev pushed : State → Option Tunnel → Option Action
  pushed s known = option_and_then (λ t. push_of r s (number, t)) known

  -- what is pushed by what an LSP has afterwards
  abbrev pushed_by : Option ResvFact → Option Repair → Option Action
  pushed_by resv repair = option_or (option_map push_by resv) (option_and_then (push_through (bypass_tunnels_of r after)) repair)

  abbrev IsSamePushed : Type 0
  IsSamePushed = (known : Option Tunnel) → find nat_cmp number before.facts.tunnels ≡ known → pushed after known ≡ pushed before known

  -- a tunnel is put
  pushed_put : (other : ℕ) (t : Tunnel) → IsSamePushed → (other ≡ number → push_of r after (other, t) ≡ option_and_then (λ u. push_of r before (other, u)) (find nat_cmp other before.facts.tunnels))
      → pushed after (find nat_cmp number (put nat_cmp other t before.facts.tunnels)) ≡ pushed before (find nat_cmp number before.facts.tunnels)
  pushed_put other t same its = elim (cases_eq other number) as (λ c. pushed after (find nat_cmp number (put nat_cmp other t before.facts.tunnels)) ≡ pushed before (find nat_cmp number before.facts.tunnels)) [
    | inl own ↦
        subst (λ n. option_and_then (λ u. push_of r after (n, u)) (find nat_cmp n (put nat_cmp other t before.facts.tunnels)) ≡ option_and_then (λ u. push_of r before (n, u)) (find nat_cmp n before.facts.tunnels)) own
        (ap (option_and_then (λ u. push_of r after (other, u))) (find-put_same nat_cmp nat_cmp_total other t before.facts.tunnels) ∙ its own)
    | inr apart ↦
        ap (pushed after) (find-put_apart nat_cmp nat_cmp_total exact_unsigned number other t before.facts.tunnels (λ e. apart (sym e))) ∙ same (find nat_cmp number before.facts.tunnels) refl
  ]

  -- one that has the current LSP of before
  pushed_known : (other : ℕ) (old t : Tunnel) → IsSamePushed → find nat_cmp other before.facts.tunnels ≡ Some old → IsSameTunnel old t → other ≡ number → push_of r after (other, t) ≡ option_and_then (λ u. push_of r before (other, u)) (find nat_cmp other before.facts.tunnels)
  pushed_known other old t same was keeps own =
      (λ i. pushed_by (find key_cmp (head_key r other (keeps.endpoint i) (keeps.current i).id) after.resvs) (find key_cmp (head_key r other (keeps.endpoint i) (keeps.current i).id) after.repairs))
      ∙ subst (λ n. push_of r after (n, old) ≡ option_and_then (λ u. push_of r before (n, u)) (Some old)) (sym own) (same (Some old) (ap (λ n. find nat_cmp n before.facts.tunnels) (sym own) ∙ was))
      ∙ ap (option_and_then (λ u. push_of r before (other, u))) (sym was)

  pushes_by : (c : Command) → refusal_of r before.facts c ≡ None → c ≢ DropTunnel number → IsSamePushed → ((key : Key) → begun_by r before.facts c ≡ Some key → (find key_cmp key after.resvs ≡ None) × (find key_cmp key after.repairs ≡ None))
      → pushed after (find nat_cmp number (commanded r before.facts c).tunnels) ≡ pushed before (find nat_cmp number before.facts.tunnels)
  pushes_by (AddTunnel t) none other same unheld =
      ap (λ tunnels. pushed after (find nat_cmp number tunnels)) (ap (λ (x : Facts). put nat_cmp t.number (tunnel_by t) x.tunnels) (with_head-same r (t.number, tunnel_by t) (tunnel_by t).current before.facts))
      ∙ pushed_put t.number (tunnel_by t) same (λ own.
      let none_held = unheld (head_key r t.number t.endpoint 1) refl in
      (λ i. pushed_by (none_held.0 i) (none_held.1 i))
      ∙ ap (option_and_then (λ u. push_of r before (t.number, u))) (sym (number_free r before.facts t none)))
  pushes_by (ChangeTunnel c) none other same unheld = by (find nat_cmp c.number before.facts.tunnels) refl
    where
      by : (known : Option Tunnel) → find nat_cmp c.number before.facts.tunnels ≡ known → pushed after (find nat_cmp number (option_map_or (λ t. with_change r c.number (begun c.route c.tspec t) before.facts) known before.facts).tunnels) ≡ pushed before (find nat_cmp number before.facts.tunnels)
      by None was = same (find nat_cmp number before.facts.tunnels) refl
      by (Some old) was =
          let t = begun c.route c.tspec old in
          ap (λ tunnels. pushed after (find nat_cmp number tunnels)) (ap (λ (x : Facts). put nat_cmp c.number t x.tunnels) (with_head-same r (c.number, t) (record { id = old.last + 1; route = c.route; tspec = c.tspec }) before.facts))
          ∙ pushed_put c.number t same (pushed_known c.number old t same was (record { current = refl; endpoint = refl }))
  pushes_by (CancelChange n) none other same unheld = by (find nat_cmp n before.facts.tunnels) refl
    where
      by : (known : Option Tunnel) → find nat_cmp n before.facts.tunnels ≡ known → pushed after (find nat_cmp number (option_map_or (λ t. with_cancelled r n t before.facts) known before.facts).tunnels) ≡ pushed before (find nat_cmp number before.facts.tunnels)
      by None was = same (find nat_cmp number before.facts.tunnels) refl
      by (Some old) was = pushed_put n (cancelled old) same (pushed_known n old (cancelled old) same was (record { current = refl; endpoint = refl }))
  pushes_by (DropTunnel n) none other same unheld = by (find nat_cmp n before.facts.tunnels)
    where
      by : (known : Option Tunnel) → pushed after (find nat_cmp number (option_map_or (λ t. with_dropped r n t before.facts) known before.facts).tunnels) ≡ pushed before (find nat_cmp number before.facts.tunnels)
      by None = same (find nat_cmp number before.facts.tunnels) refl
      by (Some old) = ap (pushed after) (find-removed_apart nat_cmp nat_cmp_total exact_unsigned number n before.facts.tunnels (λ e. other (ap DropTunnel (sym e)))) ∙ same (find nat_cmp number before.facts.tunnels) refl
  pushes_by (AddBypass b) none other same unheld = same (find nat_cmp number before.facts.tunnels) refl
  pushes_by (DropBypass n) none other same unheld = same (find nat_cmp number before.facts.tunnels) refl
  pushes_by (AddRoute prefix link) none other same unheld = same (find nat_cmp number before.facts.tunnels) refl
  pushes_by (DropRoute prefix) none other same unheld = same (find nat_cmp number before.facts.tunnels) refl

-- what a command does, by what it does to paths
abbrev outcome_by : Router → State → Command → paths.PathOutcome → Outcome
outcome_by r s c o = if o.is_silent then of_paths s o else commanded_by r s c (of_paths s o)

-- where no LSP runs over the bypass of a number, each repair is by another
none_uses : (s : State) (number : ℕ) (key : Key) (repair : Repair) → takes_used_bypass s (DropBypass number) ≡ false → find key_cmp key s.repairs ≡ Some repair → repair.bypass ≢ number
none_uses s number key repair unused found own =
    let used = found-any key_cmp (λ repair. repair.bypass == number) key repair s.repairs found (ap (λ n. n == number) own ∙ same_number number) in
    let e = sym unused ∙ used in cc

module _ (r : Router) (before after : State) (made : Made) (c : Command) (is : IsSound r before) (rests : AreSettled r before) (x : Step r before made after) (event : made.event ≡ events.Command c) where
  abbrev mid : State
  mid = left_by r before rests c

  abbrev o : Outcome
  o = record (of_paths before (paths.done [] (commanded r before.facts c))) { after = mid }

  -- what a command does that isn't refused by what paths, tunnels, bypasses and routes are
  abbrev by_use : Bool → Outcome
  by_use used = if used then refused before InUse else o

  -- a command that is refused changes nothing
  refused_so : (refusal : Refusal) → refusal_of r before.facts c ≡ Some refusal → after ≡ before
  unfolding command_comes command
  refused_so refusal is_refused =
      let refused = of_paths before (paths.refused before.facts refusal) in
      led r before after made (events.Command c) refused x event (ap (λ o. outcome_by r before c (option_map_or (paths.refused before.facts) o (paths.done [] (commanded r before.facts c)))) is_refused)

  module _ (none : refusal_of r before.facts c ≡ None) where
    does_by : (used : Bool) → takes_used_bypass before c ≡ used → outcome r before (events.Command c) ≡ by_use used
    unfolding command_comes command
    does_by used so =
        ap (λ o. outcome_by r before c (option_map_or (paths.refused before.facts) o (paths.done [] (commanded r before.facts c)))) none ∙ ap by_use so

    -- nor does one that would drop a bypass that an LSP runs over
    used_so : takes_used_bypass before c ≡ true → after ≡ before
    used_so used = led r before after made (events.Command c) (refused before InUse) x event (does_by true used)

    module _ (unused : takes_used_bypass before c ≡ false) where
      came : after ≡ known_after r before made.labels o
      came = led r before after made (events.Command c) o x event (does_by false unused)

      -- no tunnel goes over
      mid_rests : AreSettled r mid
      mid_rests = commanded_rests r before rests c none

      none_given : given_up r mid ≡ []
      none_given = ap (map (current_key r)) (filter-none_pass (is_ready r mid) mid.facts.tunnels mid_rests)

      keeps : Keeps (is_one_of (touched_by r before.facts c)) before mid
      keeps = command_keeps r before is c

      -- and what isn't touched is left
      left : IsLeft r (is_one_of (touched_by r before.facts c)) before after
      left =
          subst (IsLeft r (is_one_of (touched_by r before.facts c)) before) (sym came)
          (step-keeps r (is_one_of (touched_by r before.facts c)) before is o made.labels (λ silent. absurd (let e = silent in cc)) (λ key apart. ap (λ keys. is_one_of keys key) none_given) keeps)

      -- nothing is to be repaired either
      came_left : after ≡ with_moments r before o (labelled r made.labels (assignments_left (left_standing r (assigned_anew r mid))))
      came_left =
          let rest : State → State = λ t. with_moments r before o (labelled r made.labels (assignments_left (left_standing r t))) in
          came ∙ ap (λ t. rest (repaired r (assigned_anew r t))) (taken_over-same r mid mid_rests) ∙ ap rest (repaired-same r (assigned_anew r mid) keeps.over_up)

      -- tunnels and bypasses are as the command leaves them
      tunnels_then : after.facts.tunnels ≡ (commanded r before.facts c).tunnels
      unfolding repairs_left
      tunnels_then = ap (λ (s : State). s.facts.tunnels) came_left

      bypasses_then : after.facts.bypasses ≡ (commanded r before.facts c).bypasses
      unfolding repairs_left
      bypasses_then = ap (λ (s : State). s.facts.bypasses) came_left

      -- the LSP that was signalled is neither reserved nor repaired
      begun_unheld : (key : Key) → begun_by r before.facts c ≡ Some key → (find key_cmp key after.resvs ≡ None) × (find key_cmp key after.repairs ≡ None)
      unfolding repairs_left
      begun_unheld key begun_one =
          let facts = commanded r before.facts c in
          let gone = subst (λ keys. let s = without_held (option_to_list keys) (with_facts facts before) in (is_reserved s key ≡ false) × (is_repaired s key ≡ false)) (sym begun_one) (none_without r before rests key facts, unrepaired_without r before rests key facts) in (
            none-is (find key_cmp key after.resvs) (ap (λ (s : State). is_some (find key_cmp key s.resvs)) came_left ∙ none_of_fewer (stands mid.facts) key mid.resvs gone.0),
            none-is (find key_cmp key after.repairs) (ap (λ (s : State). is_some (find key_cmp key s.repairs)) came_left ∙ none_of_fewer (repair_stands r (resvs_left (assigned_anew r mid))) key mid.repairs gone.1),
          )

      -- A bypass that an LSP runs over runs over what it ran over.
      over_then : (key : Key) (repair : Repair) → find key_cmp key before.repairs ≡ Some repair → over_at (bypass_tunnels_of r after) repair.bypass ≡ over_at (bypass_tunnels_of r before) repair.bypass
      over_then key repair found =
          let up = repair_on_bypass r before key repair is found in
          let sorted = is.paths.bypasses.in_order in
          let was = runs-up r before repair.bypass sorted (ap is_some up.4) in
          let kept = not_dropped r before.facts c none repair.bypass was in
          let tunnel = tunnel_then r before.facts c none was.bypass.tunnel was.tunnel was.runs kept in
          let undropped : c ≢ DropBypass repair.bypass = λ drops. none_uses before repair.bypass key repair (subst (λ d. takes_used_bypass before d ≡ false) drops unused) found refl in
          over_at-same r before after repair.bypass sorted (subst (λ (rows : List (ℕ × Bypass)). T (is_sorted nat_cmp rows)) (sym bypasses_then) (bypasses_sorted r before.facts c sorted)) was
          (record {
            tunnel = tunnel.0;
            known = ap (find nat_cmp repair.bypass) bypasses_then ∙ bypass_then r before.facts c none repair.bypass was.bypass was.known undropped;
            runs = ap (find nat_cmp was.bypass.tunnel) tunnels_then ∙ tunnel.1;
            same = tunnel.2;
            path = left.paths (current_key r (was.bypass.tunnel, was.tunnel)) (untouched r before is was.bypass.tunnel was.tunnel was.runs c none kept);
            resv = left.resvs (current_key r (was.bypass.tunnel, was.tunnel)) (untouched r before is was.bypass.tunnel was.tunnel was.runs c none kept);
            up = left.up;
          })

      -- so each LSP that isn't touched is repaired as it was
      repairs_then : (key : Key) → is_one_of (touched_by r before.facts c) key ≡ false → find key_cmp key after.repairs ≡ find key_cmp key before.repairs
      repairs_then key apart = left.repairs key apart ∙ by (find key_cmp key before.repairs) refl
        where
          by : (known : Option Repair) → find key_cmp key before.repairs ≡ known → option_and_then (where_up r after) known ≡ known
          by None found = refl
          by (Some repair) found = ap (λ o. then_some (is_some o) repair) (over_then key repair found ∙ (repair_on_bypass r before key repair is found).4)

  -- What holds where nothing changes, and where the command is done, holds after it.
  by_refusal : (P : State → Type 0) → P before → ((none : refusal_of r before.facts c ≡ None) → takes_used_bypass before c ≡ false → P after) → P after
  by_refusal P same done = by (refusal_of r before.facts c) refl
    where
      by_used : refusal_of r before.facts c ≡ None → (used : Bool) → takes_used_bypass before c ≡ used → P after
      by_used none true used = subst P (sym (used_so none used)) same
      by_used none false unused = done none unused

      by : (refusal : Option Refusal) → refusal_of r before.facts c ≡ refusal → P after
      by (Some refusal) so = subst P (sym (refused_so refusal so)) same
      by None so = by_used so (takes_used_bypass before c) refl

  -- The current LSP of a tunnel keeps its path, and its reservation or its repair.
  abbrev Leaves : Key → State → Type 0
  Leaves key s =
      (find key_cmp key s.facts.paths ≡ find key_cmp key before.facts.paths) × (find key_cmp key s.resvs ≡ find key_cmp key before.resvs)
      × (find key_cmp key s.repairs ≡ find key_cmp key before.repairs)

  pub command_leaves : (number : ℕ) (old : Tunnel) → find nat_cmp number before.facts.tunnels ≡ Some old → c ≢ DropTunnel number → Leaves (current_key r (number, old)) after
  command_leaves number old was other =
      let key = current_key r (number, old) in
      by_refusal (Leaves key) (refl, refl, refl)
      (λ none unused. let apart = untouched r before is number old was c none other in ((left none unused).paths key apart, (left none unused).resvs key apart, repairs_then none unused key apart))

  -- So its entry is the same.
  pub command_entry : (number : ℕ) → c ≢ DropTunnel number → look_tunnel r after number ≡ look_tunnel r before number
  command_entry number other = by_refusal (λ s. look_tunnel r s number ≡ look_tunnel r before number) refl by_done
    where
      by_done : (none : refusal_of r before.facts c ≡ None) → takes_used_bypass before c ≡ false → look_tunnel r after number ≡ look_tunnel r before number
      by_done none unused =
          look_tunnel-is r after number (tunnels_in_order r before after made is rests x)
          ∙ ap (λ tunnels. option_and_then (λ t. push_of r after (number, t)) (find nat_cmp number tunnels)) (tunnels_then none unused)
          ∙ pushes_by r before after number c none other same_pushes (begun_unheld none unused)
          ∙ sym (look_tunnel-is r before number is.paths.tunnels.in_order)
        where
          through : (key : Key) (repair : Option Repair) → find key_cmp key before.repairs ≡ repair → option_and_then (push_through (bypass_tunnels_of r after)) repair ≡ option_and_then (push_through (bypass_tunnels_of r before)) repair
          through key None found = refl
          through key (Some repair) found = ap (option_map (λ (over : Over). PushHead (Some repair.resv.label) over.label over.link)) (over_then none unused key repair found)

          same_pushes : (known : Option Tunnel) → find nat_cmp number before.facts.tunnels ≡ known → option_and_then (λ t. push_of r after (number, t)) known ≡ option_and_then (λ t. push_of r before (number, t)) known
          same_pushes None was = refl
          same_pushes (Some old) was =
              let key = current_key r (number, old) in
              let leaves = command_leaves number old was other in
              (λ i. option_or (option_map push_by (leaves.1 i)) (option_and_then (push_through (bypass_tunnels_of r after)) (leaves.2 i)))
              ∙ ap (option_or (option_map push_by (find key_cmp key before.resvs))) (through key (find key_cmp key before.repairs) refl)
