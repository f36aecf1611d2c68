-- What a bypass runs over is a link that is up, and the label that the end of a selected one takes can be written.
use Rattle.std.specs.Prelude.{◌≡◌, ◌%◌, ◌==◌, ◌&&◌, ℕ, not, true, false, if◌then◌else◌, List, [], ◌∷◌, filter, Option, Some, None, IfSome}
use Rattle.std.specs.FinMap.Entries.{find}
use Rattle.std.specs.List.{AllByRecursion}
use Rattle.std.specs.Option.{option_and_then, option_map, option_map_or, unwrap_or}
use Rattle.std.specs.Ordering.{nat_cmp}
use Rattle.std.specs.declared.net.ipv4_addr.Ipv4Addr.{Ipv4Addr}
use Rattle.std.proofs.Common.{subst}
use Rattle.std.proofs.lemmas.Bool.{and_parts, cond_both}
use Rattle.rsvp_bodies.specs.declared.trace.Trace.{Trace}
use Rattle.rsvp_bodies.specs.declared.trace.Trace.TheVariants.{Ipv4, Label, Other}
use Rattle.sorted_rows.specs.ListLaws.{all-append, all-filter}
use Rattle.sorted_rows.specs.RowsLaws.{find-all}
use Rattle.lsr_facts.specs.Orders.{key_cmp}
use Rattle.lsr_facts.specs.Tunnels.{current_key}
use Rattle.lsr_facts.specs.declared.assignment.Assignment.{Assignment}
use Rattle.lsr_facts.specs.declared.bypass.Bypass.{Bypass}
use Rattle.lsr_facts.specs.declared.key.Key.{Key}
use Rattle.lsr_facts.specs.declared.path_fact.PathFact.{PathFact}
use Rattle.lsr_facts.specs.declared.router.Router.{Router}
use Rattle.lsr_facts.specs.declared.tunnel.Tunnel.{Tunnel}
use Rattle.forwarding_table.specs.Labels.{is_label}
use Rattle.lsr_facts.specs.declared.repair.BypassTunnel.{BypassTunnel}
use Rattle.lsr_facts.specs.declared.repair.Over.{Over}
use Rattle.lsr_facts.specs.declared.repair.Selected.{Selected}
use Rattle.lsr_facts.specs.declared.resv_fact.ResvFact.{ResvFact}
use Rattle.abstract_paths.specs.Places.{is_up}
use Rattle.abstract_paths.specs.RowLaws.{find-holds, option_map-holds, option_or-holds}
use Rattle.abstract_router.specs.BypassTunnels.{bypass_tunnel_by, bypass_tunnel_of, bypass_tunnels_of, over_at, over_by}
use Rattle.abstract_router.specs.Lsps.{Around}
use Rattle.abstract_router.specs.Protecting.{candidates_of, ends_at_peer, first_label, is_preferred, is_protected, label_after, leads_around, may_serve, names_router, selected, selected_by, ways_around}
use Rattle.abstract_paths.specs.Tears.{leaves_by}
use Rattle.abstract_router.specs.Standing.{stands}
use Rattle.abstract_router.specs.States.{State}
use Rattle.abstract_router.specs.UpstreamLaws.{all-filter_map}

-- ---- what a bypass runs over

module _ (r : Router) (s : State) where
  -- what a tunnel runs over is a link that is up
  over_up : (key : Key) (o : Option ResvFact) → IfSome (option_and_then (over_by s.facts key) o) (λ over. is_up s.facts.up over.link ≡ true)
  over_up key None = tt
  over_up key (Some resv) =
      cond_both (stands s.facts (key, resv)) _ _ (λ (o : Option Over). IfSome o (λ over. is_up s.facts.up over.link ≡ true))
      (λ stood. (and_parts (is_up s.facts.up resv.link) (option_map_or (leaves_by resv.link) (find key_cmp key s.facts.paths) false) stood).0) (λ falls. tt)

  -- and so is what a bypass runs over
  bypass_tunnel_up : (bypass : ℕ × Bypass) → IfSome (option_map {U = ℕ × BypassTunnel} (λ (bypass_tunnel : BypassTunnel). (bypass.0, bypass_tunnel)) (bypass_tunnel_by r s bypass)) (λ row. IfSome row.1.over (λ over. is_up s.facts.up over.link ≡ true))
  bypass_tunnel_up bypass = by (find nat_cmp bypass.1.tunnel s.facts.tunnels)
    where
      by : (o : Option Tunnel) → IfSome (option_map {U = ℕ × BypassTunnel} (λ (bypass_tunnel : BypassTunnel). (bypass.0, bypass_tunnel)) (option_map (bypass_tunnel_of r s bypass.1) o)) (λ row. IfSome row.1.over (λ over. is_up s.facts.up over.link ≡ true))
      by None = tt
      by (Some tunnel) = over_up (current_key r (bypass.1.tunnel, tunnel)) (find key_cmp (current_key r (bypass.1.tunnel, tunnel)) s.resvs)

  -- What the bypass of a number runs over, if it is up, is a link that is up.
  pub over_at-up : (number : ℕ) (over : Over) → over_at (bypass_tunnels_of r s) number ≡ Some over → is_up s.facts.up over.link ≡ true
  unfolding bypass_tunnels_of
  over_at-up number over =
      by (find nat_cmp number (bypass_tunnels_of r s))
      (find-all nat_cmp (λ bypass_tunnel. IfSome bypass_tunnel.over (λ over. is_up s.facts.up over.link ≡ true)) number (bypass_tunnels_of r s)
      (all-filter_map (λ (row : ℕ × BypassTunnel). IfSome row.1.over (λ over. is_up s.facts.up over.link ≡ true)) (λ bypass. option_map {U = ℕ × BypassTunnel} (λ (bypass_tunnel : BypassTunnel). (bypass.0, bypass_tunnel)) (bypass_tunnel_by r s bypass)) bypass_tunnel_up s.facts.bypasses))
    where
      by : (o : Option BypassTunnel) → IfSome o (λ bypass_tunnel. IfSome bypass_tunnel.over (λ over. is_up s.facts.up over.link ≡ true)) → option_and_then (λ (bypass_tunnel : BypassTunnel). bypass_tunnel.over) o ≡ Some over → is_up s.facts.up over.link ≡ true
      by None holds at = absurd (let e = at in cc)
      by (Some bypass_tunnel) holds at = subst (λ o. IfSome o (λ over. is_up s.facts.up over.link ≡ true)) at holds

-- ---- the label that its end takes

-- a label that a record begins with can be written
first_label-is : (entries : List Trace) → IfSome (first_label entries) (λ label. is_label label ≡ true)
first_label-is [] = tt
first_label-is (Ipv4 prefix flags ∷ entries) = tt
first_label-is (Label flags label ∷ entries) =
    cond_both ((flags % 2 == 1) && is_label label) _ _ (λ (o : Option ℕ). IfSome o (λ label. is_label label ≡ true)) (λ passes. (and_parts (flags % 2 == 1) (is_label label) passes).1) (λ other. tt)
first_label-is (Other bytes ∷ entries) = tt

-- and so can one that stands after a router's address
label_after-is : (a : Ipv4Addr) (entries : List Trace) → IfSome (label_after a entries) (λ label. is_label label ≡ true)
unfolding label_after
label_after-is a [] = tt
label_after-is a (entry ∷ entries) =
    option_or-holds (λ label. is_label label ≡ true) (if names_router a entry then first_label entries else None) (label_after a entries)
    (cond_both (names_router a entry) _ _ (λ (o : Option ℕ). IfSome o (λ label. is_label label ≡ true)) (λ named. first_label-is entries) (λ other. tt)) (label_after-is a entries)

-- what is selected has a label that can be written
abbrev HasLabel : Selected → Type 0
HasLabel choice = is_label choice.label ≡ true

module _ (resv : ResvFact) (is : is_label resv.label ≡ true) where
  -- a bypass that an LSP may be repaired over
  by_bypass_tunnel : (r : Router) (bypass_tunnel : ℕ × BypassTunnel) → IfSome (selected_by r resv bypass_tunnel) HasLabel
  by_bypass_tunnel r bypass_tunnel =
      cond_both (not (leads_around resv bypass_tunnel.1)) _ _ (λ (o : Option Selected). IfSome o HasLabel) (λ other. tt)
      (λ around.
      cond_both (ends_at_peer r resv bypass_tunnel.1) _ _ (λ (o : Option Selected). IfSome o HasLabel) (λ next. is)
      (λ later.
      option_map-holds HasLabel (λ label. record { bypass = bypass_tunnel.0; is_nnhop = true; label = label; capacity = bypass_tunnel.1.capacity }) (label_after bypass_tunnel.1.ends_at (unwrap_or resv.recorded []))
      (label_after-is bypass_tunnel.1.ends_at (unwrap_or resv.recorded []))))

  -- The bypass that is selected: the label that its end takes can be written.
  pub selected-is : (a : Around) (key : Key) (path : PathFact) (given : Option Assignment) → IfSome (selected a key path given resv) HasLabel
  unfolding selected candidates_of ways_around
  selected-is a key path given =
      let ways = ways_around a resv in
      let all = all-filter_map HasLabel (selected_by a.place.router resv) (by_bypass_tunnel a.place.router) a.bypass_tunnels in
      find-holds HasLabel (may_serve given) (candidates_of a key path resv)
      (cond_both (is_protected a key path) _ _ (AllByRecursion HasLabel)
      (λ protected. all-append HasLabel (filter (is_preferred path) ways) (filter (λ choice. not (is_preferred path choice)) ways) (all-filter HasLabel (is_preferred path) ways all) (all-filter HasLabel (λ choice. not (is_preferred path choice)) ways all))
      (λ other. tt))
