-- A tunnel's LSP that is signalled stands as paths do.
use Rattle.std.specs.Prelude.{◌≡◌, ℕ, Bool, true, false, not, if◌then◌else◌, ◌&&◌, ◌||◌, IsTrue, List, [], ◌∷◌, fold, drop, Option, Some, None, is_none, is_some, Result, Ok, Err, IfOk, IfSome}
use Rattle.std.specs.FinMap.Entries.{find, put}
use Rattle.std.specs.List.{AllByRecursion, prefix_len}
use Rattle.std.specs.Option.{option_map_or}
use Rattle.std.specs.Ordering.{is_eq, nat_cmp}
use Rattle.std.specs.declared.net.ipv4_addr.Ipv4Addr.{Ipv4Addr}
use Rattle.std.proofs.Common.{refl, sym, ap, ◌∙◌, arith}
use Rattle.std.proofs.lemmas.Bool.{and_parts, and_right, both_ways, cond_both, false≢true, or_parts}
use Rattle.std.proofs.lemmas.Cmp.{nat_cmp_total}
use Rattle.rsvp_contents.specs.Limits.{is_short_route}
use Rattle.rsvp_objects.specs.declared.values.FastReroute.{FastReroute}
use Rattle.rsvp_bodies.specs.declared.prefix.Prefix.{Prefix}
use Rattle.rsvp_bodies.specs.declared.step.Step.{Step}
use Rattle.rsvp_contents.specs.Fitting.{has_one_fast_reroute}
use Rattle.sorted_rows.specs.ListLaws.{all-both}
use Rattle.sorted_rows.specs.RowsLaws.{all_found}
use Rattle.lsr_facts.specs.Errors.{bad_explicit_route, bad_initial_subobject, bad_loose_node, no_route}
use Rattle.lsr_facts.specs.Orders.{key_cmp}
use Rattle.lsr_facts.specs.Routers.{IsRouter}
use Rattle.lsr_facts.specs.Bypasses.{AreBypasses}
use Rattle.lsr_facts.specs.Tunnels.{AreTunnels, IsTunnel, IsTunnelLsp, current_key, head_key, is_head, route_from}
use Rattle.lsr_facts.specs.declared.choice.Choice.{Choice}
use Rattle.lsr_facts.specs.declared.choice.Choice.TheVariants as choices
use Rattle.lsr_facts.specs.declared.errors.RsvpError.{RsvpError}
use Rattle.lsr_facts.specs.declared.facts.Facts.{Facts}
use Rattle.lsr_facts.specs.declared.key.Key.{Key}
use Rattle.lsr_facts.specs.declared.router.Link.{Link}
use Rattle.lsr_facts.specs.declared.router.Router.{Router}
use Rattle.lsr_facts.specs.declared.tunnel.Tunnel.{Tunnel}
use Rattle.lsr_facts.specs.declared.tunnel.TunnelLsp.{TunnelLsp}
use Rattle.abstract_paths.proofs.Apart.{apart_put}
use Rattle.abstract_paths.proofs.Heads.{heads_put, is_head-current}
use Rattle.abstract_paths.proofs.NextHops.{Leads, LeadsOn, next_hop-leads, room-behind, room-short}
use Rattle.abstract_paths.proofs.PathTable.{paths_put, put_few}
use Rattle.abstract_paths.proofs.Pending.{pending_current}
use Rattle.abstract_paths.proofs.Primitives.{sound_with_heads}
use Rattle.abstract_paths.specs.Heads.{head_hop, head_path, is_full, signalled, tried, with_head, with_head_by}
use Rattle.abstract_paths.specs.Merging.{is_beside}
use Rattle.abstract_paths.specs.Places.{Place, contains, is_here, is_own, neighbour, place_of}
use Rattle.abstract_paths.specs.RowLaws.{ok_or-holds, option_map-holds}
use Rattle.abstract_paths.specs.Routing.{hop_by_rest, hop_by_route, hop_to_endpoint, hop_to_step, is_loose, leads_here, next_hop, nodes_of, route_to, with_neighbour}
use Rattle.abstract_paths.specs.Soundness.{IsPath, IsPendingSignalled, IsStanding}

-- a way that goes on
abbrev pub GoesOn : Choice → Type 0
GoesOn choices.Tail = ⊥
GoesOn (choices.Link link rest) = Unit {0}

-- and a next hop that is one
abbrev pub HopGoesOn : Result Choice RsvpError → Type 0
HopGoesOn way = IfOk way GoesOn

-- what always holds holds of what may be there
always : {A : Type 0} (P : A → Type 0) → ((x : A) → P x) → (o : Option A) → IfSome o P
always P holds None = tt
always P holds (Some x) = holds x

module _ (n : Place) where
  -- a way over a neighbour, where there is one, or another that goes on
  neighbour-goes_on : (steps : List Step) (o : Option (ℕ × Link)) (other : Result Choice RsvpError) → HopGoesOn other → HopGoesOn (option_map_or (λ l. Ok (choices.Link l.0 (Some steps))) o other)
  neighbour-goes_on steps None other goes = goes
  neighbour-goes_on steps (Some l) other goes = tt

  -- the way to a step
  step-goes_on : (loose : Bool) (nodes : Prefix) (steps : List Step) → HopGoesOn (hop_to_step n loose nodes steps)
  unfolding hop_to_step
  step-goes_on loose nodes steps =
      neighbour-goes_on steps (neighbour (contains nodes) n) _
      (cond_both (not loose) _ _ HopGoesOn (λ strict. tt)
      (λ other.
      ok_or-holds GoesOn _ bad_loose_node
      (option_map-holds GoesOn (λ link. choices.Link link (Some (with_neighbour n.router steps link))) (route_to n nodes.address)
      (always (λ link. GoesOn (choices.Link link (Some (with_neighbour n.router steps link)))) (λ link. tt) (route_to n nodes.address)))))

  -- one that may not be of type IPv4
  nodes-go_on : (loose : Bool) (o : Option Prefix) (steps : List Step) → HopGoesOn (option_map_or (λ nodes. hop_to_step n loose nodes steps) o (Err bad_explicit_route))
  nodes-go_on loose None steps = tt
  nodes-go_on loose (Some nodes) steps = step-goes_on loose nodes steps

  module _ (endpoint : Ipv4Addr) (elsewhere : is_own n.router endpoint ≡ false) where
    -- the way to another router
    endpoint-goes_on : HopGoesOn (hop_to_endpoint n endpoint)
    unfolding hop_to_endpoint
    endpoint-goes_on =
        cond_both (is_own n.router endpoint) _ _ HopGoesOn (λ own. absurd (both_ways _ elsewhere own))
        (λ other.
        ok_or-holds GoesOn _ no_route
        (option_map-holds GoesOn (λ link. choices.Link link None) (route_to n endpoint) (always (λ link. GoesOn (choices.Link link None)) (λ link. tt) (route_to n endpoint))))

    -- the way by what is left of a route to it
    rest-goes_on : (steps : List Step) → HopGoesOn (hop_by_rest n steps endpoint)
    unfolding hop_by_rest
    rest-goes_on [] = endpoint-goes_on
    rest-goes_on (step ∷ steps) = nodes-go_on (is_loose step) (nodes_of step) (step ∷ steps)

    -- the way by a route to it
    first-goes_on : (o : Option Prefix) (steps : List Step)
        → HopGoesOn (option_map_or (λ nodes. if is_here n.router nodes then hop_by_rest n (drop (prefix_len (leads_here n.router) steps) steps) endpoint else Err bad_initial_subobject) o (Err bad_explicit_route))
    first-goes_on None steps = tt
    first-goes_on (Some nodes) steps =
        cond_both (is_here n.router nodes) _ _ HopGoesOn (λ here. rest-goes_on (drop (prefix_len (leads_here n.router) steps) steps)) (λ other. tt)

    pub route-goes_on : (route : List Step) → HopGoesOn (next_hop n (Some route) endpoint)
    unfolding next_hop hop_by_route
    route-goes_on [] = tt
    route-goes_on (first ∷ steps) = first-goes_on (nodes_of first) steps

-- this router is none of a tunnel's other end
pub not_own : (r : Router) (tunnel : ℕ × Tunnel) → IsTunnel r tunnel → is_own r tunnel.1.endpoint ≡ false
unfolding is_own
not_own r tunnel is = is.elsewhere

-- the next hop of a tunnel's LSP leads on, and goes on
pub head-leads : (r : Router) (s : Facts) (tunnel : ℕ × Tunnel) (lsp : TunnelLsp) → IsRouter r → IsStanding r s → IsTrue (is_short_route (route_from r lsp.route)) → Leads r (head_hop (place_of r s) lsp.route tunnel.1.endpoint)
head-leads r s tunnel lsp router is short = next_hop-leads (place_of r s) (Some (route_from r lsp.route)) tunnel.1.endpoint (record { router = router; routes = is.routes }) short

-- FAST_REROUTE is there at most once where nothing is passed on
one_own : (own : Option FastReroute) → IsTrue (has_one_fast_reroute own [])
one_own None = refl
one_own (Some own) = refl

-- The path of a tunnel's LSP stands as paths do.
pub head_sound : (r : Router) (moment : ℕ) (number : ℕ) (tunnel : Tunnel) (lsp : TunnelLsp) (last : ℕ) (way : Choice) → IsTunnelLsp r last lsp → LeadsOn r way → GoesOn way
    → IsPath r moment (head_key r number tunnel.endpoint lsp.id, head_path tunnel lsp way)
head_sound r moment number tunnel lsp last choices.Tail is leads goes = absurd goes
head_sound r moment number tunnel lsp last (choices.Link link rest) is leads goes = record {
  origins = record { in_order = tt; count = refl; senders = tt; stacks = omega arith; each = tt };
  way = leads.0;
  whole_tspec = is.whole_tspec;
  limits = record {
    given = room-short lsp.route (room-behind false (record { address = r.id; length = 32 }) lsp.route is.route);
    rest = leads.1;
    begins = leads.2;
    recorded = refl;
    passing = refl;
    passed_on = refl;
    adspec_last = refl;
    one_fast_reroute = one_own tunnel.fast_reroute;
  };
}

-- there is room for a path where the table isn't full
room_for : (s : Facts) (key : Key) → is_full s ≡ false → (is_none (find key_cmp key s.paths) && is_full s) ≡ false
room_for s key room = and_right (is_none (find key_cmp key s.paths)) (is_full s) room

module _ (r : Router) (s : Facts) (runs : s.cold ≡ false) (is : IsStanding r s) (room : is_full s ≡ false) where
  -- The LSP of a tunnel has a path from now on: it is one of the tunnels that there are then, and all others are tunnels' as
  -- before.
  pub head_put-stands : (number : ℕ) (tunnel : Tunnel) (lsp : TunnelLsp) (last : ℕ) (after : List (ℕ × Tunnel)) (way : Choice) → AreTunnels r after → AreBypasses r after s.bypasses → IsTunnelLsp r last lsp → LeadsOn r way → GoesOn way
      → is_head r after (head_key r number tunnel.endpoint lsp.id) ≡ true → ((q : Key) → is_eq (key_cmp q (head_key r number tunnel.endpoint lsp.id)) ≡ false → is_head r after q ≡ is_head r s.tunnels q)
      → AllByRecursion (IsPendingSignalled r (put key_cmp (head_key r number tunnel.endpoint lsp.id) (head_path tunnel lsp way) s.paths)) after
      → IsStanding r (record s { tunnels = after; paths = put key_cmp (head_key r number tunnel.endpoint lsp.id) (head_path tunnel lsp way) s.paths })
  head_put-stands number tunnel lsp last after way are protect asked leads goes head others pending =
      let key = head_key r number tunnel.endpoint lsp.id in
      let fact = head_path tunnel lsp way in
      sound_with_heads r s s.routes after (put key_cmp key fact s.paths) runs is is.routes are protect
      (paths_put r s.moment key fact s.paths is.paths (head_sound r s.moment number tunnel lsp last way asked leads goes) (put_few key fact s.paths is.paths.in_order is.paths.few (room_for s key room))
      (apart_put key fact s.paths (λ message came. absurd (false≢true (and_parts (is_beside message key) false came).1)) is.paths.apart))
      (heads_put r s.tunnels after key fact s.paths (sym head) others is.paths.in_order is.heads) pending

-- what holds while tunnels are tried, one after the other
record IsTrying (r : Router) (s : Facts) (x : Facts) : Type 0 where
  stands : IsStanding r x
  runs : x.cold ≡ false
  tunnels : x.tunnels ≡ s.tunnels

-- a tunnel that is known under its number
record IsKnown (r : Router) (s : Facts) (tunnel : ℕ × Tunnel) : Type 0 where
  asked : IsTunnel r tunnel
  found : find nat_cmp tunnel.0 s.tunnels ≡ Some tunnel.1

module _ (r : Router) (s : Facts) (router : IsRouter r) where
  -- one tunnel is tried
  tried-keeps : (x : Facts) (tunnel : ℕ × Tunnel) → IsTrying r s x → IsKnown r s tunnel → IsTrying r s (tried r x tunnel)
  unfolding with_head
  tried-keeps x tunnel is known =
      cond_both (is_full x || is_some (find key_cmp (current_key r tunnel) x.paths)) x _ (IsTrying r s) (λ not_now. is)
      (λ room. by (or_parts (is_full x) _ room).0 (head_hop (place_of r x) tunnel.1.current.route tunnel.1.endpoint)
      (head-leads r x tunnel tunnel.1.current router is.stands known.asked.current.route) (route-goes_on (place_of r x) tunnel.1.endpoint (not_own r tunnel known.asked) (route_from r tunnel.1.current.route)))
    where
      by : is_full x ≡ false → (way : Result Choice RsvpError) → Leads r way → HopGoesOn way → IsTrying r s (with_head_by r tunnel tunnel.1.current x way)
      by room (Err e) leads goes = is
      by room (Ok way) leads goes = record {
        stands = head_put-stands r x is.runs is.stands room tunnel.0 tunnel.1 tunnel.1.current tunnel.1.last x.tunnels way is.stands.tunnels is.stands.bypasses known.asked.current leads goes
            (is_head-current r x.tunnels tunnel.0 tunnel.1 (ap (find nat_cmp tunnel.0) is.tunnels ∙ known.found)) (λ q apart. refl)
            (pending_current r x.tunnels x.paths tunnel way is.stands.tunnels (ap (find nat_cmp tunnel.0) is.tunnels ∙ known.found) is.stands.pending);
        runs = is.runs;
        tunnels = is.tunnels;
      }

  -- and so are several
  all_tried-keep : (tunnels : List (ℕ × Tunnel)) (x : Facts) → IsTrying r s x → AllByRecursion (IsKnown r s) tunnels → IsTrying r s (fold (tried r) x tunnels)
  all_tried-keep [] x is known = is
  all_tried-keep (tunnel ∷ tunnels) x is known = all_tried-keep tunnels (tried r x tunnel) (tried-keeps x tunnel is known.0) known.1

  -- All tunnels are tried, by a router that runs.
  pub signalled-stands : s.cold ≡ false → IsStanding r s → IsStanding r (signalled r s)
  unfolding signalled
  signalled-stands runs is =
      (all_tried-keep s.tunnels s (record { stands = is; runs = runs; tunnels = refl })
      (all-both (IsTunnel r) (λ tunnel. find nat_cmp tunnel.0 s.tunnels ≡ Some tunnel.1) (IsKnown r s) (λ tunnel is found. record { asked = is; found = found }) s.tunnels is.tunnels.each (all_found nat_cmp nat_cmp_total s.tunnels is.tunnels.in_order))).stands
