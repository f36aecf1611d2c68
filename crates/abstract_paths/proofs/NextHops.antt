-- The next hop: it is a link of the router, and what is left of the route is within the limits and begins with a step of
-- type IPv4.
use Rattle.std.specs.Prelude.{◌≡◌, ℕ, ◌+◌, ◌≤◌, Bool, true, false, not, if◌then◌else◌, nat_le, nat_lt, IsTrue, List, [], ◌∷◌, drop, length, Option, Some, None, is_some, Result, Ok, Err, IfSome, IfOk}
use Rattle.std.specs.List.{AllByRecursion, list_all, prefix_len, reduce}
use Rattle.std.specs.Net.Addr.{ipv4_octets}
use Rattle.std.specs.Option.{option_map_or}
use Rattle.std.specs.Ordering.{nat_cmp}
use Rattle.std.specs.declared.net.ipv4_addr.Ipv4Addr.{Ipv4Addr}
use Rattle.std.proofs.Common.{refl, ap, arith, length-append}
use Rattle.std.proofs.lemmas.Bool.{and_parts, and_from, leb-true, le-leb, eqb-true, eq-eqb, cond_both}
use Rattle.std.proofs.lemmas.Cmp.{nat_cmp_total}
use Rattle.std.proofs.lemmas.Option.{IfSome_then}
use Rattle.rsvp_objects.specs.Ranges.{IsAddress}
use Rattle.rsvp_bodies.specs.declared.prefix.Prefix.{Prefix}
use Rattle.rsvp_bodies.specs.declared.step.Step.{Step}
use Rattle.rsvp_bodies.specs.declared.step.Step.TheVariants.{Ipv4, Other}
use Rattle.rsvp_bodies.specs.Steps.{route_bytes, step_bytes}
use Rattle.rsvp_contents.specs.Limits.{is_address, is_short_route, step_has_address}
use Rattle.sorted_rows.specs.ListLaws.{all-filter, all-weaker}
use Rattle.sorted_rows.specs.RowsLaws.{all_found, find-all}
use Rattle.lsr_facts.specs.Errors.{bad_explicit_route, bad_loose_node, bad_initial_subobject, no_route}
use Rattle.lsr_facts.specs.declared.choice.Choice.{Choice}
use Rattle.lsr_facts.specs.declared.choice.Choice.TheVariants as choices
use Rattle.lsr_facts.specs.declared.errors.RsvpError.{RsvpError}
use Rattle.lsr_facts.specs.declared.router.Link.{Link}
use Rattle.lsr_facts.specs.declared.router.Router.{Router}
use Rattle.abstract_paths.specs.Places.{Place, contains, is_here, is_own, is_up, neighbour, up_links}
use Rattle.abstract_paths.specs.Routing.{longer, routes_to, route_to, nodes_of, leads_here, step_to, hop_to_endpoint, with_neighbour, hop_to_step, hop_by_rest, hop_by_route, next_hop}
use Rattle.abstract_paths.specs.RowLaws.{find-holds, reduce-holds, option_map-holds, option_or-holds, ok_or-holds, length-drop_most, flat_map-drop_most, list_all-drop}
use Rattle.abstract_paths.specs.Soundness.{begins_with_ipv4}
use Rattle.lsr_facts.specs.Routers.{AreRoutes, HasLink, IsLink, IsRouter, is_same, link_at}

-- A way that may be taken: it ends here, or it goes on by a link of the router with a rest within the limits that begins
-- with a step of type IPv4.
abbrev pub LeadsOn : Router → Choice → Type 0
LeadsOn r choices.Tail = Unit {0}
LeadsOn r (choices.Link link rest) =
    HasLink r link × IsTrue (option_map_or is_short_route rest true) × IsTrue (option_map_or begins_with_ipv4 rest true)

-- a next hop that is one leads on
abbrev pub Leads : Router → Result Choice RsvpError → Type 0
Leads r way = IfOk way (LeadsOn r)

-- a place whose router and routes can be
pub record IsPlace (n : Place) : Type 0 where
  pub router : IsRouter n.router
  pub routes : AreRoutes n.router n.routes

-- each link of a router is there under its number
pub link_at-own : (r : Router) → IsRouter r → AllByRecursion (λ l. HasLink r l.0) r.links
unfolding link_at
link_at-own r is = all-weaker (λ l. _ ≡ Some l.1) (λ l. HasLink r l.0) (λ l found. ap is_some found) r.links (all_found nat_cmp nat_cmp_total r.links is.in_order)

-- the peer on a link has an address
pub link_at-peer : (r : Router) (number : ℕ) → IsRouter r → IfSome (link_at r number) (λ l. IsAddress l.peer)
unfolding link_at
link_at-peer r number is =
    find-all nat_cmp (λ l. IsAddress l.peer) number r.links (all-weaker IsLink (λ l. IsAddress l.1.peer) (λ l link. link.peer) r.links is.links)

-- a neighbour is over a link of the router
pub neighbour-there : (n : Place) (test : Ipv4Addr → Bool) → IsRouter n.router → IfSome (neighbour test n) (λ l. HasLink n.router l.0)
unfolding neighbour
neighbour-there n test is =
    find-holds (λ l. HasLink n.router l.0) _ (up_links n)
    (all-filter (λ l. HasLink n.router l.0) (λ l. is_up n.up l.0) n.router.links (link_at-own n.router is))

-- a route to an address is over a link of the router
pub route_to-there : (n : Place) (a : Ipv4Addr) → IsPlace n → IfSome (route_to n a) (HasLink n.router)
unfolding route_to
route_to-there n a is =
    option_or-holds (HasLink n.router) _ _
    (option_map-holds (HasLink n.router) (λ l. l.0) (neighbour (is_same a) n) (neighbour-there n (is_same a) is.router))
    (option_map-holds (HasLink n.router) (λ route. route.1) (reduce longer (routes_to n a))
    (reduce-holds (λ route. HasLink n.router route.1) longer
    (λ p q g h. cond_both (nat_lt p.0.length q.0.length) q p (λ route. HasLink n.router route.1) (λ t. h) (λ t. g))
    (routes_to n a)
    (all-filter (λ route. HasLink n.router route.1) _ n.routes is.routes.over_links)))

-- the way to an endpoint
pub hop_to_endpoint-leads : (n : Place) (endpoint : Ipv4Addr) → IsPlace n → Leads n.router (hop_to_endpoint n endpoint)
unfolding hop_to_endpoint
hop_to_endpoint-leads n endpoint is =
    cond_both (is_own n.router endpoint) _ _ (Leads n.router) (λ own. tt)
    (λ other.
    ok_or-holds (LeadsOn n.router) _ no_route
    (option_map-holds (LeadsOn n.router) (λ link. choices.Link link None) (route_to n endpoint)
    (IfSome_then (route_to n endpoint) (route_to-there n endpoint is) (λ link there. (there, refl, refl)))))

-- steps that leave room for one more before them, their addresses of four octets
pub record HasRoomBefore (steps : List Step) : Type 0 where
  pub count : length steps ≤ 31
  pub size : length (route_bytes steps) ≤ 504
  pub addresses : IsTrue (list_all step_has_address steps)

-- they are within the limits
pub room-short : (steps : List Step) → HasRoomBefore steps → IsTrue (is_short_route steps)
room-short steps room =
    and_from (nat_le (length steps) 32) _ (le-leb (length steps) 32 (omega (arith, room.count)))
    (and_from (nat_le (length (route_bytes steps)) 512) (list_all step_has_address steps)
    (le-leb (length (route_bytes steps)) 512 (omega (arith, room.size)))
    room.addresses)

-- also with a step to an address before them
pub room-step : (a : Ipv4Addr) (steps : List Step) → IsAddress a → HasRoomBefore steps → IsTrue (is_short_route (step_to a ∷ steps))
room-step a steps four room =
    let size : length (route_bytes (step_to a ∷ steps)) ≡ 8 + length (route_bytes steps) =
    omega (arith, four, length-append (step_bytes (step_to a)) (route_bytes steps), length-append (ipv4_octets a) (32 ∷ 0 ∷ [])) in
    and_from (nat_le (length (step_to a ∷ steps)) 32) _ (le-leb (length (step_to a ∷ steps)) 32 (omega (arith, room.count)))
    (and_from (nat_le (length (route_bytes (step_to a ∷ steps))) 512) (list_all step_has_address (step_to a ∷ steps))
    (le-leb (length (route_bytes (step_to a ∷ steps))) 512 (omega (arith, size, room.size)))
    (and_from (is_address a) (list_all step_has_address steps) (eq-eqb (length (ipv4_octets a)) 4 four) room.addresses))

-- with the neighbour before them, where it is known
neighbour-short : (steps : List Step) (o : Option Link) → IfSome o (λ l. IsAddress l.peer) → HasRoomBefore steps → IsTrue (is_short_route (option_map_or (λ l. step_to l.peer ∷ steps) o steps))
neighbour-short steps None four room = room-short steps room
neighbour-short steps (Some l) four room = room-step l.peer steps four room

pub with_neighbour-short : (r : Router) (steps : List Step) (link : ℕ) → IsRouter r → HasRoomBefore steps → IsTrue (is_short_route (with_neighbour r steps link))
with_neighbour-short r steps link is room = neighbour-short steps (link_at r link) (link_at-peer r link is) room

-- they begin with a step of type IPv4 then, where they did before
neighbour-begins : (steps : List Step) (o : Option Link) → IsTrue (begins_with_ipv4 steps) → IsTrue (begins_with_ipv4 (option_map_or (λ l. step_to l.peer ∷ steps) o steps))
neighbour-begins steps None begins = begins
neighbour-begins steps (Some l) begins = refl

-- a way over the neighbour, where there is one, or another
neighbour-leads : (r : Router) (steps : List Step) (o : Option (ℕ × Link)) (other : Result Choice RsvpError) → IfSome o (λ l. HasLink r l.0) → IsTrue (is_short_route steps) → IsTrue (begins_with_ipv4 steps) → Leads r other → Leads r (option_map_or (λ l. Ok (choices.Link l.0 (Some steps))) o other)
neighbour-leads r steps None other there short begins h = h
neighbour-leads r steps (Some l) other there short begins h = (there, short, begins)

-- the way to a step, which is of type IPv4
pub hop_to_step-leads : (n : Place) (loose : Bool) (nodes : Prefix) (steps : List Step) → IsPlace n → HasRoomBefore steps → IsTrue (begins_with_ipv4 steps) → Leads n.router (hop_to_step n loose nodes steps)
unfolding hop_to_step
hop_to_step-leads n loose nodes steps is room begins =
    neighbour-leads n.router steps (neighbour (contains nodes) n) _ (neighbour-there n (contains nodes) is.router) (room-short steps room) begins
    (cond_both (not loose) _ _ (Leads n.router) (λ strict. tt)
    (λ other.
    ok_or-holds (LeadsOn n.router) _ bad_loose_node
    (option_map-holds (LeadsOn n.router) (λ link. choices.Link link (Some (with_neighbour n.router steps link))) (route_to n nodes.address)
    (IfSome_then (route_to n nodes.address) (route_to-there n nodes.address is) (λ link there. (there, with_neighbour-short n.router steps link is.router room, neighbour-begins steps (link_at n.router link) begins))))))

-- the way to a step of type IPv4 that may lead to no nodes
nodes-lead : (n : Place) (loose : Bool) (o : Option Prefix) (steps : List Step) → IsPlace n → HasRoomBefore steps → IsTrue (begins_with_ipv4 steps) → Leads n.router (option_map_or (λ nodes. hop_to_step n loose nodes steps) o (Err bad_explicit_route))
nodes-lead n loose None steps is room begins = tt
nodes-lead n loose (Some nodes) steps is room begins = hop_to_step-leads n loose nodes steps is room begins

-- the way by what is left of a route
pub hop_by_rest-leads : (n : Place) (steps : List Step) (endpoint : Ipv4Addr) → IsPlace n → HasRoomBefore steps → Leads n.router (hop_by_rest n steps endpoint)
unfolding hop_by_rest
hop_by_rest-leads n [] endpoint is room = hop_to_endpoint-leads n endpoint is
hop_by_rest-leads n (Ipv4 loose prefix ∷ steps) endpoint is room = nodes-lead n loose (nodes_of (Ipv4 loose prefix)) (Ipv4 loose prefix ∷ steps) is room refl
hop_by_rest-leads n (Other bytes ∷ steps) endpoint is room = tt

-- steps behind one of type IPv4 leave room for it
pub room-behind : (loose : Bool) (prefix : Prefix) (steps : List Step) → IsTrue (is_short_route (Ipv4 loose prefix ∷ steps)) → HasRoomBefore steps
room-behind loose prefix steps short =
    let parts = and_parts (nat_le (length (Ipv4 loose prefix ∷ steps)) 32) _ short in
    let more = and_parts (nat_le (length (route_bytes (Ipv4 loose prefix ∷ steps))) 512) _ parts.1 in
    let own = and_parts (is_address prefix.address) (list_all step_has_address steps) more.1 in
    let count = leb-true (length (Ipv4 loose prefix ∷ steps)) 32 parts.0 in
    let size = leb-true (length (route_bytes (Ipv4 loose prefix ∷ steps))) 512 more.0 in
    let four = eqb-true (length (ipv4_octets prefix.address)) 4 own.0 in
    record {
      count = omega (arith, count);
      size = omega (arith, four, size, length-append (step_bytes (Ipv4 loose prefix)) (route_bytes steps), length-append (ipv4_octets prefix.address) (prefix.length ∷ 0 ∷ []));
      addresses = own.1;
    }

-- and so do those of them from a place on
pub room-drop : (at : ℕ) (steps : List Step) → HasRoomBefore steps → HasRoomBefore (drop at steps)
room-drop at steps room = record {
  count = omega (arith, length-drop_most at steps, room.count);
  size = omega (arith, flat_map-drop_most step_bytes at steps, room.size);
  addresses = list_all-drop step_has_address at steps room.addresses;
}

-- the way by a route whose first step is of type IPv4
first-leads : (n : Place) (nodes : Prefix) (steps : List Step) (endpoint : Ipv4Addr) → IsPlace n → HasRoomBefore steps → Leads n.router (if is_here n.router nodes then hop_by_rest n (drop (prefix_len (leads_here n.router) steps) steps) endpoint else Err bad_initial_subobject)
first-leads n nodes steps endpoint is room =
    let at = prefix_len (leads_here n.router) steps in
    cond_both (is_here n.router nodes) _ _ (Leads n.router) (λ here. hop_by_rest-leads n (drop at steps) endpoint is (room-drop at steps room)) (λ elsewhere. tt)

-- the way by a route
pub hop_by_route-leads : (n : Place) (route : List Step) (endpoint : Ipv4Addr) → IsPlace n → IsTrue (is_short_route route) → Leads n.router (hop_by_route n route endpoint)
unfolding hop_by_route
hop_by_route-leads n [] endpoint is short = tt
hop_by_route-leads n (Ipv4 loose prefix ∷ steps) endpoint is short =
    elim (nat_le prefix.length 32) as (λ b. Leads n.router (option_map_or (λ nodes. if is_here n.router nodes then hop_by_rest n (drop (prefix_len (leads_here n.router) steps) steps) endpoint else Err bad_initial_subobject) (if b then Some prefix else None) (Err bad_explicit_route))) [
      | true ↦ first-leads n prefix steps endpoint is (room-behind loose prefix steps short)
      | false ↦ tt
    ]
hop_by_route-leads n (Other bytes ∷ steps) endpoint is short = tt

-- The next hop: a link of the router, and a rest that begins with a step of type IPv4, within the limits where the route is.
pub next_hop-leads : (n : Place) (route : Option (List Step)) (endpoint : Ipv4Addr) → IsPlace n → IsTrue (option_map_or is_short_route route true) → Leads n.router (next_hop n route endpoint)
unfolding next_hop
next_hop-leads n None endpoint is short = hop_to_endpoint-leads n endpoint is
next_hop-leads n (Some route) endpoint is short = hop_by_route-leads n route endpoint is short
