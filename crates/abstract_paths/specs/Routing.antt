-- The next hop of a path (RFC 3209, 4.3.4).
use Rattle.std.specs.Prelude.{ℕ, ◌&&◌, not, nat_le, nat_lt, Bool, false, if◌then◌else◌, List, [], ◌∷◌, drop, filter, Option, Some, None, Result, Ok, Err}
use Rattle.std.specs.List.{prefix_len, reduce}
use Rattle.std.specs.Option.{ok_or, option_map, option_map_or, option_or}
use Rattle.std.specs.declared.net.ipv4_addr.Ipv4Addr.{Ipv4Addr}
use Rattle.rsvp_bodies.specs.declared.prefix.Prefix.{Prefix}
use Rattle.rsvp_bodies.specs.declared.step.Step.{Step}
use Rattle.rsvp_bodies.specs.declared.step.Step.TheVariants.{Ipv4, Other}
use Rattle.lsr_facts.specs.Routers.{is_same, link_at}
use Rattle.lsr_facts.specs.Errors.{bad_explicit_route, bad_strict_node, bad_loose_node, bad_initial_subobject, no_route}
use Rattle.lsr_facts.specs.declared.choice.Choice.{Choice}
use Rattle.lsr_facts.specs.declared.choice.Choice.TheVariants.{Link, Tail}
use Rattle.lsr_facts.specs.declared.errors.RsvpError.{RsvpError}
use Rattle.lsr_facts.specs.declared.router.Router.{Router}
use Rattle.abstract_paths.specs.Places.{Place, is_own, contains, is_here, is_up, neighbour}

-- the longer of two static routes, of two as long the first
abbrev pub longer : Prefix × ℕ → Prefix × ℕ → Prefix × ℕ
longer p q = if nat_lt p.0.length q.0.length then q else p

-- the static routes to the address, over links that are up
abbrev pub routes_to : Place → Ipv4Addr → List (Prefix × ℕ)
routes_to n a = filter (λ route. contains route.0 a && is_up n.up route.1) n.routes

-- The link that leads to an address: to a neighbour of this address, else by the longest static route (RFC 1812, 5.2.4.3).
unfoldable pub route_to : Place → Ipv4Addr → Option ℕ
route_to n a = option_or (option_map (λ l. l.0) (neighbour (is_same a) n)) (option_map (λ route. route.1) (reduce longer (routes_to n a)))

-- the nodes that a step leads to, where it is of type IPv4 and its prefix length is at most 32 (RFC 3209, 4.3.3.2 and 4.3.6)
abbrev pub nodes_of : Step → Option Prefix
nodes_of (Ipv4 loose prefix) = if nat_le prefix.length 32 then Some prefix else None
nodes_of (Other bytes) = None

-- nodes that the route doesn't name may lie on the way to the step (RFC 3209, 4.3.3.1)
abbrev pub is_loose : Step → Bool
is_loose (Ipv4 loose prefix) = loose
is_loose (Other bytes) = false

-- the step leads to this router
abbrev pub leads_here : Router → Step → Bool
leads_here r step = option_map_or (is_here r) (nodes_of step) false

-- a step to this address alone
abbrev pub step_to : Ipv4Addr → Step
step_to a = Ipv4 false (record { address = a; length = 32 })

-- No steps are left (RFC 3209, 4.3.4.1, 2): the path ends at the endpoint, or goes towards it without a route.
unfoldable pub hop_to_endpoint : Place → Ipv4Addr → Result Choice RsvpError
hop_to_endpoint n endpoint =
    if is_own n.router endpoint then Ok Tail else ok_or (option_map (λ link. Link link None) (route_to n endpoint)) no_route

-- the steps, with the neighbour over the link in front of them
abbrev pub with_neighbour : Router → List Step → ℕ → List Step
with_neighbour r steps link = option_map_or (λ l. step_to l.peer ∷ steps) (link_at r link) steps

-- The next step leads to these nodes, not here. A strict step leads to a neighbour, a loose one to a neighbour
-- or on towards its address: then the neighbour on the way is put before it (RFC 3209, 4.3.4.1, 4 to 6). One thing
-- differs: this router seeks no way within the nodes of its own step, as 4.3.4.1, 5 would have it do first.
unfoldable pub hop_to_step : Place → Bool → Prefix → List Step → Result Choice RsvpError
hop_to_step n loose nodes steps =
    option_map_or (λ l. Ok (Link l.0 (Some steps))) (neighbour (contains nodes) n)
    (if not loose then Err bad_strict_node
    else ok_or (option_map (λ link. Link link (Some (with_neighbour n.router steps link))) (route_to n nodes.address)) bad_loose_node)

-- The next hop by what is left of a route, once the steps that lead here are taken off its front.
unfoldable pub hop_by_rest : Place → List Step → Ipv4Addr → Result Choice RsvpError
hop_by_rest n [] endpoint = hop_to_endpoint n endpoint
hop_by_rest n (step ∷ steps) endpoint =
    option_map_or (λ nodes. hop_to_step n (is_loose step) nodes (step ∷ steps)) (nodes_of step) (Err bad_explicit_route)

-- The next hop by an explicit route: its first step leads here (RFC 3209, 4.3.4.1, 1 and 3).
unfoldable pub hop_by_route : Place → List Step → Ipv4Addr → Result Choice RsvpError
hop_by_route n [] endpoint = Err bad_explicit_route
hop_by_route n (first ∷ steps) endpoint =
    option_map_or (λ nodes. if is_here n.router nodes then hop_by_rest n (drop (prefix_len (leads_here n.router) steps) steps) endpoint else Err bad_initial_subobject)
    (nodes_of first) (Err bad_explicit_route)

-- The next hop: by the explicit route, or without one towards the endpoint (RFC 3209, 4.3.4).
unfoldable pub next_hop : Place → Option (List Step) → Ipv4Addr → Result Choice RsvpError
next_hop n None endpoint = hop_to_endpoint n endpoint
next_hop n (Some route) endpoint = hop_by_route n route endpoint
