use Rattle.std.proofs.Common.{◌≡◌, ◌∙◌, true, List, Some, drop, sym, ap, subst, arith, rules, refl}
use Rattle.std.specs.List.{prefix_len}
use Rattle.std.specs.declared.net.ipv4_addr.Ipv4Addr.{Ipv4Addr}
use Rattle.rsvp_bodies.specs.Steps.{step_bytes}
use Rattle.lsr_facts.specs.Tunnels.{route_from}
use Rattle.lsr_facts.specs.declared.router.Router.{Router}
use Rattle.rsvp_bodies.specs.declared.step.Step.{Step}
use Rattle.abstract_paths.specs.Places.{Place, contains, is_here, place_at}
use Rattle.abstract_paths.specs.Routing.{hop_by_rest, hop_by_route, leads_here, next_hop}
use Rattle.explicit_routes.specs.Choosing.{IsWay}
use Rattle.explicit_routes.proofs.Room.{length-last}
use Rattle.explicit_routes.proofs.hops.head_way.Goals as goal

-- the router's id is one of its own addresses
own_step_leads_here : (r : Router) → is_here r (record { address = r.id; length = 32 }) ≡ true
unfolding is_here contains
own_step_leads_here r = search rules

-- So the next hop is that by the steps after those that lead here.
by_steps : (n : Place) (steps : List Step) (endpoint : Ipv4Addr) → next_hop n (Some (route_from n.router steps)) endpoint ≡ hop_by_rest n (drop (prefix_len (leads_here n.router) steps) steps) endpoint
unfolding next_hop hop_by_route
by_steps n steps endpoint = rw (own_step_leads_here n.router) refl

pub hop_by_rest-requires : goal.hop_by_rest-requires
hop_by_rest-requires c =
    let steps = c.args.steps.now in
    let less = length-last step_bytes (prefix_len (leads_here c.args.node.now.router.now) steps) steps in
    rw c.steps_from_here.ensures (omega (arith, less))

pub returns : goal.returns
returns c =
    let n = place_at c.args.node.now in
    let left = ap (λ s. hop_by_rest n s c.args.endpoint) c.steps_from_here.ensures in
    record { way = subst (λ wanted. IsWay wanted c.hop_by_rest.result) (left ∙ sym (by_steps n c.args.steps.now c.args.endpoint)) c.hop_by_rest.ensures }
