use Rattle.std.proofs.Common.{◌≡◌, List, ◌∙◌, ◌≤◌, ◌∷◌, length, sym, ap, arith, rules}
use Rattle.std.specs.List.{prefix_len}
use Rattle.rsvp_bodies.specs.Steps.{route_bytes}
use Rattle.rsvp_bodies.specs.declared.step.Step.{Step}
use Rattle.abstract_paths.specs.Routing.{leads_here}
use Rattle.explicit_routes.proofs.Room.{room_for_one}
use Rattle.explicit_routes.proofs.hops.hop_by_route.Goals as goal

pub hop_by_rest-requires : goal.hop_by_rest-requires
hop_by_rest-requires c =
    let others = c.in_ok-first.others.now in
    let four : length c.in_ok-nodes.nodes.address.octets ≡ 4 = search rules in
    let parts = rw c.in_ok-first.ensures.ok_part at c.split_first.ensures.cases in
    let same : length (route_bytes c.args.steps.now) ≡ length (route_bytes (c.in_ok-first.first.now ∷ others)) = ap (λ (s : List Step). length (route_bytes s)) parts.0 in
    let fits : length (route_bytes (c.in_ok-first.first.now ∷ others)) ≤ 65528 = omega arith in
    let room = room_for_one c.in_ok-first.first.now c.in_ok-nodes.nodes others (prefix_len (leads_here c.args.node.now.router.now) others) (sym c.nodes_of.ensures ∙ c.in_ok-nodes.ensures.ok_part) four fits in
    rw c.steps_from_here.ensures room
