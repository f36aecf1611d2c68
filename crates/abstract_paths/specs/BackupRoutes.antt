-- The route of an LSP that goes on over a bypass (RFC 4090, 6.4.3): from the router at the bypass's end on.
use Rattle.std.specs.Prelude.{Bool, true, false, if◌then◌else◌, List, [], ◌∷◌, drop, Option, Some, None}
use Rattle.std.specs.Option.{option_map_or, option_or, unwrap_or}
use Rattle.std.specs.declared.net.ipv4_addr.Ipv4Addr.{Ipv4Addr}
use Rattle.rsvp_bodies.specs.declared.step.Step.{Step}
use Rattle.rsvp_bodies.specs.declared.step.Step.TheVariants.{Ipv4}
use Rattle.abstract_paths.specs.Places.{contains}
use Rattle.abstract_paths.specs.Routing.{nodes_of, step_to}

-- what follows the last step that leads to an address; none where none leads there
unfoldable pub steps_after : Ipv4Addr → List Step → Option (List Step)
steps_after a [] = None
steps_after a (step ∷ steps) =
    option_or (steps_after a steps) (if option_map_or (λ nodes. contains nodes a) (nodes_of step) false then Some steps else None)

-- The route from the bypass's far end on, which the step to it begins (RFC 4090, 6.4.3 and 6.4.4). A bypass that ends at the
-- next hop: the first step was that hop's, and falls away. One that ends later: what follows the last step that leads to its
-- end; where none does, the LSP goes loosely towards its endpoint.
abbrev pub route_after : Ipv4Addr → Ipv4Addr → Bool → List Step → List Step
route_after endpoint far is_nnhop steps =
    step_to far
    ∷ (if is_nnhop then unwrap_or (steps_after far steps) (Ipv4 true (record { address = endpoint; length = 32 }) ∷ []) else drop 1 steps)
