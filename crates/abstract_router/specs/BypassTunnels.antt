-- Bypasses as a point of local repair sees them: where each ends, and what it runs over (RFC 4090, 3.2).
use Rattle.std.specs.Prelude.{ℕ, if◌then◌else◌, List, filter_map, Option, Some, None}
use Rattle.std.specs.FinMap.Entries.{find}
use Rattle.std.specs.Option.{option_and_then, option_map}
use Rattle.std.specs.Ordering.{nat_cmp}
use Rattle.lsr_facts.specs.Orders.{key_cmp}
use Rattle.lsr_facts.specs.Tunnels.{current_key}
use Rattle.lsr_facts.specs.declared.bypass.Bypass.{Bypass}
use Rattle.lsr_facts.specs.declared.facts.Facts.{Facts}
use Rattle.lsr_facts.specs.declared.key.Key.{Key}
use Rattle.lsr_facts.specs.declared.router.Router.{Router}
use Rattle.lsr_facts.specs.declared.tunnel.Tunnel.{Tunnel}
use Rattle.lsr_facts.specs.declared.repair.BypassTunnel.{BypassTunnel}
use Rattle.lsr_facts.specs.declared.repair.Over.{Over}
use Rattle.lsr_facts.specs.declared.resv_fact.ResvFact.{ResvFact}
use Rattle.abstract_router.specs.Standing.{stands}
use Rattle.abstract_router.specs.States.{State}

-- by an LSP's reservation: its link and label, where the reservation stands
abbrev pub over_by : Facts → Key → ResvFact → Option Over
over_by facts key resv = if stands facts (key, resv) then Some (record { link = resv.link; label = resv.label }) else None

-- what a tunnel runs over: its current LSP is reserved, and the reservation stands
abbrev pub over_of : Router → State → ℕ × Tunnel → Option Over
over_of r s tunnel = option_and_then (over_by s.facts (current_key r tunnel)) (find key_cmp (current_key r tunnel) s.resvs)

-- a bypass that runs in this tunnel
abbrev pub bypass_tunnel_of : Router → State → Bypass → Tunnel → BypassTunnel
bypass_tunnel_of r s bypass tunnel = record { tunnel = bypass.tunnel; protects = bypass.link; ends_at = tunnel.endpoint; capacity = bypass.capacity; over = over_of r s (bypass.tunnel, tunnel) }

-- a bypass, by the tunnel that it names
abbrev pub bypass_tunnel_by : Router → State → ℕ × Bypass → Option BypassTunnel
bypass_tunnel_by r s bypass = option_map (bypass_tunnel_of r s bypass.1) (find nat_cmp bypass.1.tunnel s.facts.tunnels)

-- all bypasses, in the order of their numbers
unfoldable pub bypass_tunnels_of : Router → State → List (ℕ × BypassTunnel)
bypass_tunnels_of r s = filter_map (λ bypass. option_map (λ bypass_tunnel. (bypass.0, bypass_tunnel)) (bypass_tunnel_by r s bypass)) s.facts.bypasses

-- What the bypass of a number runs over. A bypass is up where that is something.
abbrev pub over_at : List (ℕ × BypassTunnel) → ℕ → Option Over
over_at bypass_tunnels number = option_and_then (λ bypass_tunnel. bypass_tunnel.over) (find nat_cmp number bypass_tunnels)
