-- Tunnels that begin at a router (RFC 3209, 2.1 and 4.6), and their LSPs.
use Rattle.std.specs.Prelude.{◌≡◌, ◌≢◌, ℕ, ◌≤◌, Bool, false, List, ◌∷◌, length, Option, Some, None, option_map, option_to_list, IsTrue, T}
use Rattle.std.specs.FinMap.Entries as rows
use Rattle.std.specs.List.{AllByRecursion, list_any}
use Rattle.std.specs.Option.{option_map_or}
use Rattle.std.specs.Ordering.{nat_cmp}
use Rattle.std.specs.declared.net.ipv4_addr.Ipv4Addr.{Ipv4Addr}
use Rattle.rsvp_contents.specs.Below.objects.Ranges.{IsAddress}
use Rattle.rsvp_contents.specs.Below.bodies.declared.step.Step.{Step}
use Rattle.rsvp_contents.specs.Below.bodies.declared.step.Step.TheVariants.{Ipv4}
use Rattle.rsvp_contents.specs.Limits.{is_short_route}
use Rattle.lsr_facts.specs.Limits.{max_tunnels}
use Rattle.lsr_facts.specs.Orders.{is_one_of}
use Rattle.lsr_facts.specs.Routers.{is_same, own_addresses}
use Rattle.lsr_facts.specs.declared.key.Key.{Key}
use Rattle.lsr_facts.specs.declared.router.Router.{Router}
use Rattle.lsr_facts.specs.declared.tunnel.Tunnel.{Tunnel}
use Rattle.lsr_facts.specs.declared.tunnel.TunnelLsp.{TunnelLsp}

-- The LSP of a tunnel that has this ID: the router's id is extended tunnel ID and sender.
abbrev pub head_key : Router → ℕ → Ipv4Addr → ℕ → Key
head_key r number endpoint id = record {
  session = record { endpoint = endpoint; tunnel = number; extended = r.id };
  sender = record { sender = r.id; lsp = id };
}

-- the LSP that carries the traffic of a tunnel
abbrev pub current_key : Router → ℕ × Tunnel → Key
current_key r tunnel = head_key r tunnel.0 tunnel.1.endpoint tunnel.1.current.id

-- the one that is to take its place, if there is one
abbrev pub pending_key : Router → ℕ × Tunnel → Option Key
pending_key r tunnel = option_map (λ lsp. head_key r tunnel.0 tunnel.1.endpoint lsp.id) tunnel.1.pending

-- both
abbrev pub heads_of : Router → ℕ × Tunnel → List Key
heads_of r tunnel = current_key r tunnel ∷ option_to_list (pending_key r tunnel)

-- the LSP is one of a tunnel that begins here
unfoldable pub is_head : Router → List (ℕ × Tunnel) → Key → Bool
is_head r tunnels key =
    option_map_or (λ tunnel. is_one_of (heads_of r (key.session.tunnel, tunnel)) key) (rows.find nat_cmp key.session.tunnel tunnels) false

-- a tunnel's route from this router on, which is its first step
abbrev pub route_from : Router → List Step → List Step
route_from r route = Ipv4 false (record { address = r.id; length = 32 }) ∷ route

-- What a tunnel's LSP is asked to be fits a message, and its ID was given: the first is 1.
pub record IsTunnelLsp (r : Router) (last : ℕ) (lsp : TunnelLsp) : Type 0 where
  pub route : IsTrue (is_short_route (route_from r lsp.route))
  pub whole_tspec : length lsp.tspec ≡ 32
  pub numbered : 1 ≤ lsp.id
  pub given : lsp.id ≤ last

-- The LSP that is to take the place of the tunnel's current one is another.
abbrev pub IsPendingAs : Router → Tunnel → Option TunnelLsp → Type 0
IsPendingAs r tunnel None = Unit {0}
IsPendingAs r tunnel (Some lsp) = IsTunnelLsp r tunnel.last lsp × (lsp.id ≢ tunnel.current.id)

-- a tunnel: it ends at another router
pub record IsTunnel (r : Router) (tunnel : ℕ × Tunnel) : Type 0 where
  pub endpoint : IsAddress tunnel.1.endpoint
  pub elsewhere : list_any (is_same tunnel.1.endpoint) (own_addresses r) ≡ false
  pub current : IsTunnelLsp r tunnel.1.last tunnel.1.current
  pub pending : IsPendingAs r tunnel.1 tunnel.1.pending

-- the tunnels that begin at a router: each has a number of its own, and there are at most 256
pub record AreTunnels (r : Router) (tunnels : List (ℕ × Tunnel)) : Type 0 where
  pub in_order : T (rows.is_sorted nat_cmp tunnels)
  pub few : length tunnels ≤ max_tunnels
  pub each : AllByRecursion (IsTunnel r) tunnels

-- no tunnel is being changed
abbrev pub AreUnchanging : List (ℕ × Tunnel) → Type 0
AreUnchanging tunnels = AllByRecursion (λ tunnel. tunnel.1.pending ≡ None) tunnels
