-- Bypasses of a router's links (RFC 4090, 3.2).
use Rattle.std.specs.Prelude.{◌≡◌, ℕ, ◌≤◌, ◌==◌, ◌&&◌, nat_le, nat_lt, Bool, true, List, length, is_some, T}
use Rattle.std.specs.FinMap.Entries as rows
use Rattle.std.specs.List.{AllByRecursion, list_any}
use Rattle.std.specs.Option.{option_map_or}
use Rattle.std.specs.Ordering.{nat_cmp}
use Rattle.rsvp_bodies.specs.Traffic.{rate_asked}
use Rattle.lsr_facts.specs.Limits.{max_bypasses}
use Rattle.lsr_facts.specs.Routers.{HasLink}
use Rattle.lsr_facts.specs.declared.bypass.Bypass.{Bypass}
use Rattle.lsr_facts.specs.declared.router.Router.{Router}
use Rattle.lsr_facts.specs.declared.tunnel.Tunnel.{Tunnel}

-- a bypass runs in the tunnel of this number
abbrev pub is_for_bypass : List (ℕ × Bypass) → ℕ → Bool
is_for_bypass bypasses tunnel = list_any (λ bypass. bypass.1.tunnel == tunnel) bypasses

-- a bypass that runs in the tunnel of this number protects this link
abbrev pub is_to_protect : List (ℕ × Bypass) → ℕ → ℕ → Bool
is_to_protect bypasses tunnel link = list_any (λ bypass. (bypass.1.tunnel == tunnel) && (bypass.1.link == link)) bypasses

-- A tunnel carries a capacity: it is at most the rate of the tunnel's traffic and, where an LSP is to take the current one's
-- place, at most the rate of that LSP's too (no rate is above 2^50).
abbrev pub carries : ℕ → Tunnel → Bool
carries capacity tunnel = nat_le capacity (rate_asked tunnel.current.tspec) && option_map_or (λ lsp. nat_le capacity (rate_asked lsp.tspec)) tunnel.pending true

-- a bypass that runs in the tunnel of this number has more capacity than this rate
abbrev pub is_above_rate : List (ℕ × Bypass) → ℕ → ℕ → Bool
is_above_rate bypasses tunnel rate = list_any (λ bypass. (bypass.1.tunnel == tunnel) && nat_lt rate bypass.1.capacity) bypasses

-- a bypass: it protects a link of the router, and runs in a tunnel that begins there and that carries its capacity
pub record IsBypass (r : Router) (tunnels : List (ℕ × Tunnel)) (bypass : ℕ × Bypass) : Type 0 where
  pub protects : HasLink r bypass.1.link
  pub runs : is_some (rows.find nat_cmp bypass.1.tunnel tunnels) ≡ true
  pub carried : option_map_or (carries bypass.1.capacity) (rows.find nat_cmp bypass.1.tunnel tunnels) true ≡ true

-- the bypasses of a router: each has a number of its own, and there are at most 64
pub record AreBypasses (r : Router) (tunnels : List (ℕ × Tunnel)) (bypasses : List (ℕ × Bypass)) : Type 0 where
  pub in_order : T (rows.is_sorted nat_cmp bypasses)
  pub few : length bypasses ≤ max_bypasses
  pub each : AllByRecursion (IsBypass r tunnels) bypasses
