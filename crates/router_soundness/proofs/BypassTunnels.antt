-- The bypass of a number, and its tunnel: what it runs over is what the tunnel's current LSP is reserved over.
use Rattle.std.specs.Prelude.{◌≡◌, ℕ, true, T, Option, Some, None, is_some}
use Rattle.std.specs.FinMap.Entries.{find, is_sorted}
use Rattle.std.specs.Option.{option_and_then, option_map}
use Rattle.std.specs.Ordering.{nat_cmp}
use Rattle.std.proofs.Common.{refl, sym, ap, ◌∙◌}
use Rattle.std.proofs.lemmas.Cmp.{nat_cmp_total}
use Rattle.std.proofs.lemmas.Map.Lookups.{exact_unsigned}
use Rattle.lsr_facts.specs.declared.bypass.Bypass.{Bypass}
use Rattle.lsr_facts.specs.declared.facts.Facts.{Facts}
use Rattle.lsr_facts.specs.declared.repair.BypassTunnel.{BypassTunnel}
use Rattle.lsr_facts.specs.declared.router.Router.{Router}
use Rattle.lsr_facts.specs.declared.tunnel.Tunnel.{Tunnel}
use Rattle.abstract_paths.specs.TouchedLaws.{find-made}
use Rattle.abstract_router.specs.BypassTunnels.{bypass_tunnel_by, bypass_tunnel_of, bypass_tunnels_of, over_at, over_of}
use Rattle.abstract_router.specs.States.{State}

-- A bypass that is known, and its tunnel.
pub record RunsIn (s : Facts) (number : ℕ) : Type 0 where
  pub bypass : Bypass
  pub tunnel : Tunnel
  pub known : find nat_cmp number s.bypasses ≡ Some bypass
  pub runs : find nat_cmp bypass.tunnel s.tunnels ≡ Some tunnel

module _ (r : Router) (s : State) (number : ℕ) (sorted : T (is_sorted nat_cmp s.facts.bypasses)) where
  -- The bypass of a number, by its tunnel.
  pub find-bypass_tunnels : find nat_cmp number (bypass_tunnels_of r s) ≡ option_and_then (λ bypass. bypass_tunnel_by r s (number, bypass)) (find nat_cmp number s.facts.bypasses)
  unfolding bypass_tunnels_of
  find-bypass_tunnels = find-made nat_cmp nat_cmp_total exact_unsigned (bypass_tunnel_by r s) number s.facts.bypasses sorted

  -- What it runs over.
  pub over_at-is : (is : RunsIn s.facts number) → over_at (bypass_tunnels_of r s) number ≡ over_of r s (is.bypass.tunnel, is.tunnel)
  over_at-is is =
      ap (option_and_then (λ (bypass_tunnel : BypassTunnel). bypass_tunnel.over)) (find-bypass_tunnels ∙ ap (option_and_then (λ bypass. bypass_tunnel_by r s (number, bypass))) is.known)
      ∙ ap (λ o. option_and_then (λ (bypass_tunnel : BypassTunnel). bypass_tunnel.over) (option_map (bypass_tunnel_of r s is.bypass) o)) is.runs

  -- A bypass that is up is known, and so is its tunnel.
  pub runs-up : is_some (over_at (bypass_tunnels_of r s) number) ≡ true → RunsIn s.facts number
  runs-up up = by (find nat_cmp number s.facts.bypasses) refl (ap (λ o. is_some (option_and_then (λ (bypass_tunnel : BypassTunnel). bypass_tunnel.over) o)) (sym find-bypass_tunnels) ∙ up)
    where
      by_tunnel : (bypass : Bypass) → find nat_cmp number s.facts.bypasses ≡ Some bypass → (tunnel : Option Tunnel) → find nat_cmp bypass.tunnel s.facts.tunnels ≡ tunnel
          → is_some (option_and_then (λ (bypass_tunnel : BypassTunnel). bypass_tunnel.over) (option_map (bypass_tunnel_of r s bypass) tunnel)) ≡ true → RunsIn s.facts number
      by_tunnel bypass known None runs some = absurd (let e = some in cc)
      by_tunnel bypass known (Some tunnel) runs some = record { bypass = bypass; tunnel = tunnel; known = known; runs = runs }

      by : (bypass : Option Bypass) → find nat_cmp number s.facts.bypasses ≡ bypass
          → is_some (option_and_then (λ (bypass_tunnel : BypassTunnel). bypass_tunnel.over) (option_and_then (λ bypass. bypass_tunnel_by r s (number, bypass)) bypass)) ≡ true → RunsIn s.facts number
      by None known some = absurd (let e = some in cc)
      by (Some bypass) known some = by_tunnel bypass known (find nat_cmp bypass.tunnel s.facts.tunnels) refl some
