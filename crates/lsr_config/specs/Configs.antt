-- What a configuration says, and when a router can be opened with it.
use Rattle.std.specs.Prelude.{ℕ, List}
use Rattle.rsvp_bodies.specs.declared.prefix.Prefix.{Prefix}
use Rattle.lsr_facts.specs.declared.bypass.Bypass.{Bypass}
use Rattle.lsr_facts.specs.declared.router.Router.{Router}
use Rattle.lsr_facts.specs.declared.tunnel.Tunnel.{Tunnel}
use Rattle.lsr_facts.specs.Bypasses.{AreBypasses}
use Rattle.lsr_facts.specs.Routers.{AreRoutes, IsRouter}
use Rattle.lsr_facts.specs.Tunnels.{AreTunnels, AreUnchanging}

-- a router, its static routes, the tunnels that begin at it, and the bypasses of its links
pub record Setup : Type 0 where
  pub router : Router
  pub routes : List (Prefix × ℕ)
  pub tunnels : List (ℕ × Tunnel)
  pub bypasses : List (ℕ × Bypass)

abbrev pub setup : Router → List (Prefix × ℕ) → List (ℕ × Tunnel) → List (ℕ × Bypass) → Setup
setup router routes tunnels bypasses = record { router = router; routes = routes; tunnels = tunnels; bypasses = bypasses }

-- a router can be opened so
pub record IsConfig (c : Setup) : Type 0 where
  pub router : IsRouter c.router
  pub routes : AreRoutes c.router c.routes
  pub tunnels : AreTunnels c.router c.tunnels
  pub unchanging : AreUnchanging c.tunnels
  pub bypasses : AreBypasses c.router c.tunnels c.bypasses
