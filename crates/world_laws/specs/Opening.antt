-- Routers as they are opened.
use Rattle.std.specs.Prelude.{◌≡◌, ℕ, List}
use Rattle.rsvp_bodies.specs.declared.prefix.Prefix.{Prefix}
use Rattle.lsr_facts.specs.Routers.{IsRouter}
use Rattle.lsr_facts.specs.declared.bypass.Bypass.{Bypass}
use Rattle.lsr_facts.specs.declared.tunnel.Tunnel.{Tunnel}
use Rattle.abstract_router.specs.Soundness.{IsSound}
use Rattle.abstract_router.specs.States.{RouterState}
use Rattle.abstract_router.specs.Steps.{opening}

-- a sound router that knows of no LSP yet
pub record IsOpened (q : RouterState) : Type 0 where
  pub router : IsRouter q.router
  pub sound : IsSound q.router q.state
  pub routes : List (Prefix × ℕ)
  pub tunnels : List (ℕ × Tunnel)
  pub bypasses : List (ℕ × Bypass)
  pub opened : q.state ≡ opening q.router routes tunnels bypasses
