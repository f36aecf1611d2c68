-- What tunnels ask for is written in whole.
use Rattle.std.specs.Prelude.{◌≡◌, ℕ, List, length, Option, Some, None, IfSome}
use Rattle.std.specs.FinMap.Entries.{find}
use Rattle.std.specs.Ordering.{nat_cmp}
use Rattle.lsr_facts.specs.Tunnels.{AreTunnels, IsPendingAs}
use Rattle.lsr_facts.specs.declared.router.Router.{Router}
use Rattle.lsr_facts.specs.declared.tunnel.Tunnel.{Tunnel}
use Rattle.lsr_facts.specs.declared.tunnel.TunnelLsp.{TunnelLsp}
use Rattle.abstract_paths.proofs.TunnelTable.{tunnel_known}

module _ (r : Router) (number : ℕ) (t : Tunnel) (tunnels : List (ℕ × Tunnel)) (are : AreTunnels r tunnels) (found : find nat_cmp number tunnels ≡ Some t) where
  -- The Tspec of the LSP that carries a tunnel's traffic has 32 bytes,
  pub whole_current : length t.current.tspec ≡ 32
  whole_current = (tunnel_known r number t tunnels are found).current.whole_tspec

  -- and so has that of the one which is to take its place.
  pub whole_pending : IfSome t.pending (λ lsp. length lsp.tspec ≡ 32)
  whole_pending = by t.pending (tunnel_known r number t tunnels are found).pending
    where
      by : (pending : Option TunnelLsp) → IsPendingAs r t pending → IfSome pending (λ lsp. length lsp.tspec ≡ 32)
      by None is = tt
      by (Some lsp) is = is.0.whole_tspec
