-- The traffic of tunnels.
use Rattle.std.specs.Prelude.{◌≡◌, ℕ, List, length, Option, Some, None, IfSome}
use Rattle.std.specs.FinMap.Entries.{find}
use Rattle.std.specs.Ordering.{nat_cmp}
use Rattle.std.proofs.Common.{subst}
use Rattle.std.proofs.lemmas.Map.Lookups.{exact_unsigned}
use Rattle.sorted_rows.specs.RowsLaws.{find-all_row}
use Rattle.lsr_facts.specs.Tunnels.{AreTunnels, IsPendingAs, IsTunnel}
use Rattle.lsr_facts.specs.declared.router.Router.{Router}
use Rattle.lsr_facts.specs.declared.tunnel.Tunnel.{Tunnel}
use Rattle.lsr_facts.specs.declared.tunnel.TunnelLsp.{TunnelLsp}

-- the tunnel that is found is one of a router's
pub found_tunnel : (r : Router) (tunnels : List (ℕ × Tunnel)) (number : ℕ) (tunnel : Tunnel) → AreTunnels r tunnels → find nat_cmp number tunnels ≡ Some tunnel → IsTunnel r (number, tunnel)
found_tunnel r tunnels number tunnel are found = subst (λ (o : Option Tunnel). IfSome o (λ t. IsTunnel r (number, t))) found (find-all_row nat_cmp exact_unsigned (IsTunnel r) number tunnels are.each)

-- a new LSP's traffic is whole
pub whole_pending : (r : Router) (tunnel : Tunnel) (pending : Option TunnelLsp) → IsPendingAs r tunnel pending → IfSome pending (λ lsp. length lsp.tspec ≡ 32)
whole_pending r tunnel None is = tt
whole_pending r tunnel (Some lsp) is = is.0.whole_tspec
