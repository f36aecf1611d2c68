-- Tunnels that go over to their new LSPs (RFC 3209, 2.5).
use Rattle.std.specs.Prelude.{ℕ, List, map, Option, Some, None}
use Rattle.std.specs.Bool.{then_some}
use Rattle.std.specs.FinMap.Entries.{find, put}
use Rattle.std.specs.Option.{option_and_then}
use Rattle.std.specs.Ordering.{nat_cmp}
use Rattle.lsr_facts.specs.Orders.{key_cmp}
use Rattle.lsr_facts.specs.Tunnels.{current_key}
use Rattle.lsr_facts.specs.declared.router.Router.{Router}
use Rattle.lsr_facts.specs.declared.tunnel.Tunnel.{Tunnel}
use Rattle.lsr_facts.specs.Changes.{switched}
use Rattle.abstract_router.specs.States.{State}
use Rattle.abstract_router.specs.Steps.{is_ready}
use Rattle.state_views.specs.Joining.{joined_rows}
use Rattle.state_views.specs.declared.edits.Edits.{Edits}

-- the tunnel of a number, where its new LSP is reserved
abbrev pub ready_at : Router → State → ℕ → Option Tunnel
ready_at r s number = option_and_then (λ tunnel. then_some (is_ready r s (number, tunnel)) tunnel) (find nat_cmp number s.facts.tunnels)

-- edits, and then the tunnel goes over to its new LSP, and the path of the one that carried its traffic goes
abbrev pub with_switched : Router → ℕ × Tunnel → Edits → Edits
with_switched r tunnel e = record e {
  tunnels = put nat_cmp tunnel.0 (Some (switched tunnel.1)) e.tunnels;
  paths = put key_cmp (current_key r tunnel) None e.paths;
}

-- and so of all these
abbrev pub with_all_switched : Router → Edits → List (ℕ × Tunnel) → Edits
with_all_switched r e tunnels = record e {
  tunnels = joined_rows nat_cmp e.tunnels (map (λ tunnel. (tunnel.0, Some (switched tunnel.1))) tunnels);
  paths = joined_rows key_cmp e.paths (map (λ tunnel. (current_key r tunnel, None)) tunnels);
}
