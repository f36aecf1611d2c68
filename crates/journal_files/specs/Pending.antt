-- LSPs that are to take the place of their tunnels' current ones: a file has their IDs alone.
use Rattle.std.specs.Prelude.{◌≡◌, [], ℕ, List, map, Option, Some, None, option_map}
use Rattle.std.specs.Option.{unwrap_or}
use Rattle.std.specs.FinMap.Entries.{find}
use Rattle.std.specs.List.{AllByRecursion}
use Rattle.lsr_facts.specs.Orders.{key_cmp}
use Rattle.lsr_facts.specs.Tunnels.{head_key}
use Rattle.lsr_facts.specs.declared.key.Key.{Key}
use Rattle.lsr_facts.specs.declared.path_fact.PathFact.{PathFact}
use Rattle.lsr_facts.specs.declared.router.Router.{Router}
use Rattle.lsr_facts.specs.declared.state.State.{State}
use Rattle.lsr_facts.specs.declared.tunnel.Tunnel.{Tunnel}
use Rattle.lsr_facts.specs.declared.tunnel.TunnelLsp.{TunnelLsp}
use Rattle.fact_fields.specs.Tunnels.{IsUntold, untold}

-- the LSP of this ID: its route is the one that its path came with, its traffic its path's
abbrev pub lsp_by : ℕ → Tunnel → Option PathFact → TunnelLsp
lsp_by id t (Some path) = record { id = id; route = unwrap_or path.given []; tspec = path.tspec }
lsp_by id t None = record { id = id; route = []; tspec = t.current.tspec }

abbrev pub told_lsp : Router → List (Key × PathFact) → ℕ → Tunnel → ℕ → TunnelLsp
told_lsp r paths number t id = lsp_by id t (find key_cmp (head_key r number t.endpoint id) paths)

-- a tunnel, of whose pending LSP the path says the rest
abbrev pub told_tunnel : Router → List (Key × PathFact) → ℕ × Tunnel → ℕ × Tunnel
told_tunnel r paths row = (row.0, record row.1 { pending = option_map (λ lsp. told_lsp r paths row.0 row.1 lsp.id) row.1.pending })

-- what a router knows, with what paths say of pending LSPs
abbrev pub told_state : Router → State → State
told_state r s = record s { facts = record s.facts { tunnels = map (told_tunnel r s.facts.paths) s.facts.tunnels } }

-- a tunnel's row as a file says it
abbrev pub untold_row : ℕ × Tunnel → ℕ × Tunnel
untold_row row = (row.0, untold row.1)

-- and what a router knows as a file says it
abbrev pub untold_state : State → State
untold_state s = record s { facts = record s.facts { tunnels = map untold_row s.facts.tunnels } }

-- of no pending LSP more is said than its ID
abbrev pub AreUntold : List (ℕ × Tunnel) → Type 0
AreUntold tunnels = AllByRecursion (λ row. IsUntold row.1) tunnels

-- Of each pending LSP the path says the same as the tunnel.
abbrev pub ArePendingTold : Router → State → Type 0
ArePendingTold r s = s ≡ told_state r (untold_state s)
