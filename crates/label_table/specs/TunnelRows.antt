-- The rows that the table of tunnels has for a state, and edits of them.
use Rattle.std.specs.Prelude.{◌≡◌, ◌≢◌, ℕ, List, [], All, IfSome, Option}
use Rattle.std.specs.FinMap.Entries.{find}
use Rattle.std.specs.Option.{option_and_then}
use Rattle.std.specs.Ordering.{nat_cmp}
use Rattle.sorted_rows.specs.Edits.{edited}
use Rattle.forwarding_table.specs.Actions.{WritesLabels}
use Rattle.forwarding_table.specs.declared.action.Action.{Action}
use Rattle.lsr_facts.specs.declared.router.Router.{Router}
use Rattle.abstract_router.specs.States.{State}
use Rattle.abstract_router.specs.Tables.{look_tunnel, push_of, tunnel_table_of}

-- what is done with the traffic of the tunnel of a number, if there is one and its current LSP is reserved or repaired
abbrev pub push_at : Router → State → ℕ → Option Action
push_at r s number = option_and_then (λ tunnel. push_of r s (number, tunnel)) (find nat_cmp number s.facts.tunnels)

-- The edits make of one state's table of tunnels the other's. What they write for labels are labels. Each changes the
-- action of its tunnel: so where all tunnels have the actions that they had, there is none.
pub record AreTunnelEdits (r : Router) (before after : State) (edits : List (ℕ × Option Action)) : Type 0 where
  pub table : edited nat_cmp edits (tunnel_table_of r before) ≡ tunnel_table_of r after
  pub labels : All (λ edit. IfSome edit.1 WritesLabels) edits
  pub changes : All (λ edit. look_tunnel r before edit.0 ≢ look_tunnel r after edit.0) edits
  pub none : ((number : ℕ) → look_tunnel r before number ≡ look_tunnel r after number) → edits ≡ []
