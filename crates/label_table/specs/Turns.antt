-- The rows that LSPs have in the label table, and what changes between rows and others.
use Rattle.std.specs.Prelude.{ℕ, ◌==◌, ◌&&◌, nat_eq, Bool, true, false, if◌then◌else◌, List, [], ◌∷◌, Option, Some, None}
use Rattle.std.specs.FinMap.Entries.{find, put}
use Rattle.std.specs.Option.{option_and_then, option_eq, option_map, option_or}
use Rattle.std.specs.Ordering.{nat_cmp}
use Rattle.forwarding_table.specs.declared.action.Action.{Action}
use Rattle.forwarding_table.specs.declared.action.Action.TheVariants.{Pop, PushHead, Swap, SwapPush}
use Rattle.lsr_facts.specs.Orders.{key_cmp}
use Rattle.std.specs.declared.cmp.Ordering.{Ordering}
use Rattle.lsr_facts.specs.declared.key.Key.{Key}
use Rattle.lsr_facts.specs.declared.router.Router.{Router}
use Rattle.abstract_router.specs.BypassTunnels.{bypass_tunnels_of}
use Rattle.abstract_router.specs.States.{State}
use Rattle.abstract_router.specs.Tables.{swap_by, swap_through}
use Rattle.label_table.specs.Rows.{action_at}
use Rattle.label_table.specs.TunnelRows.{push_at}

-- what becomes of a label: it has this action, or none
abbrev pub Edit : Type 0
Edit = ℕ × Option Action

-- one more row, if there is one
abbrev pub put_row : {K X : Type 0} → (K → K → Ordering) → Option (K × X) → List (K × X) → List (K × X)
put_row cmp None rows = rows
put_row cmp (Some row) rows = put cmp row.0 row.1 rows

-- one more for each of these, in turn
abbrev pub put_each : {K E X : Type 0} → (K → Option (ℕ × X)) → List (K × E) → List (ℕ × X) → List (ℕ × X)
put_each f [] rows = rows
put_each f (touched ∷ more) rows = put_each f more (put_row nat_cmp (f touched.0) rows)

-- what is done with a frame of an LSP that goes on: it is reserved, or repaired
abbrev pub onward_at : Router → State → Key → Option Action
onward_at r s key = option_or (option_map swap_by (find key_cmp key s.resvs)) (option_and_then (swap_through (bypass_tunnels_of r s)) (find key_cmp key s.repairs))

-- the row of an LSP: its action, under its label
abbrev pub row_at : Router → State → Key → Option (ℕ × Action)
row_at r s key = option_and_then (λ label. option_map (λ action. (label, action)) (action_at r s key)) (find key_cmp key s.labels)

-- the rows of these LSPs
abbrev pub rows_of : {E : Type 0} → Router → State → List (Key × E) → List (ℕ × Action)
rows_of r s touched = put_each (row_at r s) touched []

-- the actions are the same
abbrev pub is_same_action : Action → Action → Bool
is_same_action (Swap label link) (Swap other out) = (label == other) && (link == out)
is_same_action (SwapPush inner outer link) (SwapPush below above out) = (inner == below) && (outer == above) && (link == out)
is_same_action Pop Pop = true
is_same_action (PushHead inner label link) (PushHead below other out) = option_eq nat_eq inner below && (label == other) && (link == out)
is_same_action _ _ = false

-- and so of what may be there
abbrev pub is_same : Option Action → Option Action → Bool
is_same was now = option_eq is_same_action was now

-- what becomes of a label that had this action, or none, and has that: nothing where they are the same
abbrev pub change : Option Action → Option Action → Option (Option Action)
change was now = if is_same was now then None else Some now

-- what becomes of a label between rows and others
abbrev pub change_at : List (ℕ × Action) → List (ℕ × Action) → ℕ → Option Edit
change_at was now label = option_map (λ action. (label, action)) (change (find nat_cmp label was) (find nat_cmp label now))

-- what becomes of the tunnel of a number between two states
abbrev pub push_change : Router → State → State → ℕ → Option Edit
push_change r before after number = option_map (λ action. (number, action)) (change (push_at r before number) (push_at r after number))

-- and of the one that an LSP's key names
abbrev pub push_change_of : Router → State → State → Key → Option Edit
push_change_of r before after key = push_change r before after key.session.tunnel
