-- The rows that a label table has for a state, and edits of them.
use Rattle.std.specs.Prelude.{◌≡◌, ◌≢◌, ◌≤◌, ℕ, T, List, [], All, IfSome, Option, length}
use Rattle.std.specs.FinMap.Entries.{find, is_sorted}
use Rattle.std.specs.Option.{option_and_then}
use Rattle.std.specs.Ordering.{nat_cmp}
use Rattle.sorted_rows.specs.Edits.{edited}
use Rattle.forwarding_table.specs.Actions.{WritesLabels}
use Rattle.forwarding_table.specs.declared.action.Action.{Action}
use Rattle.lsr_facts.specs.Limits.{max_lsps}
use Rattle.lsr_facts.specs.declared.key.Key.{Key}
use Rattle.lsr_facts.specs.declared.router.Router.{Router}
use Rattle.abstract_router.specs.Lsps.{around_of, lsp_at}
use Rattle.abstract_router.specs.States.{State}
use Rattle.abstract_router.specs.Tables.{action_of, look}

-- what is done with a frame of an LSP, if it is known
abbrev pub action_at : Router → State → Key → Option Action
action_at r s key = option_and_then (action_of (around_of r s)) (lsp_at s key)

-- Rows are those of a state's label table: they have the action that it gives a label, or none.
abbrev pub IsTableOf : Router → State → List (ℕ × Action) → Type 0
IsTableOf r s rows = (label : ℕ) → find nat_cmp label rows ≡ look r s label

-- The edits make of the rows of one state's label table those of the other's. These are few, and what the edits write
-- for labels are labels. Each changes the action of its label: so where all labels have the actions that they had, there
-- is none.
pub record AreTableEdits (r : Router) (before after : State) (edits : List (ℕ × Option Action)) : Type 0 where
  pub table : (rows : List (ℕ × Action)) → IsTableOf r before rows → IsTableOf r after (edited nat_cmp edits rows)
  pub room : (rows : List (ℕ × Action)) → T (is_sorted nat_cmp rows) → IsTableOf r before rows → length (edited nat_cmp edits rows) ≤ max_lsps
  pub labels : All (λ edit. IfSome edit.1 WritesLabels) edits
  pub changes : All (λ edit. look r before edit.0 ≢ look r after edit.0) edits
  pub none : ((label : ℕ) → look r before label ≡ look r after label) → edits ≡ []
