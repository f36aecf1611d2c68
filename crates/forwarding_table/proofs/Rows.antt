-- Rows whose actions write labels: what is found among them, and what changes leave.
use Rattle.std.proofs.Common.{ℕ, List, [], ◌∷◌, Option, Some, None, IfSome, not}
use Rattle.std.specs.FinMap.Entries.{find, put}
use Rattle.std.specs.List.{All}
use Rattle.std.specs.Ordering.{is_eq, nat_cmp}
use Rattle.std.proofs.lemmas.List.Elements.{All-filter, All-from_recursion, All-head, All-tail, recursion_from_All}
use Rattle.sorted_rows.specs.RowsLaws.{all-put, find-all}
use Rattle.sorted_rows.specs.Edits.{at_key, edited}
use Rattle.forwarding_table.specs.declared.action.Action.{Action}
use Rattle.forwarding_table.specs.Actions.{AllWriteLabels, WritesLabels}

-- an action that is found
pub find-writes : (key : ℕ) (rows : List (ℕ × Action)) → AllWriteLabels rows → IfSome (find nat_cmp key rows) WritesLabels
find-writes key rows all = find-all nat_cmp WritesLabels key rows (recursion_from_All (λ row. WritesLabels row.1) rows all)

-- rows after one edit
pub at_key-write : (key : ℕ) (action : Option Action) (rows : List (ℕ × Action)) → IfSome action WritesLabels → AllWriteLabels rows → AllWriteLabels (at_key nat_cmp key action rows)
at_key-write key None rows now all = All-filter (λ row. not (is_eq (nat_cmp key row.0))) (λ row. WritesLabels row.1) rows all
at_key-write key (Some action) rows now all =
    All-from_recursion (λ row. WritesLabels row.1) (put nat_cmp key action rows) (all-put nat_cmp WritesLabels key action now rows (recursion_from_All (λ row. WritesLabels row.1) rows all))

-- and after many
pub edited-write : (edits : List (ℕ × Option Action)) (rows : List (ℕ × Action)) → All (λ edit. IfSome edit.1 WritesLabels) edits → AllWriteLabels rows → AllWriteLabels (edited nat_cmp edits rows)
edited-write [] rows now all = all
edited-write (edit ∷ edits) rows now all =
    at_key-write edit.0 edit.1 (edited nat_cmp edits rows) (All-head (λ edit. IfSome edit.1 WritesLabels) edit edits now) (edited-write edits rows (All-tail (λ edit. IfSome edit.1 WritesLabels) edit edits now) all)
