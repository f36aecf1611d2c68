use Rattle.std.proofs.Common.{◌≡◌, ◌≢◌, ℕ, List, Option, Some, None}
use Rattle.std.proofs.lemmas.Cmp.{nat_cmp_total}
use Rattle.std.proofs.lemmas.Map.Lookups.{exact_unsigned}
use Rattle.std.specs.FinMap.Entries.{find}
use Rattle.std.specs.Ordering.{nat_cmp}
use Rattle.sorted_rows.specs.RowsLaws.{find-put_same, find-put_apart, find-removed_same, find-removed_apart}
use Rattle.sorted_rows.specs.Edits.{at_key}
use Rattle.forwarding_table.specs.declared.action.Action.{Action}
use Rattle.forwarding_table.proofs.laws.change_changes_one_row.Goals as goal

same : (key : ℕ) (action : Option Action) (rows : List (ℕ × Action)) → find nat_cmp key (at_key nat_cmp key action rows) ≡ action
same key None rows = find-removed_same nat_cmp nat_cmp_total key rows
same key (Some action) rows = find-put_same nat_cmp nat_cmp_total key action rows

others : (key other : ℕ) (action : Option Action) (rows : List (ℕ × Action)) → other ≢ key → find nat_cmp other (at_key nat_cmp key action rows) ≡ find nat_cmp other rows
others key other None rows apart = find-removed_apart nat_cmp nat_cmp_total exact_unsigned other key rows apart
others key other (Some action) rows apart = find-put_apart nat_cmp nat_cmp_total exact_unsigned other key action rows apart

pub returns-clause-same : goal.returns-clause-same
returns-clause-same c = same

pub returns-clause-others : goal.returns-clause-others
returns-clause-others c = others
