-- What is done with labels and with the traffic of tunnels after changes of a label table (RFC 3031, 3.10 to 3.12).
use Rattle.std.specs.Prelude.{◌≡◌, ℕ, ◌≤◌, Bool, if◌then◌else◌, All, IfSome, List, [], ◌++◌, Option, None, fold}
use Rattle.std.specs.FinMap.Entries.{find}
use Rattle.std.specs.Ordering.{nat_cmp}
use Rattle.sorted_rows.specs.Edits.{over}
use Rattle.forwarding_table.specs.Actions.{WritesLabels}
use Rattle.forwarding_table.specs.declared.action.Action.{Action}
use Rattle.lookup_plane.specs.declared.change.TableChange.{TableChange}

-- what is done with a number after a change: what its rows say; else nothing where all was cleared, else what was done before
abbrev pub after_rows : Bool → List (ℕ × Option Action) → ℕ → Option Action → Option Action
after_rows cleared rows number was = over (find nat_cmp number rows) (if cleared then None else was)

-- What is done with a label after these changes, the first first, of a table with nothing in it.
unfoldable pub look : List TableChange → ℕ → Option Action
look changes label = fold (λ was change. after_rows change.cleared change.labels label was) None changes

-- What is done with the traffic of a tunnel, by its number.
unfoldable pub look_tunnel : List TableChange → ℕ → Option Action
look_tunnel changes number = fold (λ was change. after_rows change.cleared change.tunnels number was) None changes

-- A change of labels of this range, whose actions write labels.
pub record IsChangeOf (first_label last_label : ℕ) (change : TableChange) : Type 0 where
  pub range : All (λ row. (first_label ≤ row.0) × (row.0 ≤ last_label)) change.labels
  pub labels : All (λ row. IfSome row.1 WritesLabels) change.labels

-- these changes begin with those
abbrev pub StartsWith : List TableChange → List TableChange → Type 0
StartsWith changes seen = (later : List TableChange) × (changes ≡ seen ++ later)

-- What clauses see of the writer's side: the range of labels, the list of the changes that are published, those that aren't yet, and
-- the name of the table that it publishes, which no other table has.
pub record Changes : Type 0 where
  pub first_label : ℕ
  pub last_label : ℕ
  pub published : List TableChange
  pub pending : List TableChange
  pub table : ℕ

-- the writer's side as a table of these labels and this name is opened
abbrev pub opening_changes : ℕ → ℕ → ℕ → Changes
opening_changes first last table = record { first_label = first; last_label = last; published = []; pending = []; table = table }

-- What clauses see of a reader while it reads: the published changes that it has seen, and how many it has learnt that there are.
pub record Learnt : Type 0 where
  pub seen : List TableChange
  pub at_least : ℕ

-- What clauses see of a reader: the same, and the name of the table that it reads.
pub record Reader : Type 0 where
  pub seen : List TableChange
  pub at_least : ℕ
  pub table : ℕ

-- a reader of this table that has seen nothing, and learnt of no change
abbrev pub new_reader : ℕ → Reader
new_reader table = record { seen = []; at_least = 0; table = table }
