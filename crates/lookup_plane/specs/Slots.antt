-- Slots of actions, one for each number of a range.
use Rattle.std.specs.Prelude.{ℕ, ◌+◌, ◌-◌, ◌%◌, ◌^◌, Bool, nat_le, if◌then◌else◌, List, [], ◌∷◌, ◌++◌, Option, None, length, replicate, slice_index_or, slice_set}
use Rattle.forwarding_table.specs.declared.action.Action.{Action}
use Rattle.lookup_plane.specs.declared.change.TableChange.{TableChange}
use Rattle.lookup_plane.specs.declared.slots.PublishedTable.{PublishedTable}

-- what is done with a number, by slots from this number on
abbrev pub slot_at : ℕ → List (Option Action) → ℕ → Option Action
slot_at first slots number = if nat_le first number then slice_index_or slots (number - first) None else None

-- slots with this at a number from now on. What has no slot changes nothing
abbrev pub with_slot : ℕ → ℕ × Option Action → List (Option Action) → List (Option Action)
with_slot first row slots = if nat_le first row.0 then slice_set slots (row.0 - first) row.1 else slots

-- slots after rows: of two of one number the first counts
abbrev pub written : ℕ → List (ℕ × Option Action) → List (Option Action) → List (Option Action)
written first [] slots = slots
written first (row ∷ rows) slots = with_slot first row (written first rows slots)

-- slots with nothing in them, where they are cleared
abbrev pub emptied : Bool → List (Option Action) → List (Option Action)
emptied cleared slots = if cleared then replicate (length slots) None else slots

-- so many slots: those that are there, and empty ones from there on
abbrev pub padded : ℕ → List (Option Action) → List (Option Action)
padded count slots = slots ++ replicate (count - length slots) None

-- what slots hold when a table is opened: of labels from this one on, this many
abbrev pub opening : ℕ → ℕ → PublishedTable
opening first_label labels = record { first_label = first_label; labels = replicate labels None; tunnels = replicate (2 ^ 16) None; count = 0 }

-- what slots hold after a change. Changes are counted up to the width of a word
abbrev pub absorbed : PublishedTable → TableChange → PublishedTable
absorbed s change = record {
  first_label = s.first_label;
  labels = written s.first_label change.labels (emptied change.cleared s.labels);
  tunnels = written 0 change.tunnels (emptied change.cleared s.tunnels);
  count = (s.count + 1) % 2 ^ 64;
}
