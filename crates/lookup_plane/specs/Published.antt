-- What holds of a published table, and what readers and the writer know of it.
use Rattle.std.specs.Prelude.{◌≡◌, ℕ, ◌+◌, ◌^◌, ◌<◌, ◌++◌, All, IfSome, List, Option, Some, None, length}
use mathlib.Core.Option.{some}
use lib.ListN.{get_elem?}
use Rattle.forwarding_table.specs.Actions.{WritesLabels}
use Rattle.lookup_plane.specs.Changes.{IsChangeOf, StartsWith, look, look_tunnel}
use Rattle.lookup_plane.specs.Slots.{slot_at}
use Rattle.lookup_plane.specs.declared.change.TableChange.{TableChange}
use Rattle.lookup_plane.specs.declared.rule.View.{View}
use Rattle.lookup_plane.specs.declared.slots.PublishedTable.{PublishedTable}
use Rattle.lookup_plane.specs.declared.slots.Slots.{Slots}

-- what slots hold
abbrev pub content : Slots → PublishedTable
content x = record { first_label = x.first_label; labels = x.labels.items; tunnels = x.tunnels; count = x.count }

-- The content shows what these changes make of an empty table, and how many they are. The actions of labels write labels.
pub record Shows (s : PublishedTable) (changes : List TableChange) : Type 0 where
  pub labels : (label : ℕ) → slot_at s.first_label s.labels label ≡ look changes label
  pub tunnels : (number : ℕ) → number < 2 ^ 16 → slot_at 0 s.tunnels number ≡ look_tunnel changes number
  pub counted : s.count ≡ length changes
  pub writes : (label : ℕ) → IfSome (look changes label) WritesLabels

-- The content has a slot for each label of the range, and for each number of a tunnel.
pub record HasSlots (first_label last_label : ℕ) (s : PublishedTable) : Type 0 where
  pub first : s.first_label ≡ first_label
  pub labels : first_label + length s.labels ≡ last_label + 1
  pub tunnels : length s.tunnels ≡ 2 ^ 16

-- The rule: there is one list of changes, which the slots show. It begins with what each view has seen.
pub record IsPublished (x : Slots) (views : List View) : Type 0 where
  pub changes : List TableChange
  pub shows : Shows (content x) changes
  pub seen : (seat : ℕ) (v : View) → get_elem? views seat ≡ some v → StartsWith changes v.seen

-- what a look tells: what was seen goes on, and the slots show it
pub record Looks (v : View) (x : Slots) (w : View) : Type 0 where
  pub later : StartsWith w.seen v.seen
  pub shows : Shows (content x) w.seen

-- what publishing tells: these changes were added to what was seen, and the slots show it
pub record Adds (changes : List TableChange) (v : View) (y : Slots) (w : View) : Type 0 where
  pub added : w.seen ≡ v.seen ++ changes
  pub shows : Shows (content y) w.seen

-- What always holds of the writer: it has seen all that the slots show, and what is pending can be written.
pub record IsWriting (first_label last_label : ℕ) (x : Slots) (seen waiting : List TableChange) : Type 0 where
  pub shows : Shows (content x) seen
  pub slots : HasSlots first_label last_label (content x)
  pub pending : All (IsChangeOf first_label last_label) waiting

-- what is read of what is there, or this
abbrev pub read_or : {A X : Type 0} → Option A → X → (A → X) → X
read_or None nothing read = nothing
read_or (Some a) nothing read = read a
