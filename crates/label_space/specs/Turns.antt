-- Edits of labels, made one after the other: first what the LSPs held is free, then each holds what it is given.
use Rattle.std.specs.Prelude.{◌≡◌, ℕ, ◌≤◌, true, List, [], ◌∷◌, Option, Some, None, length}
use Rattle.std.specs.FinMap.Entries.{find, put}
use Rattle.std.specs.declared.cmp.Ordering.{Ordering}
use Rattle.sorted_rows.specs.Edits.{at_key}
use Rattle.sorted_rows.specs.InTurn.{given}
use Rattle.lsr_facts.specs.Limits.{max_lsps}
use Rattle.lsr_facts.specs.Orders.{key_cmp}
use Rattle.lsr_facts.specs.declared.key.Key.{Key}
use Rattle.lsr_facts.specs.declared.router.LabelRange.{LabelRange}
use Rattle.label_space.specs.FreeLabels.{is_free}
use Rattle.label_space.specs.Labels.{IsOf}

-- nothing is under the key any more, whatever the edit gives it
abbrev pub emptied : {K X : Type 0} → (K → K → Ordering) → K → Option X → List (K × X) → List (K × X)
emptied cmp key now rows = at_key cmp key None rows

-- An LSP may hold this label beside those that are held and those that rest: there is room for it, it has none, and the label
-- is free.
pub record MayHold (range : LabelRange) (key : Key) (label : ℕ) (labels : List (Key × ℕ)) (resting : List (ℕ × ℕ)) : Type 0 where
  pub room : length (put key_cmp key label labels) ≤ max_lsps
  pub new : find key_cmp key labels ≡ None
  pub own : IsOf range label
  pub free : is_free labels resting label ≡ true

-- so it is where an edit gives one
abbrev pub MayHoldNow : LabelRange → Key → Option ℕ → List (Key × ℕ) → List (ℕ × ℕ) → Type 0
MayHoldNow range key None labels resting = Unit {0}
MayHoldNow range key (Some label) labels resting = MayHold range key label labels resting

-- and at each edit in turn
abbrev pub CanHold : LabelRange → List (Key × Option ℕ) → List (Key × ℕ) → List (ℕ × ℕ) → Type 0
CanHold range [] labels resting = Unit {0}
CanHold range (edit ∷ edits) labels resting =
    MayHoldNow range edit.0 edit.1 labels resting × CanHold range edits (given key_cmp edit.0 edit.1 labels) resting
