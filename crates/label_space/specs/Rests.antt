-- Labels that rest: each until a moment, in milliseconds, in the order of the labels. One that was given back isn't given
-- again before, because a neighbour may send it for a while.
use Rattle.std.specs.Prelude.{◌≡◌, ℕ, ◌≤◌, ◌<◌, nat_lt, if◌then◌else◌, false, List, [], ◌∷◌, filter, is_some, T}
use Rattle.std.specs.FinMap.Entries.{find, is_sorted, put}
use Rattle.std.specs.List.{AllByRecursion}
use Rattle.std.specs.Option.{option_map_or}
use Rattle.std.specs.Ordering.{nat_cmp}
use Rattle.sorted_rows.specs.Rows.{values_of}
use Rattle.lsr_facts.specs.Orders.{key_cmp}
use Rattle.lsr_facts.specs.declared.key.Key.{Key}
use Rattle.lsr_facts.specs.declared.router.LabelRange.{LabelRange}
use Rattle.label_space.specs.FreeLabels.{is_held}

-- those that still rest when a moment comes
abbrev pub resting_past : ℕ → List (ℕ × ℕ) → List (ℕ × ℕ)
resting_past moment resting = filter (λ row. nat_lt moment row.1) resting

-- these labels rest until a moment, beside those that rest already
abbrev pub with_rest : ℕ → List ℕ → List (ℕ × ℕ) → List (ℕ × ℕ)
with_rest until [] resting = resting
with_rest until (label ∷ more) resting = put nat_cmp label until (with_rest until more resting)

-- labels that are freed at a moment rest until another one; where that isn't later, they don't rest
abbrev pub rested : ℕ → ℕ → List ℕ → List (ℕ × ℕ) → List (ℕ × ℕ)
rested moment until freed resting = if nat_lt moment until then with_rest until freed resting else resting

-- the label that an LSP holds, if it holds one
abbrev pub held_by : Key → List (Key × ℕ) → List ℕ
held_by key labels = option_map_or (λ label. label ∷ []) (find key_cmp key labels) []

-- the labels of the LSPs that edits name
abbrev pub freed_by : {X : Type 0} → List (Key × X) → List (Key × ℕ) → List ℕ
freed_by edits labels = values_of (filter (λ row. is_some (find key_cmp row.0 edits)) labels)

-- no LSP holds a label that rests
abbrev pub AreApart : List (Key × ℕ) → List (ℕ × ℕ) → Type 0
AreApart labels resting = AllByRecursion (λ row. is_held labels row.0 ≡ false) resting

-- Labels of a range that rest at a moment, beside those that LSPs hold: each until a later moment, and held by no LSP.
pub record AreRestingOf (range : LabelRange) (moment : ℕ) (labels : List (Key × ℕ)) (resting : List (ℕ × ℕ)) : Type 0 where
  pub in_order : T (is_sorted nat_cmp resting)
  pub each : AllByRecursion (λ row. (range.first ≤ row.0) × (row.0 ≤ range.last) × (moment < row.1)) resting
  pub apart : AreApart labels resting
