-- Which LSP holds which label of a router's range (RFC 3031, 3.1 and 3.14).
use Rattle.std.specs.Prelude.{◌≡◌, ℕ, ◌≤◌, ◌↔◌, nat_eq, true, List, [], ◌∷◌, T}
use Rattle.std.specs.FinMap.Entries.{is_sorted, put}
use Rattle.std.specs.List.{AllByRecursion, IsDistinct}
use Rattle.std.specs.Ordering.{nat_cmp}
use Rattle.sorted_rows.specs.Rows.{values_of}
use Rattle.lsr_facts.specs.Orders.{key_cmp}
use Rattle.lsr_facts.specs.declared.key.Key.{Key}
use Rattle.lsr_facts.specs.declared.router.LabelRange.{LabelRange}
use Rattle.label_space.specs.FreeLabels.{is_held}
use Rattle.label_space.specs.Labels.{IsHeld, IsLabelSpace, Labels}

-- the labels that may be held, the LSPs that hold one, each with its label, and the labels that rest, each until a moment; and
-- the moment that the router was told last
pub record Bindings : Type 0 where
  pub range : LabelRange
  pub moment : ℕ
  pub labels : List (Key × ℕ)
  pub resting : List (ℕ × ℕ)

-- Labels that LSPs hold: all of the range, each held by one LSP.
pub record AreHeldOf (range : LabelRange) (labels : List (Key × ℕ)) : Type 0 where
  pub from_first : AllByRecursion (λ row. range.first ≤ row.1) labels
  pub to_last : AllByRecursion (λ row. row.1 ≤ range.last) labels
  pub apart : IsDistinct nat_eq (values_of labels)

-- rows in the order of their labels
abbrev pub by_label : List (ℕ × ℕ) → List (ℕ × ℕ)
by_label [] = []
by_label (row ∷ rows) = put nat_cmp row.0 row.1 (by_label rows)

-- What always holds of a label space beside the labels that LSPs hold: a label is held in the space exactly where an LSP
-- holds it.
pub record AreBound (space : Labels) (labels : List (Key × ℕ)) : Type 0 where
  pub known : IsLabelSpace space
  pub in_order : T (is_sorted key_cmp labels)
  pub held : AreHeldOf space.range labels
  pub taken : (label : ℕ) → (IsHeld space label ↔ (is_held labels label ≡ true))
