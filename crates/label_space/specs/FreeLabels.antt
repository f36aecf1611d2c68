-- Which labels of a router's range are free, by the labels that LSPs hold and those that rest (RFC 3031, 3.1 and 3.14).
use Rattle.std.specs.Prelude.{◌≡◌, ℕ, ◌+◌, ◌-◌, ◌==◌, ◌≤◌, ◌&&◌, not, Bool, true, List, is_none}
use Rattle.std.specs.FinMap.Entries.{find}
use Rattle.std.specs.List.{list_any, range_with_len}
use Rattle.std.specs.Ordering.{nat_cmp}
use Rattle.lsr_facts.specs.declared.key.Key.{Key}
use Rattle.lsr_facts.specs.declared.router.LabelRange.{LabelRange}
use Rattle.lsr_facts.specs.declared.router.Router.{Router}

-- an LSP holds the label
abbrev pub is_held : List (Key × ℕ) → ℕ → Bool
is_held labels label = list_any (λ held. held.1 == label) labels

-- no LSP holds the label, and it doesn't rest
abbrev pub is_free : List (Key × ℕ) → List (ℕ × ℕ) → ℕ → Bool
is_free labels resting label = not (is_held labels label) && is_none (find nat_cmp label resting)

-- the labels of a range
abbrev pub labels_in : LabelRange → List ℕ
labels_in range = range_with_len range.first (range.last + 1 - range.first)

-- one of the router's labels is free
unfoldable pub has_free_label : Router → List (Key × ℕ) → List (ℕ × ℕ) → Bool
has_free_label r labels resting = list_any (is_free labels resting) (labels_in r.labels)

-- A label is in the router's range, and free.
pub record MayBeGiven (r : Router) (labels : List (Key × ℕ)) (resting : List (ℕ × ℕ)) (label : ℕ) : Type 0 where
  pub from_first : r.labels.first ≤ label
  pub to_last : label ≤ r.labels.last
  pub free : is_free labels resting label ≡ true
