-- The labels that this router gives to LSPs (RFC 3031, 3.1 and 3.14; RFC 3209, 4.1.1).
use Rattle.std.specs.Prelude.{◌≡◌, ℕ, not, nat_eq, Bool, false, List, filter, filter_map, is_none}
use Rattle.std.specs.FinMap.Entries.{find}
use Rattle.std.specs.List.{AllByRecursion, IsDistinct}
use Rattle.std.specs.Option.{option_map, option_map_or, option_or}
use Rattle.sorted_rows.specs.Rows.{keys_of, values_of}
use Rattle.lsr_facts.specs.Lifetimes.{begins_here}
use Rattle.lsr_facts.specs.Orders.{key_cmp}
use Rattle.lsr_facts.specs.declared.key.Key.{Key}
use Rattle.lsr_facts.specs.declared.path_fact.PathFact.{PathFact}
use Rattle.lsr_facts.specs.declared.router.Router.{Router}
use Rattle.abstract_router.specs.States.{State}
pub use Rattle.label_space.specs.FreeLabels.{MayBeGiven, has_free_label, is_free}

-- the LSPs that don't begin here: the neighbour before this router on their way has to be given a label
abbrev pub labelled_keys : List (Key × PathFact) → List Key
labelled_keys paths = keys_of (filter (λ path. not (begins_here path.1.role)) paths)

-- those of them that have no label yet
abbrev pub new_keys : List (Key × ℕ) → List (Key × PathFact) → List Key
new_keys labels paths = filter (λ key. is_none (find key_cmp key labels)) (labelled_keys paths)

-- The labels that a step may choose: of each new LSP one that before the step was neither held nor resting, each for one
-- LSP. This is the one thing about a step that state and event leave open.
pub record IsLabelling (r : Router) (before : State) (paths : List (Key × PathFact)) (chosen : List (Key × ℕ)) : Type 0 where
  pub of_new : keys_of chosen ≡ new_keys before.labels paths
  pub given : AllByRecursion (λ row. MayBeGiven r before.labels before.resting row.1) chosen
  pub apart : IsDistinct nat_eq (values_of chosen)

-- the LSP of this key doesn't begin here, so that it has a label
abbrev pub is_labelled : List (Key × PathFact) → Key → Bool
is_labelled paths key = option_map_or (λ path. not (begins_here path.role)) (find key_cmp key paths) false

-- the labels of LSPs that went, or that begin here now
abbrev pub freed : List (Key × ℕ) → List (Key × PathFact) → List ℕ
freed labels paths = values_of (filter (λ row. not (is_labelled paths row.0)) labels)

-- Each LSP that doesn't begin here has the label that it had, a new one the one that was chosen for it; the labels of
-- others are given back.
unfoldable pub labels_after : List (Key × ℕ) → List (Key × ℕ) → List (Key × PathFact) → List (Key × ℕ)
labels_after labels chosen paths =
    filter_map (λ key. option_map (λ label. (key, label)) (option_or (find key_cmp key labels) (find key_cmp key chosen))) (labelled_keys paths)
