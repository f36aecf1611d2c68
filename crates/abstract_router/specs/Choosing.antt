-- Labels can be chosen: at most one LSP is new in a step, and for that a label is free.
use Rattle.std.specs.Prelude.{◌≡◌, ◌⊎◌, ℕ, true, not, List, is_some}
use Rattle.std.specs.FinMap.Entries.{find}
use Rattle.std.specs.List.{AllByRecursion}
use Rattle.lsr_facts.specs.Lifetimes.{begins_here}
use Rattle.lsr_facts.specs.Orders.{key_cmp}
use Rattle.lsr_facts.specs.declared.key.Key.{Key}
use Rattle.lsr_facts.specs.declared.path_fact.PathFact.{PathFact}
use Rattle.lsr_facts.specs.declared.router.Router.{Router}
use Rattle.abstract_router.specs.Labels.{has_free_label}
use Rattle.abstract_router.specs.States.{State}

-- a path that doesn't begin here has a label
abbrev pub HasLabel : List (Key × ℕ) → Key × PathFact → Type 0
HasLabel labels path = not (begins_here path.1.role) ≡ true → is_some (find key_cmp path.0 labels) ≡ true

-- or it is the one new path
abbrev pub HasLabelOrIsNew : List (Key × ℕ) → Key → Key × PathFact → Type 0
HasLabelOrIsNew labels key path = (path.0 ≡ key) ⊎ HasLabel labels path

-- Of the paths after an event each has a label, or one is new and a label is free for it.
abbrev pub CanLabel : Router → State → List (Key × PathFact) → Type 0
CanLabel r before paths =
    AllByRecursion (HasLabel before.labels) paths
    ⊎ ((key : Key) × AllByRecursion (HasLabelOrIsNew before.labels key) paths × (has_free_label r before.labels before.resting ≡ true))
