-- Labels beside others that may be chosen.
use Rattle.std.specs.Prelude.{◌≡◌, ℕ, List}
use Rattle.std.specs.List.{AllByRecursion}
use Rattle.sorted_rows.specs.Rows.{keys_of}
use Rattle.lsr_facts.specs.declared.key.Key.{Key}
use Rattle.lsr_facts.specs.declared.router.Router.{Router}
use Rattle.abstract_router.specs.Labels.{MayBeGiven}
use Rattle.abstract_router.specs.States.{State}

-- They are of the same LSPs, and each may be given.
pub record IsChoiceLike (r : Router) (s : State) (others labels : List (Key × ℕ)) : Type 0 where
  pub same : keys_of labels ≡ keys_of others
  pub given : AllByRecursion (λ row. MayBeGiven r s.labels s.resting row.1) labels
