-- What an event leaves of a sound state, before what follows from it.
use Rattle.std.specs.Prelude.{◌≡◌, ◌≤◌, IfSome}
use Rattle.std.specs.FinMap.Entries.{find}
use Rattle.std.specs.List.{AllByRecursion}
use Rattle.lsr_facts.specs.Orders.{key_cmp}
use Rattle.lsr_facts.specs.declared.key.Key.{Key}
use Rattle.lsr_facts.specs.declared.repair.Repair.{Repair}
use Rattle.lsr_facts.specs.declared.router.Router.{Router}
use Rattle.bypass_shares.specs.Shares.{IsWithin}
use Rattle.label_space.specs.Rests.{resting_past}
use Rattle.abstract_paths.specs.Soundness.{IsStanding}
use Rattle.abstract_router.specs.Assigning.{capacity_in, in_use_of, rate_in}
use Rattle.abstract_router.specs.Choosing.{CanLabel}
use Rattle.abstract_router.specs.Soundness.{AreHeld, AreRepaired, IsServed}
use Rattle.abstract_router.specs.States.{State}

-- What a repaired LSP is promised, if it is promised any, is of its repair's bypass, which has bandwidth to promise, and is as
-- much as the repair is for.
abbrev pub HasEnough : State → Key × Repair → Type 0
HasEnough s repair =
    IfSome (find key_cmp repair.0 s.assignments)
    (λ given. (rate_in repair.1.resv ≤ given.rate) × (repair.1.bypass ≡ given.bypass) × (1 ≤ capacity_in s.facts.bypasses given.bypass))

-- What an event leaves that isn't silent: paths as they should be, reservations within the limits, no repair of a
-- reserved LSP, the labels and the assignments of before, those in use within the capacities of bypasses, the labels that rest
-- still, a free label for a path that is new, and the moment of before or a later one. What follows from it does the rest.
pub record IsDrafted (r : Router) (before : State) (s : State) : Type 0 where
  pub later : before.facts.moment ≤ s.facts.moment
  pub paths : IsStanding r s.facts
  pub held : AreHeld r s
  pub repaired : AreRepaired s
  pub labels : s.labels ≡ before.labels
  pub assignments : s.assignments ≡ before.assignments
  pub served : AllByRecursion (IsServed s) s.repairs
  pub enough : AllByRecursion (HasEnough s) s.repairs
  pub within : IsWithin key_cmp (capacity_in s.facts.bypasses) (in_use_of s)
  pub resting : s.resting ≡ resting_past s.facts.moment before.resting
  pub choice : CanLabel r before s.facts.paths
