-- What holds of all that is known of LSPs.
use Rattle.std.specs.List.{AllByRecursion}
use Rattle.lsr_facts.specs.declared.router.Router.{Router}
use Rattle.abstract_paths.specs.Soundness.{ArePaths}
use Rattle.abstract_router.specs.Soundness.{IsResv, IsSound}
use Rattle.abstract_router.specs.States.{State}

-- What is known of LSPs is as it should be, so that each message can be made that they want: their paths are, and their
-- reservations, also those that repairs keep.
pub record AreLsps (r : Router) (s : State) : Type 0 where
  pub paths : ArePaths r s.facts.moment s.facts.paths
  pub resvs : AllByRecursion (IsResv s.facts.moment) s.resvs
  pub repairs : AllByRecursion (λ repair. IsResv s.facts.moment (repair.0, repair.1.resv)) s.repairs

-- So it is of every state that a router comes to.
pub sound_lsps : (r : Router) (s : State) → IsSound r s → AreLsps r s
sound_lsps r s is = record { paths = is.paths.paths; resvs = is.held.each; repairs = is.repaired.each }
