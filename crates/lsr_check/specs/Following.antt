-- Recorded runs that begin where others ended.
use Rattle.std.specs.Prelude.{◌≡◌, Option, Some, None}
use Rattle.abstract_router.specs.Soundness.{IsSound}
use Rattle.abstract_router.specs.States.{State}
use Rattle.run_checker.specs.Faulty.{IsRunFault}
use Rattle.run_checker.specs.Recorded.{AreRecorded}
use Rattle.lsr_check.specs.declared.flaw.Flaw.{Flaw}
use Rattle.lsr_check.specs.declared.flaw.Flaw.TheVariants as flaws
use Rattle.lsr_check.specs.declared.recorded.Recorded.{Recorded}
use Rattle.lsr_check.specs.declared.recorded.RunEnd.{RunEnd}

-- The run begins where the one before it ended, if there is one: with the same router, which knew the same.
abbrev pub BeginsAfter : Option RunEnd → Recorded → Type 0
BeginsAfter None run = Unit {0}
BeginsAfter (Some end) run = (run.config.router ≡ end.config.router) × (run.base ≡ end.state)

-- It is a run of the router, from a sound base, that leads to this state, and begins where the one before it ended.
pub record LeadsTo (before : Option RunEnd) (run : Recorded) (state : State) : Type 0 where
  pub begins : BeginsAfter before run
  pub sound : IsSound run.config.router run.base
  pub recorded : AreRecorded run.config.router run.base run.entries state

-- what is wrong with it
abbrev pub IsFlawOf : Option RunEnd → Recorded → Flaw → Type 0
IsFlawOf before run flaws.Gap = BeginsAfter before run → ⊥
IsFlawOf before run (flaws.Fault fault) = IsRunFault run.config.router run.base run.entries fault

-- where the run ends that leads to a state
abbrev pub end_of : Recorded → State → RunEnd
end_of run state = record { config = run.config; state = state }
