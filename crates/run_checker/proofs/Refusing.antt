-- Entries with one of which something is wrong are no run.
use Rattle.std.specs.Prelude.{◌≡◌, ◌≢◌, ◌+◌, ◌<◌, ℕ, List, Result, Ok, Err, length}
use Rattle.std.proofs.Common.{get_or, refl}
use Rattle.lsr_facts.specs.declared.router.Router.{Router}
use Rattle.abstract_router.specs.Soundness.{IsSound}
use Rattle.abstract_router.specs.States.{State}
use Rattle.journal_bytes.specs.declared.entry.Entry.{Entry}
use Rattle.run_checker.specs.Faulty.{IsFaultless, IsRunFault, IsWrong, StopsAt, fault_at}
use Rattle.run_checker.specs.Recorded.{AreRecorded, IsRecorded}
use Rattle.run_checker.specs.declared.fault.RunFault.{RunFault}
use Rattle.run_checker.specs.declared.fault.RunFault.TheVariants as runs
use Rattle.run_checker.specs.declared.fault.Stop.{Stop}
use Rattle.run_checker.specs.declared.fault.Stop.TheVariants as stops
use Rattle.run_checker.proofs.Leading.{IsSoFar, led_nowhere, none_wrong, wrong_next}
use Rattle.run_checker.proofs.Telling.{recorded_one, wrong_nowhere}

module _ (r : Router) (base : State) (entries : List Entry) (place : ℕ) (s : State) (entry : Entry) (within : place < length entries) (is : entry ≡ get_or entries place entry)
    (far : IsSoFar (IsRecorded r) (IsSound r) base entries place s) where
  -- What stops at an entry is the fault of the run,
  pub run_fault : IsSound r base → (stop : Stop) → StopsAt stop r s entry → IsRunFault r base entries (fault_at (place + 1) stop)
  run_fault sound stops.Memory stopped = tt
  run_fault sound (stops.Wrong fault) stopped =
      (sound, wrong_next (IsRecorded r) (IsSound r) base entries (IsWrong fault r) place s entry within is stopped far)

  -- and there is none, but for want of memory.
  pub no_run : (result : Result State RunFault) (stop : Stop) → result ≡ Err (fault_at (place + 1) stop) → StopsAt stop r s entry → (end : State) → AreRecorded r base entries end → result ≢ Err runs.Memory → result ≡ Ok end
  no_run result stops.Memory same stopped end run other = absurd (other same)
  no_run result (stops.Wrong fault) same stopped end run other =
      absurd (led_nowhere (IsRecorded r) (IsSound r) base entries place s entry within is (wrong_nowhere r s entry fault stopped) far end run)

-- Nothing is wrong with a run from a sound base.
pub run_faultless : (r : Router) (base end : State) (entries : List Entry) → IsSound r base → AreRecorded r base entries end → IsFaultless r base entries
run_faultless r base end entries sound run runs.Memory is = refl
run_faultless r base end entries sound run (runs.Base clause) is = absurd (is.0 sound)
run_faultless r base end entries sound run (runs.Entry number fault) is =
    absurd
    (none_wrong (IsRecorded r) (λ s entry a b x y. recorded_one r s entry a b x y) (IsWrong fault r) (λ s entry after wrong x. wrong_nowhere r s entry fault wrong after x) base end entries number run is.1)
