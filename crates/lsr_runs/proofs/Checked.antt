-- Why the file of a name has no recorded run.
use Rattle.std.proofs.Common.{◌≡◌, ℕ, List, Result, Ok, Err, IfErr, subst}
use Rattle.line_streams.specs.Texts.{Stream}
use Rattle.line_streams.specs.declared.input.InputFault.{InputFault}
use Rattle.lsr_check.specs.declared.recorded.Recorded.{Recorded}
use Rattle.lsr_check.specs.declared.recorded.Unread.{Unread}
use Rattle.lsr_check.specs.declared.recorded.Unread.TheVariants as unread
use Rattle.lsr_runs.specs.Checking.{FailsIn, HasBytes, IsUnreadRun}

-- the bytes that it has spell none
fails_so : {F : Type 0} (opens : List ℕ → F → Type 0) (fails : List ℕ → InputFault → Type 0) (stream : F → Stream) (name bytes : List ℕ) (fault : Unread) → HasBytes opens stream name bytes → IsUnreadRun bytes fault
    → FailsIn opens fails stream name fault
fails_so opens fails stream name bytes (unread.Input fault) has is = absurd is
fails_so opens fails stream name bytes unread.Format has is = (bytes, has, is)
fails_so opens fails stream name bytes unread.Memory has is = tt

pub unread_fails : {F : Type 0} (opens : List ℕ → F → Type 0) (fails : List ℕ → InputFault → Type 0) (stream : F → Stream) (name bytes seen : List ℕ) (run : Result Recorded Unread) → seen ≡ bytes → HasBytes opens stream name bytes
    → IfErr run (IsUnreadRun seen) → IfErr run (FailsIn opens fails stream name)
unread_fails opens fails stream name bytes seen (Ok run) same has is = is
unread_fails opens fails stream name bytes seen (Err fault) same has is =
    fails_so opens fails stream name bytes fault has (subst (λ all. IsUnreadRun all fault) same is)
