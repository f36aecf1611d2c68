-- What a status of 0 says.
use Rattle.std.proofs.Common.{◌≡◌, ℕ, List, Option, inl, inr, subst, arith}
use Rattle.std.specs.Io.KnownBytes.{Appends}
use Rattle.lsr_config.specs.Configs.{Setup}
use Rattle.interface_workers.specs.Below.journal.Journals.{Stretch}
use Rattle.interface_workers.specs.Below.journal.declared.receipt.Receipt.{Receipt}
use Rattle.lsr_serve.specs.Told.{Serves, TellsRun}

-- what is told of a run is what serving it tells
pub told_serves : (config : Setup) (ports : ℕ) (pieces : List Stretch) (receipts : List Receipt) (output printed : Option (List ℕ)) (text : List ℕ) (status : ℕ) → Appends output printed text → TellsRun config ports pieces receipts text status
    → Serves config ports output printed status
told_serves config ports pieces receipts output printed text status appended (inl (one, is, done)) = λ zero. (pieces, receipts, one, subst (Appends output printed) is appended)
told_serves config ports pieces receipts output printed text status appended (inr (m, why, is, failed)) = λ zero. absurd (omega (arith, zero, failed))
