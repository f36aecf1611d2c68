-- What is told of a run, and the status.
use Rattle.std.specs.Prelude.{◌≡◌, ◌⊎◌, ℕ, List, Option, ◌++◌, codes, length}
use Rattle.std.specs.Fmt.{decimal}
use Rattle.std.specs.Io.KnownBytes.{Appends}
use Rattle.lsr_config.specs.Configs.{Setup}
use Rattle.interface_workers.specs.Below.journal.Journals.{Stretch}
use Rattle.interface_workers.specs.Below.journal.declared.receipt.Receipt.{Receipt}
use Rattle.run_reconciler.specs.Judged.{IsNoRun, ServesRun}
use Rattle.run_reconciler.specs.Reconciled.{entries_in}
use Rattle.run_reconciler.specs.declared.reconciling.Mismatch.{Mismatch}

-- so many entries are one run
abbrev pub reconciled_text : ℕ → List ℕ
reconciled_text count = codes "reconciled " ++ (decimal count ++ codes " entries\n")

-- the first receipt that isn't the run's: its port, and its place among the port's; 0 and 0 where it is a segment
abbrev pub mismatch_text : Mismatch → List ℕ
mismatch_text m = codes "mismatch " ++ (decimal m.port ++ (codes " " ++ (decimal m.place ++ codes "\n")))

-- What is printed of a run that left these segments and receipts, and the status: 0 and how many entries the journal has where
-- they are those of one run of the router of the configuration; else 1 and why they aren't.
abbrev pub TellsRun : Setup → ℕ → List Stretch → List Receipt → List ℕ → ℕ → Type 0
TellsRun config ports pieces receipts text status =
    (ServesRun config ports pieces receipts × (text ≡ reconciled_text (length (entries_in pieces))) × (status ≡ 0))
    ⊎ ((m : Mismatch) × IsNoRun config ports pieces receipts m × (text ≡ mismatch_text m) × (status ≡ 1))

-- A status of 0 says that the router of this configuration was served by so many ports: segments and receipts of one run of it were
-- left, and it was printed how many entries the journal has.
abbrev pub Serves : Setup → ℕ → Option (List ℕ) → Option (List ℕ) → ℕ → Type 0
Serves config ports output printed status =
    status ≡ 0 → (pieces : List Stretch) × (receipts : List Receipt) × ServesRun config ports pieces receipts
    × Appends output printed (reconciled_text (length (entries_in pieces)))
