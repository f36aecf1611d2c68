-- What is known of a run whose rounds were reconciled one after the other.
use Rattle.std.specs.Prelude.{◌≡◌, ℕ, Option, Some, None}
use Rattle.lsr_config.specs.Configs.{Setup}
use Rattle.lsr_serve.specs.Below.workers.Below.journal.Journals.{Stretch}
use Rattle.lsr_serve.specs.declared.run.RunReport.{RunReport}
use Rattle.lsr_serve.specs.Below.reconciler.Judged.{ServesRun}
use Rattle.lsr_serve.specs.Below.reconciler.Rounds.{IsNextRound, IsRunSoFar}
use Rattle.lsr_rounds.specs.declared.so_far.RunSoFar.{RunSoFar}

-- with this last stretch and so many entries, rounds are one reconciled run of the router of this configuration; without one there was no
-- round yet
abbrev pub IsSoFarBy : Setup → ℕ → Option Stretch → ℕ → Type 0
IsSoFarBy c ports None entries = entries ≡ 0
IsSoFarBy c ports (Some last) entries = IsRunSoFar c ports last entries

-- The rounds of a run so far are one reconciled run of the router of this configuration, with so many entries in all.
abbrev pub IsSoFar : Setup → ℕ → RunSoFar → Type 0
IsSoFar c ports run = IsSoFarBy c ports run.last run.entries

-- the same of rounds with a last stretch: without one there was no round
abbrev pub IsRunOfRoundsBy : Setup → ℕ → Option Stretch → ℕ → Type 0
IsRunOfRoundsBy c ports None entries = ⊥
IsRunOfRoundsBy c ports (Some last) entries = IsRunSoFar c ports last entries

-- There was at least one round, and all are one reconciled run of the router of this configuration, with so many entries in all.
abbrev pub IsRunOfRounds : Setup → ℕ → RunSoFar → Type 0
IsRunOfRounds c ports run = IsRunOfRoundsBy c ports run.last run.entries

-- a round goes on from this stretch; or it is the first, and is a run by itself
abbrev pub GoesOnFrom : Setup → ℕ → Option Stretch → RunReport → Type 0
GoesOnFrom c ports None round = ServesRun c ports round.segments.items round.receipts.items
GoesOnFrom c ports (Some last) round = IsNextRound last ports round.segments.items round.receipts.items

-- A round goes on from the rounds so far as one run of the router of this configuration.
abbrev pub IsJudged : Setup → ℕ → RunSoFar → RunReport → Type 0
IsJudged c ports run round = GoesOnFrom c ports run.last round
