-- A run is reconciled round by round: each round's segments and receipts, where the last segment of the round before is kept.
use Rattle.std.specs.Prelude.{◌≡◌, ◌-◌, ◌<◌, ◌⊎◌, ℕ, All, List, [], ◌∷◌, ◌++◌, filter, length, take}
use Rattle.lsr_config.specs.Configs.{Setup}
use Rattle.run_journal.specs.Journals.{IsSegment, Stretch}
use Rattle.run_journal.specs.Marks.{Counts, counted_all}
use Rattle.run_journal.specs.declared.receipt.Receipt.{Receipt}
use Rattle.run_reconciler.specs.Judged.{AreOfPorts, IsStray, ServesRun}
use Rattle.run_reconciler.specs.Mismatches.{IsFirstDifference}
use Rattle.run_reconciler.specs.Reconciled.{AreContinued, called_for, entries_in, is_of}
use Rattle.run_reconciler.specs.declared.reconciling.Mismatch.{Mismatch}

-- the numbers after a stretch's entries
abbrev pub counts_after : Stretch → Counts
counts_after piece = counted_all piece.from piece.entries

-- Stretches go on one from the other, the first of them from this one.
abbrev pub GoOnFrom : Stretch → List Stretch → Type 0
GoOnFrom last pieces = AreContinued last.router last.end (counts_after last) pieces

-- of each port the receipts are exactly those that are called for, in their order, each once
abbrev pub AgreeByPort : List Receipt → List Receipt → Type 0
AgreeByPort receipts called = (port : ℕ) → filter (is_of port) receipts ≡ filter (is_of port) called

-- Segments and receipts are those of the next round of a run, of which this was the last stretch so far, and which so many ports feed: the
-- segments, at least one, go on from it, and each port was told of its entries, each once and in their order.
pub record IsNextRound (last : Stretch) (ports : ℕ) (pieces : List Stretch) (receipts : List Receipt) : Type 0 where
  pub some : 0 < length pieces
  pub continued : GoOnFrom last pieces
  pub reconciled : AgreeByPort receipts (called_for (counts_after last) (entries_in pieces))
  pub own : AreOfPorts ports receipts

-- The segments before this one, counted from 1, go on from the stretch, and with it they don't.
pub record IsFirstBreak (last : Stretch) (number : ℕ) (pieces : List Stretch) : Type 0 where
  pub from_one : 0 < number
  pub before : GoOnFrom last (take (number - 1) pieces)
  pub there : GoOnFrom last (take number pieces) → ⊥

-- The port is the first whose receipts aren't those that are called for, and the place is the first one where they differ; the segment
-- is 0.
pub record IsFirstOdd (receipts called : List Receipt) (m : Mismatch) : Type 0 where
  pub segment : m.segment ≡ 0
  pub before : (port : ℕ) → port < m.port → filter (is_of port) receipts ≡ filter (is_of port) called
  pub place : IsFirstDifference m.place (filter (is_of m.port) receipts) (filter (is_of m.port) called)

-- There is no segment: the port and the place are 0, and the segment is the first.
abbrev pub IsNoSegment : List Stretch → Mismatch → Type 0
IsNoSegment pieces m = (pieces ≡ []) × (m.port ≡ 0) × (m.place ≡ 0) × (m.segment ≡ 1)

-- A segment doesn't go on: the port and the place are 0, and the segment is the number of the first one.
abbrev pub IsBreak : Stretch → List Stretch → Mismatch → Type 0
IsBreak last pieces m = (m.port ≡ 0) × (m.place ≡ 0) × IsFirstBreak last m.segment pieces

-- The segments go on, and a port's receipts aren't those that its entries call for: the port is the first of these.
abbrev pub IsOddRound : Stretch → List Stretch → List Receipt → Mismatch → Type 0
IsOddRound last pieces receipts m = GoOnFrom last pieces × IsFirstOdd receipts (called_for (counts_after last) (entries_in pieces)) m

-- They aren't those of the next round, for this reason.
abbrev pub IsNoRound : Stretch → ℕ → List Stretch → List Receipt → Mismatch → Type 0
IsNoRound last ports pieces receipts m =
    IsNoSegment pieces m ⊎ IsBreak last pieces m ⊎ IsOddRound last pieces receipts m ⊎ IsStray ports receipts m

-- the stretch is the last of these
abbrev pub IsLastOf : List Stretch → Stretch → Type 0
IsLastOf pieces last = (earlier : List Stretch) × (pieces ≡ earlier ++ last ∷ [])

-- The rounds so far, of which this stretch is the last, are one reconciled run of the router of this configuration, which so many ports
-- feed, with so many entries in all.
pub record IsRunSoFar (config : Setup) (ports : ℕ) (last : Stretch) (count : ℕ) : Type 0 where
  pub pieces : List Stretch
  pub receipts : List Receipt
  pub serves : ServesRun config ports pieces receipts
  pub segments : All IsSegment pieces
  pub ends : IsLastOf pieces last
  pub number : count ≡ length (entries_in pieces)
