-- Receipts and segments are those of one run.
use Rattle.std.specs.Prelude.{◌≡◌, ◌++◌, ◌==◌, ℕ, Bool, List, [], ◌∷◌, filter, length}
use Rattle.lsr_facts.specs.declared.router.Router.{Router}
use Rattle.abstract_paths.specs.declared.events.Made.{Made}
use Rattle.abstract_router.specs.States.{State}
use Rattle.abstract_router.specs.Steps.{Run}
use Rattle.run_journal.specs.Entries.{AreEntriesOf}
use Rattle.run_journal.specs.Journals.{IsOpening, Stretch}
use Rattle.run_journal.specs.Marks.{Counts, counted, counted_all, first_counts, receipt_of}
use Rattle.run_journal.specs.declared.entry.CountedEntry.{CountedEntry}
use Rattle.run_journal.specs.declared.receipt.Receipt.{Receipt}

-- The receipts that entries call for, one each: its port, place and numbers, what happened, what was answered and sent.
abbrev pub called_for : Counts → List CountedEntry → List Receipt
called_for n [] = []
called_for n (e ∷ es) = receipt_of n e ∷ called_for (counted n e) es

-- Stretches of the journal go on one from the other: each is of the same router, and begins with what the router knew and what
-- the numbers were where the one before ended.
abbrev pub AreContinued : Router → State → Counts → List Stretch → Type 0
AreContinued r s n [] = Unit {0}
AreContinued r s n (piece ∷ more) =
    (piece.router ≡ r) × (piece.base ≡ s) × (piece.from ≡ n) × AreContinued r piece.end (counted_all n piece.entries) more

-- They are a whole journal: the first begins where no entry was yet, and the others go on from it.
abbrev pub AreJoined : List Stretch → Type 0
AreJoined [] = Unit {0}
AreJoined (piece ∷ more) =
    (piece.from ≡ first_counts (length piece.from.marks)) × AreContinued piece.router piece.end (counted_all piece.from piece.entries) more

-- the numbers at their beginning
abbrev pub counts_at : List Stretch → Counts
counts_at [] = first_counts 0
counts_at (piece ∷ more) = piece.from

-- all their entries
abbrev pub entries_in : List Stretch → List CountedEntry
entries_in [] = []
entries_in (piece ∷ more) = piece.entries ++ entries_in more

-- what the router knows at their end
abbrev pub end_in : State → List Stretch → State
end_in s [] = s
end_in s (piece ∷ more) = end_in piece.end more

-- Their entries are those of one run of the abstract router: from the router as it was opened to what it knows at their end.
abbrev pub AreOneRun : List Stretch → Type 0
AreOneRun [] = Unit {0}
AreOneRun (piece ∷ more) =
    IsOpening piece.router piece.base
    × (made : List Made) × AreEntriesOf made (entries_in (piece ∷ more)) × Run piece.router piece.base made (end_in piece.end more)

-- the receipt is this port's
abbrev pub is_of : ℕ → Receipt → Bool
is_of port receipt = receipt.mark.port == port

-- Receipts and segments are those of one run: the segments are a whole journal, and of each port the receipts are exactly those
-- that its entries call for, in their order, each once.
abbrev pub IsReconciled : List Stretch → List Receipt → Type 0
IsReconciled pieces receipts =
    AreJoined pieces × ((port : ℕ) → filter (is_of port) receipts ≡ filter (is_of port) (called_for (counts_at pieces) (entries_in pieces)))
