-- A walk over the entries of a segment, for one port.
use Rattle.std.specs.Prelude.{◌≡◌, ◌+◌, ◌-◌, ◌≤◌, ◌==◌, ◌&&◌, ℕ, Bool, List, [], ◌∷◌, ◌++◌, All, filter, length, nat_lt, slice_index_or}
use Rattle.run_journal.specs.Journals.{Stretch}
use Rattle.run_journal.specs.Marks.{Counts, counted_all, first_mark, one_if}
use Rattle.run_journal.specs.declared.entry.CountedEntry.{CountedEntry}
use Rattle.run_journal.specs.declared.mark.Mark.{Mark}
use Rattle.run_journal.specs.declared.receipt.Receipt.{Receipt}
use Rattle.run_reconciler.specs.Reconciled.{called_for, is_of}
use Rattle.run_reconciler.specs.declared.reconciling.Walk.{Walk}

-- the place of the mark at an index; 0 where there is none
abbrev pub place_at : List Mark → ℕ → ℕ
place_at ms k = (slice_index_or ms k (first_mark 0)).place

-- no more changed what is forwarded, or moved the mark, than there were
pub record IsWithin (w : Walk) : Type 0 where
  pub changes : w.changes ≤ w.entries
  pub moves : w.moves ≤ w.entries

-- The walk has come to these numbers.
pub record IsAt (w : Walk) (n : Counts) : Type 0 where
  pub number : n.number ≡ w.number + w.entries
  pub published : n.published ≡ w.published + w.changes
  pub place : place_at n.marks w.index ≡ w.place + w.moves
  pub marks : w.is_known ≡ nat_lt w.index (length n.marks)

-- the entry moves the mark
abbrev pub is_moved : Walk → CountedEntry → Bool
is_moved w e = w.is_known && (e.entry.port - 1 == w.index)

-- the walk after an entry
abbrev pub passed : Walk → CountedEntry → Walk
passed w e = record w {
  entries = w.entries + 1;
  changes = w.changes + one_if e.changes_table;
  moves = w.moves + one_if (is_moved w e);
}

-- The mark is that after the entry that comes next.
abbrev pub IsNext : Walk → CountedEntry → Mark → Type 0
IsNext w e m =
    (m.port ≡ e.entry.port) × (m.place ≡ w.place + (w.moves + 1)) × (m.entry ≡ w.number + (w.entries + 1))
    × (m.published ≡ w.published + (w.changes + one_if e.changes_table))

-- The receipt is what the port is told of the entry that comes next.
abbrev pub IsTold : Walk → CountedEntry → Receipt → Type 0
IsTold w e r = IsNext w e r.mark × (r.event ≡ e.entry.event) × (r.reply ≡ e.entry.reply) × (r.outputs ≡ e.entry.outputs)

-- a port's receipts
abbrev pub mine : ℕ → List Receipt → List Receipt
mine port receipts = filter (is_of port) receipts

-- what the entries of stretches call for, each by the numbers at the beginning of its own
abbrev pub called_in : List Stretch → List Receipt
called_in [] = []
called_in (piece ∷ more) = called_for piece.from piece.entries ++ called_in more

-- no entry of a stretch has a greater port
abbrev pub HasPorts : ℕ → Stretch → Type 0
HasPorts greatest piece = All (λ (e : CountedEntry). e.entry.port ≤ greatest) piece.entries

-- a stretch goes on from the one before: it is of the same router, and begins with what the router knew and what the numbers
-- were where that ended
abbrev pub GoesOn : Stretch → Stretch → Type 0
GoesOn before next = (next.router ≡ before.router) × (next.base ≡ before.end) × (next.from ≡ counted_all before.from before.entries)
