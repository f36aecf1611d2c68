-- Where receipts and segments aren't those of one run.
use Rattle.std.specs.Prelude.{◌≡◌, ◌≢◌, ◌-◌, ◌<◌, ◌⊎◌, ℕ, List, filter, take}
use Rattle.run_journal.specs.Journals.{Stretch}
use Rattle.run_journal.specs.declared.receipt.Receipt.{Receipt}
use Rattle.run_reconciler.specs.Reconciled.{AreJoined, called_for, counts_at, entries_in, is_of}
use Rattle.run_reconciler.specs.declared.reconciling.Mismatch.{Mismatch}

-- Two lists differ, and this is the place, from 1, where they do first.
pub record IsFirstDifference (place : ℕ) (xs ys : List Receipt) : Type 0 where
  pub from_one : 0 < place
  pub before : take (place - 1) xs ≡ take (place - 1) ys
  pub there : take place xs ≢ take place ys

-- The segments before this one, counted from 1, are a whole journal, and with it they are none.
pub record IsFirstGap (number : ℕ) (pieces : List Stretch) : Type 0 where
  pub from_one : 0 < number
  pub before : AreJoined (take (number - 1) pieces)
  pub there : AreJoined (take number pieces) → ⊥

-- The segments are no whole journal: the port and the place are 0, and the segment is the number of the first that doesn't go on.
pub record IsGap (pieces : List Stretch) (m : Mismatch) : Type 0 where
  pub port : m.port ≡ 0
  pub place : m.place ≡ 0
  pub segment : IsFirstGap m.segment pieces

-- The segments are a whole journal, and the port is the first whose receipts aren't those that its entries call for; the place
-- is the first one where they differ, and the segment is 0.
pub record IsOdd (pieces : List Stretch) (receipts : List Receipt) (m : Mismatch) : Type 0 where
  pub joined : AreJoined pieces
  pub segment : m.segment ≡ 0
  pub before : (port : ℕ) → port < m.port → filter (is_of port) receipts ≡ filter (is_of port) (called_for (counts_at pieces) (entries_in pieces))
  pub place : IsFirstDifference m.place (filter (is_of m.port) receipts) (filter (is_of m.port) (called_for (counts_at pieces) (entries_in pieces)))

abbrev pub IsMismatch : List Stretch → List Receipt → Mismatch → Type 0
IsMismatch pieces receipts m = IsGap pieces m ⊎ IsOdd pieces receipts m
