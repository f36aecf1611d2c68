use Rattle.std.proofs.Common.{◌≡◌, ◌<◌, ◌≤◌, ℕ, false, drop, get_or, length}
use Rattle.std.specs.List.{find}
use Rattle.std.specs.Ordering.{is_lt}
use Rattle.slot_rows.specs.Slots.{rows_of}
use Rattle.slot_rows.proofs.RunRows.{in_run}
use Rattle.slot_rows.proofs.slots.OrderedSlots.find_in_run.Given as goal

-- no row from here on stands before what is sought, and the first of those from here on is the first of all
abbrev pub invariant-loop-place : goal.invariant-loop-place
invariant-loop-place g l =
    let compares = g.P.Probe.compares l.probe in
    let rows = rows_of l.self.slots l.self.by_key.items in
    let sought = in_run compares (g.T.RowTest.passes l.test) in
    record {
      from : (k : ℕ) (d : g.row.K.Denot × g.row.V.Denot) → l.place ≤ k → k < length rows → is_lt (compares (get_or rows k d).0) ≡ false;
      sought : find sought (drop l.place rows) ≡ find sought rows;
    }
