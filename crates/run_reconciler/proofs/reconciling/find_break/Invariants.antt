-- The segments before this one go on from the given one.
use Rattle.std.proofs.Common.{◌≡◌, ◌∷◌, slice_index_or, take}
use Rattle.run_reconciler.specs.Rounds.{GoOnFrom}
use Rattle.run_reconciler.proofs.reconciling.find_break.Given as goal

abbrev pub invariant-loop-next : goal.invariant-loop-next
invariant-loop-next l = record {
  number : l.number ≡ l.next-index;
  before : l.before ≡ slice_index_or (l.last ∷ l.segments) l.next-index l.before;
  continued : GoOnFrom l.last (take l.next-index l.segments);
}
