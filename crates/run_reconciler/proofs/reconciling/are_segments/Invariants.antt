-- So are those before this one.
use Rattle.std.proofs.Common.{All, take}
use Rattle.run_journal.specs.Journals.{IsSegment}
use Rattle.run_reconciler.proofs.reconciling.are_segments.Given as goal

abbrev pub invariant-loop-segment : goal.invariant-loop-segment
invariant-loop-segment l = All IsSegment (take l.segment-index l.segments)
