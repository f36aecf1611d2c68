use Rattle.std.proofs.Common.{◌≡◌}
use Rattle.run_journal.specs.Marks.{first_marks}
use Rattle.run_journal.proofs.counts.JournalCounts.new.Given as goal

-- the marks so far
abbrev pub invariant-loop-port : goal.invariant-loop-port
invariant-loop-port l = l.marks.items ≡ first_marks l.port
