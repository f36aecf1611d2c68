-- Entries were shown so far.
use Rattle.journal_lines.proofs.Showing.{IsShowing}
use Rattle.journal_lines.proofs.journals.show_entries.Given as goal

abbrev pub invariant-loop-passed : goal.invariant-loop-passed
invariant-loop-passed g l = IsShowing l.router l.format l.count l.initial.rest (g.W.Write.contents l.initial.output) (g.W.Write.contents l.output) l.passed l.rest
