use Rattle.lsr_journal.proofs.Faultless.{segment_faultless, segment_recorded}
use Rattle.lsr_journal.proofs.laws.segments_are_faultless.Goals as goal

pub returns-clause-run : goal.returns-clause-run
returns-clause-run c = λ s is. segment_recorded s is

pub returns-clause-faultless : goal.returns-clause-faultless
returns-clause-faultless c = λ s is. segment_faultless s is
