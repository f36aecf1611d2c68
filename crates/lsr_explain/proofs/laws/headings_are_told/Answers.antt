-- The texts are cut into lines, and their headings read.
use Rattle.std.proofs.Common.{refl}
use Rattle.std.specs.Fmt.{digits}
use Rattle.line_streams.specs.Cuts.{lines_of}
use Rattle.lsr_explain.proofs.laws.headings_are_told.Goals as goal

pub returns-clause-refusals : goal.returns-clause-refusals
unfolding lines_of digits
returns-clause-refusals c = refl

pub returns-clause-errors : goal.returns-clause-errors
unfolding lines_of digits
returns-clause-errors c = refl

pub returns-clause-run_faults : goal.returns-clause-run_faults
unfolding lines_of
returns-clause-run_faults c = refl
