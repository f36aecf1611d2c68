use Rattle.frame_rewriting.specs.RewritingLaws.{goes_on-passed, sent_frame-bytes}
use Rattle.frame_rewriting.proofs.laws.what_goes_on_is_sent.Goals as goal

pub returns-clause-read : goal.returns-clause-read
returns-clause-read c = goes_on-passed

pub returns-clause-written : goal.returns-clause-written
returns-clause-written c = λ forward out bytes stack goes. sent_frame-bytes stack bytes goes.labelled
