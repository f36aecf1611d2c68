use Rattle.frame_rewriting.specs.RewritingLaws.{passed-goes_on}
use Rattle.frame_rewriting.proofs.laws.what_is_sent_goes_on.Goals as goal

pub returns : goal.returns
returns c = passed-goes_on
