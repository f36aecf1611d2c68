-- One tag more is passed over.
use Rattle.std.proofs.Common.{◌∙◌, rules}
use Rattle.capture_files.proofs.TagWalk.{one_tag}
use Rattle.capture_files.proofs.link.after_tags.Goals as goal

pub loop-left-preserved : goal.loop-left-preserved
loop-left-preserved c =
    one_tag c.loop-left.left c.loop-left.rest.now c.split_at-in-loop-left.result.1.now c.loop-left-test.true (search rules) c.split_at-in-loop-left.ensures.back
    ∙ c.loop-left.invariant
