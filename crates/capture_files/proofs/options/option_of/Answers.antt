-- One option more is passed over.
use Rattle.std.proofs.Common.{◌∙◌}
use Rattle.capture_files.proofs.OptionWalk.{passed_over}
use Rattle.capture_files.proofs.options.option_of.Goals as goal

pub loop-left-preserved : goal.loop-left-preserved
loop-left-preserved c =
    passed_over c.loop-left.left c.args.endian c.args.code c.loop-left.rest.now _ c.loop-left-test.true c.in_ok-parts.ensures c.if-parts-code.false
    ∙ c.loop-left.invariant
