-- One word more is tested.
use Rattle.std.proofs.Common.{arith, ap, ◌∙◌}
use Rattle.label_stacks.specs.Entries.{bottom_of}
use Rattle.label_stacks.proofs.Stacking.{right_first, wrong_first}
use Rattle.label_stacks.proofs.reading.has_one_bottom.Goals as goal

pub returns-then-bottom_of-bottom_above : goal.returns-then-bottom_of-bottom_above
returns-then-bottom_of-bottom_above c =
    wrong_first c.loop-left.left c.bottom_of.result c.bottom_above.result c.loop-left.rest.now (omega (arith, c.loop-left-test.true))
    (c.bottom_of.ensures ∙ ap bottom_of c.read_u32.ensures) c.bottom_above.ensures c.if-bottom_of-bottom_above.true
    ∙ c.loop-left.invariant.0

pub loop-left-preserved : goal.loop-left-preserved
loop-left-preserved c =
    let same = right_first c.loop-left.left c.bottom_of.result c.bottom_above.result c.loop-left.rest.now (omega (arith, c.loop-left-test.true)) (c.bottom_of.ensures ∙ ap bottom_of c.read_u32.ensures) c.bottom_above.ensures c.if-bottom_of-bottom_above.false in (
      rw c.split_at.ensures.back (same ∙ c.loop-left.invariant.0),
      omega (arith, c.split_at.ensures.back_len, c.loop-left.invariant.1),
    )
