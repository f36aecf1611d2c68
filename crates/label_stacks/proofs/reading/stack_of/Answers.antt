-- One entry more is read.
use Rattle.std.proofs.Common.{arith, ap, ◌∙◌}
use Rattle.std.proofs.lemmas.List.Elements.{All-push}
use Rattle.label_stacks.specs.Entries.{entry_of, IsEntry}
use Rattle.label_stacks.proofs.Stacking.{one_more}
use Rattle.label_stacks.proofs.reading.stack_of.Goals as goal

pub loop-left-preserved : goal.loop-left-preserved
loop-left-preserved c = (
  rw c.push.ensures.items (one_more c.loop-left.left c.loop-left.rest.now c.split_at.result.1.now c.loop-left.entries.items c.of_word.result (omega (arith, c.loop-left-test.true)) (c.of_word.ensures.entry ∙ ap entry_of c.read_u32.ensures) c.split_at.ensures.back ∙ c.loop-left.invariant.0),
  omega (arith, c.split_at.ensures.back_len, c.loop-left.invariant.1),
  omega (arith, c.push.ensures.len, c.loop-left.invariant.2),
  rw c.push.ensures.items (All-push IsEntry c.loop-left.entries.items c.of_word.result c.loop-left.invariant.3 c.of_word.ensures.fits),
)
