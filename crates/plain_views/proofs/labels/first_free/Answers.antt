use Rattle.std.proofs.Common.{◌≤◌, sym, ◌∙◌}
use Rattle.label_space.specs.FreeLabels.{is_free}
use Rattle.plain_views.proofs.Freed.{found_free, found_held, found_last}
use Rattle.plain_views.proofs.labels.first_free.Goals as goal

pub returns-then-is_free : goal.returns-then-is_free
returns-then-is_free c =
    sym (found_free (is_free c.args.labels.now c.args.resting.now) c.loop-label.label c.args.range.last c.loop-label-test.true (sym c.is_free.ensures ∙ c.if-is_free.true)) ∙ c.loop-label.invariant

pub loop-label-preserved : goal.loop-label-preserved
loop-label-preserved c =
    sym (found_held (is_free c.args.labels.now c.args.resting.now) c.loop-label.label c.args.range.last c.loop-label-test.true (sym c.is_free.ensures ∙ c.if-is_free.false)) ∙ c.loop-label.invariant

pub returns-else-is_free : goal.returns-else-is_free
returns-else-is_free c =
    let label : c.args.range.last ≤ c.loop-label.label = search in
    sym (found_last (is_free c.args.labels.now c.args.resting.now) c.loop-label.label c.args.range.last label (sym c.is_free.ensures ∙ c.if-is_free.false)) ∙ c.loop-label.invariant
