use Rattle.std.proofs.Common.{ap, sym, ◌∙◌, arith}
use Rattle.std.specs.Ordering.{is_gt}
use Rattle.admission.proofs.Runs.{upto_ends, upto_more}
use Rattle.admission.proofs.run.count_upto.Goals as goal

pub returns-then-is_gt : goal.returns-then-is_gt
returns-then-is_gt c =
    let above = ap is_gt (sym c.cmp.ensures) ∙ sym c.is_gt.ensures ∙ c.if-is_gt.true in
    record {
      bound = omega arith;
      upto = upto_ends c.args.session.now c.args.claims.now c.loop-count.count _ c.loop-count-test.true c.loop-count.invariant c.requires above;
    }

pub loop-count-preserved : goal.loop-count-preserved
loop-count-preserved c =
    let within = ap is_gt (sym c.cmp.ensures) ∙ sym c.is_gt.ensures ∙ c.if-is_gt.false in
    upto_more c.args.session.now c.args.claims.now c.loop-count.count _ c.loop-count-test.true c.loop-count.invariant within

pub returns : goal.returns
returns c =
    let all = c.loop-count-test.false in
    record {
      bound = omega arith;
      upto = (λ k d low below. c.loop-count.invariant k d (omega (arith, all, below)), λ k d from below. absurd (omega (arith, from, below)));
    }
