use Rattle.std.proofs.Common.{◌<◌, arith, length}
use Rattle.admission.proofs.Keeping.{map_next}
use Rattle.admission.specs.Running.{more}
use Rattle.admission.specs.declared.running.LinkSum.{LinkSum}
use Rattle.admission.proofs.running.add.Goals as goal

pub loop-sum-preserved : goal.loop-sum-preserved
loop-sum-preserved c =
    let before = c.args.sums.now.items in
    let sums = c.loop-sum.sum-items in
    let at = c.loop-sum.sum-index in
    let none : LinkSum = record { link = 0; priority = 0; total = 0 } in
    let within : at < length before = omega arith in
    let inside : at < length sums = omega arith in
    map_next (more c.args.touched.now c.args.claims.now) before sums at none c.add.new.self within inside c.loop-sum.invariant c.add.ensures
