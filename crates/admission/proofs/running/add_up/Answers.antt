use Rattle.std.proofs.Common.{◌<◌, arith, get_or, length}
use Rattle.admission.proofs.Keeping.{map_next}
use Rattle.admission.specs.Running.{anew}
use Rattle.admission.specs.declared.running.LinkSum.{LinkSum}
use Rattle.admission.proofs.running.add_up.Goals as goal

pub loop-sum-preserved : goal.loop-sum-preserved
loop-sum-preserved c =
    let before = c.args.sums.now.items in
    let sums = c.loop-sum.sum-items in
    let at = c.loop-sum.sum-index in
    let none : LinkSum = record { link = 0; priority = 0; total = 0 } in
    let within : at < length before = omega arith in
    let inside : at < length sums = omega arith in
    let row = get_or sums at none in
    let now : LinkSum = record { link = row.link; priority = row.priority; total = c.reserved-sum.result } in
    map_next (anew c.args.claims.now) before sums at none now within inside c.loop-sum.invariant (λ i. record { link = row.link; priority = row.priority; total = c.reserved-sum.ensures i })
