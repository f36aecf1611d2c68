use Rattle.std.proofs.Common.{of_calls, rules}
use Rattle.std.specs.Ordering.{nat_cmp, ordering_then}
use Rattle.std.proofs.lemmas.Fn.{always_returns_same}
use Rattle.admission.proofs.Keeping.{sum_found}
use Rattle.admission.specs.declared.running.LinkSum.{LinkSum}
use Rattle.admission.proofs.running.sum_at.Goals as goal

pub returns-in-Ok : goal.returns-in-Ok
returns-in-Ok c =
    let is = c.in-Ok.ensures.position (λ sum. ordering_then (nat_cmp sum.link c.args.link) (nat_cmp sum.priority c.args.priority)) (always_returns_same _ _ _ (λ a r f' called. search (rules, of_calls))) in
    let none : LinkSum = record { link = 0; priority = 0; total = 0 } in
    sum_found c.args.sums.now c.in-Ok.at c.args.link c.args.priority none c.in-Ok.ensures.bound (is none)
