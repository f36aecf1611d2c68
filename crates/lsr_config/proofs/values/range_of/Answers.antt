use Rattle.std.proofs.Common.{arith}
use Rattle.lsr_config.proofs.Finding.{not_two_labels, two_labels, labels_found, same_whole}
use Rattle.lsr_config.proofs.values.range_of.Goals as goal

pub returns-in_default : goal.returns-in_default
returns-in_default c = not_two_labels _ (omega arith)

pub returns-in_default-2 : goal.returns-in_default-2
returns-in_default-2 c = not_two_labels _ (omega arith)

pub returns-in_err-first : goal.returns-in_err-first
returns-in_err-first c = rw c.from_residual.ensures (λ labels says.
    let parts = two_labels c.args.ends.now c.first-item.result c.last-item.result (omega arith) c.first-item.is c.last-item.is labels says in
    c.in_err-first.ensures.found _ parts.0)

pub returns-in_err-last : goal.returns-in_err-last
returns-in_err-last c = rw c.from_residual-in_err-last.ensures (λ labels says.
    let parts = two_labels c.args.ends.now c.first-item.result c.last-item.result (omega arith) c.first-item.is c.last-item.is labels says in
    c.in_err-last.ensures.found _ parts.1)

pub returns-then-first-last : goal.returns-then-first-last
returns-then-first-last c = λ labels says.
    let parts = two_labels c.args.ends.now c.first-item.result c.last-item.result (omega arith) c.first-item.is c.last-item.is labels says in
    let first = same_whole 16 1048575 _ _ _ parts.0 c.in_ok-first.ensures.found in
    let last = same_whole 16 1048575 _ _ _ parts.1 c.in_ok-last.ensures.found in
    omega (arith, parts.2, parts.3, first, last)

pub returns : goal.returns
returns c = labels_found c.args.ends.now c.first-item.result c.last-item.result (omega arith) c.first-item.is c.last-item.is _ _ c.in_ok-first.ensures.found c.in_ok-last.ensures.found (omega arith) (omega arith)
