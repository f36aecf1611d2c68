-- A port that differs, and the last port.
use Rattle.std.proofs.Common.{◌≡◌, ◌<◌, ◌≤◌, ℕ, ⊎_elim, arith, refl, subst}
use Rattle.std.proofs.lemmas.Bool.{cases_lt}
use Rattle.run_reconciler.specs.Walks.{called_in, mine}
use Rattle.run_reconciler.proofs.Ports.{all_ports}
use Rattle.run_reconciler.proofs.reconciling.match_ports.Goals as goal

pub returns-in-Err-clause-odd : goal.returns-in-Err-clause-odd
returns-in-Err-clause-odd c = record { segment = refl; before = c.loop-port.invariant; place = c.in-Err.ensures.place }

pub returns-in_default-clause-same : goal.returns-in_default-clause-same
returns-in_default-clause-same c =
    all_ports c.args.segments.now c.args.receipts.now c.greatest_receipt.result c.greatest_port-greatest.result c.greatest_port-greatest.ensures.least
    c.greatest_receipt.ensures c.greatest_port-greatest.ensures.entries
    (λ q low. ⊎_elim (λ (lt : q < c.loop-port.port). c.loop-port.invariant q lt)
    (λ (ge : c.loop-port.port ≤ q).
    let last : c.loop-port.port ≡ q = omega (arith, low, ge) in
    subst (λ (k : ℕ). mine k c.args.receipts.now ≡ mine k (called_in c.args.segments.now)) last c.in_default.ensures.same)
    (cases_lt q c.loop-port.port))
