-- A segment that doesn't go on, a port that differs, and the next round.
use Rattle.std.proofs.Common.{◌<◌, inl, inr, length, arith, refl}
use Rattle.std.proofs.lemmas.Grind.{common_steps}
use Rattle.run_reconciler.proofs.OwnPorts.{stray_apart}
use Rattle.run_reconciler.proofs.Rounds.{no_round, odd_round, round_told}
use Rattle.run_reconciler.proofs.round.judge_round.Goals as goal

pub returns-in-Err-clause-mismatch : goal.returns-in-Err-clause-mismatch
returns-in-Err-clause-mismatch c =
    no_round c.args.last.now c.args.ports c.args.segments.now c.args.receipts.now (record { port = 0; place = 0; segment = c.in-Err.segment }) (inr (inl (refl, refl, c.in-Err.ensures.place)))

pub returns-in-Err-match_ports-clause-mismatch : goal.returns-in-Err-match_ports-clause-mismatch
returns-in-Err-match_ports-clause-mismatch c =
    no_round c.args.last.now c.args.ports c.args.segments.now c.args.receipts.now c.in-Err-match_ports.mismatch
    (inr (inr (inl (odd_round c.args.last.now c.args.segments.now c.args.receipts.now c.in-Err-match_ports.mismatch c.in_default.ensures.continued c.in-Err-match_ports.ensures.odd))))

pub returns-in-Err-match_ports-clause-place : goal.returns-in-Err-match_ports-clause-place
returns-in-Err-match_ports-clause-place c =
    inr (inr (inl (odd_round c.args.last.now c.args.segments.now c.args.receipts.now c.in-Err-match_ports.mismatch c.in_default.ensures.continued c.in-Err-match_ports.ensures.odd)))

pub returns-in-Some-clause-mismatch : goal.returns-in-Some-clause-mismatch
returns-in-Some-clause-mismatch c round = stray_apart c.args.ports c.args.receipts.now c.in-Some.port c.in-Some.ensures round.own

pub returns-in-None-clause-round : goal.returns-in-None-clause-round
returns-in-None-clause-round c =
    let some : 0 < length c.args.segments.now = grind (arith, common_steps) in
    record {
      some = some;
      continued = c.in_default.ensures.continued;
      reconciled = round_told c.args.last.now c.args.segments.now c.args.receipts.now c.in_default.ensures.continued c.in_default-match_ports.ensures.same;
      own = c.in-None.ensures;
    }
