-- The rules in turn.
use Rattle.std.proofs.Common.{arith}
use Rattle.std.proofs.lemmas.Result.{err_from_is_err_and}
use Rattle.lsr_config.proofs.Judging.{turn_front, turn_past, turn_kept, turn_end}
use Rattle.lsr_serve.specs.Sockets.{socket_rules}
use Rattle.lsr_serve.proofs.Counting.{few_kept, few_broken}
use Rattle.lsr_serve.proofs.sockets.read_row.Goals as goal

pub returns-in_err-number-clause-judged : goal.returns-in_err-number-clause-judged
unfolding socket_rules
returns-in_err-number-clause-judged c = λ earlier count.
    let p = err_from_is_err_and c.from_residual.result c.from_residual.ensures.1 in
    rw (p.1, p.2) (turn_front _ _ _ c.in_err-number.ensures)

pub returns-in_err-listen-clause-judged : goal.returns-in_err-listen-clause-judged
unfolding socket_rules
returns-in_err-listen-clause-judged c = λ earlier count.
    let p = err_from_is_err_and c.from_residual-in_err-listen.result c.from_residual-in_err-listen.ensures.1 in
    rw (p.1, p.2)
    (turn_past _ _ _ c.in_ok-number.ensures.0
    (turn_front _ _ _ c.in_err-listen.ensures))

pub returns-in_err-send-clause-judged : goal.returns-in_err-send-clause-judged
unfolding socket_rules
returns-in_err-send-clause-judged c = λ earlier count.
    let p = err_from_is_err_and c.from_residual-in_err-send.result c.from_residual-in_err-send.ensures.1 in
    rw (p.1, p.2)
    (turn_past _ _ _ c.in_ok-number.ensures.0
    (turn_past _ _ _ c.in_ok-listen.ensures.0
    (turn_front _ _ _ c.in_err-send.ensures)))

pub returns-then-before-ge-MAX_LINKS-clause-judged : goal.returns-then-before-ge-MAX_LINKS-clause-judged
unfolding socket_rules
returns-then-before-ge-MAX_LINKS-clause-judged c = λ earlier count.
    turn_past _ _ _ c.in_ok-number.ensures.0
    (turn_past _ _ _ c.in_ok-listen.ensures.0
    (turn_past _ _ _ c.in_ok-send.ensures.0
    (turn_front _ _ _ (few_broken earlier (omega (arith, count, c.if-before-ge-MAX_LINKS.true))))))

pub returns-clause-judged : goal.returns-clause-judged
unfolding socket_rules
returns-clause-judged c = λ earlier count. (
  (turn_kept _ _ c.in_ok-number.ensures.0
      (turn_kept _ _ c.in_ok-listen.ensures.0
      (turn_kept _ _ c.in_ok-send.ensures.0
      (turn_kept _ _ (few_kept earlier (omega (arith, count, c.if-before-ge-MAX_LINKS.false)))
      turn_end)))),
  record { number = c.in_ok-number.ensures.1; listen = c.in_ok-listen.ensures.1; send = c.in_ok-send.ensures.1 },
)
