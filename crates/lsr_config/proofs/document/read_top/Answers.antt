use Rattle.std.proofs.lemmas.Result.{err_from_is_err_and}
use Rattle.lsr_config.specs.Documents.{router_rules}
use Rattle.lsr_config.proofs.Judging.{turn_front, turn_past, turn_kept, turn_end}
use Rattle.lsr_config.proofs.document.read_top.Goals as goal

pub returns-in_err-id : goal.returns-in_err-id
unfolding router_rules
returns-in_err-id c =
    let p = err_from_is_err_and c.from_residual.result c.from_residual.ensures.1 in
    rw (p.1, p.2)
    (turn_front _ _ _ c.in_err-id.ensures)

pub returns-in_err-refresh_ms : goal.returns-in_err-refresh_ms
unfolding router_rules
returns-in_err-refresh_ms c =
    let p = err_from_is_err_and c.from_residual-in_err-refresh_ms.result c.from_residual-in_err-refresh_ms.ensures.1 in
    rw (p.1, p.2)
    (turn_past _ _ _ c.in_ok-id.ensures.0
    (turn_front _ _ _ c.in_err-refresh_ms.ensures.judged))

pub returns-in_err-labels : goal.returns-in_err-labels
unfolding router_rules
returns-in_err-labels c =
    let p = err_from_is_err_and c.from_residual-in_err-labels.result c.from_residual-in_err-labels.ensures.1 in
    rw (p.1, p.2)
    (turn_past _ _ _ c.in_ok-id.ensures.0
    (turn_past _ _ _ c.in_ok-refresh_ms.ensures.judged.0
    (turn_front _ _ _ c.in_err-labels.ensures)))

pub returns-in_err-label_rest_ms : goal.returns-in_err-label_rest_ms
unfolding router_rules
returns-in_err-label_rest_ms c =
    let p = err_from_is_err_and c.from_residual-in_err-label_rest_ms.result c.from_residual-in_err-label_rest_ms.ensures.1 in
    rw (p.1, p.2)
    (turn_past _ _ _ c.in_ok-id.ensures.0
    (turn_past _ _ _ c.in_ok-refresh_ms.ensures.judged.0
    (turn_past _ _ _ c.in_ok-labels.ensures.0
    (turn_front _ _ _ c.in_err-label_rest_ms.ensures.judged))))

pub returns : goal.returns
unfolding router_rules
returns c = (
  (turn_kept _ _ c.in_ok-id.ensures.0
      (turn_kept _ _ c.in_ok-refresh_ms.ensures.judged.0
      (turn_kept _ _ c.in_ok-labels.ensures.0
      (turn_kept _ _ c.in_ok-label_rest_ms.ensures.judged.0
      turn_end)))),
  (c.in_ok-id.ensures.1, c.in_ok-refresh_ms.ensures.judged.1, c.in_ok-labels.ensures.1, c.in_ok-label_rest_ms.ensures.judged.1),
)
