use Rattle.std.proofs.lemmas.Result.{err_from_is_err_and}
use Rattle.lsr_config.specs.Documents.{all_known_rules}
use Rattle.lsr_config.proofs.Judging.{turn_front, turn_past, turn_kept, turn_end}
use Rattle.lsr_config.proofs.known.check_keys.Goals as goal

pub returns-in_err-check_table : goal.returns-in_err-check_table
unfolding all_known_rules
returns-in_err-check_table c =
    let p = err_from_is_err_and c.from_residual.result c.from_residual.ensures.1 in
    rw (p.1, p.2)
    (turn_front _ _ _ c.in_err-check_table.ensures)

pub returns-in_err-check_records : goal.returns-in_err-check_records
unfolding all_known_rules
returns-in_err-check_records c =
    let p = err_from_is_err_and c.from_residual-in_err-check_records.result c.from_residual-in_err-check_records.ensures.1 in
    rw (p.1, p.2)
    (turn_past _ _ _ c.in_ok-check_table.ensures.0
    (turn_front _ _ _ c.in_err-check_records.ensures))

pub returns-in_err-check_records-2 : goal.returns-in_err-check_records-2
unfolding all_known_rules
returns-in_err-check_records-2 c =
    let p = err_from_is_err_and c.from_residual-in_err-check_records-2.result c.from_residual-in_err-check_records-2.ensures.1 in
    rw (p.1, p.2)
    (turn_past _ _ _ c.in_ok-check_table.ensures.0
    (turn_past _ _ _ c.in_ok-check_records.ensures.0
    (turn_front _ _ _ c.in_err-check_records-2.ensures)))

pub returns-in_err-check_records-3 : goal.returns-in_err-check_records-3
unfolding all_known_rules
returns-in_err-check_records-3 c =
    let p = err_from_is_err_and c.from_residual-in_err-check_records-3.result c.from_residual-in_err-check_records-3.ensures.1 in
    rw (p.1, p.2)
    (turn_past _ _ _ c.in_ok-check_table.ensures.0
    (turn_past _ _ _ c.in_ok-check_records.ensures.0
    (turn_past _ _ _ c.in_ok-check_records-2.ensures.0
    (turn_front _ _ _ c.in_err-check_records-3.ensures))))

pub returns-in_err-check_records-4 : goal.returns-in_err-check_records-4
unfolding all_known_rules
returns-in_err-check_records-4 c =
    let p = err_from_is_err_and c.from_residual-in_err-check_records-4.result c.from_residual-in_err-check_records-4.ensures.1 in
    rw (p.1, p.2)
    (turn_past _ _ _ c.in_ok-check_table.ensures.0
    (turn_past _ _ _ c.in_ok-check_records.ensures.0
    (turn_past _ _ _ c.in_ok-check_records-2.ensures.0
    (turn_past _ _ _ c.in_ok-check_records-3.ensures.0
    (turn_front _ _ _ c.in_err-check_records-4.ensures)))))

pub returns : goal.returns
unfolding all_known_rules
returns c = (
  turn_kept _ _ c.in_ok-check_table.ensures.0
      (turn_kept _ _ c.in_ok-check_records.ensures.0
      (turn_kept _ _ c.in_ok-check_records-2.ensures.0
      (turn_kept _ _ c.in_ok-check_records-3.ensures.0
      (turn_kept _ _ c.in_ok-check_records-4.ensures.0
      turn_end)))),
  tt,
)
