use Rattle.std.proofs.lemmas.Result.{err_from_is_err_and}
use Rattle.toml.specs.View.{view}
use Rattle.lsr_config.specs.Documents.{route_rules, SaysRoute}
use Rattle.lsr_config.proofs.Judging.{turn_front, turn_past, turn_kept, turn_end, says_length}
use Rattle.lsr_config.proofs.Telling.{links_numbered}
use Rattle.lsr_config.proofs.routes.read_route.Goals as goal

pub returns-in_err-prefix : goal.returns-in_err-prefix
unfolding route_rules
returns-in_err-prefix c = λ links earlier they says.
    let p = err_from_is_err_and c.from_residual.result c.from_residual.ensures.1 in
    rw (p.1, p.2)
    (turn_front _ _ _ c.in_err-prefix.ensures)

pub returns-in_err-check_prefix : goal.returns-in_err-check_prefix
unfolding route_rules
returns-in_err-check_prefix c = λ links earlier they says.
    let p = err_from_is_err_and c.from_residual-in_err-check_prefix.result c.from_residual-in_err-check_prefix.ensures.1 in
    rw (p.1, p.2)
    (turn_past _ _ _ c.in_ok-prefix.ensures.0
    (turn_front _ _ _ (c.in_err-check_prefix.ensures (view c.args.table.now) earlier c.in_ok-prefix.ensures.1 says)))

pub returns-in_err-link : goal.returns-in_err-link
unfolding route_rules
returns-in_err-link c = λ links earlier they says.
    let p = err_from_is_err_and c.from_residual-in_err-link.result c.from_residual-in_err-link.ensures.1 in
    rw (p.1, p.2)
    (turn_past _ _ _ c.in_ok-prefix.ensures.0
    (turn_past _ _ _ (c.in_ok-check_prefix.ensures (view c.args.table.now) earlier c.in_ok-prefix.ensures.1 says).0
    (turn_front _ _ _ c.in_err-link.ensures)))

pub returns-in_err-check_named : goal.returns-in_err-check_named
unfolding route_rules
returns-in_err-check_named c = λ links earlier they says.
    let p = err_from_is_err_and c.from_residual-in_err-check_named.result c.from_residual-in_err-check_named.ensures.1 in
    rw (p.1, p.2)
    (turn_past _ _ _ c.in_ok-prefix.ensures.0
    (turn_past _ _ _ (c.in_ok-check_prefix.ensures (view c.args.table.now) earlier c.in_ok-prefix.ensures.1 says).0
    (turn_past _ _ _ c.in_ok-link.ensures.0
    (turn_front _ _ _ (c.in_err-check_named.ensures 1 (view c.args.table.now) links c.in_ok-link.ensures.1 (links_numbered links c.args.links.now they))))))

pub returns-in_err-check_count : goal.returns-in_err-check_count
unfolding route_rules
returns-in_err-check_count c = λ links earlier they says.
    let p = err_from_is_err_and c.from_residual-in_err-check_count.result c.from_residual-in_err-check_count.ensures.1 in
    rw (p.1, p.2)
    (turn_past _ _ _ c.in_ok-prefix.ensures.0
    (turn_past _ _ _ (c.in_ok-check_prefix.ensures (view c.args.table.now) earlier c.in_ok-prefix.ensures.1 says).0
    (turn_past _ _ _ c.in_ok-link.ensures.0
    (turn_past _ _ _ (c.in_ok-check_named.ensures 1 (view c.args.table.now) links c.in_ok-link.ensures.1 (links_numbered links c.args.links.now they)).0
    (turn_front _ _ _ (c.in_err-check_count.ensures earlier (says_length SaysRoute earlier c.args.before.now says)))))))

pub returns : goal.returns
unfolding route_rules
returns c = λ links earlier they says. (
  (turn_kept _ _ c.in_ok-prefix.ensures.0
      (turn_kept _ _ (c.in_ok-check_prefix.ensures (view c.args.table.now) earlier c.in_ok-prefix.ensures.1 says).0
      (turn_kept _ _ c.in_ok-link.ensures.0
      (turn_kept _ _ (c.in_ok-check_named.ensures 1 (view c.args.table.now) links c.in_ok-link.ensures.1 (links_numbered links c.args.links.now they)).0
      (turn_kept _ _ (c.in_ok-check_count.ensures earlier (says_length SaysRoute earlier c.args.before.now says)).0
      turn_end))))),
  record { prefix = c.in_ok-prefix.ensures.1; link = c.in_ok-link.ensures.1 },
)
