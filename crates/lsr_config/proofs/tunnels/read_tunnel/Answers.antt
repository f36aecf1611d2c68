use Rattle.std.proofs.lemmas.Result.{err_from_is_err_and}
use Rattle.toml.specs.View.{view}
use Rattle.lsr_config.specs.Documents.{records, tunnel_rules, SaysTunnel}
use Rattle.lsr_config.specs.declared.key.Key.TheVariants as key
use Rattle.lsr_config.proofs.Judging.{fault_memory, turn_front, turn_past, turn_kept, turn_end, says_length}
use Rattle.lsr_config.proofs.Telling.{new_said, tunnels_numbered}
use Rattle.lsr_config.proofs.tunnels.read_tunnel.Goals as goal

pub returns-in_err-number : goal.returns-in_err-number
unfolding tunnel_rules
returns-in_err-number c = λ document earlier its they says.
    let p = err_from_is_err_and c.from_residual.result c.from_residual.ensures.1 in
    rw (p.1, p.2)
    (turn_front _ _ _ c.in_err-number.ensures)

pub returns-in_err-check_number : goal.returns-in_err-check_number
unfolding tunnel_rules
returns-in_err-check_number c = λ document earlier its they says.
    let p = err_from_is_err_and c.from_residual-in_err-check_number.result c.from_residual-in_err-check_number.ensures.1 in
    rw (p.1, p.2)
    (turn_past _ _ _ c.in_ok-number.ensures.0
    (turn_front _ _ _ (c.in_err-check_number.ensures 0 (view c.args.table.now) earlier c.in_ok-number.ensures.1 (tunnels_numbered earlier c.args.before.now says))))

pub returns-in_err-endpoint : goal.returns-in_err-endpoint
unfolding tunnel_rules
returns-in_err-endpoint c = λ document earlier its they says.
    let p = err_from_is_err_and c.from_residual-in_err-endpoint.result c.from_residual-in_err-endpoint.ensures.1 in
    rw (p.1, p.2)
    (turn_past _ _ _ c.in_ok-number.ensures.0
    (turn_past _ _ _ (c.in_ok-check_number.ensures 0 (view c.args.table.now) earlier c.in_ok-number.ensures.1 (tunnels_numbered earlier c.args.before.now says)).0
    (turn_front _ _ _ c.in_err-endpoint.ensures)))

pub returns-in_err-check_endpoint : goal.returns-in_err-check_endpoint
unfolding tunnel_rules
returns-in_err-check_endpoint c = λ document earlier its they says.
    let p = err_from_is_err_and c.from_residual-in_err-check_endpoint.result c.from_residual-in_err-check_endpoint.ensures.1 in
    rw (p.1, p.2)
    (turn_past _ _ _ c.in_ok-number.ensures.0
    (turn_past _ _ _ (c.in_ok-check_number.ensures 0 (view c.args.table.now) earlier c.in_ok-number.ensures.1 (tunnels_numbered earlier c.args.before.now says)).0
    (turn_past _ _ _ c.in_ok-endpoint.ensures.0
    (turn_front _ _ _ (c.in_err-check_endpoint.ensures document (view c.args.table.now) (records key.Link document) its c.in_ok-endpoint.ensures.1 they)))))

pub returns-in_err-route : goal.returns-in_err-route
unfolding tunnel_rules
returns-in_err-route c = λ document earlier its they says.
    let p = err_from_is_err_and c.from_residual-in_err-route.result c.from_residual-in_err-route.ensures.1 in
    rw (p.1, p.2)
    (turn_past _ _ _ c.in_ok-number.ensures.0
    (turn_past _ _ _ (c.in_ok-check_number.ensures 0 (view c.args.table.now) earlier c.in_ok-number.ensures.1 (tunnels_numbered earlier c.args.before.now says)).0
    (turn_past _ _ _ c.in_ok-endpoint.ensures.0
    (turn_past _ _ _ (c.in_ok-check_endpoint.ensures document (view c.args.table.now) (records key.Link document) its c.in_ok-endpoint.ensures.1 they).0
    (turn_front _ _ _ c.in_err-route.ensures)))))

pub returns-in_err-rate : goal.returns-in_err-rate
unfolding tunnel_rules
returns-in_err-rate c = λ document earlier its they says.
    let p = err_from_is_err_and c.from_residual-in_err-rate.result c.from_residual-in_err-rate.ensures.1 in
    rw (p.1, p.2)
    (turn_past _ _ _ c.in_ok-number.ensures.0
    (turn_past _ _ _ (c.in_ok-check_number.ensures 0 (view c.args.table.now) earlier c.in_ok-number.ensures.1 (tunnels_numbered earlier c.args.before.now says)).0
    (turn_past _ _ _ c.in_ok-endpoint.ensures.0
    (turn_past _ _ _ (c.in_ok-check_endpoint.ensures document (view c.args.table.now) (records key.Link document) its c.in_ok-endpoint.ensures.1 they).0
    (turn_past _ _ _ c.in_ok-route.ensures.0
    (turn_front _ _ _ c.in_err-rate.ensures))))))

pub returns-in_err-attr : goal.returns-in_err-attr
unfolding tunnel_rules
returns-in_err-attr c = λ document earlier its they says.
    let p = err_from_is_err_and c.from_residual-in_err-attr.result c.from_residual-in_err-attr.ensures.1 in
    rw (p.1, p.2)
    (turn_past _ _ _ c.in_ok-number.ensures.0
    (turn_past _ _ _ (c.in_ok-check_number.ensures 0 (view c.args.table.now) earlier c.in_ok-number.ensures.1 (tunnels_numbered earlier c.args.before.now says)).0
    (turn_past _ _ _ c.in_ok-endpoint.ensures.0
    (turn_past _ _ _ (c.in_ok-check_endpoint.ensures document (view c.args.table.now) (records key.Link document) its c.in_ok-endpoint.ensures.1 they).0
    (turn_past _ _ _ c.in_ok-route.ensures.0
    (turn_past _ _ _ c.in_ok-rate.ensures.0
    (turn_front _ _ _ c.in_err-attr.ensures)))))))

pub returns-in_err-check_count : goal.returns-in_err-check_count
unfolding tunnel_rules
returns-in_err-check_count c = λ document earlier its they says.
    let p = err_from_is_err_and c.from_residual-in_err-check_count.result c.from_residual-in_err-check_count.ensures.1 in
    rw (p.1, p.2)
    (turn_past _ _ _ c.in_ok-number.ensures.0
    (turn_past _ _ _ (c.in_ok-check_number.ensures 0 (view c.args.table.now) earlier c.in_ok-number.ensures.1 (tunnels_numbered earlier c.args.before.now says)).0
    (turn_past _ _ _ c.in_ok-endpoint.ensures.0
    (turn_past _ _ _ (c.in_ok-check_endpoint.ensures document (view c.args.table.now) (records key.Link document) its c.in_ok-endpoint.ensures.1 they).0
    (turn_past _ _ _ c.in_ok-route.ensures.0
    (turn_past _ _ _ c.in_ok-rate.ensures.0
    (turn_past _ _ _ c.in_ok-attr.ensures.0
    (turn_front _ _ _ (c.in_err-check_count.ensures earlier (says_length SaysTunnel earlier c.args.before.now says))))))))))

pub returns-in_err-tunnel : goal.returns-in_err-tunnel
returns-in_err-tunnel c = λ document earlier its they says.
    let p = err_from_is_err_and c.from_residual-in_err-tunnel.result c.from_residual-in_err-tunnel.ensures.1 in
    rw (p.1, p.2) (fault_memory _)

pub returns : goal.returns
unfolding tunnel_rules
returns c = λ document earlier its they says. (
  (turn_kept _ _ c.in_ok-number.ensures.0
      (turn_kept _ _ (c.in_ok-check_number.ensures 0 (view c.args.table.now) earlier c.in_ok-number.ensures.1 (tunnels_numbered earlier c.args.before.now says)).0
      (turn_kept _ _ c.in_ok-endpoint.ensures.0
      (turn_kept _ _ (c.in_ok-check_endpoint.ensures document (view c.args.table.now) (records key.Link document) its c.in_ok-endpoint.ensures.1 they).0
      (turn_kept _ _ c.in_ok-route.ensures.0
      (turn_kept _ _ c.in_ok-rate.ensures.0
      (turn_kept _ _ c.in_ok-attr.ensures.0
      (turn_kept _ _ (c.in_ok-check_count.ensures earlier (says_length SaysTunnel earlier c.args.before.now says)).0
      turn_end)))))))),
  new_said (view c.args.table.now) c.in_ok-number.number c.in_ok-endpoint.endpoint c.in_ok-attr.attr c.in_ok-route.route c.in_ok-rate.rate c.in_ok-tunnel.tunnel
      c.in_ok-number.ensures.1 c.in_ok-endpoint.ensures.1 c.in_ok-attr.ensures.1 c.in_ok-route.ensures.1 c.in_ok-rate.ensures.1 c.in_ok-tunnel.ensures,
)
