use Rattle.std.proofs.lemmas.Result.{err_from_is_err_and}
use Rattle.toml.specs.View.{view}
use Rattle.lsr_config.specs.Configs.{setup}
use Rattle.lsr_config.specs.Documents.{rules_of}
use Rattle.lsr_config.proofs.Judging.{turn_front, turn_past, fault_memory}
use Rattle.lsr_config.proofs.Opening.{parts_open}
use Rattle.lsr_config.proofs.document.read_document.Goals as goal

pub returns-in_err-top : goal.returns-in_err-top
unfolding rules_of
returns-in_err-top c =
    let p = err_from_is_err_and c.from_residual.result c.from_residual.ensures.1 in
    rw (p.1, p.2)
    (turn_front _ _ _ c.in_err-top.ensures)

pub returns-in_err-links : goal.returns-in_err-links
unfolding rules_of
returns-in_err-links c =
    let p = err_from_is_err_and c.from_residual-in_err-links.result c.from_residual-in_err-links.ensures.1 in
    rw (p.1, p.2)
    (turn_past _ _ _ c.in_ok-top.ensures.0
    (turn_front _ _ _ c.in_err-links.ensures))

pub returns-in_err-routes : goal.returns-in_err-routes
unfolding rules_of
returns-in_err-routes c =
    let p = err_from_is_err_and c.from_residual-in_err-routes.result c.from_residual-in_err-routes.ensures.1 in
    rw (p.1, p.2)
    (turn_past _ _ _ c.in_ok-top.ensures.0
    (turn_past _ _ _ c.in_ok-links.ensures.0
    (turn_front _ _ _ c.in_err-routes.ensures)))

pub returns-in_err-tunnels : goal.returns-in_err-tunnels
unfolding rules_of
returns-in_err-tunnels c =
    let p = err_from_is_err_and c.from_residual-in_err-tunnels.result c.from_residual-in_err-tunnels.ensures.1 in
    rw (p.1, p.2)
    (turn_past _ _ _ c.in_ok-top.ensures.0
    (turn_past _ _ _ c.in_ok-links.ensures.0
    (turn_past _ _ _ c.in_ok-routes.ensures.0
    (turn_front _ _ _ c.in_err-tunnels.ensures))))

pub returns-in_err-bypasses : goal.returns-in_err-bypasses
unfolding rules_of
returns-in_err-bypasses c =
    let p = err_from_is_err_and c.from_residual-in_err-bypasses.result c.from_residual-in_err-bypasses.ensures.1 in
    rw (p.1, p.2)
    (turn_past _ _ _ c.in_ok-top.ensures.0
    (turn_past _ _ _ c.in_ok-links.ensures.0
    (turn_past _ _ _ c.in_ok-routes.ensures.0
    (turn_past _ _ _ c.in_ok-tunnels.ensures.0
    (turn_front _ _ _ c.in_err-bypasses.ensures)))))

pub returns-in_err-check_keys : goal.returns-in_err-check_keys
unfolding rules_of
returns-in_err-check_keys c =
    let p = err_from_is_err_and c.from_residual-in_err-check_keys.result c.from_residual-in_err-check_keys.ensures.1 in
    rw (p.1, p.2)
    (turn_past _ _ _ c.in_ok-top.ensures.0
    (turn_past _ _ _ c.in_ok-links.ensures.0
    (turn_past _ _ _ c.in_ok-routes.ensures.0
    (turn_past _ _ _ c.in_ok-tunnels.ensures.0
    (turn_past _ _ _ c.in_ok-bypasses.ensures.0
    (turn_front _ _ _ c.in_err-check_keys.ensures))))))

pub returns-in_err-link_table : goal.returns-in_err-link_table
returns-in_err-link_table c =
    let p = err_from_is_err_and c.from_residual-in_err-link_table.result c.from_residual-in_err-link_table.ensures.1 in
    rw (p.1, p.2) (fault_memory _)

pub returns-in_err-route_table : goal.returns-in_err-route_table
returns-in_err-route_table c =
    let p = err_from_is_err_and c.from_residual-in_err-route_table.result c.from_residual-in_err-route_table.ensures.1 in
    rw (p.1, p.2) (fault_memory _)

pub returns-in_err-tunnel_table : goal.returns-in_err-tunnel_table
returns-in_err-tunnel_table c =
    let p = err_from_is_err_and c.from_residual-in_err-tunnel_table.result c.from_residual-in_err-tunnel_table.ensures.1 in
    rw (p.1, p.2) (fault_memory _)

pub returns-in_err-bypass_table : goal.returns-in_err-bypass_table
returns-in_err-bypass_table c =
    let p = err_from_is_err_and c.from_residual-in_err-bypass_table.result c.from_residual-in_err-bypass_table.ensures.1 in
    rw (p.1, p.2) (fault_memory _)

pub invariant_of-result : goal.invariant_of-result
invariant_of-result c =
    (parts_open (view c.args.document.now)
    (setup (record { id = c.in_ok-top.top.id; refresh_ms = c.in_ok-top.top.refresh_ms; labels = c.in_ok-top.top.labels; label_rest_ms = c.in_ok-top.top.label_rest_ms; links = c.in_ok-link_table.link_table }) c.in_ok-route_table.route_table c.in_ok-tunnel_table.tunnel_table c.in_ok-bypass_table.bypass_table)
    c.in_ok-links.links.items c.in_ok-routes.routes.items c.in_ok-tunnels.tunnels.items c.in_ok-bypasses.bypasses.items
    c.in_ok-top.ensures c.in_ok-links.ensures c.in_ok-routes.ensures c.in_ok-tunnels.ensures c.in_ok-bypasses.ensures c.in_ok-check_keys.ensures.0
    c.in_ok-link_table.ensures c.in_ok-route_table.ensures c.in_ok-tunnel_table.ensures c.in_ok-bypass_table.ensures).1

pub returns : goal.returns
returns c =
    (parts_open (view c.args.document.now)
    (setup (record { id = c.in_ok-top.top.id; refresh_ms = c.in_ok-top.top.refresh_ms; labels = c.in_ok-top.top.labels; label_rest_ms = c.in_ok-top.top.label_rest_ms; links = c.in_ok-link_table.link_table }) c.in_ok-route_table.route_table c.in_ok-tunnel_table.tunnel_table c.in_ok-bypass_table.bypass_table)
    c.in_ok-links.links.items c.in_ok-routes.routes.items c.in_ok-tunnels.tunnels.items c.in_ok-bypasses.bypasses.items
    c.in_ok-top.ensures c.in_ok-links.ensures c.in_ok-routes.ensures c.in_ok-tunnels.ensures c.in_ok-bypasses.ensures c.in_ok-check_keys.ensures.0
    c.in_ok-link_table.ensures c.in_ok-route_table.ensures c.in_ok-tunnel_table.ensures c.in_ok-bypass_table.ensures).0
