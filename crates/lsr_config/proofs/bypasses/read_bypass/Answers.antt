use Rattle.std.proofs.lemmas.Result.{err_from_is_err_and}
use Rattle.toml.specs.View.{view}
use Rattle.lsr_config.specs.Documents.{records, bypass_rules, SaysBypass}
use Rattle.lsr_config.specs.declared.key.Key.TheVariants as key
use Rattle.lsr_config.proofs.Judging.{turn_front, turn_past, turn_kept, turn_end, says_length}
use Rattle.lsr_config.proofs.Telling.{bypasses_numbered, links_numbered, tunnels_numbered}
use Rattle.lsr_config.proofs.bypasses.read_bypass.Goals as goal

pub returns-in_err-number : goal.returns-in_err-number
unfolding bypass_rules
returns-in_err-number c = λ document earlier links tunnels says.
    let p = err_from_is_err_and c.from_residual.result c.from_residual.ensures.1 in
    rw (p.1, p.2)
    (turn_front _ _ _ c.in_err-number.ensures)

pub returns-in_err-check_number : goal.returns-in_err-check_number
unfolding bypass_rules
returns-in_err-check_number c = λ document earlier links tunnels says.
    let p = err_from_is_err_and c.from_residual-in_err-check_number.result c.from_residual-in_err-check_number.ensures.1 in
    rw (p.1, p.2)
    (turn_past _ _ _ c.in_ok-number.ensures.0
    (turn_front _ _ _ (c.in_err-check_number.ensures 0 (view c.args.table.now) earlier c.in_ok-number.ensures.1 (bypasses_numbered earlier c.args.before.now says))))

pub returns-in_err-tunnel : goal.returns-in_err-tunnel
unfolding bypass_rules
returns-in_err-tunnel c = λ document earlier links tunnels says.
    let p = err_from_is_err_and c.from_residual-in_err-tunnel.result c.from_residual-in_err-tunnel.ensures.1 in
    rw (p.1, p.2)
    (turn_past _ _ _ c.in_ok-number.ensures.0
    (turn_past _ _ _ (c.in_ok-check_number.ensures 0 (view c.args.table.now) earlier c.in_ok-number.ensures.1 (bypasses_numbered earlier c.args.before.now says)).0
    (turn_front _ _ _ c.in_err-tunnel.ensures)))

pub returns-in_err-check_named : goal.returns-in_err-check_named
unfolding bypass_rules
returns-in_err-check_named c = λ document earlier links tunnels says.
    let p = err_from_is_err_and c.from_residual-in_err-check_named.result c.from_residual-in_err-check_named.ensures.1 in
    rw (p.1, p.2)
    (turn_past _ _ _ c.in_ok-number.ensures.0
    (turn_past _ _ _ (c.in_ok-check_number.ensures 0 (view c.args.table.now) earlier c.in_ok-number.ensures.1 (bypasses_numbered earlier c.args.before.now says)).0
    (turn_past _ _ _ c.in_ok-tunnel.ensures.0
    (turn_front _ _ _ (c.in_err-check_named.ensures 0 (view c.args.table.now) (records key.Tunnel document) c.in_ok-tunnel.ensures.1 (tunnels_numbered _ c.args.tunnels.now tunnels))))))

pub returns-in_err-link : goal.returns-in_err-link
unfolding bypass_rules
returns-in_err-link c = λ document earlier links tunnels says.
    let p = err_from_is_err_and c.from_residual-in_err-link.result c.from_residual-in_err-link.ensures.1 in
    rw (p.1, p.2)
    (turn_past _ _ _ c.in_ok-number.ensures.0
    (turn_past _ _ _ (c.in_ok-check_number.ensures 0 (view c.args.table.now) earlier c.in_ok-number.ensures.1 (bypasses_numbered earlier c.args.before.now says)).0
    (turn_past _ _ _ c.in_ok-tunnel.ensures.0
    (turn_past _ _ _ (c.in_ok-check_named.ensures 0 (view c.args.table.now) (records key.Tunnel document) c.in_ok-tunnel.ensures.1 (tunnels_numbered _ c.args.tunnels.now tunnels)).0
    (turn_front _ _ _ c.in_err-link.ensures)))))

pub returns-in_err-check_named-2 : goal.returns-in_err-check_named-2
unfolding bypass_rules
returns-in_err-check_named-2 c = λ document earlier links tunnels says.
    let p = err_from_is_err_and c.from_residual-in_err-check_named-2.result c.from_residual-in_err-check_named-2.ensures.1 in
    rw (p.1, p.2)
    (turn_past _ _ _ c.in_ok-number.ensures.0
    (turn_past _ _ _ (c.in_ok-check_number.ensures 0 (view c.args.table.now) earlier c.in_ok-number.ensures.1 (bypasses_numbered earlier c.args.before.now says)).0
    (turn_past _ _ _ c.in_ok-tunnel.ensures.0
    (turn_past _ _ _ (c.in_ok-check_named.ensures 0 (view c.args.table.now) (records key.Tunnel document) c.in_ok-tunnel.ensures.1 (tunnels_numbered _ c.args.tunnels.now tunnels)).0
    (turn_past _ _ _ c.in_ok-link.ensures.0
    (turn_front _ _ _ (c.in_err-check_named-2.ensures 1 (view c.args.table.now) (records key.Link document) c.in_ok-link.ensures.1 (links_numbered _ c.args.links.now links))))))))

pub returns-in_err-capacity : goal.returns-in_err-capacity
unfolding bypass_rules
returns-in_err-capacity c = λ document earlier links tunnels says.
    let p = err_from_is_err_and c.from_residual-in_err-capacity.result c.from_residual-in_err-capacity.ensures.1 in
    rw (p.1, p.2)
    (turn_past _ _ _ c.in_ok-number.ensures.0
    (turn_past _ _ _ (c.in_ok-check_number.ensures 0 (view c.args.table.now) earlier c.in_ok-number.ensures.1 (bypasses_numbered earlier c.args.before.now says)).0
    (turn_past _ _ _ c.in_ok-tunnel.ensures.0
    (turn_past _ _ _ (c.in_ok-check_named.ensures 0 (view c.args.table.now) (records key.Tunnel document) c.in_ok-tunnel.ensures.1 (tunnels_numbered _ c.args.tunnels.now tunnels)).0
    (turn_past _ _ _ c.in_ok-link.ensures.0
    (turn_past _ _ _ (c.in_ok-check_named-2.ensures 1 (view c.args.table.now) (records key.Link document) c.in_ok-link.ensures.1 (links_numbered _ c.args.links.now links)).0
    (turn_front _ _ _ c.in_err-capacity.ensures.judged)))))))

pub returns-in_err-check_capacity : goal.returns-in_err-check_capacity
unfolding bypass_rules
returns-in_err-check_capacity c = λ document earlier links tunnels says.
    let p = err_from_is_err_and c.from_residual-in_err-check_capacity.result c.from_residual-in_err-check_capacity.ensures.1 in
    rw (p.1, p.2)
    (turn_past _ _ _ c.in_ok-number.ensures.0
    (turn_past _ _ _ (c.in_ok-check_number.ensures 0 (view c.args.table.now) earlier c.in_ok-number.ensures.1 (bypasses_numbered earlier c.args.before.now says)).0
    (turn_past _ _ _ c.in_ok-tunnel.ensures.0
    (turn_past _ _ _ (c.in_ok-check_named.ensures 0 (view c.args.table.now) (records key.Tunnel document) c.in_ok-tunnel.ensures.1 (tunnels_numbered _ c.args.tunnels.now tunnels)).0
    (turn_past _ _ _ c.in_ok-link.ensures.0
    (turn_past _ _ _ (c.in_ok-check_named-2.ensures 1 (view c.args.table.now) (records key.Link document) c.in_ok-link.ensures.1 (links_numbered _ c.args.links.now links)).0
    (turn_past _ _ _ c.in_ok-capacity.ensures.judged.0
    (turn_front _ _ _ (c.in_err-check_capacity.ensures (view c.args.table.now) (records key.Tunnel document) c.in_ok-tunnel.ensures.1 c.in_ok-capacity.ensures.judged.1 tunnels)))))))))

pub returns-in_err-check_count : goal.returns-in_err-check_count
unfolding bypass_rules
returns-in_err-check_count c = λ document earlier links tunnels says.
    let p = err_from_is_err_and c.from_residual-in_err-check_count.result c.from_residual-in_err-check_count.ensures.1 in
    rw (p.1, p.2)
    (turn_past _ _ _ c.in_ok-number.ensures.0
    (turn_past _ _ _ (c.in_ok-check_number.ensures 0 (view c.args.table.now) earlier c.in_ok-number.ensures.1 (bypasses_numbered earlier c.args.before.now says)).0
    (turn_past _ _ _ c.in_ok-tunnel.ensures.0
    (turn_past _ _ _ (c.in_ok-check_named.ensures 0 (view c.args.table.now) (records key.Tunnel document) c.in_ok-tunnel.ensures.1 (tunnels_numbered _ c.args.tunnels.now tunnels)).0
    (turn_past _ _ _ c.in_ok-link.ensures.0
    (turn_past _ _ _ (c.in_ok-check_named-2.ensures 1 (view c.args.table.now) (records key.Link document) c.in_ok-link.ensures.1 (links_numbered _ c.args.links.now links)).0
    (turn_past _ _ _ c.in_ok-capacity.ensures.judged.0
    (turn_past _ _ _ (c.in_ok-check_capacity.ensures (view c.args.table.now) (records key.Tunnel document) c.in_ok-tunnel.ensures.1 c.in_ok-capacity.ensures.judged.1 tunnels).0
    (turn_front _ _ _ (c.in_err-check_count.ensures earlier (says_length SaysBypass earlier c.args.before.now says)))))))))))

pub returns : goal.returns
unfolding bypass_rules
returns c = λ document earlier links tunnels says. (
  (turn_kept _ _ c.in_ok-number.ensures.0
      (turn_kept _ _ (c.in_ok-check_number.ensures 0 (view c.args.table.now) earlier c.in_ok-number.ensures.1 (bypasses_numbered earlier c.args.before.now says)).0
      (turn_kept _ _ c.in_ok-tunnel.ensures.0
      (turn_kept _ _ (c.in_ok-check_named.ensures 0 (view c.args.table.now) (records key.Tunnel document) c.in_ok-tunnel.ensures.1 (tunnels_numbered _ c.args.tunnels.now tunnels)).0
      (turn_kept _ _ c.in_ok-link.ensures.0
      (turn_kept _ _ (c.in_ok-check_named-2.ensures 1 (view c.args.table.now) (records key.Link document) c.in_ok-link.ensures.1 (links_numbered _ c.args.links.now links)).0
      (turn_kept _ _ c.in_ok-capacity.ensures.judged.0
      (turn_kept _ _ (c.in_ok-check_capacity.ensures (view c.args.table.now) (records key.Tunnel document) c.in_ok-tunnel.ensures.1 c.in_ok-capacity.ensures.judged.1 tunnels).0
      (turn_kept _ _ (c.in_ok-check_count.ensures earlier (says_length SaysBypass earlier c.args.before.now says)).0
      turn_end))))))))),
  record { number = c.in_ok-number.ensures.1; tunnel = c.in_ok-tunnel.ensures.1; link = c.in_ok-link.ensures.1; capacity = c.in_ok-capacity.ensures.judged.1 },
)
