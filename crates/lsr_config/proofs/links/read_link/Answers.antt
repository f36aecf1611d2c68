use Rattle.std.proofs.lemmas.Result.{err_from_is_err_and}
use Rattle.toml.specs.View.{view}
use Rattle.lsr_config.specs.Documents.{link_rules, SaysLink}
use Rattle.lsr_config.proofs.Judging.{turn_front, turn_past, turn_kept, turn_end, says_length}
use Rattle.lsr_config.proofs.Telling.{links_numbered}
use Rattle.lsr_config.proofs.links.read_link.Goals as goal

pub returns-in_err-number : goal.returns-in_err-number
unfolding link_rules
returns-in_err-number c = λ document earlier its says.
    let p = err_from_is_err_and c.from_residual.result c.from_residual.ensures.1 in
    rw (p.1, p.2)
    (turn_front _ _ _ c.in_err-number.ensures)

pub returns-in_err-check_number : goal.returns-in_err-check_number
unfolding link_rules
returns-in_err-check_number c = λ document earlier its says.
    let p = err_from_is_err_and c.from_residual-in_err-check_number.result c.from_residual-in_err-check_number.ensures.1 in
    rw (p.1, p.2)
    (turn_past _ _ _ c.in_ok-number.ensures.0
    (turn_front _ _ _ (c.in_err-check_number.ensures 1 (view c.args.table.now) earlier c.in_ok-number.ensures.1 (links_numbered earlier c.args.before.now says))))

pub returns-in_err-address : goal.returns-in_err-address
unfolding link_rules
returns-in_err-address c = λ document earlier its says.
    let p = err_from_is_err_and c.from_residual-in_err-address.result c.from_residual-in_err-address.ensures.1 in
    rw (p.1, p.2)
    (turn_past _ _ _ c.in_ok-number.ensures.0
    (turn_past _ _ _ (c.in_ok-check_number.ensures 1 (view c.args.table.now) earlier c.in_ok-number.ensures.1 (links_numbered earlier c.args.before.now says)).0
    (turn_front _ _ _ c.in_err-address.ensures)))

pub returns-in_err-check_address : goal.returns-in_err-check_address
unfolding link_rules
returns-in_err-check_address c = λ document earlier its says.
    let p = err_from_is_err_and c.from_residual-in_err-check_address.result c.from_residual-in_err-check_address.ensures.1 in
    rw (p.1, p.2)
    (turn_past _ _ _ c.in_ok-number.ensures.0
    (turn_past _ _ _ (c.in_ok-check_number.ensures 1 (view c.args.table.now) earlier c.in_ok-number.ensures.1 (links_numbered earlier c.args.before.now says)).0
    (turn_past _ _ _ c.in_ok-address.ensures.0
    (turn_front _ _ _ (c.in_err-check_address.ensures document (view c.args.table.now) earlier its c.in_ok-address.ensures.1 says)))))

pub returns-in_err-peer : goal.returns-in_err-peer
unfolding link_rules
returns-in_err-peer c = λ document earlier its says.
    let p = err_from_is_err_and c.from_residual-in_err-peer.result c.from_residual-in_err-peer.ensures.1 in
    rw (p.1, p.2)
    (turn_past _ _ _ c.in_ok-number.ensures.0
    (turn_past _ _ _ (c.in_ok-check_number.ensures 1 (view c.args.table.now) earlier c.in_ok-number.ensures.1 (links_numbered earlier c.args.before.now says)).0
    (turn_past _ _ _ c.in_ok-address.ensures.0
    (turn_past _ _ _ (c.in_ok-check_address.ensures document (view c.args.table.now) earlier its c.in_ok-address.ensures.1 says).0
    (turn_front _ _ _ c.in_err-peer.ensures)))))

pub returns-in_err-peer_router : goal.returns-in_err-peer_router
unfolding link_rules
returns-in_err-peer_router c = λ document earlier its says.
    let p = err_from_is_err_and c.from_residual-in_err-peer_router.result c.from_residual-in_err-peer_router.ensures.1 in
    rw (p.1, p.2)
    (turn_past _ _ _ c.in_ok-number.ensures.0
    (turn_past _ _ _ (c.in_ok-check_number.ensures 1 (view c.args.table.now) earlier c.in_ok-number.ensures.1 (links_numbered earlier c.args.before.now says)).0
    (turn_past _ _ _ c.in_ok-address.ensures.0
    (turn_past _ _ _ (c.in_ok-check_address.ensures document (view c.args.table.now) earlier its c.in_ok-address.ensures.1 says).0
    (turn_past _ _ _ c.in_ok-peer.ensures.0
    (turn_front _ _ _ c.in_err-peer_router.ensures))))))

pub returns-in_err-limit : goal.returns-in_err-limit
unfolding link_rules
returns-in_err-limit c = λ document earlier its says.
    let p = err_from_is_err_and c.from_residual-in_err-limit.result c.from_residual-in_err-limit.ensures.1 in
    rw (p.1, p.2)
    (turn_past _ _ _ c.in_ok-number.ensures.0
    (turn_past _ _ _ (c.in_ok-check_number.ensures 1 (view c.args.table.now) earlier c.in_ok-number.ensures.1 (links_numbered earlier c.args.before.now says)).0
    (turn_past _ _ _ c.in_ok-address.ensures.0
    (turn_past _ _ _ (c.in_ok-check_address.ensures document (view c.args.table.now) earlier its c.in_ok-address.ensures.1 says).0
    (turn_past _ _ _ c.in_ok-peer.ensures.0
    (turn_past _ _ _ c.in_ok-peer_router.ensures.0
    (turn_front _ _ _ c.in_err-limit.ensures.judged)))))))

pub returns-in_err-up : goal.returns-in_err-up
unfolding link_rules
returns-in_err-up c = λ document earlier its says.
    let p = err_from_is_err_and c.from_residual-in_err-up.result c.from_residual-in_err-up.ensures.1 in
    rw (p.1, p.2)
    (turn_past _ _ _ c.in_ok-number.ensures.0
    (turn_past _ _ _ (c.in_ok-check_number.ensures 1 (view c.args.table.now) earlier c.in_ok-number.ensures.1 (links_numbered earlier c.args.before.now says)).0
    (turn_past _ _ _ c.in_ok-address.ensures.0
    (turn_past _ _ _ (c.in_ok-check_address.ensures document (view c.args.table.now) earlier its c.in_ok-address.ensures.1 says).0
    (turn_past _ _ _ c.in_ok-peer.ensures.0
    (turn_past _ _ _ c.in_ok-peer_router.ensures.0
    (turn_past _ _ _ c.in_ok-limit.ensures.judged.0
    (turn_front _ _ _ c.in_err-up.ensures))))))))

pub returns-in_err-check_socket : goal.returns-in_err-check_socket
unfolding link_rules
returns-in_err-check_socket c = λ document earlier its says.
    let p = err_from_is_err_and c.from_residual-in_err-check_socket.result c.from_residual-in_err-check_socket.ensures.1 in
    rw (p.1, p.2)
    (turn_past _ _ _ c.in_ok-number.ensures.0
    (turn_past _ _ _ (c.in_ok-check_number.ensures 1 (view c.args.table.now) earlier c.in_ok-number.ensures.1 (links_numbered earlier c.args.before.now says)).0
    (turn_past _ _ _ c.in_ok-address.ensures.0
    (turn_past _ _ _ (c.in_ok-check_address.ensures document (view c.args.table.now) earlier its c.in_ok-address.ensures.1 says).0
    (turn_past _ _ _ c.in_ok-peer.ensures.0
    (turn_past _ _ _ c.in_ok-peer_router.ensures.0
    (turn_past _ _ _ c.in_ok-limit.ensures.judged.0
    (turn_past _ _ _ c.in_ok-up.ensures.0
    (turn_front _ _ _ c.in_err-check_socket.ensures)))))))))

pub returns-in_err-check_socket-2 : goal.returns-in_err-check_socket-2
unfolding link_rules
returns-in_err-check_socket-2 c = λ document earlier its says.
    let p = err_from_is_err_and c.from_residual-in_err-check_socket-2.result c.from_residual-in_err-check_socket-2.ensures.1 in
    rw (p.1, p.2)
    (turn_past _ _ _ c.in_ok-number.ensures.0
    (turn_past _ _ _ (c.in_ok-check_number.ensures 1 (view c.args.table.now) earlier c.in_ok-number.ensures.1 (links_numbered earlier c.args.before.now says)).0
    (turn_past _ _ _ c.in_ok-address.ensures.0
    (turn_past _ _ _ (c.in_ok-check_address.ensures document (view c.args.table.now) earlier its c.in_ok-address.ensures.1 says).0
    (turn_past _ _ _ c.in_ok-peer.ensures.0
    (turn_past _ _ _ c.in_ok-peer_router.ensures.0
    (turn_past _ _ _ c.in_ok-limit.ensures.judged.0
    (turn_past _ _ _ c.in_ok-up.ensures.0
    (turn_past _ _ _ c.in_ok-check_socket.ensures.0
    (turn_front _ _ _ c.in_err-check_socket-2.ensures))))))))))

pub returns-in_err-check_count : goal.returns-in_err-check_count
unfolding link_rules
returns-in_err-check_count c = λ document earlier its says.
    let p = err_from_is_err_and c.from_residual-in_err-check_count.result c.from_residual-in_err-check_count.ensures.1 in
    rw (p.1, p.2)
    (turn_past _ _ _ c.in_ok-number.ensures.0
    (turn_past _ _ _ (c.in_ok-check_number.ensures 1 (view c.args.table.now) earlier c.in_ok-number.ensures.1 (links_numbered earlier c.args.before.now says)).0
    (turn_past _ _ _ c.in_ok-address.ensures.0
    (turn_past _ _ _ (c.in_ok-check_address.ensures document (view c.args.table.now) earlier its c.in_ok-address.ensures.1 says).0
    (turn_past _ _ _ c.in_ok-peer.ensures.0
    (turn_past _ _ _ c.in_ok-peer_router.ensures.0
    (turn_past _ _ _ c.in_ok-limit.ensures.judged.0
    (turn_past _ _ _ c.in_ok-up.ensures.0
    (turn_past _ _ _ c.in_ok-check_socket.ensures.0
    (turn_past _ _ _ c.in_ok-check_socket-2.ensures.0
    (turn_front _ _ _ (c.in_err-check_count.ensures earlier (says_length SaysLink earlier c.args.before.now says)))))))))))))

pub returns : goal.returns
unfolding link_rules
returns c = λ document earlier its says. (
  (turn_kept _ _ c.in_ok-number.ensures.0
      (turn_kept _ _ (c.in_ok-check_number.ensures 1 (view c.args.table.now) earlier c.in_ok-number.ensures.1 (links_numbered earlier c.args.before.now says)).0
      (turn_kept _ _ c.in_ok-address.ensures.0
      (turn_kept _ _ (c.in_ok-check_address.ensures document (view c.args.table.now) earlier its c.in_ok-address.ensures.1 says).0
      (turn_kept _ _ c.in_ok-peer.ensures.0
      (turn_kept _ _ c.in_ok-peer_router.ensures.0
      (turn_kept _ _ c.in_ok-limit.ensures.judged.0
      (turn_kept _ _ c.in_ok-up.ensures.0
      (turn_kept _ _ c.in_ok-check_socket.ensures.0
      (turn_kept _ _ c.in_ok-check_socket-2.ensures.0
      (turn_kept _ _ (c.in_ok-check_count.ensures earlier (says_length SaysLink earlier c.args.before.now says)).0
      turn_end))))))))))),
  record {
    number = c.in_ok-number.ensures.1;
    address = c.in_ok-address.ensures.1;
    peer = c.in_ok-peer.ensures.1;
    peer_router = c.in_ok-peer_router.ensures.1;
    limit = c.in_ok-limit.ensures.judged.1;
    up = c.in_ok-up.ensures.1;
  },
)
