use Rattle.std.proofs.Common.{map, take}
use Rattle.std.proofs.lemmas.Result.{err_from_is_err_and}
use Rattle.toml.specs.View.{view}
use Rattle.lsr_config.specs.Documents.{tunnel_rules, SaysTunnel}
use Rattle.lsr_config.specs.declared.key.Key.TheVariants as key
use Rattle.lsr_config.proofs.Judging.{none_kept, one_more_kept, one_more_says, table_front, table_there, table_read, fault_memory}
use Rattle.lsr_config.proofs.tunnels.read_tunnels.Goals as goal

pub returns-in_err-records : goal.returns-in_err-records
returns-in_err-records c =
    let p = err_from_is_err_and c.from_residual.result c.from_residual.ensures.1 in
    rw (p.1, p.2) (table_front key.Tunnel (tunnel_rules (view c.args.document.now)) _ _ c.in_err-records.ensures)

pub loop-table-init : goal.loop-table-init
loop-table-init c = (none_kept (tunnel_rules (view c.args.document.now)), rw c.new-tunnels.ensures.items tt)

pub returns-in_err-tunnel : goal.returns-in_err-tunnel
returns-in_err-tunnel c =
    let p = err_from_is_err_and c.from_residual-in_err-tunnel.result c.from_residual-in_err-tunnel.ensures.1 in
    rw (p.1, p.2)
    (table_there key.Tunnel (tunnel_rules (view c.args.document.now)) _ c.in_ok-records.records.now c.loop-table.table-index c.table-item.result _ c.in_ok-records.ensures c.loop-table-test.true c.table-item.is c.loop-table.invariant.0
    (c.in_err-tunnel.ensures (view c.args.document.now) (map view (take c.loop-table.table-index c.in_ok-records.records.now)) c.requires.router c.requires.links (rw c.as_slice.ensures.value c.loop-table.invariant.1)))

pub returns-in_default : goal.returns-in_default
returns-in_default c = fault_memory _

pub loop-table-preserved : goal.loop-table-preserved
loop-table-preserved c =
    let read = c.in_ok-tunnel.ensures (view c.args.document.now) (map view (take c.loop-table.table-index c.in_ok-records.records.now)) c.requires.router c.requires.links (rw c.as_slice.ensures.value c.loop-table.invariant.1) in (
      one_more_kept (tunnel_rules (view c.args.document.now)) c.in_ok-records.records.now c.loop-table.table-index c.table-item.result c.loop-table-test.true c.table-item.is c.loop-table.invariant.0 read.0,
      rw c.in-Ok.ensures.items (one_more_says SaysTunnel c.in_ok-records.records.now c.loop-table.table-index c.table-item.result c.loop-table.tunnels.items _ c.loop-table-test.true c.table-item.is c.loop-table.invariant.1 read.1),
    )

pub returns : goal.returns
returns c = table_read SaysTunnel key.Tunnel (tunnel_rules (view c.args.document.now)) _ c.in_ok-records.records.now c.loop-table.table-index c.loop-table.tunnels.items c.in_ok-records.ensures c.loop-table-test.false c.loop-table.invariant
