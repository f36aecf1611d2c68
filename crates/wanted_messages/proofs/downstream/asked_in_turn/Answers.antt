-- One LSP more is asked: what it wants is put after the others, at its next hop and through a bypass.
use Rattle.abstract_paths.specs.RowLaws.{one_more}
use Rattle.abstract_router.specs.Wanted.{backup_at, downstream_at}
use Rattle.wanted_messages.proofs.downstream.asked_in_turn.Goals as goal

pub loop-row-preserved : goal.loop-row-preserved
loop-row-preserved g c =
    let r = g.V.StateView.router c.args.view.now in
    let s = g.V.StateView.state c.args.view.now in
    let touched = c.args.touched.now in
    let at = c.loop-row.row-index in
    let row = c.row-item.result in
    record {
      rows = one_more (λ (e : _ × _). downstream_at r s e.0) c.loop-row.rows.items c.in_ok-rows.rows.items touched at row c.in_ok-downstream_at.field-0 c.loop-row-test.true c.row-item.is c.loop-row.invariant.rows c.in_ok-downstream_at.ensures c.in_ok-rows.ensures;
      backups = one_more (λ (e : _ × _). backup_at r s e.0) c.loop-row.backups.items c.in_ok-backups.backups.items touched at row c.in_ok-backup_at.field-0 c.loop-row-test.true c.row-item.is c.loop-row.invariant.backups c.in_ok-backup_at.ensures.row c.in_ok-backups.ensures;
    }
