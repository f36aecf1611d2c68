use Rattle.std.proofs.Common.{nat_lt, subst}
use Rattle.abstract_router.specs.Tables.{TellsChange}
use Rattle.router_tables.specs.States.{RouterState, emptied, state_of}
use Rattle.router_tables.proofs.Forwarded.{told_by_labels, told_by_tunnels}
use Rattle.router_tables.proofs.tables.Tables.is_forwarding.Goals as goal

pub returns-then-label_count-gt0 : goal.returns-then-label_count-gt0
returns-then-label_count-gt0 c =
    let rows = c.self.inside.rows in
    subst (λ (t : RouterState). TellsChange (nat_lt 0 c.label_count.result) t.router t.state (emptied t.state)) c.self.view_is
    (told_by_labels rows.router (state_of rows) rows.table.labels c.label_count.result c.self.invariant.table c.label_count.ensures c.if-label_count-gt0.true)

pub returns-else-label_count-gt0 : goal.returns-else-label_count-gt0
returns-else-label_count-gt0 c =
    let rows = c.self.inside.rows in
    subst (λ (t : RouterState). TellsChange (nat_lt 0 c.tunnel_count.result) t.router t.state (emptied t.state)) c.self.view_is
    (told_by_tunnels rows.router (state_of rows) rows.table.labels rows.table.tunnels c.label_count.result c.tunnel_count.result c.self.invariant.table c.self.invariant.tunnel_table c.label_count.ensures c.if-label_count-gt0.false c.tunnel_count.ensures)
