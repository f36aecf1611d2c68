use Rattle.std.proofs.Common.{◌==◌, ap, length, ◌∙◌}
use Rattle.router_tables.proofs.Changing.{told_by_tunnel_edits}
use Rattle.router_tables.proofs.change.Change.changes_table.Goals as goal

pub returns-else-not-is_empty : goal.returns-else-not-is_empty
returns-else-not-is_empty c r s is =
    told_by_tunnel_edits r s c.args.self.now is c.is_empty.result c.is_empty-else-not-is_empty.result
    (c.is_empty.ensures ∙ ap (λ edits. length edits == 0) c.as_slice.ensures.rows)
    c.if-not-is_empty.false
    (c.is_empty-else-not-is_empty.ensures ∙ ap (λ edits. length edits == 0) c.as_slice-else-not-is_empty.ensures.rows)
