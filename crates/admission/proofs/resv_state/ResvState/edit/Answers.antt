use Rattle.std.proofs.Common.{◌≤◌, length, arith}
use Rattle.lsr_facts.specs.Orders.{key_cmp}
use Rattle.lsr_facts.specs.OrderLaws.{key_exact}
use Rattle.sorted_rows.specs.Edits.{edited}
use Rattle.admission.proofs.resv_state.ResvState.edit.Goals as goal

pub edit-requires : goal.edit-requires
edit-requires c =
    let fits : length (edited key_cmp c.args.edits c.self.inside.rows.rows) ≤ 1024 = rw c.self.view_is c.requires in
    (omega arith, (key_exact, fits))
