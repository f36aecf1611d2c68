use Rattle.std.proofs.Common.{◌<◌, length, arith, ap, sym, set, get_or, ◌∙◌}
use Rattle.std.proofs.lemmas.List.Edits.{map_over_more}
use Rattle.sorted_rows.proofs.reserved.leave_values.Goals as goal

pub loop-row-preserved : goal.loop-row-preserved
loop-row-preserved g c =
    let f : g.row.K.Denot × g.row.V.Denot → g.row.K.Denot × g.row.V.Denot = λ row. (row.0, g.S.Sweep.left c.args.sweep.now row.1) in
    let before = c.args.rows.now.items in
    let rows = c.loop-row.row-items in
    let at = c.loop-row.row-index in
    let row = c.row-item.result in
    let within : at < length before = omega arith in
    (λ i. set rows at ((get_or rows at row).0, c.leave.ensures i))
    ∙ ap (λ (r : g.row.K.Denot × g.row.V.Denot). set rows at (f r)) (sym c.row-item.is)
    ∙ map_over_more f before rows at row within c.loop-row.invariant c.row-item.is
