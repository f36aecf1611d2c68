use Rattle.std.proofs.Common.{arith, ap, ◌∙◌}
use Rattle.sorted_rows.proofs.Passes.{passes_made}
use Rattle.timed_rows.specs.Timed.{TimedRows}
use Rattle.timed_rows.proofs.table.TimedTable.edit.Goals as goal

pub give_values-requires : goal.give_values-requires
give_values-requires g c =
    let taken = ap (λ (t : TimedRows _ _ _). t.rows) c.take_keys.ensures in
    let made = passes_made g.K.Ord.cmp g.met.K.Ord.total c.requires.exact c.args.edits _ _ _ c.args.self.now.rows _ c.into_rows-edits.ensures.rows c.reverse.ensures.items c.deref.ensures.value taken c.into_rows-edits.ensures.sorted c.rows_are_in_order.ensures.sorted in
    (omega arith, rw made c.requires.room)

pub returns : goal.returns
returns g c =
    let taken = ap (λ (t : TimedRows _ _ _). t.rows) c.take_keys.ensures in
    let made = passes_made g.K.Ord.cmp g.met.K.Ord.total c.requires.exact c.args.edits _ _ _ c.args.self.now.rows _ c.into_rows-edits.ensures.rows c.reverse.ensures.items c.deref.ensures.value taken c.into_rows-edits.ensures.sorted c.rows_are_in_order.ensures.sorted in
    let same = ap (λ (t : TimedRows _ _ _). t.timing) c.take_keys.ensures in
    c.give_values.ensures ∙ (λ i. record { timing = same i; rows = made i })
