use Rattle.std.proofs.Common.{◌∙◌}
use Rattle.sorted_rows.proofs.Passes.{passes_made}
use Rattle.slot_rows.proofs.edits.make_edits.Goals as goal

pub give_values-requires : goal.give_values-requires
give_values-requires g c =
    let made = passes_made g.K.Ord.cmp g.met.K.Ord.total c.requires.exact c.args.edits _ _ _ (g.R.EditRows.rows c.args.table.now) _ c.into_rows-edits.ensures.rows c.reverse.ensures.items c.deref.ensures.value c.take_keys.ensures c.into_rows-edits.ensures.sorted c.keys_rise.ensures in
    rw made c.requires.room

pub returns : goal.returns
returns g c =
    c.give_values.ensures
    ∙ passes_made g.K.Ord.cmp g.met.K.Ord.total c.requires.exact c.args.edits _ _ _ (g.R.EditRows.rows c.args.table.now) _ c.into_rows-edits.ensures.rows c.reverse.ensures.items c.deref.ensures.value c.take_keys.ensures c.into_rows-edits.ensures.sorted c.keys_rise.ensures
