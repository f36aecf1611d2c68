-- A row below the next leaves what is left as it was.
use Rattle.std.proofs.Common.{sym, ◌∙◌}
use Rattle.fact_fields.proofs.Rising.{rising_on}
use Rattle.fact_fields.proofs.tables.is_rising.Goals as goal

pub loop-rest-preserved : goal.loop-rest-preserved
loop-rest-preserved g c =
    rising_on g.K.Ord.cmp g.met.K.Ord.total c.args.rows.now c.loop-rest.rest.now c.row-item.result _ c.in-len1-up.len_at_least c.row-item.is
    (sym c.if-not-is_below_next.false ∙ c.is_below_next.ensures) c.loop-rest.invariant
