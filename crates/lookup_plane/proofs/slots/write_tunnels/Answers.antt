use Rattle.std.proofs.Common.{◌∙◌, sym, ap}
use Rattle.lookup_plane.specs.Slots.{written}
use Rattle.lookup_plane.proofs.Writes.{written_last}
use Rattle.lookup_plane.proofs.slots.write_tunnels.Goals as goal

pub loop-row-preserved : goal.loop-row-preserved
loop-row-preserved c =
    ap (written 0 c.in-Some.before.now) c.set.ensures
    ∙ sym (written_last 0 c.in-Some.before.now c.in-Some.row.now c.loop-row.slots)
    ∙ ap (λ rows. written 0 rows c.loop-row.slots) (sym c.in-Some.ensures.cases.0)
    ∙ c.loop-row.invariant
