-- The row at this place has its lines too.
use Rattle.std.proofs.Common.{arith, string_bytes}
use Rattle.lsr_watch.specs.Lsps.{lost_line}
use Rattle.lsr_watch.proofs.Walks.{place_more_at}
use Rattle.lsr_watch.proofs.lsps.push_all_lost.Goals as goal

pub loop-place-preserved : goal.loop-place-preserved
loop-place-preserved g c =
    place_more_at (λ row. lost_line c.args.after.now row.0) (string_bytes c.args.text.now) (string_bytes c.loop-place.text) (string_bytes c.push_if_lost.new.text) c.args.rows.now c.loop-place.place c.index-rows-place.result (omega (arith, c.loop-place-test.true))
    c.loop-place.invariant c.in_ok-push_if_lost.ensures
