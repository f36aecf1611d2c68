-- The row at this place has its lines too.
use Rattle.std.proofs.Common.{arith, string_bytes}
use Rattle.lsr_watch.specs.Lsps.{reserved_line}
use Rattle.lsr_watch.proofs.Walks.{place_more}
use Rattle.lsr_watch.proofs.lsps.push_all_reserved.Goals as goal

pub loop-place-preserved : goal.loop-place-preserved
loop-place-preserved c =
    place_more (reserved_line c.args.before.now) (string_bytes c.args.text.now) (string_bytes c.loop-place.text) (string_bytes c.push_if_reserved.new.text) c.args.rows.now c.loop-place.place c.index-rows-place.result (omega (arith, c.loop-place-test.true))
    c.index-rows-place.is c.loop-place.invariant c.in_ok-push_if_reserved.ensures
