-- There is one more count; in the end there are all.
use Rattle.std.proofs.Common.{◌∙◌, ◌++◌, ◌∷◌, [], List, ap, map}
use Rattle.std.specs.List.{enumerate_from}
use Rattle.worker_tallies.specs.declared.handled.Tally.{Tally}
use Rattle.lsr_console.specs.Counters.{counted_in, counts_with}
use Rattle.lsr_console.proofs.Counting.{all_items, more_items}
use Rattle.lsr_console.proofs.counters.counts_with.Goals as goal

pub loop-place-init : goal.loop-place-init
loop-place-init c = ap (λ (counts : List Tally). counts ++ map (counted_in c.args.before.now) (enumerate_from 0 c.args.round.now)) c.in_ok-counts.ensures.items

pub loop-place-preserved : goal.loop-place-preserved
loop-place-preserved c =
    more_items (counted_in c.args.before.now) c.args.round.now c.loop-place.place _ _ c.loop-place.counts.items c.push.new.self.items c.loop-place-test.true c.loop-place.invariant
    (c.in_ok-push.ensures.items ∙ ap (λ (count : Tally). c.loop-place.counts.items ++ count ∷ []) c.counted_at.ensures)

pub returns : goal.returns
unfolding counts_with
returns c = all_items (counted_in c.args.before.now) c.args.round.now c.loop-place.place _ c.loop-place.counts.items c.loop-place-test.false c.loop-place.invariant
