use Rattle.std.proofs.Common.{◌≡◌, ◌<◌, ◌≤◌, ◌++◌, ℕ, [], suc, false, filter, get_or, length, sym, ap, ◌∙◌, arith}
use Rattle.std.proofs.lemmas.List.{take_all}
use Rattle.std.specs.List.{cons_option, filter_map}
use Rattle.slab.specs.Slab.{get}
use Rattle.slot_rows.proofs.SlotReads.{keys_more}
use Rattle.sorted_rows.specs.Rows.{keys_of}
use Rattle.timed_rows.specs.Gathered.{passes_at}
use Rattle.timed_rows.proofs.Gather.{among_from, among_rest, none_between, not_passing}
use Rattle.timed_rows.proofs.gathered.keys_at.Goals as goal

pub loop-place-preserved : goal.loop-place-preserved
loop-place-preserved g c =
    let passes = g.R.RowTest.passes c.args.test.now in
    let of = get c.args.slots.now in
    let order = c.args.by_key.now in
    let places = c.args.places.now in
    let i = c.loop-place.place-index in
    let next = c.loop-place.next in
    let place = get_or places i 0 in
    let was = c.loop-place.invariant in
    let in_i : i < length places = omega arith in
    let from_next : next ≤ place = omega arith in
    let in_order : place < length order = omega arith in
    let between : (k : ℕ) → next ≤ k → k < place → k < length order → passes_at passes (of (get_or order k 0)) ≡ false = λ k low high in_k.
    not_passing passes of (of (get_or order k 0)) (λ yes.
    let from = among_from places i k place (λ j at in_j. c.requires.rise i j 0 at in_j) (was.rest k low in_k yes) in
    omega (arith, from, high)) in
    let before = was.keys ∙ ap keys_of (sym (none_between passes of order next place from_next between)) in
    let pushed = rw c.from.ensures at c.in_ok-push_passing.ensures in
    record {
      within = omega (arith, in_order);
      keys = pushed ∙ ap (λ keys. keys ++ keys_of (filter passes (cons_option (of (get_or order place 0)) []))) before ∙ sym (keys_more passes of order place 0 in_order);
      rest = λ k low in_k yes. among_rest places i k in_i (was.rest k (omega (arith, low, from_next)) in_k yes) (λ same. omega (arith, same, low));
    }

pub returns : goal.returns
returns g c =
    let passes = g.R.RowTest.passes c.args.test.now in
    let of = get c.args.slots.now in
    let order = c.args.by_key.now in
    let places = c.args.places.now in
    let i = c.loop-place.place-index in
    let next = c.loop-place.next in
    let was = c.loop-place.invariant in
    let past : length places ≤ i = omega arith in
    let between : (k : ℕ) → next ≤ k → k < length order → k < length order → passes_at passes (of (get_or order k 0)) ≡ false = λ k low high in_k.
    not_passing passes of (of (get_or order k 0)) (λ yes.
    let from = among_from places i k (suc k) (λ j at in_j. absurd (omega (arith, at, in_j, past))) (was.rest k low in_k yes) in
    omega (arith, from)) in
    was.keys
    ∙ ap keys_of (sym (none_between passes of order next (length order) was.within between) ∙ ap (λ slots. filter passes (filter_map of slots)) (take_all (length order) order (omega arith)))
