-- The row at the place has the key.
use Rattle.std.proofs.Common.{◌<◌, ap, sym, subst, T, ◌∙◌, arith, length, get_or}
use Rattle.std.proofs.lemmas.List.{get_or_default}
use Rattle.std.specs.FinMap.Entries.{find, is_sorted}
use Rattle.sorted_rows.proofs.Places.{find_at}
use Rattle.lsr_watch.proofs.Walks.{tied}
use Rattle.lsr_watch.proofs.near.get_near.Goals as goal

pub returns-then-is_eq : goal.returns-then-is_eq
returns-then-is_eq g c =
    let rows = c.as_slice-rows.result.now in
    let row = c.index-rows-place-then-is_eq.result in
    let key = c.args.key.now in
    let within : c.args.place < length rows = omega (arith, c.if-place-rows.true) in
    let tie = tied g.K.Ord.cmp key (get_or rows c.args.place row) (get_or rows c.args.place c.index-rows-place.result) c.cmp.result (get_or_default rows c.args.place row c.index-rows-place.result within) c.cmp.ensures (sym c.is_eq.ensures ∙ c.if-is_eq.true) in
    let sorted = subst (λ l. T (is_sorted g.K.Ord.cmp l)) (sym c.as_slice-rows.ensures.rows) c.as_slice-rows.ensures.sorted in
    sym (ap (find g.K.Ord.cmp key) (sym c.as_slice-rows.ensures.rows) ∙ find_at g.K.Ord.cmp g.met.K.Ord.total key rows c.args.place row sorted within tie)
