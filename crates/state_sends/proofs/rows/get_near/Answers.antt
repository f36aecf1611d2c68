-- What ties with the key at the place is found.
use Rattle.std.proofs.Common.{◌<◌, ap, arith, length, sym, Some, ◌∙◌}
use Rattle.std.proofs.lemmas.List.{get_or_default}
use Rattle.abstract_paths.specs.StampLaws.{ties}
use Rattle.sorted_rows.proofs.Places.{find_at}
use Rattle.state_sends.proofs.rows.get_near.Goals as goal

pub returns-then-is_eq : goal.returns-then-is_eq
returns-then-is_eq g c =
    let rows = c.args.rows.now in
    let place = c.args.place in
    let key = c.args.key.now in
    let row = c.index-rows-place.result in
    let within : place < length rows = omega arith in
    record {
      found =
          ap (λ (r : _ × _). Some r.1) (get_or_default rows place c.index-rows-place-then-is_eq.result row within)
          ∙ sym (find_at g.K.Ord.cmp g.met.K.Ord.total key rows place row c.requires within (sym c.cmp.ensures ∙ ties c.cmp.result (sym c.is_eq.ensures ∙ c.if-is_eq.true)));
    }
