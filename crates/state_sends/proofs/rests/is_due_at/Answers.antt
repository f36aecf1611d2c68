-- An item that ties with the one at a place is due.
use Rattle.std.proofs.Common.{ap, arith, sym, ◌∙◌}
use Rattle.abstract_paths.specs.StampLaws.{ties}
use Rattle.state_sends.proofs.Searching.{tied_at}
use Rattle.state_sends.proofs.rests.is_due_at.Goals as goal

pub returns : goal.returns
returns g c equal =
    let item = c.args.item.now in
    let other = c.index-due-place.result in
    tied_at g.I.Ord.cmp g.met.I.Ord.total item c.args.due.now c.args.place other (omega arith)
    (ap (λ x. g.I.Ord.cmp x item) (sym c.index-due-place.is) ∙ sym c.cmp.ensures ∙ ties c.cmp.result (sym c.is_eq.ensures ∙ equal))
