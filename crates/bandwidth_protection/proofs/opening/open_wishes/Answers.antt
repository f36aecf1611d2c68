-- Those that are found under each key are all.
use Rattle.std.proofs.Common.{Option, ap, ◌∙◌}
use Rattle.std.specs.FinMap.Entries.{find}
use Rattle.std.specs.Option.{option_and_then, option_or}
use Rattle.lsr_facts.specs.Orders.{key_cmp}
use Rattle.lsr_facts.specs.declared.path_fact.PathFact.{PathFact}
use Rattle.state_views.specs.Edits.{edited}
use Rattle.bandwidth_protection.specs.WishLaws.{wishes_all}
use Rattle.bandwidth_protection.specs.Narrowing.{open_wish}
use Rattle.bandwidth_protection.proofs.opening.open_wishes.Goals as goal

pub returns : goal.returns
returns g c =
    let r = g.V.StateView.router c.args.view.now in
    let s = g.V.StateView.state c.args.view.now in
    let e = c.args.edits.now in
    let kept = c.args.opening.now.kept in
    let left = c.args.opening.now.left in
    let known = c.in_ok-known.known in
    wishes_all r s e kept left known c.in_ok-all.all c.in_ok-known.ensures (λ key.
    c.in_ok-all.ensures key ∙ ap (λ rows. option_or (option_and_then (λ (row : Option PathFact). open_wish r (edited e s) kept left key) (find key_cmp key rows)) (find key_cmp key known)) c.as_slice.ensures.rows)
