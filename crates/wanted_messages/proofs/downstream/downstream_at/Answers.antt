-- What is known under a key goes on as messages.
use Rattle.std.proofs.Common.{IfSome, Option, subst, sym}
use Rattle.lsr_facts.specs.declared.path_fact.PathFact.{PathFact}
use Rattle.wanted_messages.specs.Fitting.{CanGoOn}
use Rattle.wanted_messages.specs.PathLaws.{known_goes_on}
use Rattle.wanted_messages.proofs.downstream.downstream_at.Goals as goal

pub downstream_row-requires : goal.downstream_row-requires
downstream_row-requires g c =
    let r = g.V.StateView.router c.args.view.now in
    let s = (g.V.StateView.state c.args.view.now).facts in
    let key = c.args.key.now in
    subst (λ (known : Option PathFact). IfSome known (CanGoOn r key)) (sym c.in-Some.ensures.path) (known_goes_on r s.moment key s.paths c.requires)
