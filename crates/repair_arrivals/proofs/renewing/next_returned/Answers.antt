-- The repair that it is for is found as it was before all.
use Rattle.std.proofs.Common.{◌≡◌, IfOk, Some, None, ap, sym, subst, true, ◌∙◌}
use Rattle.std.specs.Option.{option_copied}
use Rattle.std.specs.Prelude.{OnErr}
use Rattle.abstract_router.specs.Reserving as reserving
use Rattle.abstract_router.specs.Reserving.{key_in}
use Rattle.abstract_router.specs.Returning.{repair_from}
use Rattle.resv_arrivals.specs.Progresses.{is_heard}
use Rattle.repair_arrivals.proofs.Matches.{found_from}
use Rattle.repair_arrivals.proofs.Renewals.{next_is}
use Rattle.repair_arrivals.specs.Progresses.{reached}
use Rattle.repair_arrivals.proofs.renewing.next_returned.Goals as goal

pub renewed-requires-clause-found : goal.renewed-requires-clause-found
renewed-requires-clause-found g c =
    let r = g.V.StateView.router c.args.view.now in
    let s = g.V.StateView.state c.args.view.now in
    found_from r s c.args.resv.now.hop.address c.key_in.result c.in-Some.repair.now c.requires.in_order (sym c.repair_from.ensures ∙ ap option_copied c.in-Some.is)

pub returns-in_default-clause-carried : goal.returns-in_default-clause-carried
returns-in_default-clause-carried g c =
    let r = g.V.StateView.router c.args.view.now in
    let s = g.V.StateView.state c.args.view.now in
    let v = c.args.resv.now in
    let d = c.args.descriptor.now in
    next_is r c.args.style v d s c.args.progress None c.requires.reached
    (sym (ap option_copied c.in_default.is) ∙ c.repair_from.ensures ∙ ap (repair_from r s v.hop.address) c.key_in.ensures)

pub returns-clause-carried : goal.returns-clause-carried
returns-clause-carried g c =
    let r = g.V.StateView.router c.args.view.now in
    let s = g.V.StateView.state c.args.view.now in
    let v = c.args.resv.now in
    let d = c.args.descriptor.now in
    let found : Some c.in-Some.repair.now ≡ repair_from r s v.hop.address (key_in v d) = sym (ap option_copied c.in-Some.is) ∙ c.repair_from.ensures ∙ ap (repair_from r s v.hop.address) c.key_in.ensures in
    subst (λ (after : reserving.Progress). IfOk c.renewed.result (λ now. reached s now ≡ after))
    (next_is r c.args.style v d s c.args.progress (Some c.in-Some.repair.now) c.requires.reached found) c.renewed.ensures.carried

pub returns-clause-memory : goal.returns-clause-memory
returns-clause-memory g c =
    let r = g.V.StateView.router c.args.view.now in
    let s = g.V.StateView.state c.args.view.now in
    let v = c.args.resv.now in
    let d = c.args.descriptor.now in
    let found : Some c.in-Some.repair.now ≡ repair_from r s v.hop.address (key_in v d) = sym (ap option_copied c.in-Some.is) ∙ c.repair_from.ensures ∙ ap (repair_from r s v.hop.address) c.key_in.ensures in
    subst (λ (after : reserving.Progress). OnErr c.renewed.result (is_heard after ≡ true))
    (next_is r c.args.style v d s c.args.progress (Some c.in-Some.repair.now) c.requires.reached found) c.renewed.ensures.memory
