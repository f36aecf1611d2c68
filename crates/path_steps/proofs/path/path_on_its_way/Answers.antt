use Rattle.std.proofs.Common.{Err, IfOk, Result, ap, subst, sym, ◌≡◌, ◌∙◌}
use Rattle.std.specs.Option.{option_copied}
use Rattle.lsr_facts.specs.declared.choice.Choice.{Choice}
use Rattle.lsr_facts.specs.declared.errors.RsvpError.{RsvpError}
use Rattle.abstract_paths.specs.Paths.{path_on_its_way, way_for}
use Rattle.abstract_paths.specs.Places.{Place}
use Rattle.message_rules.specs.Choosing.{IsChosen, error_of}
use Rattle.abstract_paths.specs.Places.{place_at}
use Rattle.message_rules.specs.RouteFault.{RouteFault}
use Rattle.state_views.specs.Drafts.{IsDraft}
use Rattle.path_steps.specs.Labelled.{labelled}
use Rattle.path_steps.proofs.path.path_on_its_way.Goals as goal

pub returns-in-Err-Error : goal.returns-in-Err-Error
unfolding path_on_its_way
returns-in-Err-Error g c =
    let r = g.V.StateView.router c.args.view.now in
    let s = g.V.StateView.state c.args.view.now in
    let known = option_copied c.args.arrived.now.known in
    let way = λ (place : Place). way_for place known c.args.arrived.now.path.now in
    let there = place_at c.node_of.result in
    let chosen : way there ≡ Err (error_of c.in-Err-Error.error) =
    subst (λ (fault : RouteFault). IsChosen (way there) (Err fault)) c.in-Err-Error.field-0-is c.in-Err-Error.ensures in
    subst (λ (found : Result Choice RsvpError). IfOk c.failed.result (λ draft. IsDraft draft (labelled r s known c.args.arrived.now.link c.args.arrived.now.path.now (path_on_its_way r s.facts known c.args.arrived.now.link c.args.arrived.now.path.now found)) r s))
    (sym (sym (ap way c.node_of.ensures) ∙ chosen ∙ ap Err (sym c.error.ensures))) c.failed.ensures
