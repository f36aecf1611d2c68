-- One step more is passed; and behind the last one nothing is left.
use Rattle.std.proofs.Common.{◌≡◌, ◌+◌, ◌∙◌, Bool, List, [], Option, Some, ap, arith, drop, length, sym}
use Rattle.std.specs.Prelude.{if◌then◌else◌}
use Rattle.std.specs.Option.{option_copied, option_or}
use Rattle.std.proofs.Math.ListN.{drop_of_length-le}
use Rattle.std.proofs.lemmas.Slice.{between_to_end}
use Rattle.rsvp_bodies.specs.declared.step.Step.{Step}
use Rattle.abstract_paths.specs.BackupRoutes.{steps_after}
use Rattle.wanted_messages.proofs.Following.{leads_to, next_step, none_yet}
use Rattle.wanted_messages.proofs.routes.steps_after.Goals as goal
use Rattle.wanted_messages.proofs.routes.steps_after.Goals.{then-leads_to, else-leads_to}

pub loop-place-init : goal.loop-place-init
loop-place-init c = none_yet (steps_after c.args.address c.args.steps.now)

pub loop-place-preserved : goal.loop-place-preserved
loop-place-preserved c =
    let steps = c.args.steps.now in
    let place = c.loop-place.place in
    let found = option_copied c.loop-place.found in
    let by : Bool → Option (List Step) = λ leads. if leads then Some (drop (place + 1) steps) else found in
    let next : option_copied c.if-leads_to.found ≡ by (leads_to c.args.address c.index-steps-place.result) =
    elim c.if-leads_to.branch [
      | then-leads_to w ↦ ap option_copied w.found-is ∙ ap Some (between_to_end steps (place + 1) (length steps) (omega arith)) ∙ ap by (sym w.if-leads_to.true ∙ c.leads_to.ensures)
      | else-leads_to w ↦ ap option_copied w.found-is ∙ ap by (sym w.if-leads_to.false ∙ c.leads_to.ensures)
    ] in
    next_step c.args.address steps place c.index-steps-place.result found (option_copied c.if-leads_to.found) c.loop-place-test.true c.index-steps-place.is next c.loop-place.invariant

pub returns : goal.returns
unfolding steps_after
returns c =
    let none_left : drop c.loop-place.place c.args.steps.now ≡ [] = drop_of_length-le c.args.steps.now (c.loop-place-test.false) in
    sym (ap (λ (steps : List Step). option_or (steps_after c.args.address steps) (option_copied c.loop-place.found)) none_left) ∙ c.loop-place.invariant
