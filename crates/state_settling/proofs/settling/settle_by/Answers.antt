-- The stages before that of the labels leave these as they are, and the first leaves paths as they should be.
use Rattle.std.proofs.Common.{◌≤◌, ◌^◌, ℕ, List, ap, length, subst, sym, ◌∙◌}
use Rattle.std.specs.List.{AllByRecursion}
use Rattle.std.specs.Prelude.{Some}
use Rattle.lsr_facts.specs.Limits.{max_bypasses}
use Rattle.lsr_facts.specs.Orders.{key_cmp}
use Rattle.lsr_facts.specs.declared.bypass.Bypass.{Bypass}
use Rattle.lsr_facts.specs.declared.key.Key.{Key}
use Rattle.lsr_facts.specs.declared.path_fact.PathFact.{PathFact}
use Rattle.lsr_facts.specs.declared.state.State.{State}
use Rattle.bypass_shares.specs.Shares.{IsWithin}
use Rattle.label_space.specs.Rests.{resting_past}
use Rattle.abstract_paths.specs.MessageLaws.{LeavesRoom}
use Rattle.abstract_router.specs.Assigning.{assigned_anew, assignments_left, capacity_in, in_use_of}
use Rattle.abstract_router.specs.Repairing.{repaired, repairs_left}
use Rattle.abstract_router.specs.Steps.{resvs_left}
use Rattle.state_views.specs.Edits.{edited}
use Rattle.state_settling.specs.PromisesLaws.{are_held, assignments-taken_over, bypasses-taken_over, labels-stood, moment-stood, rest_past, resting-stood, within-taken_over}
use Rattle.state_settling.specs.RepairsLaws.{rooms-taken_over}
use Rattle.state_settling.proofs.settling.settle_by.Goals as goal

pub promise_anew-requires-clause-promises : goal.promise_anew-requires-clause-promises
promise_anew-requires-clause-promises g c =
    let r = g.V.StateView.router c.args.view.now in
    let s = g.V.StateView.state c.args.view.now in
    ap (λ (after : State). after.assignments) c.in_ok-take_over.ensures ∙ assignments-taken_over r (edited c.args.edits s) ∙ c.requires.promises

pub promise_anew-requires-clause-within : goal.promise_anew-requires-clause-within
promise_anew-requires-clause-within g c =
    let r = g.V.StateView.router c.args.view.now in
    let s = g.V.StateView.state c.args.view.now in
    subst (λ (after : State). IsWithin key_cmp (capacity_in after.facts.bypasses) (in_use_of after)) (sym c.in_ok-take_over.ensures)
    (within-taken_over r (edited c.args.edits s) c.requires.within)

pub promise_anew-requires-clause-few : goal.promise_anew-requires-clause-few
promise_anew-requires-clause-few g c =
    let r = g.V.StateView.router c.args.view.now in
    let s = g.V.StateView.state c.args.view.now in
    subst (λ (bypasses : List (ℕ × Bypass)). length bypasses ≤ max_bypasses) (sym (ap (λ (after : State). after.facts.bypasses) c.in_ok-take_over.ensures ∙ bypasses-taken_over r (edited c.args.edits s)))
    c.requires.standing.bypasses.few

pub repair_all-requires-clause-room : goal.repair_all-requires-clause-room
repair_all-requires-clause-room g c =
    let r = g.V.StateView.router c.args.view.now in
    let s = g.V.StateView.state c.args.view.now in
    subst (λ (after : State). AllByRecursion (λ (path : Key × PathFact). LeavesRoom (Some path.1.tspec)) after.facts.paths)
    (sym (c.in_ok-promise_anew.ensures ∙ ap (assigned_anew r) c.in_ok-take_over.ensures))
    (rooms-taken_over r (edited c.args.edits s) c.requires.standing.paths)

pub take_assignments-requires-clause-held : goal.take_assignments-requires-clause-held
take_assignments-requires-clause-held g c = are_held (g.V.StateView.state c.args.view.now) c.requires.sound.assigned.held

pub give_labels-requires-clause-labels : goal.give_labels-requires-clause-labels
give_labels-requires-clause-labels g c =
    let r = g.V.StateView.router c.args.view.now in
    let s = g.V.StateView.state c.args.view.now in
    ap (λ (after : State). after.labels)
    (c.in_ok-take_assignments.ensures
    ∙ ap assignments_left (c.in_ok-take_repairs.ensures ∙ ap (repairs_left r) (c.in_ok-take_resvs.ensures ∙ ap resvs_left (c.in_ok-told.ensures.after ∙ ap (repaired r) (c.in_ok-promise_anew.ensures ∙ ap (assigned_anew r) c.in_ok-take_over.ensures)))))
    ∙ labels-stood r (edited c.args.edits s)
    ∙ c.requires.labels

pub give_labels-requires-clause-past : goal.give_labels-requires-clause-past
give_labels-requires-clause-past g c =
    let r = g.V.StateView.router c.args.view.now in
    let s = g.V.StateView.state c.args.view.now in
    rest_past r.labels s.facts.moment s.labels s.resting c.requires.sound.resting

pub give_labels-requires-clause-resting : goal.give_labels-requires-clause-resting
give_labels-requires-clause-resting g c =
    let r = g.V.StateView.router c.args.view.now in
    let s = g.V.StateView.state c.args.view.now in
    let t = edited c.args.edits s in
    let is = c.in_ok-take_assignments.ensures
    ∙ ap assignments_left (c.in_ok-take_repairs.ensures ∙ ap (repairs_left r) (c.in_ok-take_resvs.ensures ∙ ap resvs_left (c.in_ok-told.ensures.after ∙ ap (repaired r) (c.in_ok-promise_anew.ensures ∙ ap (assigned_anew r) c.in_ok-take_over.ensures)))) in
    ap (λ (after : State). after.resting) is ∙ resting-stood r t ∙ c.requires.resting
    ∙ ap (λ moment. resting_past moment s.resting) (sym (ap (λ (after : State). after.facts.moment) is ∙ moment-stood r t))

pub give_labels-requires-clause-moment : goal.give_labels-requires-clause-moment
give_labels-requires-clause-moment g c =
    let r = g.V.StateView.router c.args.view.now in
    let s = g.V.StateView.state c.args.view.now in
    let t = edited c.args.edits s in
    let is = c.in_ok-take_assignments.ensures
    ∙ ap assignments_left (c.in_ok-take_repairs.ensures ∙ ap (repairs_left r) (c.in_ok-take_resvs.ensures ∙ ap resvs_left (c.in_ok-told.ensures.after ∙ ap (repaired r) (c.in_ok-promise_anew.ensures ∙ ap (assigned_anew r) c.in_ok-take_over.ensures)))) in
    subst (λ moment. moment ≤ 2 ^ 62) (sym (ap (λ (after : State). after.facts.moment) is ∙ moment-stood r t)) c.requires.standing.moment
