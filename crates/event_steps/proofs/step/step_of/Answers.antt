-- A draft is a step of its event.
use Rattle.std.specs.Prelude.{List, Option}
use Rattle.std.proofs.Common.{subst, sym}
use Rattle.sorted_rows.specs.Edits as rows
use Rattle.lsr_facts.specs.Orders.{key_cmp}
use Rattle.lsr_facts.specs.declared.key.Key.{Key}
use Rattle.lsr_facts.specs.declared.path_fact.PathFact.{PathFact}
use Rattle.abstract_router.specs.Choosing.{CanLabel}
use Rattle.event_steps.proofs.Stepping.{draft_leaves, loud_steps, silent_step}
use Rattle.event_steps.proofs.step.step_of.Goals as goal

pub returns-then-draft-clause-step : goal.returns-then-draft-clause-step
returns-then-draft-clause-step g c =
    let r = g.V.StateView.router c.args.view.now in
    let s = g.V.StateView.state c.args.view.now in
    silent_step r s c.args.event.now c.in_ok-draft.draft c.requires.running c.is_possible.ensures c.requires.passes c.in_ok-draft.ensures.draft c.requires.event c.if-draft.true c.new.result c.new-then-draft.result c.new.ensures c.new-then-draft.ensures

pub chosen_labels-requires-clause-choice : goal.chosen_labels-requires-clause-choice
chosen_labels-requires-clause-choice g c =
    let r = g.V.StateView.router c.args.view.now in
    let s = g.V.StateView.state c.args.view.now in
    let drafted = draft_leaves r s c.args.event.now c.in_ok-draft.draft c.requires.running c.is_possible.ensures c.requires.passes c.in_ok-draft.ensures.draft c.requires.router c.requires.sound c.if-draft.false in
    subst (λ (paths : List (Key × Option PathFact)). CanLabel r s (rows.edited key_cmp paths s.facts.paths)) (sym c.as_slice.ensures.rows) drafted.choice

pub step_by-requires-clause-draft : goal.step_by-requires-clause-draft
step_by-requires-clause-draft g c =
    let r = g.V.StateView.router c.args.view.now in
    let s = g.V.StateView.state c.args.view.now in
    draft_leaves r s c.args.event.now c.in_ok-draft.draft c.requires.running c.is_possible.ensures c.requires.passes c.in_ok-draft.ensures.draft c.requires.router c.requires.sound c.if-draft.false

pub returns-clause-step : goal.returns-clause-step
returns-clause-step g c =
    let r = g.V.StateView.router c.args.view.now in
    let s = g.V.StateView.state c.args.view.now in
    loud_steps r s c.args.event.now c.in_ok-draft.draft c.requires.running c.is_possible.ensures c.requires.passes c.in_ok-draft.ensures.draft c.step_by.result c.if-draft.false c.step_by.ensures.step
