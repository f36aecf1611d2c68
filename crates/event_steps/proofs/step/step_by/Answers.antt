-- What follows from a draft makes the state sound, and it is the draft's step.
use Rattle.std.specs.Prelude.{ℕ, List, ◌++◌}
use Rattle.std.proofs.Common.{ap, refl, subst, sym, ◌∙◌}
use Rattle.lsr_facts.specs.declared.key.Key.{Key}
use Rattle.abstract_paths.specs.declared.events.Output.{Output}
use Rattle.abstract_router.specs.Labels.{IsLabelling}
use Rattle.abstract_router.specs.Outputs.{outputs_of}
use Rattle.state_views.specs.Drafts.{due_by, upstream_due_by}
use Rattle.state_views.specs.Edits.{edited}
use Rattle.event_steps.proofs.Stepping.{next_lsps, sending}
use Rattle.event_steps.proofs.step.step_by.Goals as goal

pub sends_of-requires-clause-after : goal.sends_of-requires-clause-after
sends_of-requires-clause-after g c =
    let r = g.V.StateView.router c.args.view.now in
    let s = g.V.StateView.state c.args.view.now in
    let x = c.in_ok-settled in
    next_lsps r s c.requires.sound c.args.draft c.requires.draft x.settled.edits x.settled.chosen x.ensures.after
    (subst (λ (labels : List (Key × ℕ)). IsLabelling r s (edited c.args.draft.edits s).facts.paths labels) (sym x.ensures.chosen) c.requires.labels)

pub returns-clause-step : goal.returns-clause-step
returns-clause-step g c =
    let r = g.V.StateView.router c.args.view.now in
    let s = g.V.StateView.state c.args.view.now in
    let draft = c.args.draft in
    let x = c.in_ok-settled in
    let sends = c.in_ok-sends in
    sending r s c.requires.sound draft c.requires.draft x.settled.edits x.settled.chosen x.ensures.after
    (subst (λ (labels : List (Key × ℕ)). IsLabelling r s (edited draft.edits s).facts.paths labels) (sym x.ensures.chosen) c.requires.labels)
    (record { edits = x.settled.edits; moments = sends.sends.moments; upstream = sends.sends.upstream; changed = sends.sends.changed }) refl
    sends.ensures.changed sends.ensures.moments sends.ensures.upstream sends.sends.outputs
    (sends.ensures.outputs ∙ ap (λ (errors : List Output). outputs_of r s errors (due_by draft.due r s) (upstream_due_by draft.due r s) (edited x.settled.edits s)) (c.in_ok-errors.ensures ∙ ap (λ (told : List Output). draft.errors ++ told) x.ensures.told))
