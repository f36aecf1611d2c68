-- The step of an event, decided over what is known.
use Rattle.std.specs.Prelude.{◌≡◌, ◌≤◌, ◌++◌, false, IfSome, is_none}
use Rattle.std.specs.Option.{option_map_or}
use Rattle.sorted_rows.specs.Edits as rows
use Rattle.lsr_facts.specs.Orders.{item_cmp, key_cmp}
use Rattle.lsr_facts.specs.Upstreams.{upstream_cmp}
use Rattle.lsr_facts.specs.declared.router.Router.{Router}
use Rattle.abstract_paths.specs.Touched.{is_among}
use Rattle.abstract_paths.specs.declared.events.Event.{Event}
use Rattle.abstract_paths.specs.declared.events.Made.{Made}
use Rattle.abstract_router.specs.Arrivals.{outcome}
use Rattle.abstract_router.specs.Labels.{IsLabelling}
use Rattle.abstract_router.specs.Outcomes.{Outcome}
use Rattle.abstract_router.specs.Outputs.{outputs_of}
use Rattle.abstract_router.specs.Repairing.{told_repaired}
use Rattle.abstract_router.specs.Soundness.{IsSound}
use Rattle.abstract_router.specs.States.{State}
use Rattle.abstract_router.specs.Steps.{Step, promised, settled, with_moments}
use Rattle.abstract_router.specs.Touched.{LeavesOtherLsps}
use Rattle.router_soundness.specs.Assigned.{AreStanding}
use Rattle.state_views.specs.Drafts.{due_by, upstream_due_by}
use Rattle.state_views.specs.Edits.{edited}
use Rattle.state_views.specs.declared.draft.Draft.{Draft}
use Rattle.event_steps.specs.declared.step.EventStep.{EventStep}
use Rattle.event_steps.specs.declared.step.StepEdits.{StepEdits}

-- what a draft says that an event does of itself
abbrev pub drafted : Draft → Router → State → Outcome
drafted draft r s = record {
  reply = draft.reply;
  errors = draft.errors;
  due = due_by draft.due r s;
  upstream_due = upstream_due_by draft.due r s;
  after = edited draft.edits s;
  is_silent = draft.is_silent;
}

-- what is known after the edits of a step
abbrev pub after_edits : StepEdits → State → State
after_edits e s = record (edited e.edits s) {
  facts = record (edited e.edits s).facts { sent = rows.edited item_cmp e.moments s.facts.sent };
  sent_upstream = rows.edited upstream_cmp e.upstream s.sent_upstream;
}

-- and after the step
abbrev pub after_step : EventStep → State → State
after_step x s = option_map_or (λ edits. after_edits edits s) x.edits s

-- the step of this event, once it is made
abbrev pub made_by : Event → EventStep → Made
made_by event x = record { event = event; labels = x.chosen; reply = x.reply; outputs = x.outputs }

-- What a step changes leaves a sound state, no earlier than before and with nothing left to promise of the bandwidth of bypasses;
-- and of no other LSP than it tells something else is known after, but for when it expires.
pub record AreStepEdits (r : Router) (s : State) (e : StepEdits) : Type 0 where
  pub sound : IsSound r (after_edits e s)
  pub standing : AreStanding r (after_edits e s)
  pub later : s.facts.moment ≤ (after_edits e s).facts.moment
  pub others : LeavesOtherLsps (is_among key_cmp e.changed) s (edited e.edits s)

-- It is the step of this event: its answer, its labels, what it sends, and what is known after it. A silent one changes nothing.
pub record IsStepOf (r : Router) (s : State) (event : Event) (x : EventStep) : Type 0 where
  pub step : Step r s (made_by event x) (after_step x s)
  pub silent : (outcome r s event).is_silent ≡ is_none x.edits
  pub edits : IfSome x.edits (AreStepEdits r s)

-- It is the step of what an event does of itself, where that isn't silent: with labels that may be chosen, with what follows from
-- it, and with what is sent.
pub record IsSendingStep (r : Router) (s : State) (o : Outcome) (x : EventStep) : Type 0 where
  pub chosen : IsLabelling r s o.after.facts.paths x.chosen
  pub replied : x.reply ≡ o.reply
  pub changed : after_step x s ≡ with_moments r s o (settled r x.chosen o.after)
  pub sent : x.outputs ≡ outputs_of r s (o.errors ++ told_repaired r (promised r o.after)) o.due o.upstream_due (after_step x s)
  pub some : is_none x.edits ≡ false
  pub edits : IfSome x.edits (AreStepEdits r s)
