-- A draft, with what follows from it and what it sends, is the step of its event.
use Rattle.std.specs.Prelude.{◌≡◌, ◌≢◌, ◌≤◌, ◌++◌, ℕ, true, false, if◌then◌else◌, List, [], Some, None, Result, Ok, Err, IfOk}
use Rattle.std.proofs.Common.{refl, ap, sym, subst, ◌∙◌}
use Rattle.sorted_rows.specs.Edits as rows
use Rattle.lsr_facts.specs.Orders.{item_cmp, key_cmp}
use Rattle.lsr_facts.specs.Routers.{IsRouter}
use Rattle.lsr_facts.specs.Upstreams.{upstream_cmp}
use Rattle.lsr_facts.specs.declared.key.Key.{Key}
use Rattle.lsr_facts.specs.declared.router.Router.{Router}
use Rattle.abstract_paths.specs.Events.{IsEvent}
use Rattle.abstract_paths.specs.Relays.{exceeds_hop_limit}
use Rattle.abstract_paths.specs.Touched.{is_among}
use Rattle.abstract_paths.specs.declared.events.Event.TheVariants as events
use Rattle.abstract_paths.specs.declared.events.Event.{Event}
use Rattle.abstract_paths.specs.declared.events.Output.{Output}
use Rattle.abstract_router.specs.Arrivals.{outcome}
use Rattle.abstract_router.specs.BypassTunnels.{bypass_tunnels_of}
use Rattle.abstract_router.specs.Labels.{IsLabelling}
use Rattle.abstract_router.specs.Lsps.{lsps_of}
use Rattle.abstract_router.specs.Outcomes.{Outcome}
use Rattle.abstract_router.specs.Outputs.{item_stamps, outputs_of, upstream_stamps}
use Rattle.abstract_router.specs.Repairing.{repaired, repairs_left, told_repaired}
use Rattle.abstract_router.specs.Soundness.{IsSound}
use Rattle.abstract_router.specs.States.{State}
use Rattle.abstract_router.specs.Steps.{MayChooseBy, promised, settled, taken_over, with_moments}
use Rattle.abstract_router.specs.Touched.{LeavesOtherLsps}
use Rattle.abstract_router.specs.Upstreams.{upstream_of}
use Rattle.abstract_router.specs.Wanted.{items_of}
use Rattle.router_soundness.proofs.AssigningStands.{stands_sent, stands_settled}
use Rattle.router_soundness.proofs.Drafting.{outcome-leaves}
use Rattle.router_soundness.proofs.Settling.{LeavesBy, sound_settled}
use Rattle.router_soundness.proofs.Silence.{silent_keeps}
use Rattle.router_soundness.specs.Assigned.{AreStanding}
use Rattle.router_soundness.specs.Drafted.{IsDrafted}
use Rattle.state_views.specs.Drafts.{IsDraft}
use Rattle.state_views.specs.Edits.{edited}
use Rattle.state_views.specs.KnownLsps.{AreLsps, sound_lsps}
use Rattle.state_views.specs.declared.draft.Draft.{Draft}
use Rattle.state_views.specs.declared.edits.Edits.{Edits}
use Rattle.event_steps.specs.EventSteps.{IsSendingStep, IsStepOf, after_edits, after_step, drafted}
use Rattle.event_steps.specs.declared.step.EventStep.{EventStep}
use Rattle.event_steps.specs.declared.step.StepEdits.{StepEdits}

-- the errors that are sent: those of the event itself, then those that repair tells
abbrev pub errors_in : Router → State → Outcome → List Output
errors_in r s o = o.errors ++ told_repaired r (promised r o.after)

-- what is sent doesn't depend on when messages were sent
sent_alike : (r : Router) (s : State) (o : Outcome) (t : State) → outputs_of r s (errors_in r s o) o.due o.upstream_due t ≡ outputs_of r s (errors_in r s o) o.due o.upstream_due (with_moments r s o t)
unfolding outputs_of items_of upstream_of lsps_of bypass_tunnels_of
sent_alike r s o t = refl

module _ (r : Router) (s : State) (is : IsSound r s) (draft : Draft) (may : IsDrafted r s (edited draft.edits s)) (x : Edits) (chosen : List (Key × ℕ))
    (settles : edited x s ≡ settled r chosen (edited draft.edits s)) (labelling : IsLabelling r s (edited draft.edits s).facts.paths chosen) where
  abbrev o : Outcome
  o = drafted draft r s

  next_sound : IsSound r (with_moments r s o (edited x s))
  next_sound = subst (λ t. IsSound r (with_moments r s o t)) (sym settles) (sound_settled r s o chosen is may labelling)

  -- nothing is left to promise of the bandwidth of bypasses
  next_standing : AreStanding r (with_moments r s o (edited x s))
  next_standing = stands_sent r s o (edited x s) (subst (AreStanding r) (sym settles) (stands_settled r s o.after chosen is may))

  -- the moment is that of the draft
  next_moment : (edited x s).facts.moment ≡ o.after.facts.moment
  unfolding taken_over repaired repairs_left
  next_moment = ap (λ (t : State). t.facts.moment) settles

  -- all is as it should be that is known of LSPs then
  pub next_lsps : AreLsps r (edited x s)
  next_lsps = let lsps = sound_lsps r (with_moments r s o (edited x s)) next_sound in record { paths = lsps.paths; resvs = lsps.resvs; repairs = lsps.repairs }

  -- So it is the step of a draft that isn't silent.
  pub sending : (e : StepEdits) → e.edits ≡ x → LeavesOtherLsps (is_among key_cmp e.changed) s (edited x s)
      → rows.edited item_cmp e.moments s.facts.sent ≡ item_stamps r s o.due (edited x s)
      → rows.edited upstream_cmp e.upstream s.sent_upstream ≡ upstream_stamps r s o.upstream_due (edited x s)
      → (outputs : List Output) → outputs ≡ outputs_of r s (errors_in r s o) o.due o.upstream_due (edited x s)
      → IsSendingStep r s o (record { reply = o.reply; outputs = outputs; chosen = chosen; edits = Some e })
  sending e same others moments upstream outputs sends =
      let is : after_edits e s ≡ with_moments r s o (edited x s) =
      λ i. record (edited (same i) s) { facts = record (edited (same i) s).facts { sent = moments i }; sent_upstream = upstream i } in
      record {
        chosen = labelling;
        replied = refl;
        changed = is ∙ ap (λ t. with_moments r s o t) settles;
        sent = sends ∙ sent_alike r s o (edited x s) ∙ ap (λ t. outputs_of r s (errors_in r s o) o.due o.upstream_due t) (sym is);
        some = refl;
        edits = record {
          sound = subst (IsSound r) (sym is) next_sound;
          standing = subst (AreStanding r) (sym is) next_standing;
          later = subst (λ moment. s.facts.moment ≤ moment) (sym (ap (λ (y : Edits). (edited y s).facts.moment) same ∙ next_moment)) may.later;
          others = subst (λ (y : Edits). LeavesOtherLsps (is_among key_cmp e.changed) s (edited y s)) (sym same) others;
        };
      }

module _ (r : Router) (s : State) (event : Event) (draft : Draft) (runs : s.facts.cold ≡ false) (possible : IsEvent event) (passes : exceeds_hop_limit r s.facts event ≡ false) (is : IsDraft draft (outcome r s event) r s) where
  -- The step of a silent event: nothing changes, and nothing is sent.
  silence : event ≢ events.Restart → draft.is_silent ≡ true → IsStepOf r s event (record { reply = draft.reply; outputs = []; chosen = []; edits = None })
  silence other silent =
      let o = outcome r s event in
      let so : o.is_silent ≡ true = sym is.is_silent ∙ silent in
      record {
        step = record {
          possible = possible;
          awake = λ cold. absurd (let e = sym runs ∙ cold in cc);
          passes = passes;
          chosen = subst (λ b. MayChooseBy b r s o.after.facts.paths []) (sym so) refl;
          replied = is.reply;
          changed = sym (silent_keeps r s event runs other so) ∙ sym (ap (λ b. if b then o.after else with_moments r s o (settled r [] o.after)) so);
          sent = sym (ap (λ b. if b then [] else outputs_of r s (errors_in r s o) o.due o.upstream_due s) so);
        };
        silent = so;
        edits = tt;
      }

  pub silent_step : event ≢ events.Restart → draft.is_silent ≡ true → (outputs : List Output) (chosen : List (Key × ℕ)) → outputs ≡ [] → chosen ≡ [] → IsStepOf r s event (record { reply = draft.reply; outputs = outputs; chosen = chosen; edits = None })
  silent_step other silent outputs chosen no_outputs none =
      subst (λ (p : List Output × List (Key × ℕ)). IsStepOf r s event (record { reply = draft.reply; outputs = p.0; chosen = p.1; edits = None })) (λ i. (sym no_outputs i, sym none i)) (silence other silent)

  -- what a draft says is the event's outcome
  outcome_is : drafted draft r s ≡ outcome r s event
  outcome_is = λ i. record { reply = is.reply i; errors = is.errors i; due = is.due i; upstream_due = is.upstream_due i; after = is.after i; is_silent = is.is_silent i }

  -- an event that isn't silent leaves what follows can make sound
  pub draft_leaves : IsRouter r → IsSound r s → draft.is_silent ≡ false → IsDrafted r s (edited draft.edits s)
  draft_leaves router sound loud =
      subst (IsDrafted r s) (sym is.after)
      (subst (λ b. LeavesBy r s b (outcome r s event).after) (sym is.is_silent ∙ loud) (outcome-leaves r s event router sound possible (λ cold. absurd (let e = sym runs ∙ cold in cc))))

  -- The step of another is that of the event.
  loud_step : (x : EventStep) → draft.is_silent ≡ false → IsSendingStep r s (drafted draft r s) x → IsStepOf r s event x
  loud_step x loud sending_draft =
      let o = outcome r s event in
      let so : o.is_silent ≡ false = sym is.is_silent ∙ loud in
      let sent = subst (λ o. IsSendingStep r s o x) outcome_is sending_draft in
      record {
        step = record {
          possible = possible;
          awake = λ cold. absurd (let e = sym runs ∙ cold in cc);
          passes = passes;
          chosen = subst (λ b. MayChooseBy b r s o.after.facts.paths x.chosen) (sym so) sent.chosen;
          replied = sent.replied;
          changed = sent.changed ∙ sym (ap (λ b. if b then o.after else with_moments r s o (settled r x.chosen o.after)) so);
          sent = sent.sent ∙ sym (ap (λ b. if b then [] else outputs_of r s (errors_in r s o) o.due o.upstream_due (after_step x s)) so);
        };
        silent = so ∙ sym sent.some;
        edits = sent.edits;
      }

  -- So it is where there is memory for one.
  pub loud_steps : {E : Type 0} (result : Result EventStep E) → draft.is_silent ≡ false → IfOk result (IsSendingStep r s (drafted draft r s)) → IfOk result (IsStepOf r s event)
  loud_steps (Ok x) loud sending_draft = loud_step x loud sending_draft
  loud_steps (Err e) loud sending_draft = tt
