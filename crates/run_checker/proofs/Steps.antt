-- The steps that are taken.
use Rattle.std.specs.Prelude.{◌≡◌, ◌≢◌, ◌++◌, ◌∷◌, ℕ, Bool, true, false, if◌then◌else◌, List, []}
use Rattle.std.proofs.Common.{ap, refl, sym, subst, ◌∙◌}
use Rattle.sorted_rows.specs.Rows.{keys_of}
use Rattle.lsr_facts.specs.Routers.{IsRouter}
use Rattle.lsr_facts.specs.declared.key.Key.{Key}
use Rattle.lsr_facts.specs.declared.path_fact.PathFact.{PathFact}
use Rattle.lsr_facts.specs.declared.reply.Reply.{Reply}
use Rattle.lsr_facts.specs.declared.reply.Reply.TheVariants as replies
use Rattle.lsr_facts.specs.declared.router.Router.{Router}
use Rattle.abstract_paths.specs.Events.{IsEvent}
use Rattle.abstract_paths.specs.Relays.{exceeds_hop_limit}
use Rattle.abstract_paths.specs.declared.events.Event.TheVariants as events
use Rattle.abstract_paths.specs.declared.events.Event.{Event}
use Rattle.abstract_paths.specs.declared.events.Made.{Made}
use Rattle.abstract_paths.specs.declared.events.Output.{Output}
use Rattle.abstract_router.specs.Arrivals.{outcome}
use Rattle.abstract_router.specs.Outputs.{outputs_of}
use Rattle.abstract_router.specs.Repairing.{told_repaired}
use Rattle.abstract_router.specs.Soundness.{IsSound}
use Rattle.abstract_router.specs.States.{State}
use Rattle.abstract_router.specs.Steps.{MayChoose, MayChooseBy, Step, promised, settled, with_moments}
use Rattle.router_soundness.proofs.Drafting.{outcome-leaves}
use Rattle.router_soundness.proofs.Settling.{LeavesBy}
use Rattle.router_soundness.proofs.Silence.{silent_keeps}
use Rattle.router_soundness.proofs.Stepping.{step_of}
use Rattle.router_soundness.specs.Drafted.{IsDrafted}
use Rattle.state_views.specs.Drafts.{IsDraft}
use Rattle.state_views.specs.Edits.{edited}
use Rattle.state_views.specs.declared.draft.Draft.{Draft}
use Rattle.event_steps.specs.EventSteps.{IsSendingStep, after_step, drafted}
use Rattle.event_steps.specs.declared.step.EventStep.{EventStep}
use Rattle.journal_bytes.specs.declared.entry.Entry.{Entry}
use Rattle.event_fields.specs.EventLaws.{one_unread}
use Rattle.event_fields.specs.Spelled.{SpellsEvent}
use Rattle.event_fields.proofs.Fields.{one_event_of}
use Rattle.run_checker.specs.Faulty.{IsMadeBy, IsNoLabelling, IsWrong, StopsAt}
use Rattle.run_checker.specs.Taking.{IsTaken, changed, quiet}
use Rattle.run_checker.specs.declared.change.Change.{Change}
use Rattle.run_checker.specs.declared.change.Change.TheVariants as changes
use Rattle.run_checker.specs.declared.fault.EntryFault.TheVariants as faults
use Rattle.run_checker.specs.declared.fault.Stop.{Stop}
use Rattle.run_checker.specs.declared.fault.Stop.TheVariants as stops
use Rattle.run_checker.specs.declared.taken.Taken.{Taken}

-- labels that one event may choose are of the same LSPs
same_lsps : (silent : Bool) (r : Router) (s : State) (paths : List (Key × PathFact)) (a b : List (Key × ℕ)) → MayChooseBy silent r s paths a → MayChooseBy silent r s paths b → keys_of a ≡ keys_of b
same_lsps true r s paths a b one other = ap keys_of (one ∙ sym other)
same_lsps false r s paths a b one other = one.of_new ∙ sym other.of_new

-- the labels of a step may be chosen at its event
may_in : (r : Router) (s : State) (e : Entry) (event : Event) → SpellsEvent e.event event → (labels : List (Key × ℕ)) (made : Made) → IsMadeBy r s e labels made → MayChoose r s (outcome r s event) labels
may_in r s e event spelled labels made by =
    let happened = one_event_of one_unread e.event made.event event by.happened spelled in
    subst (λ (x : Event × List (Key × ℕ)). MayChoose r s (outcome r s x.0) x.1) (λ i. (happened i, by.chosen i)) by.step.chosen

-- no LSP has one of no labels
none_of : (labels : List (Key × ℕ)) → keys_of labels ≡ [] → labels ≡ []
none_of [] none = refl
none_of (row ∷ labels) none = absurd (let e = none in cc)

-- A start makes a cold router run.
pub starts : (r : Router) (s : State) → s.facts.cold ≡ true → Step r s (quiet events.Start replies.Done) (changed changes.Started s)
starts r s cold = record { possible = tt; awake = λ cold. refl; passes = refl; chosen = refl; replied = refl; changed = refl; sent = refl }

-- A restart ends what a running one does.
pub restarts : (r : Router) (s : State) → s.facts.cold ≡ false → Step r s (quiet events.Restart replies.Done) (changed changes.Restarted s)
restarts r s runs = record { possible = tt; awake = λ cold. absurd (let e = sym runs ∙ cold in cc); passes = refl; chosen = refl; replied = refl; changed = refl; sent = refl }

module _ (r : Router) (s : State) (event : Event) where
  module _ (reply : Reply) (change : Change) (step : Step r s (quiet event reply) (changed change s)) where
    -- The step of an event that gives no label, for an entry that has none,
    pub quiet_taken : (labels : List (Key × ℕ)) (outputs : List Output) → labels ≡ [] → outputs ≡ [] → IsTaken r s event labels (record { reply = reply; outputs = outputs; change = change })
    quiet_taken labels outputs none nothing = record {
      step = subst (λ (made : Made). Step r s made (changed change s)) (λ i. record { event = event; labels = sym none i; reply = reply; outputs = sym nothing i }) step;
    }

    -- and for one that has some.
    pub quiet_wrong : (e : Entry) (none : List (Key × ℕ)) → SpellsEvent e.event event → none ≡ [] → e.chosen ≢ [] → IsWrong (faults.Choice none) r s e
    quiet_wrong e none spelled is some = (
      (quiet event reply, record { after = changed change s; step = step; happened = spelled; chosen = sym is }),
      λ made by. some (none_of e.chosen (same_lsps (outcome r s event).is_silent r s (outcome r s event).after.facts.paths e.chosen [] (may_in r s e event spelled e.chosen made by) step.chosen)),
    )

  module _ (draft : Draft) (runs : s.facts.cold ≡ false) (possible : IsEvent event) (passes : exceeds_hop_limit r s.facts event ≡ false) (is : IsDraft draft (outcome r s event) r s) where
    -- A draft that is silent is the step of its event: nothing changes.
    pub silent_step : event ≢ events.Restart → draft.is_silent ≡ true → Step r s (quiet event draft.reply) s
    silent_step other silent =
        let o = outcome r s event in
        let so : o.is_silent ≡ true = sym is.is_silent ∙ silent in
        record {
          possible = possible;
          awake = λ cold. absurd (let e = sym runs ∙ cold in cc);
          passes = passes;
          chosen = subst (λ b. MayChooseBy b r s o.after.facts.paths []) (sym so) refl;
          replied = is.reply;
          changed = sym (silent_keeps r s event runs other so) ∙ sym (ap (λ b. if b then o.after else with_moments r s o (settled r [] o.after)) so);
          sent = sym (ap (λ b. if b then [] else outputs_of r s (o.errors ++ told_repaired r (promised r o.after)) o.due o.upstream_due s) so);
        }

    -- what a draft says is the event's outcome
    outcome_is : drafted draft r s ≡ outcome r s event
    outcome_is = λ i. record { reply = is.reply i; errors = is.errors i; due = is.due i; upstream_due = is.upstream_due i; after = is.after i; is_silent = is.is_silent i }

    -- Another leaves what follows can make sound,
    pub draft_leaves : IsRouter r → IsSound r s → draft.is_silent ≡ false → IsDrafted r s (edited draft.edits s)
    draft_leaves router sound loud =
        subst (IsDrafted r s) (sym is.after)
        (subst (λ b. LeavesBy r s b (outcome r s event).after) (sym is.is_silent ∙ loud) (outcome-leaves r s event router sound possible (λ cold. absurd (let e = sym runs ∙ cold in cc))))

    -- and with what follows it is the step of its event,
    loud_step : (x : EventStep) → draft.is_silent ≡ false → IsSendingStep r s (drafted draft r s) x → Step r s (record { event = event; labels = x.chosen; reply = x.reply; outputs = x.outputs }) (after_step x s)
    loud_step x loud sending =
        let o = outcome r s event in
        let so : o.is_silent ≡ false = sym is.is_silent ∙ loud in
        let sent = subst (λ o. IsSendingStep r s o x) outcome_is sending in
        record {
          possible = possible;
          awake = λ cold. absurd (let e = sym runs ∙ cold in cc);
          passes = passes;
          chosen = subst (λ b. MayChooseBy b r s o.after.facts.paths x.chosen) (sym so) sent.chosen;
          replied = sent.replied;
          changed = sent.changed ∙ sym (ap (λ b. if b then o.after else with_moments r s o (settled r x.chosen o.after)) so);
          sent = sent.sent ∙ sym (ap (λ b. if b then [] else outputs_of r s (o.errors ++ told_repaired r (promised r o.after)) o.due o.upstream_due (after_step x s)) so);
        }

    -- as it is taken.
    pub loud_taken : (x : EventStep) (labels : List (Key × ℕ)) (taken : Taken) → draft.is_silent ≡ false → IsSendingStep r s (drafted draft r s) x → x.chosen ≡ labels
        → taken.reply ≡ x.reply → taken.outputs ≡ x.outputs → changed taken.change s ≡ after_step x s → IsTaken r s event labels taken
    loud_taken x labels taken loud sending same reply outputs after = record {
      step = subst (λ (y : Made × State). Step r s y.0 y.1)
          (λ i. (record { event = event; labels = same i; reply = sym reply i; outputs = sym outputs i }, sym after i)) (loud_step x loud sending);
    }

    -- Where an entry's labels may not be chosen and others may, that is wrong with it.
    pub no_labelling : (e : Entry) (stop : Stop) → SpellsEvent e.event event → draft.is_silent ≡ false → IsNoLabelling stop r s (edited draft.edits s).facts.paths e.chosen → StopsAt stop r s e
    no_labelling e stops.Memory spelled loud none = tt
    no_labelling e (stops.Wrong faults.Unread) spelled loud none = absurd none
    no_labelling e (stops.Wrong (faults.Event refusal)) spelled loud none = absurd none
    no_labelling e (stops.Wrong (faults.Reply reply)) spelled loud none = absurd none
    no_labelling e (stops.Wrong (faults.Output frames)) spelled loud none = absurd none
    no_labelling e (stops.Wrong (faults.Choice others)) spelled loud none =
        let o = outcome r s event in
        let so : o.is_silent ≡ false = sym is.is_silent ∙ loud in
        let may : MayChoose r s o others = subst (λ (x : Bool × State). MayChooseBy x.0 r s x.1.facts.paths others) (λ i. (sym so i, is.after i)) none.0 in
        let made = step_of r s event others runs possible passes may in (
          (made.0, record { after = made.3; step = made.4; happened = subst (SpellsEvent e.event) (sym made.1) spelled; chosen = made.2 }),
          λ made by. none.1 (subst (λ (x : Bool × State). MayChooseBy x.0 r s x.1.facts.paths e.chosen) (λ i. (so i, sym is.after i)) (may_in r s e event spelled e.chosen made by)),
        )
