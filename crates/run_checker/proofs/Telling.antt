-- What an entry records: one step at most, and none where something is wrong with it.
use Rattle.std.specs.Prelude.{◌≡◌, ℕ, false, List, map}
use Rattle.std.proofs.Common.{ap, refl, sym, subst, ◌∙◌}
use Rattle.lsr_facts.specs.Routers.{IsRouter}
use Rattle.lsr_facts.specs.declared.refusal.Refusal.{Refusal}
use Rattle.lsr_facts.specs.declared.refusal.Refusal.TheVariants.{HopLimit, IsCold}
use Rattle.lsr_facts.specs.declared.router.Router.{Router}
use Rattle.abstract_paths.specs.Relays.{exceeds_hop_limit}
use Rattle.abstract_paths.specs.declared.events.Event.{Event}
use Rattle.abstract_paths.specs.declared.events.Made.{Made}
use Rattle.abstract_router.specs.Soundness.{IsSound}
use Rattle.abstract_router.specs.States.{State}
use Rattle.abstract_router.specs.Steps.{IsNoStep, Step}
use Rattle.router_soundness.proofs.Running.{sound_step}
use Rattle.router_soundness.proofs.Stepping.{same_step}
use Rattle.journal_bytes.specs.Entries.{written_frame}
use Rattle.journal_bytes.specs.declared.entry.Entry.{Entry}
use Rattle.event_fields.specs.EventLaws.{one_unread}
use Rattle.event_fields.specs.Spelled.{SpellsEvent}
use Rattle.event_fields.proofs.Fields.{one_event_of}
use Rattle.run_checker.specs.Faulty.{IsMadeBy, IsWrong, StopsAt}
use Rattle.run_checker.specs.Recorded.{IsRecorded}
use Rattle.run_checker.specs.Taking.{DiffersBy, IsAsTaken, IsTaken, changed, made_by}
use Rattle.run_checker.specs.declared.fault.EntryFault.{EntryFault}
use Rattle.run_checker.specs.declared.fault.EntryFault.TheVariants as faults
use Rattle.run_checker.specs.declared.fault.Stop.{Stop}
use Rattle.run_checker.specs.declared.fault.Stop.TheVariants as stops
use Rattle.run_checker.specs.declared.taken.Taken.{Taken}

-- no bytes spell two events
one_event : (bytes : List ℕ) (a b : Event) → SpellsEvent bytes a → SpellsEvent bytes b → a ≡ b
one_event = one_event_of one_unread

module _ (r : Router) (s : State) (e : Entry) where
  -- an entry leads to one state alone,
  pub recorded_one : (a b : State) → IsRecorded r s e a → IsRecorded r s e b → a ≡ b
  recorded_one a b x y = (same_step r s a b x.made y.made (one_event e.event x.made.event y.made.event x.told.happened y.told.happened) (sym x.told.chosen ∙ y.told.chosen) x.step y.step).1

  -- which is sound.
  pub recorded_sound : (after : State) → IsRouter r → IsSound r s → IsRecorded r s e after → IsSound r after
  recorded_sound after router sound x = sound_step r s x.made after router sound x.step

  -- its step is one of its event, by its labels
  made_in : (after : State) (x : IsRecorded r s e after) → IsMadeBy r s e e.chosen x.made
  made_in after x = record { after = after; step = x.step; happened = x.told.happened; chosen = sym x.told.chosen }

  -- of which there is one
  same_made : (a b : Made) → IsMadeBy r s e e.chosen a → IsMadeBy r s e e.chosen b → a ≡ b
  same_made a b x y = (same_step r s x.after y.after a b (one_event e.event a.event b.event x.happened y.happened) (x.chosen ∙ sym y.chosen) x.step y.step).0

  -- An event that is refused without a step has none.
  no_step : (event : Event) (refusal : Refusal) (made : Made) (after : State) → made.event ≡ event → Step r s made after → IsNoStep r s event refusal → ⊥
  no_step event IsCold made after is step cold = cold.1 (sym is ∙ step.awake cold.0)
  no_step event HopLimit made after is step exceeds = let e : exceeds_hop_limit r s.facts event ≡ false = sym (ap (exceeds_hop_limit r s.facts) is) ∙ step.passes in let f = exceeds.1 in cc
  no_step event refusal made after is step none = none

  -- An entry with which something is wrong records no step.
  pub wrong_nowhere : (fault : EntryFault) → IsWrong fault r s e → (after : State) → IsRecorded r s e after → ⊥
  wrong_nowhere faults.Unread wrong after x = wrong x.made.event x.told.happened
  wrong_nowhere (faults.Event refusal) wrong after x = no_step wrong.0 refusal x.made after (one_event e.event x.made.event wrong.0 x.told.happened wrong.1) x.step wrong.2
  wrong_nowhere (faults.Choice labels) wrong after x = wrong.1 x.made (made_in after x)
  wrong_nowhere (faults.Reply reply) wrong after x = wrong.3 (x.told.replied ∙ ap (λ (made : Made). made.reply) (same_made x.made wrong.0 (made_in after x) wrong.1))
  wrong_nowhere (faults.Output frames) wrong after x = wrong.4 (x.told.sent ∙ ap (λ (made : Made). map written_frame made.outputs) (same_made x.made wrong.0 (made_in after x) wrong.1))

  module _ (event : Event) (spelled : SpellsEvent e.event event) (taken : Taken) (is : IsTaken r s event e.chosen taken) where
    -- An entry that says what was taken records it.
    pub recorded_as : (after : State) → after ≡ changed taken.change s → IsAsTaken taken e → IsRecorded r s e after
    recorded_as after leads says = record {
      made = made_by event e.chosen taken;
      step = subst (Step r s (made_by event e.chosen taken)) (sym leads) is.step;
      told = record { happened = spelled; chosen = refl; replied = says.replied; sent = says.sent };
    }

    made_so : IsMadeBy r s e e.chosen (made_by event e.chosen taken)
    made_so = record { after = changed taken.change s; step = is.step; happened = spelled; chosen = refl }

    -- With one that says otherwise that is wrong.
    pub differs_wrong : (stop : Stop) → DiffersBy stop taken e → StopsAt stop r s e
    differs_wrong stops.Memory differs = tt
    differs_wrong (stops.Wrong faults.Unread) differs = absurd differs
    differs_wrong (stops.Wrong (faults.Event refusal)) differs = absurd differs
    differs_wrong (stops.Wrong (faults.Choice labels)) differs = absurd differs
    differs_wrong (stops.Wrong (faults.Reply reply)) differs = (made_by event e.chosen taken, made_so, differs.0, differs.1)
    differs_wrong (stops.Wrong (faults.Output frames)) differs = (made_by event e.chosen taken, made_so, differs.0, differs.1, differs.2)
