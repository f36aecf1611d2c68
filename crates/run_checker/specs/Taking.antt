-- The step that the router makes where an entry says what happened and which labels were chosen.
use Rattle.std.specs.Prelude.{◌≡◌, ◌≢◌, ℕ, false, List, [], map}
use Rattle.lsr_facts.specs.declared.key.Key.{Key}
use Rattle.lsr_facts.specs.declared.reply.Reply.{Reply}
use Rattle.lsr_facts.specs.declared.router.Router.{Router}
use Rattle.abstract_paths.specs.declared.events.Event.{Event}
use Rattle.abstract_paths.specs.declared.events.Made.{Made}
use Rattle.abstract_router.specs.Arrivals.{lost}
use Rattle.abstract_router.specs.States.{State}
use Rattle.abstract_router.specs.Steps.{Step}
use Rattle.event_steps.specs.EventSteps.{after_edits}
use Rattle.journal_bytes.specs.Entries.{written_frame}
use Rattle.journal_bytes.specs.declared.entry.Entry.{Entry}
use Rattle.run_checker.specs.declared.change.Change.{Change}
use Rattle.run_checker.specs.declared.change.Change.TheVariants as changes
use Rattle.run_checker.specs.declared.fault.EntryFault.TheVariants as faults
use Rattle.run_checker.specs.declared.fault.Stop.{Stop}
use Rattle.run_checker.specs.declared.fault.Stop.TheVariants as stops
use Rattle.run_checker.specs.declared.taken.Taken.{Taken}

-- what is known after a change
abbrev pub changed : Change → State → State
changed changes.Nothing s = s
changed changes.Started s = record s { facts = record s.facts { cold = false } }
changed changes.Restarted s = (lost s).after
changed (changes.Edited edits) s = after_edits edits s

-- a step of this event that gives no label, and for which nothing is sent
abbrev pub quiet : Event → Reply → Made
quiet event reply = record { event = event; labels = []; reply = reply; outputs = [] }

-- the step of this event by these labels, as it was taken
abbrev pub made_by : Event → List (Key × ℕ) → Taken → Made
made_by event labels taken = record { event = event; labels = labels; reply = taken.reply; outputs = taken.outputs }

-- What was taken is the router's step at this event by these labels.
pub record IsTaken (r : Router) (before : State) (event : Event) (labels : List (Key × ℕ)) (taken : Taken) : Type 0 where
  pub step : Step r before (made_by event labels taken) (changed taken.change before)

-- An entry says what is answered and sent in the step.
pub record IsAsTaken (taken : Taken) (e : Entry) : Type 0 where
  pub replied : e.reply ≡ taken.reply
  pub sent : e.outputs ≡ map written_frame taken.outputs

-- what an entry says otherwise: the reply, or, where that is the same, the frames
abbrev pub DiffersBy : Stop → Taken → Entry → Type 0
DiffersBy stops.Memory taken e = Unit {0}
DiffersBy (stops.Wrong (faults.Reply reply)) taken e = (reply ≡ taken.reply) × (e.reply ≢ taken.reply)
DiffersBy (stops.Wrong (faults.Output frames)) taken e =
    (frames ≡ map written_frame taken.outputs) × (e.reply ≡ taken.reply) × (e.outputs ≢ map written_frame taken.outputs)
DiffersBy (stops.Wrong fault) taken e = ⊥
