-- What is wrong with entries that are no run.
use Rattle.std.specs.Prelude.{◌≡◌, ◌≢◌, ◌+◌, ◌++◌, ℕ, List, ◌∷◌, length, map}
use Rattle.lsr_facts.specs.declared.key.Key.{Key}
use Rattle.lsr_facts.specs.declared.path_fact.PathFact.{PathFact}
use Rattle.lsr_facts.specs.declared.router.Router.{Router}
use Rattle.abstract_paths.specs.declared.events.Event.{Event}
use Rattle.abstract_paths.specs.declared.events.Made.{Made}
use Rattle.abstract_router.specs.Labels.{IsLabelling}
use Rattle.abstract_router.specs.Soundness.{IsSound}
use Rattle.abstract_router.specs.States.{State}
use Rattle.abstract_router.specs.Steps.{IsNoStep, Step}
use Rattle.journal_bytes.specs.Entries.{written_frame}
use Rattle.journal_bytes.specs.declared.entry.Entry.{Entry}
use Rattle.event_fields.specs.Spelled.{SpellsEvent}
use Rattle.plain_soundness.specs.Clauses.{IsBroken}
use Rattle.run_checker.specs.Recorded.{IsLed, IsRecorded}
use Rattle.run_checker.specs.declared.fault.EntryFault.{EntryFault}
use Rattle.run_checker.specs.declared.fault.EntryFault.TheVariants as faults
use Rattle.run_checker.specs.declared.fault.RunFault.{RunFault}
use Rattle.run_checker.specs.declared.fault.RunFault.TheVariants as runs
use Rattle.run_checker.specs.declared.fault.Stop.{Stop}
use Rattle.run_checker.specs.declared.fault.Stop.TheVariants as stops

-- The router makes this step at the event that the entry's bytes spell, by these labels.
pub record IsMadeBy (r : Router) (before : State) (e : Entry) (labels : List (Key × ℕ)) (made : Made) : Type 0 where
  pub after : State
  pub step : Step r before made after
  pub happened : SpellsEvent e.event made.event
  pub chosen : made.labels ≡ labels

-- What is wrong with an entry: its bytes spell no event; its event has no step; it has one by other labels, and none by those of the
-- entry; or the step that it has by the entry's labels is answered something else, or sends other frames.
abbrev pub IsWrong : EntryFault → Router → State → Entry → Type 0
IsWrong faults.Unread r s e = (event : Event) → SpellsEvent e.event event → ⊥
IsWrong (faults.Event refusal) r s e = (event : Event) × SpellsEvent e.event event × IsNoStep r s event refusal
IsWrong (faults.Choice labels) r s e = ((made : Made) × IsMadeBy r s e labels made) × ((made : Made) → IsMadeBy r s e e.chosen made → ⊥)
IsWrong (faults.Reply reply) r s e = (made : Made) × IsMadeBy r s e e.chosen made × (reply ≡ made.reply) × (e.reply ≢ made.reply)
IsWrong (faults.Output frames) r s e =
    (made : Made) × IsMadeBy r s e e.chosen made × (frames ≡ map written_frame made.outputs) × (e.reply ≡ made.reply)
    × (e.outputs ≢ map written_frame made.outputs)

-- why it isn't told what an entry leads to
abbrev pub StopsAt : Stop → Router → State → Entry → Type 0
StopsAt stops.Memory r s e = Unit {0}
StopsAt (stops.Wrong fault) r s e = IsWrong fault r s e

-- labels may not be chosen, and others may
abbrev pub IsNoLabelling : Stop → Router → State → List (Key × PathFact) → List (Key × ℕ) → Type 0
IsNoLabelling stops.Memory r s paths labels = Unit {0}
IsNoLabelling (stops.Wrong (faults.Choice others)) r s paths labels = IsLabelling r s paths others × (IsLabelling r s paths labels → ⊥)
IsNoLabelling (stops.Wrong fault) r s paths labels = ⊥

-- the fault of a run that stops so at the entry of a number
abbrev pub fault_at : ℕ → Stop → RunFault
fault_at number stops.Memory = runs.Memory
fault_at number (stops.Wrong fault) = runs.Entry number fault

-- The entries before one of this number, from 1, lead somewhere, and this is wrong with that one there.
pub record IsFirstWrong {E S : Type 0} (Leads : S → E → S → Type 0) (Wrong : S → E → Type 0) (base : S) (entries : List E) (number : ℕ) : Type 0 where
  pub earlier : List E
  pub entry : E
  pub later : List E
  pub parts : entries ≡ earlier ++ entry ∷ later
  pub place : number ≡ length earlier + 1
  pub between : S
  pub led : IsLed Leads base earlier between
  pub wrong : Wrong between entry

-- Why entries are no run from a base: it isn't sound, and a clause of that is broken; or it is, and this is wrong with the entry
-- of this number, the first with which anything is wrong.
abbrev pub IsRunFault : Router → State → List Entry → RunFault → Type 0
IsRunFault r base entries runs.Memory = Unit {0}
IsRunFault r base entries (runs.Base clause) = (IsSound r base → ⊥) × IsBroken clause r base
IsRunFault r base entries (runs.Entry number fault) =
    IsSound r base × IsFirstWrong (IsRecorded r) (IsWrong fault r) base entries number

-- Whoever checks entries from a base is told of no fault, but that memory ran out.
abbrev pub IsFaultless : Router → State → List Entry → Type 0
IsFaultless r base entries = (fault : RunFault) → IsRunFault r base entries fault → fault ≡ runs.Memory
