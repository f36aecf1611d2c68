-- Runs as they were recorded: entries, each of which tells of one step of the router.
use Rattle.std.specs.Prelude.{◌≡◌, List, [], ◌∷◌, map}
use Rattle.lsr_facts.specs.declared.router.Router.{Router}
use Rattle.abstract_paths.specs.declared.events.Made.{Made}
use Rattle.abstract_router.specs.States.{State}
use Rattle.abstract_router.specs.Steps.{Step}
use Rattle.journal_bytes.specs.Entries.{IsEntryOf, written_frame}
use Rattle.journal_bytes.specs.Events.{IsWrittenAgain}
use Rattle.journal_bytes.specs.declared.entry.Entry.{Entry}
use Rattle.event_fields.specs.Spelled.{SpellsEvent}

-- The entry tells of this step what happened, which labels were chosen, what was answered, and what was sent, as it was written. What
-- happened may be spelled otherwise than this router writes it.
pub record TellsOf (made : Made) (e : Entry) : Type 0 where
  pub happened : SpellsEvent e.event made.event
  pub chosen : e.chosen ≡ made.labels
  pub replied : e.reply ≡ made.reply
  pub sent : e.outputs ≡ map written_frame made.outputs

-- The entry records a step of the router, from one state to the other.
pub record IsRecorded (r : Router) (before : State) (e : Entry) (after : State) : Type 0 where
  pub made : Made
  pub step : Step r before made after
  pub told : TellsOf made e

-- Entries lead from one state to another, one after the other.
abbrev pub IsLed : {E S : Type 0} → (S → E → S → Type 0) → S → List E → S → Type 0
IsLed Leads before [] after = after ≡ before
IsLed {E} {S} Leads before (e ∷ more) after = (between : S) × Leads before e between × IsLed Leads between more after

-- Entries record a run: steps, one after the other.
abbrev pub AreRecorded : Router → State → List Entry → State → Type 0
AreRecorded r before entries after = IsLed (IsRecorded r) before entries after

-- Entries are those that a journal keeps of steps, each of its own, where each message is read again as it is written.
abbrev pub AreKept : List Made → List Entry → Type 0
AreKept [] [] = Unit {0}
AreKept (made ∷ more) (e ∷ es) = IsEntryOf made e × IsWrittenAgain made.event × AreKept more es
AreKept [] (e ∷ es) = ⊥
AreKept (made ∷ more) [] = ⊥
