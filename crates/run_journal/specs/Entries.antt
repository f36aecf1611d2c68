-- Entries that record a run, and tell whether what is forwarded changed.
use Rattle.std.specs.Prelude.{◌≡◌, List, [], ◌∷◌}
use Rattle.lsr_facts.specs.declared.router.Router.{Router}
use Rattle.abstract_paths.specs.declared.events.Made.{Made}
use Rattle.abstract_router.specs.States.{State}
use Rattle.abstract_router.specs.Steps.{Run, Step}
use Rattle.abstract_router.specs.Tables.{TellsChange}
use Rattle.journal_bytes.specs.Entries.{IsEntryOf}
use Rattle.journal_bytes.specs.Events.{IsWrittenAgain}
use Rattle.run_journal.specs.declared.entry.CountedEntry.{CountedEntry}

-- The entry records a step of the router from one state to the other, and tells whether what is forwarded changed. What it has of a message
-- that came is read as the same message.
pub record Recorded (r : Router) (before : State) (e : CountedEntry) (after : State) : Type 0 where
  pub made : Made
  pub step : Step r before made after
  pub entry : IsEntryOf made e.entry
  pub again : IsWrittenAgain made.event
  pub told : TellsChange e.changes_table r before after

-- Entries record steps, one after the other.
abbrev pub AreRecorded : Router → State → List CountedEntry → State → Type 0
AreRecorded r before [] after = after ≡ before
AreRecorded r before (e ∷ more) after = (between : State) × Recorded r before e between × AreRecorded r between more after

-- The router knew this once, after steps that it made since it knew that at first.
abbrev pub Knew : Router → State → State → Type 0
Knew r first s = (made : List Made) × Run r first made s

-- Entries are those of steps, each of its own.
abbrev pub AreEntriesOf : List Made → List CountedEntry → Type 0
AreEntriesOf [] [] = Unit {0}
AreEntriesOf (made ∷ more) (e ∷ es) = IsEntryOf made e.entry × AreEntriesOf more es
AreEntriesOf [] (e ∷ es) = ⊥
AreEntriesOf (made ∷ more) [] = ⊥
