-- An event as a journal holds it, written before its step.
use Rattle.std.specs.Prelude.{◌≡◌, List, ℕ}
use Rattle.abstract_paths.specs.declared.events.Event.{Event}
use Rattle.journal_bytes.specs.Events.{IsWrittenAgain, event_bytes}
use Rattle.run_journal.specs.declared.spelled.SpelledEvent.{SpelledEvent}

-- The bytes are the event's. What they have of a message that came is read as the same message.
pub record IsWritten (event : Event) (written : List ℕ) : Type 0 where
  pub bytes : written ≡ event_bytes event
  pub again : IsWrittenAgain event

-- both are the event's bytes
pub record IsSpelled (event : Event) (s : SpelledEvent) : Type 0 where
  pub entry : IsWritten event s.entry
  pub receipt : s.receipt ≡ event_bytes event
