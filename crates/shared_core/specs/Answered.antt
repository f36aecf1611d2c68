-- What a core answers an event.
use Rattle.std.specs.Prelude.{◌≡◌, Result, Err}
use Rattle.lsr_config.specs.Configs.{Setup}
use Rattle.lsr_facts.specs.declared.refusal.Refusal.{Refusal}
use Rattle.abstract_paths.specs.declared.events.Event.{Event}
use Rattle.run_journal.specs.Journals.{IsAnswered, IsKept, Journal}
use Rattle.run_journal.specs.declared.mark.Mark.{Mark}
use Rattle.run_journal.specs.declared.receipt.Receipt.{Receipt}
use Rattle.shared_core.specs.Names.{opened}

-- What may stand under the lock of a core: a journal of the router of this configuration, as it was opened.
pub record IsJournalOf (c : Setup) (journal : Journal) : Type 0 where
  pub kept : IsKept journal
  pub router : journal.router ≡ c.router
  pub opening : journal.opening ≡ (opened c).state

-- A core answers an event at a port of this mark as the journal under its lock does, which becomes another by it. So it is refused as full only
-- where that journal was full, for a wrong port only where it didn't know the mark, and as cold only where the router was cold.
pub record IsAnsweredBy (c : Setup) (m : Mark) (event : Event) (answer : Result Receipt Refusal) : Type 0 where
  pub before : Journal
  pub after : Journal
  pub own : IsJournalOf c before
  pub answered : IsAnswered before m event answer after

-- a core refuses an event at a port of this mark so
abbrev pub IsRefusedBy : Setup → Mark → Event → Refusal → Type 0
IsRefusedBy c m event refusal = IsAnsweredBy c m event (Err refusal)
