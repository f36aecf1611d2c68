-- What the name of a core knows, and what is of the router of a name.
use Rattle.std.specs.Prelude.{◌≡◌, []}
use Rattle.lsr_config.specs.Configs.{Setup}
use Rattle.abstract_router.specs.Soundness.{IsSound}
use Rattle.abstract_router.specs.States.{State}
pub use Rattle.run_journal.specs.Below.machine.States.{opened}
use Rattle.run_journal.specs.Entries.{Knew, Recorded}
use Rattle.run_journal.specs.Journals.{IsSegment, Stretch}
use Rattle.run_journal.specs.Marks.{Counts, receipt_of}
use Rattle.run_journal.specs.declared.entry.CountedEntry.{CountedEntry}
use Rattle.run_journal.specs.declared.receipt.Receipt.{Receipt}

-- no configuration: what the toolchain's own name stands for until a call picks it
abbrev pub no_setup : Setup
no_setup = record {
  router = record { id = record { octets = [] }; refresh_ms = 0; labels = record { first = 0; last = 0 }; label_rest_ms = 0; links = [] };
  routes = [];
  tunnels = [];
  bypasses = [];
}

-- The router of this configuration knew this once, after steps that it made since it was opened; and it is sound.
pub record IsKnown (c : Setup) (s : State) : Type 0 where
  pub knew : Knew c.router (opened c).state s
  pub sound : IsSound c.router s

-- The receipt is of an entry of the router of this configuration: the entry records a step from what that router knew once.
pub record IsReceiptOf (c : Setup) (receipt : Receipt) : Type 0 where
  pub counts : Counts
  pub entry : CountedEntry
  pub before : State
  pub after : State
  pub known : IsKnown c before
  pub recorded : Recorded c.router before entry after
  pub told : receipt ≡ receipt_of counts entry

-- The stretch is one of a journal of the router of this configuration: it begins with what that router knew once, and where no entry was
-- made before it, with what it knew as it was opened.
pub record IsSegmentOf (c : Setup) (piece : Stretch) : Type 0 where
  pub segment : IsSegment piece
  pub router : piece.router ≡ c.router
  pub begun : piece.from.number ≡ 0 → piece.base ≡ (opened c).state
  pub base : IsKnown c piece.base
