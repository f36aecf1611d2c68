-- Entries of a journal: what happened at a port, what was answered and what was sent, each as it is written.
use Rattle.std.specs.Prelude.{◌≡◌, map}
use Rattle.link_frames.specs.Frames.{frame_bytes}
use Rattle.abstract_paths.specs.declared.events.Made.{Made}
use Rattle.abstract_paths.specs.declared.events.Output.{Output}
use Rattle.journal_bytes.specs.Events.{event_bytes}
use Rattle.journal_bytes.specs.declared.entry.Entry.{Entry}
use Rattle.journal_bytes.specs.declared.entry.WrittenFrame.{WrittenFrame}

-- a frame as it leaves by its link: its bytes
abbrev pub written_frame : Output → WrittenFrame
written_frame output = record { link = output.link; bytes = frame_bytes output.frame }

-- The entry is one of this step: what happened, the labels that were chosen, what was answered and what was sent.
pub record IsEntryOf (made : Made) (e : Entry) : Type 0 where
  pub event : e.event ≡ event_bytes made.event
  pub chosen : e.chosen ≡ made.labels
  pub replied : e.reply ≡ made.reply
  pub sent : e.outputs ≡ map written_frame made.outputs
