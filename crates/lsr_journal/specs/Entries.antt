-- What is printed of an entry.
use Rattle.std.specs.Prelude.{◌≡◌, ◌-◌, ◌++◌, ℕ, List, flat_map, length, map, slice_get, Some}
use Rattle.abstract_paths.specs.declared.events.Made.{Made}
use Rattle.journal_bytes.specs.Entries.{written_frame}
use Rattle.journal_bytes.specs.declared.entry.Entry.{Entry}
use Rattle.journal_bytes.specs.declared.entry.WrittenFrame.{WrittenFrame}
use Rattle.lsr_text.specs.Answers.{reply_line}
use Rattle.lsr_text.specs.FrameLines.{written_line}
use Rattle.run_journal.specs.declared.entry.CountedEntry.{CountedEntry}

-- the line of a frame that was sent
abbrev pub frame_line : WrittenFrame → List ℕ
frame_line frame = written_line frame.link frame.bytes

-- its reply, and after it what was sent, in order
abbrev pub entry_text : Entry → List ℕ
entry_text entry = reply_line entry.reply ++ flat_map frame_line entry.outputs

-- The entry tells what was answered in the step and what was sent, each frame as its bytes.
pub record TellsOf (made : Made) (entry : Entry) : Type 0 where
  pub replied : entry.reply ≡ made.reply
  pub sent : entry.outputs ≡ map written_frame made.outputs

-- it is the last of these entries
abbrev pub IsLast : List CountedEntry → CountedEntry → Type 0
IsLast entries entry = slice_get entries (length entries - 1) ≡ Some entry
