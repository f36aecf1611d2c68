-- The lines of the reply and of the frames so far.
use Rattle.std.proofs.Common.{◌≡◌, ◌++◌, take, string_bytes}
use Rattle.std.specs.List.{flat_map}
use Rattle.lsr_text.specs.Answers.{reply_line}
use Rattle.lsr_journal.specs.Entries.{frame_line}
use Rattle.lsr_journal.proofs.entries.entry_text.Given as goal

abbrev pub invariant-loop-frame : goal.invariant-loop-frame
invariant-loop-frame l = string_bytes l.text ≡ reply_line l.entry.reply ++ flat_map frame_line (take l.frame-index l.frame-items)
