-- Which bytes are the file of a stretch of a journal.
use Rattle.std.specs.Prelude.{ℕ, List, map}
use Rattle.journal_bytes.specs.declared.entry.Entry.{Entry}
use Rattle.journal_files.specs.Recordings.{SpellsFile}
use Rattle.journal_files.specs.declared.recordings.Recording.{Recording}
use Rattle.lsr_config.specs.Configs.{Setup}
use Rattle.run_journal.specs.Journals.{Stretch}

-- the entries of a stretch, without what is counted of them
abbrev pub entries_of : Stretch → List Entry
entries_of s = map (λ e. e.entry) s.entries

-- The recording of a stretch: the text that says its router's configuration, what the router knew before the first entry, and the entries.
abbrev pub recording_of : List ℕ → Setup → Stretch → Recording
recording_of text config s = record { text = text; config = config; base = s.base; entries = entries_of s }

-- the bytes are a file that spells the recording of the stretch
abbrev pub SpellsSegment : List ℕ → List ℕ → Setup → Stretch → Type 0
SpellsSegment bytes text config s = SpellsFile bytes (recording_of text config s)
