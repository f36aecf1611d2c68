-- What `lsr check` prints and tells of the files that its words name.
use Rattle.std.specs.Prelude.{◌≡◌, ℕ, List, Option, None}
use Rattle.std.specs.Io.KnownBytes.{Appends}
use Rattle.std.specs.Option.{IfSome}
use Rattle.line_streams.specs.Texts.{Stream}
use Rattle.line_streams.specs.declared.input.InputFault.{InputFault}
use Rattle.journal_files.specs.Recordings.{SpellsFile}
use Rattle.journal_files.specs.declared.recordings.Recording.{Recording}
use Rattle.lsr_check.specs.Checking.{Checks}
use Rattle.lsr_check.specs.declared.recorded.Recorded.{Recorded}
use Rattle.lsr_check.specs.declared.recorded.Unread.{Unread}
use Rattle.lsr_check.specs.declared.recorded.Unread.TheVariants as unread
use Rattle.lsr_runs.specs.Playing.{IsTextless}

-- The file of this name has these bytes, where its bytes are known.
abbrev pub HasBytes : {F : Type 0} → (List ℕ → F → Type 0) → (F → Stream) → List ℕ → List ℕ → Type 0
HasBytes {F} opens stream name bytes = (file : F) × opens name file × IfSome (stream file).bytes (λ all. bytes ≡ all)

-- a recording's run: its configuration, base and entries
abbrev pub run_of : Recording → Recorded
run_of r = record { config = r.config; base = r.base; entries = r.entries }

-- the bytes are a journal file, with this run
abbrev pub ReadsRun : List ℕ → Recorded → Type 0
ReadsRun bytes run = (r : Recording) × SpellsFile bytes r × (run ≡ run_of r)

-- why they have none: they spell no recording, or memory ran out
abbrev pub IsUnreadRun : List ℕ → Unread → Type 0
IsUnreadRun bytes (unread.Input fault) = ⊥
IsUnreadRun bytes unread.Format = (r : Recording) → SpellsFile bytes r → ⊥
IsUnreadRun bytes unread.Memory = Unit {0}

-- The file of this name is a journal file, with this run.
abbrev pub SpellsIn : {F : Type 0} → (List ℕ → F → Type 0) → (F → Stream) → List ℕ → Recorded → Type 0
SpellsIn opens stream name run = (bytes : List ℕ) × HasBytes opens stream name bytes × ReadsRun bytes run

-- why it isn't: it isn't opened or read, its bytes spell no recording, or memory ran out
abbrev pub FailsIn : {F : Type 0} → (List ℕ → F → Type 0) → (List ℕ → InputFault → Type 0) → (F → Stream) → List ℕ → Unread → Type 0
FailsIn opens fails stream name (unread.Input fault) = IsTextless opens fails stream name fault
FailsIn opens fails stream name unread.Format = (bytes : List ℕ) × HasBytes opens stream name bytes × IsUnreadRun bytes unread.Format
FailsIn opens fails stream name unread.Memory = Unit {0}

-- The files of these names are checked, one after the other.
abbrev pub ChecksFiles : {F : Type 0} → (List ℕ → F → Type 0) → (List ℕ → InputFault → Type 0) → (F → Stream) → List (List ℕ) → Option (List ℕ) → Option (List ℕ) → Option (List ℕ) → Option (List ℕ) → ℕ → Type 0
ChecksFiles opens fails stream names output printed error told status =
    (lines : List ℕ) × (more : List ℕ) × Checks (SpellsIn opens stream) (FailsIn opens fails stream) None names lines more status
    × Appends output printed lines × Appends error told more
