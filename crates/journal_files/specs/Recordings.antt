-- Which bytes spell a recording.
use Rattle.std.specs.Prelude.{◌≡◌, ◌∷◌, ℕ, List, Option, Some, None, Result, Ok, Err}
use Rattle.std.specs.Borrow.{Bor}
use Rattle.field_bytes.specs.declared.fault.ReadFault.{ReadFault}
use Rattle.field_bytes.specs.declared.fault.ReadFault.TheVariants as faults
use Rattle.lsr_config.specs.Configs.{Setup}
use Rattle.lsr_facts.specs.declared.state.State.{State}
use Rattle.journal_files.specs.Fitting.{FormatFits}
use Rattle.journal_files.specs.Pending.{ArePendingTold, untold_state}
use Rattle.journal_files.specs.Formats.{Stored, format_bytes}
use Rattle.journal_files.specs.Texts.{SaysConfig}
use Rattle.journal_files.specs.declared.formats.FileFormat.{FileFormat}
use Rattle.journal_files.specs.declared.formats.FileFormat.TheVariants as formats
use Rattle.journal_files.specs.declared.recordings.Recording.{Recording}

-- what a file has of a recording: of pending LSPs the IDs alone
abbrev pub stored : Recording → Stored
stored r = (r.text, (untold_state r.base, r.entries))

-- A format can hold the recording: its text says its configuration, which the format allows, and of pending LSPs their paths say the same.
pub record IsRecording (format : FileFormat) (r : Recording) : Type 0 where
  pub says : SaysConfig format r.text r.config
  pub pending : ArePendingTold r.config.router r.base

-- the number of a format
abbrev pub format_number : FileFormat → ℕ
format_number formats.First = 1
format_number formats.Second = 2
format_number formats.Third = 3

-- a file: LSRJ, the format's number in 2 bytes, and what the format has after it
abbrev pub file_bytes : FileFormat → List ℕ → List ℕ
file_bytes format body = 76 ∷ 83 ∷ 82 ∷ 74 ∷ 0 ∷ format_number format ∷ body

-- The bytes are a file that spells the recording, in one of the formats: what it has of the recording has a spelling there.
pub record SpellsFile (bytes : List ℕ) (r : Recording) : Type 0 where
  pub format : FileFormat
  pub parts : bytes ≡ file_bytes format (format_bytes format (stored r))
  pub fits : FormatFits format (stored r)
  pub recording : IsRecording format r

-- The recording that the bytes spell; or Format exactly where they spell none. Out of memory can come in place of any answer.
abbrev pub ReadsFile : List ℕ → Result Recording ReadFault → Type 0
ReadsFile bytes (Ok r) = SpellsFile bytes r
ReadsFile bytes (Err faults.Format) = (r : Recording) → SpellsFile bytes r → ⊥
ReadsFile bytes (Err faults.Memory) = Unit {0}

-- ---- by parts

-- The format of the bytes, and what follows its number; or none exactly where they are a file of no format.
abbrev pub IsFormat : List ℕ → Option (FileFormat × Bor (List ℕ)) → Type 0
IsFormat bytes (Some found) = bytes ≡ file_bytes found.0 found.1.now
IsFormat bytes None = (format : FileFormat) (body : List ℕ) → bytes ≡ file_bytes format body → ⊥

-- The configuration that a text says, and what a router knew of which a file has this; or Format exactly where the text says none that is allowed.
abbrev pub IsToldBase : FileFormat → List ℕ → State → Result (Setup × State) ReadFault → Type 0
IsToldBase format text base (Ok told) = SaysConfig format text told.0 × (untold_state told.1 ≡ base) × ArePendingTold told.0.router told.1
IsToldBase format text base (Err faults.Format) = (c : Setup) → SaysConfig format text c → ⊥
IsToldBase format text base (Err faults.Memory) = Unit {0}

-- The recording of what a file has; or Format exactly where there is none.
abbrev pub IsRecorded : FileFormat → Stored → Result Recording ReadFault → Type 0
IsRecorded format parts (Ok r) = (stored r ≡ parts) × IsRecording format r
IsRecorded format parts (Err faults.Format) = (r : Recording) → IsRecording format r → stored r ≡ parts → ⊥
IsRecorded format parts (Err faults.Memory) = Unit {0}

-- what follows the format's number spells the recording
pub record SpellsBody (format : FileFormat) (body : List ℕ) (r : Recording) : Type 0 where
  pub parts : body ≡ format_bytes format (stored r)
  pub fits : FormatFits format (stored r)
  pub recording : IsRecording format r

abbrev pub ReadsBody : FileFormat → List ℕ → Result Recording ReadFault → Type 0
ReadsBody format body (Ok r) = SpellsBody format body r
ReadsBody format body (Err faults.Format) = (r : Recording) → SpellsBody format body r → ⊥
ReadsBody format body (Err faults.Memory) = Unit {0}
