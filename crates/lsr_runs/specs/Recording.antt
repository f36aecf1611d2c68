-- What `step --journal` prints, tells and writes, and its status, on the router that it is given.
use Rattle.std.specs.Prelude.{◌≡◌, ◌⊎◌, ℕ, List, [], ◌++◌, codes, Option, Some, None, Result, Ok, Bool, OnOk}
use Rattle.std.specs.Io.KnownBytes.{Appends}
use Rattle.line_streams.specs.Cuts.{lines_of}
use Rattle.line_streams.specs.Texts.{IsTextOf, Stream}
use Rattle.line_streams.specs.declared.input.InputFault.{InputFault}
use Rattle.lsr_config.specs.Configs.{Setup}
use Rattle.lsr_config.specs.Reading.{IsRead}
use Rattle.lsr_lines.specs.Forms.{bad_form_text, expected_form, form_among}
use Rattle.lsr_lines.specs.Runs.{Stops}
use Rattle.lsr_lines.specs.declared.run.RunStop.{RunStop}
use Rattle.lsr_lines.specs.declared.run.RunStop.TheVariants as stops
use Rattle.lsr_lines.specs.declared.step.Ending.TheVariants as lines
use Rattle.run_journal.specs.Journals.{Stretch, stretch_of}
use Rattle.lsr_journal.specs.Recorded.{RecordedState, Records, begun, is_over}
use Rattle.lsr_journal.specs.Segments.{SpellsSegment}
use Rattle.lsr_runs.specs.Endings.{ending_text}
use Rattle.lsr_runs.specs.Sessions.{IsConfigText, NeverSteps}
use Rattle.lsr_runs.specs.Written.{kept_text}
use Rattle.lsr_runs.specs.declared.endings.RunEnding.{RunEnding}
use Rattle.lsr_runs.specs.declared.endings.RunEnding.TheVariants as endings
use Rattle.lsr_runs.specs.declared.endings.Source.TheVariants as sources
use Rattle.lsr_runs.specs.declared.recording.TheConstants.{SHOWN_FORM}
use Rattle.lsr_runs.specs.declared.written.OutputFault.{OutputFault}

-- the form that a line should have, by its first word, while the journal is kept: `show recent` is all that is shown
abbrev pub recorded_form : List ℕ → List ℕ
recorded_form line = form_among SHOWN_FORM.now (expected_form line) line

-- why lines weren't all served; that the journal is full was answered
abbrev pub stop_text : RunStop → List ℕ
stop_text (stops.Lines lines.Done) = []
stop_text (stops.Lines (lines.BadLine number line)) = bad_form_text number line.now (recorded_form line.now)
stop_text (stops.Lines lines.Memory) = codes "memory\n"
stop_text stops.Session = []

-- the status: 0 where every line was served and the file is written
abbrev pub recorded_status : RunStop → Result (Unit {0}) OutputFault → ℕ
recorded_status (stops.Lines lines.Done) (Ok done) = 0
recorded_status stop kept = 1

-- The file of this name holds the journal of this stretch, with the configuration that the text says. `holds` says which bytes a file of a name holds.
abbrev pub HoldsJournal : (List ℕ → List ℕ → Type 0) → List ℕ → List ℕ → Setup → Stretch → Type 0
HoldsJournal holds name text config stretch = (bytes : List ℕ) × SpellsSegment bytes text config stretch × holds name bytes

-- The texts of the configuration and of the input are read, and a session begins on the router that the first says.
pub record IsRecordable (stream : Option Stream) (input : Stream) (session : RecordedState) (configured text : List ℕ) : Type 0 where
  pub config : Setup
  pub config_read : IsConfigText stream configured
  pub input_read : IsTextOf input text
  pub says : IsRead configured (Ok config)
  pub begins : session ≡ begun config session.journal.table

-- A session began, and served the lines of the input, one after the other, up to this stop. Where its file is written it holds the journal of all
-- that it did: it begins with what the router knew as the session began.
pub record RanRecorded (holds : List ℕ → List ℕ → Type 0) (journal : List ℕ) (echo : Bool) (stream : Option Stream) (input : Stream) (printed : List ℕ) (stop : RunStop) (kept : Result (Unit {0}) OutputFault) : Type 0 where
  pub session : RecordedState
  pub after : RecordedState
  pub configured : List ℕ
  pub text : List ℕ
  pub ready : IsRecordable stream input session configured text
  pub stops : Stops Records is_over echo session (lines_of text) printed stop after
  pub whole : after.journal.base ≡ session.journal.state
  pub file : OnOk kept (HoldsJournal holds journal configured ready.config (stretch_of after.journal))

-- A run on the configuration of this name: lines are served, why not all were is told, and why the file isn't written; or none begins, nothing is
-- printed, and that is told.
abbrev pub RunsRecordedOn : (List ℕ → List ℕ → Type 0) → List ℕ → List ℕ → Bool → Option Stream → Stream → Option (List ℕ) → Option (List ℕ) → Option (List ℕ) → Option (List ℕ) → ℕ → Type 0
RunsRecordedOn holds journal name echo config input output printed error told status =
    ((stop : RunStop) × (kept : Result (Unit {0}) OutputFault) × (text : List ℕ) × RanRecorded holds journal echo config input text stop kept
    × (status ≡ recorded_status stop kept) × Appends output printed text × Appends error told (stop_text stop ++ kept_text journal kept))
    ⊎ ((ending : RunEnding) × NeverSteps config input ending × (status ≡ 1) × (printed ≡ output) × Appends error told (ending_text name ending))

-- A run on the router of the file of this name, or without one on the built-in router. `opens` says which file a name opens, `fails` why it may
-- open none, `stream` what a file is read as, `holds` which bytes a file holds that was written. A file that isn't opened is unread.
abbrev pub RunsRecorded : {F : Type 0} → (List ℕ → F → Type 0) → (List ℕ → InputFault → Type 0) → (F → Stream) → (List ℕ → List ℕ → Type 0) → List ℕ → Bool → Option (List ℕ) → Stream → Option (List ℕ) → Option (List ℕ) → Option (List ℕ) → Option (List ℕ) → ℕ → Type 0
RunsRecorded opens fails stream holds journal echo None input output printed error told status =
    RunsRecordedOn holds journal [] echo None input output printed error told status
RunsRecorded {F} opens fails stream holds journal echo (Some name) input output printed error told status =
    ((file : F) × opens name file × RunsRecordedOn holds journal name echo (Some (stream file)) input output printed error told status)
    ⊎ ((fault : InputFault) × fails name fault × (status ≡ 1) × (printed ≡ output)
    × Appends error told (ending_text name (endings.Unread sources.Config fault)))
