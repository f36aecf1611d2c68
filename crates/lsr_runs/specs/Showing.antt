-- What `lsr show-journal` prints and tells of a file.
use Rattle.std.specs.Prelude.{◌≡◌, ◌⊎◌, ℕ, List, Option, length}
use Rattle.std.specs.Io.KnownBytes.{Appends}
use Rattle.journal_lines.specs.Journals.{ShowsJournal, break_status, break_text}
use Rattle.journal_lines.specs.declared.breaks.Break.{Break}
use Rattle.line_streams.specs.Texts.{Stream, input_fault_text}
use Rattle.line_streams.specs.declared.input.InputFault.{InputFault}
use Rattle.lsr_runs.specs.Checking.{HasBytes}
use Rattle.lsr_runs.specs.Playing.{IsTextless}

-- The bytes of a file are shown, up to where they break, which is told.
pub record ShowsBytes (bytes : List ℕ) (output printed : Option (List ℕ)) (error told : Option (List ℕ)) (status : ℕ) : Type 0 where
  pub text : List ℕ
  pub broken : Option Break
  pub shows : ShowsJournal bytes text broken
  pub status_is : status ≡ break_status broken
  pub lines : Appends output printed text
  pub more : Appends error told (break_text (length bytes) broken)

-- The file of this name is shown; or why it isn't read is told.
abbrev pub ShowsFile : {F : Type 0} → (List ℕ → F → Type 0) → (List ℕ → InputFault → Type 0) → (F → Stream) → List ℕ → Option (List ℕ) → Option (List ℕ) → Option (List ℕ) → Option (List ℕ) → ℕ → Type 0
ShowsFile opens fails stream name output printed error told status =
    ((bytes : List ℕ) × HasBytes opens stream name bytes × ShowsBytes bytes output printed error told status)
    ⊎ ((fault : InputFault) × IsTextless opens fails stream name fault × (status ≡ 1) × (printed ≡ output) × Appends error told (input_fault_text name fault))
