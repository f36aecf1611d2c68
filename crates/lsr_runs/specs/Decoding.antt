-- What becomes of the word that is to be decoded.
use Rattle.std.specs.Prelude.{◌≡◌, ◌⊎◌, ℕ, List, Option, Bool, true, false}
use Rattle.std.specs.Io.KnownBytes.{Appends}
use Rattle.lsr_decode.specs.Captures.{DecodesWord}
use Rattle.lsr_decode.specs.Files.{DecodesFile, file_ending_text, file_status, is_file_name}
use Rattle.lsr_decode.specs.declared.files.FileEnding.{FileEnding}
use Rattle.line_streams.specs.Texts.{Stream, input_fault_text}
use Rattle.line_streams.specs.declared.input.InputFault.{InputFault}

-- A file that is opened is read and decoded, with this status.
abbrev pub DecodesOpened : Bool → Stream → List ℕ → Option (List ℕ) → Option (List ℕ) → Option (List ℕ) → Option (List ℕ) → ℕ → Type 0
DecodesOpened fields stream name output printed error told status =
    (ending : FileEnding) × (text : List ℕ) × (status ≡ file_status ending) × DecodesFile fields stream text ending
    × Appends output printed text × Appends error told (file_ending_text name ending)

-- The file of this name is decoded, or can't be opened: that is told, with status 1. `opens` says which file a name opens,
-- `fails` why it may open none, `stream` what a file is read as.
abbrev pub DecodesNamed : {F : Type 0} → (List ℕ → F → Type 0) → (List ℕ → InputFault → Type 0) → (F → Stream) → Bool → List ℕ → Option (List ℕ) → Option (List ℕ) → Option (List ℕ) → Option (List ℕ) → ℕ → Type 0
DecodesNamed {F} opens fails stream fields name output printed error told status =
    ((file : F) × opens name file × DecodesOpened fields (stream file) name output printed error told status)
    ⊎ ((fault : InputFault) × fails name fault × (status ≡ 1) × (printed ≡ output) × Appends error told (input_fault_text name fault))

-- A word with a dot or a slash is a file's name, and the input isn't read; any other is decoded itself.
abbrev pub DecodesAny : {F : Type 0} → (List ℕ → F → Type 0) → (List ℕ → InputFault → Type 0) → (F → Stream) → Bool → List ℕ → Stream → Stream → Option (List ℕ) → Option (List ℕ) → Option (List ℕ) → Option (List ℕ) → ℕ → Type 0
DecodesAny opens fails stream fields word input left output printed error told status =
    ((is_file_name word ≡ true) × (left ≡ input) × DecodesNamed opens fails stream fields word output printed error told status)
    ⊎ ((is_file_name word ≡ false) × DecodesWord fields word input left output printed error told status)
