-- What is done of what the words ask for, and the status of words that aren't taken.
use Rattle.std.specs.Prelude.{◌≡◌, ◌≤◌, ◌⊎◌, ℕ, List, [], Option, Some, None, true, false, map}
use Rattle.std.specs.Option.{option_map}
use Rattle.std.specs.Io.KnownBytes.{Appends}
use Rattle.clap.specs.Words.{IsAmong, fault_of}
use Rattle.clap.specs.declared.error.kind.ErrorKind.{ErrorKind}
use Rattle.clap.specs.declared.error.kind.ErrorKind.TheVariants as kinds
use Rattle.lsr_explain.specs.Answers.{IsTold, answer_status, shown_text}
use Rattle.lsr_explain.specs.Asking.{asked_by}
use Rattle.lsr_explain.specs.Topics.{Explains}
use Rattle.lsr_explain.specs.declared.explaining.Answer.{Answer}
use Rattle.line_streams.specs.Texts.{Stream}
use Rattle.line_streams.specs.declared.input.InputFault.{InputFault}
use Rattle.lsr_words.specs.Words.{AsksFor, lsr_words}
use Rattle.lsr_words.specs.declared.words.Asked.{Asked}
use Rattle.lsr_words.specs.declared.words.Asked.TheVariants as asked
use Rattle.lsr_tool.specs.Attended.{AttendsFile}
use Rattle.lsr_runs.specs.Checking.{ChecksFiles}
use Rattle.lsr_tool.specs.Configuring.{Configures}
use Rattle.lsr_runs.specs.Decoding.{DecodesAny}
use Rattle.lsr_runs.specs.Endings.{ending_text, live_journal_text, status_of}
use Rattle.lsr_runs.specs.Live.{RunsLive}
use Rattle.lsr_runs.specs.Playing.{PlaysFile}
use Rattle.lsr_runs.specs.Recording.{RunsRecorded}
use Rattle.lsr_tool.specs.Serving.{ServesFile}
use Rattle.lsr_runs.specs.Sessions.{StepsOnFile, name_of}
use Rattle.lsr_runs.specs.Showing.{ShowsFile}
use Rattle.lsr_runs.specs.declared.endings.RunEnding.{RunEnding}

-- the words don't go together: nothing is read or printed, and the status is 2
abbrev pub AreStrange : Stream → Stream → Option (List ℕ) → Option (List ℕ) → ℕ → Type 0
AreStrange input left output printed status = (left ≡ input) × (printed ≡ output) × (status ≡ 2)

-- What was asked for is done, with this status: a run on the router of the file that is named, or without a name on
-- the built-in router, which answers lines as they come, or once all have come; or the configuration of such a router is printed; or a word, the lines of the input or a capture file are decoded; or what
-- words name, or a line among them tells, is explained. What is printed and told stands after what the streams held. The input was the first stream, and is the other now: to
-- print a configuration and to explain a word it isn't read.
-- A run of lines may be recorded in a file: `holds` says which bytes a file of a name holds that was written.
-- Or the links of the router of the file that is named are served: the input isn't read, and 0 is the status of one run of that router alone, of
-- which it was printed; or, with a console, it is an operator's, and 0 is the status of a run all of whose rounds are one run of that router. Or the world of a file is played; or recorded runs are checked or shown; the input isn't read then either.
abbrev pub Does : {F : Type 0} → (List ℕ → F → Type 0) → (List ℕ → InputFault → Type 0) → (F → Stream) → (List ℕ → List ℕ → Type 0) → Asked → Stream → Stream → Option (List ℕ) → Option (List ℕ) → Option (List ℕ) → Option (List ℕ) → ℕ → Type 0
Does opens fails stream holds (asked.Step file echo true None) input left output printed error told status =
    RunsLive opens fails stream echo (option_map (λ f. f.now) file) input left output printed error told status
Does opens fails stream holds (asked.Step file echo false None) input left output printed error told status =
    (ending : RunEnding) × (text : List ℕ) × (status ≡ status_of ending)
    × StepsOnFile opens fails stream echo (option_map (λ f. f.now) file) input text ending
    × Appends output printed text × Appends error told (ending_text (name_of (option_map (λ f. f.now) file)) ending)
Does opens fails stream holds (asked.Step file echo false (Some journal)) input left output printed error told status =
    RunsRecorded opens fails stream holds journal.now echo (option_map (λ f. f.now) file) input output printed error told status
Does opens fails stream holds (asked.Step file echo true (Some journal)) input left output printed error told status =
    (left ≡ input) × (status ≡ 2) × (printed ≡ output) × Appends error told live_journal_text
Does opens fails stream holds (asked.Config file) input left output printed error told status =
    (left ≡ input) × Configures opens fails stream (option_map (λ f. f.now) file) output printed error told status
Does opens fails stream holds (asked.Decode word fields) input left output printed error told status = DecodesAny opens fails stream fields word.now input left output printed error told status
Does opens fails stream holds (asked.Explain words) input left output printed error told status =
    (answer : Answer) × (text : List ℕ) × Explains (asked_by words.items) answer × (status ≡ answer_status answer) × (left ≡ input)
    × Appends output printed (shown_text answer) × IsTold (asked_by words.items) answer text × Appends error told text
Does opens fails stream holds (asked.Serve file turns journal false false false None) input left output printed error told status =
    (left ≡ input) × ServesFile opens stream file.now (option_map (λ w. w.now) turns) output printed status
Does opens fails stream holds (asked.Serve file turns journal false false false (Some level)) input left output printed error told status = AreStrange input left output printed status
Does opens fails stream holds (asked.Serve file turns journal false false true log) input left output printed error told status = AreStrange input left output printed status
Does opens fails stream holds (asked.Serve file turns journal false true mark log) input left output printed error told status = AreStrange input left output printed status
Does opens fails stream holds (asked.Serve file None journal true echo mark log) input left output printed error told status = status ≡ 0 → AttendsFile opens stream file.now output printed
Does opens fails stream holds (asked.Serve file (Some turns) journal true echo mark log) input left output printed error told status = AreStrange input left output printed status
Does opens fails stream holds (asked.Play file false) input left output printed error told status =
    (left ≡ input) × PlaysFile opens fails stream file.now output printed error told status
Does opens fails stream holds (asked.Play file true) input left output printed error told status = (left ≡ input) × (status ≤ 1)
Does opens fails stream holds (asked.Check files) input left output printed error told status =
    (left ≡ input) × ChecksFiles opens fails stream (map (λ f. f.now) files.items) output printed error told status
Does opens fails stream holds (asked.ShowJournal file) input left output printed error told status =
    (left ≡ input) × ShowsFile opens fails stream file.now output printed error told status

-- The status of words that aren't taken: 0 for help, 1 where memory ran out, else 2.
abbrev pub words_status : ErrorKind → ℕ
words_status kinds.DisplayHelp = 0
words_status kinds.DisplayVersion = 0
words_status kinds.OutOfMemory = 1
words_status kind = 2

-- the status of words that aren't taken: that of one of their faults, or of memory that ran out
abbrev pub IsFaultStatus : List (List ℕ) → ℕ → Type 0
IsFaultStatus words status =
    (kind : ErrorKind) × ((kind ≡ kinds.OutOfMemory) ⊎ IsAmong kind (fault_of lsr_words words)) × (status ≡ words_status kind)

-- Words that are taken are run, with this status: what they ask for is done, or they name nothing that there is.
abbrev pub RunsTaken : {F : Type 0} → (List ℕ → F → Type 0) → (List ℕ → InputFault → Type 0) → (F → Stream) → (List ℕ → List ℕ → Type 0) → List (List ℕ) → Stream → Stream → Option (List ℕ) → Option (List ℕ) → Option (List ℕ) → Option (List ℕ) → ℕ → Type 0
RunsTaken opens fails stream holds words input left output printed error told status =
    ((asked : Asked) × AsksFor words asked × Does opens fails stream holds asked input left output printed error told status)
    ⊎ (((asked : Asked) → AsksFor words asked → ⊥) × (status ≡ 2))

-- Words are run, with this status: they have no fault, and are run as words that are taken; or the status is that of
-- one of their faults, or of memory that ran out.
abbrev pub Runs : {F : Type 0} → (List ℕ → F → Type 0) → (List ℕ → InputFault → Type 0) → (F → Stream) → (List ℕ → List ℕ → Type 0) → List (List ℕ) → Stream → Stream → Option (List ℕ) → Option (List ℕ) → Option (List ℕ) → Option (List ℕ) → ℕ → Type 0
Runs opens fails stream holds words input left output printed error told status =
    ((fault_of lsr_words words ≡ []) × RunsTaken opens fails stream holds words input left output printed error told status)
    ⊎ IsFaultStatus words status
