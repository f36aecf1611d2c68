-- What is told of how a run ended, and its status.
use Rattle.std.specs.Prelude.{ℕ, List, [], ◌++◌, codes, Option, Some, None}
use Rattle.config_text.specs.Telling.{place_text}
use Rattle.config_text.specs.declared.place.Place.{Place}
use Rattle.lsr_config.specs.Faults.{fault_name, fault_word}
use Rattle.lsr_config.specs.declared.fault.ConfigFault.{ConfigFault}
use Rattle.lsr_lines.specs.Forms.{bad_line_text}
use Rattle.line_streams.specs.Texts.{input_fault_text}
use Rattle.line_streams.specs.declared.input.InputFault.{InputFault}
use Rattle.line_streams.specs.declared.input.InputFault.TheVariants as faults
use Rattle.lsr_lines.specs.declared.step.Ending.{Ending}
use Rattle.lsr_lines.specs.declared.step.Ending.TheVariants as lines
use Rattle.std.specs.declared.io.ErrorKind.{ErrorKind}
use Rattle.std.specs.declared.io.ErrorKind.TheVariants as kinds
use Rattle.lsr_runs.specs.declared.endings.Source.{Source}
use Rattle.lsr_runs.specs.declared.endings.Source.TheVariants as sources
use Rattle.lsr_runs.specs.declared.endings.RunEnding.{RunEnding}
use Rattle.lsr_runs.specs.declared.endings.RunEnding.TheVariants as endings

-- why a file isn't opened, by the kind of the error
abbrev pub open_fault : ErrorKind → InputFault
open_fault kinds.NotFound = faults.Absent
open_fault kinds.OutOfMemory = faults.Memory
open_fault kind = faults.Unopened

-- a word after a space, where there is one
abbrev pub next_word : Option (List ℕ) → List ℕ
next_word None = []
next_word (Some word) = codes " " ++ word

-- what a text is called, where the configuration has this name
abbrev pub source_name : List ℕ → Source → List ℕ
source_name config sources.Config = config
source_name config sources.Input = codes "standard input"

-- why lines weren't all answered
abbrev pub lines_ending_text : Ending → List ℕ
lines_ending_text lines.Done = []
lines_ending_text (lines.BadLine number line) = bad_line_text number line.now
lines_ending_text lines.Memory = codes "memory\n"

-- the fault of a configuration: `config FAULT KEY`, or without a key `config FAULT`
unfoldable pub fault_line : ConfigFault → List ℕ
fault_line fault = codes "config " ++ (fault_word fault ++ (next_word (fault_name fault) ++ codes "\n"))

-- where it stands, where that is known
abbrev pub place_lines : ConfigFault → Option Place → List ℕ
place_lines fault None = []
place_lines fault (Some place) = place_text fault place

-- the fault of a configuration, and where it stands
unfoldable pub config_fault_text : ConfigFault → Option Place → List ℕ
config_fault_text fault place = fault_line fault ++ place_lines fault place

-- what is told on the error stream of a run on the configuration of this name
abbrev pub ending_text : List ℕ → RunEnding → List ℕ
ending_text config (endings.Ran ending) = lines_ending_text ending
ending_text config (endings.Unread source fault) = input_fault_text (source_name config source) fault
ending_text config endings.Memory = codes "memory\n"
ending_text config (endings.BadConfig fault place) = config_fault_text fault place

-- what is told where memory ran out, where a stream can't be written, and where a word isn't UTF-8
abbrev pub memory_text : List ℕ
memory_text = codes "memory\n"

abbrev pub unwritable_text : List ℕ
unwritable_text = codes "unwritable\n  the output or the error stream can't be written: look at where they go\n"

abbrev pub unread_words_text : List ℕ
unread_words_text = codes "error: a word isn't UTF-8; see lsr --help\n"

-- what is told where a run is to be recorded whose lines are answered as they come
abbrev pub live_journal_text : List ℕ
live_journal_text = codes "error: --journal isn't taken beside --live; see lsr step --help\n"

-- the status: 1 wherever something is told
abbrev pub status_of : RunEnding → ℕ
status_of (endings.Ran lines.Done) = 0
status_of (endings.Ran (lines.BadLine number line)) = 1
status_of (endings.Ran lines.Memory) = 1
status_of (endings.Unread source fault) = 1
status_of endings.Memory = 1
status_of (endings.BadConfig fault place) = 1
