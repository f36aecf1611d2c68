-- When a console ends the run.
use Rattle.std.specs.Prelude.{⊤, ℕ, List, Option, Some, None, bytes_eq, codes, if◌then◌else◌, string_bytes}
use Rattle.lsr_console.specs.declared.ending.ConsoleEnding.{ConsoleEnding}
use Rattle.lsr_console.specs.declared.ending.ConsoleEnding.TheVariants as endings
use Rattle.lsr_console.specs.declared.listening.Heard.{Heard}
use Rattle.lsr_console.specs.declared.listening.Heard.TheVariants as heards

-- why a line ends the run: it is `quit`
abbrev pub line_ending : List ℕ → Option ConsoleEnding
line_ending line = if bytes_eq line (codes "quit") then Some endings.Quit else None

-- why what was heard ends the run, if it does
abbrev pub ending_of : Heard → Option ConsoleEnding
ending_of (heards.Line line) = line_ending (string_bytes line)
ending_of (heards.NotText at) = None
ending_of (heards.Fault fault) = Some (endings.Unread fault)
ending_of heards.End = Some endings.InputEnded

-- no answer failed to be written
abbrev pub IsWritten : Option ConsoleEnding → Type 0
IsWritten (Some (endings.Unwritten error)) = ⊥
IsWritten ending = ⊤
