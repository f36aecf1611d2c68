-- What `lsr serve` on a file with a console says.
use Rattle.std.specs.Io.KnownBytes.{Appends}
use Rattle.std.specs.Prelude.{◌+◌, ◌++◌, ℕ, List, Option, length}
use Rattle.line_streams.specs.Texts.{Stream}
use Rattle.lsr_config.specs.Configs.{Setup}
use Rattle.lsr_config.specs.declared.sockets.LinkSockets.{LinkSockets}
use Rattle.lsr_rounds.specs.Ended.{IsRunOfRounds}
use Rattle.lsr_rounds.specs.declared.so_far.RunSoFar.{RunSoFar}
use Rattle.lsr_serve.specs.Told.{reconciled_text}
use Rattle.lsr_tool.specs.declared.console.Attended.{Attended}
use Rattle.lsr_tool.specs.declared.console.Attended.TheVariants.{Ended, Failed}
use Rattle.lsr_runs.specs.Playing.{IsFileText}
use Rattle.lsr_tool.specs.Serving.{SaysRun}

-- a run that ended as it was told to is one run of the router of this configuration, round after round, and at least one
abbrev pub IsAttended : Setup → ℕ → Attended → Type 0
IsAttended config ports (Ended end status) = IsRunOfRounds config ports end.run
IsAttended config ports Failed = Unit {0}

-- The rounds of a run, at least one, are one reconciled run of the router of this configuration, by so many ports. What was printed meanwhile
-- stands after what the output held before the call, and after that the line that says how many entries the run has.
abbrev pub AttendsRun : Setup → ℕ → Option (List ℕ) → Option (List ℕ) → Type 0
AttendsRun config ports output printed =
    (run : RunSoFar) × (answers : List ℕ) × IsRunOfRounds config ports run × Appends output printed (answers ++ reconciled_text run.entries)

-- The router that ran is that of the text, with a port for each of its links, one for the clock and one for the operator.
pub record AttendsText (text : List ℕ) (output printed : Option (List ℕ)) : Type 0 where
  pub config : Setup
  pub links : List (ℕ × LinkSockets)
  pub says : SaysRun text config links
  pub run : AttendsRun config (length links + 2) output printed

-- The router that ran is that of the file of this name.
abbrev pub AttendsFile : {F : Type 0} → (List ℕ → F → Type 0) → (F → Stream) → List ℕ → Option (List ℕ) → Option (List ℕ) → Type 0
AttendsFile opens stream name output printed = (text : List ℕ) × IsFileText opens stream name text × AttendsText text output printed
