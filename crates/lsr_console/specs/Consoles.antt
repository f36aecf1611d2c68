-- What a console prints of what it hears.
use Rattle.std.specs.Prelude.{◌≡◌, ◌⊎◌, ◌++◌, ℕ, List, [], Bool, true, false, string_bytes}
use Rattle.lsr_config.specs.Configs.{Setup}
use Rattle.worker_tallies.specs.declared.handled.Tally.{Tally}
use Rattle.lsr_console.specs.Answers.{AnswersLine, Lacks, OperatorState, lack_text}
use Rattle.lsr_console.specs.Told.{untext_text}
use Rattle.lsr_console.specs.declared.answering.Lack.{Lack}
use Rattle.lsr_console.specs.declared.listening.Heard.{Heard}
use Rattle.lsr_console.specs.declared.listening.Heard.TheVariants as heards
use Rattle.lsr_console.specs.declared.manner.Manner.{Manner}
use Rattle.lsr_console.specs.declared.printing.TheConstants.{MARK}

-- the mark at the end of an answer, where it is asked for
abbrev pub end_mark : Bool → List ℕ
end_mark true = MARK.now
end_mark false = []

-- What is told of the line of this number, while the ports counted so much: its answer; or that memory ran out for it.
abbrev pub TellsLine : Setup → Manner → List Tally → ℕ → List ℕ → OperatorState → List ℕ → OperatorState → Type 0
TellsLine c manner counts number line before text after =
    AnswersLine c manner counts number line before text after
    ⊎ ((lack : Lack) × (text ≡ lack_text lack) × Lacks (AnswersLine c manner counts number line before) before lack after)

-- What is printed of the line: what is told of it, and then the mark where it is asked for.
pub record PrintsLine (c : Setup) (manner : Manner) (counts : List Tally) (number : ℕ) (line : List ℕ) (before : OperatorState) (text : List ℕ) (after : OperatorState) : Type 0 where
  pub answer : List ℕ
  pub tells : TellsLine c manner counts number line before answer after
  pub marked : text ≡ answer ++ end_mark manner.marks

-- What is printed of what was heard: of a line, its answer; of one that isn't UTF-8, where that is; each with its mark. And nothing of the rest.
abbrev pub TellsHeard : Setup → Manner → List Tally → ℕ → Heard → OperatorState → List ℕ → OperatorState → Type 0
TellsHeard c manner counts number (heards.Line line) before text after = PrintsLine c manner counts number (string_bytes line) before text after
TellsHeard c manner counts number (heards.NotText at) before text after = (text ≡ untext_text number at ++ end_mark manner.marks) × (after ≡ before)
TellsHeard c manner counts number heard before text after = (text ≡ []) × (after ≡ before)

-- What is printed while a router is attended to once: what is told of what was heard, if anything was.
abbrev pub TellsOnce : Setup → Manner → List Tally → ℕ → OperatorState → List ℕ → OperatorState → Type 0
TellsOnce c manner counts number before text after =
    ((text ≡ []) × (after ≡ before)) ⊎ ((heard : Heard) × TellsHeard c manner counts number heard before text after)
