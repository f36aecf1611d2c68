-- What is answered to a line that asks for something.
use Rattle.std.proofs.Common.{ℕ, List, Result, Ok, Err}
use Rattle.std.specs.Prelude.{IfErr, IfOk}
use Rattle.lsr_config.specs.Configs.{Setup}
use Rattle.lsr_lines.specs.declared.lines.Request.{Request}
use Rattle.worker_tallies.specs.declared.handled.Tally.{Tally}
use Rattle.lsr_console.specs.Answers.{AnswersLine, AnswersRequest, Lacks, OperatorState}
use Rattle.lsr_console.specs.Said.{Says}
use Rattle.lsr_console.specs.declared.answering.Lack.{Lack}
use Rattle.lsr_console.specs.declared.answering.Lack.TheVariants as lacks
use Rattle.lsr_console.specs.declared.manner.Manner.{Manner}
use Rattle.lsr_console.specs.declared.said.Said.TheVariants as saids

-- a line that asks for something is answered as that is
pub line_told : {A E : Type 0} (bytes : A → List ℕ) (r : Result A E) (c : Setup) (manner : Manner) (counts : List Tally) (number : ℕ) (line : List ℕ) (before : OperatorState) (request : Request) (after : OperatorState)
    → Says line (saids.Asks request) → IfOk r (λ x. AnswersRequest c manner number line before request (bytes x) after) → IfOk r (λ x. AnswersLine c manner counts number line before (bytes x) after)
line_told bytes (Ok x) c manner counts number line before request after says answers = record { said = saids.Asks request; says = says; answers = answers }
line_told bytes (Err error) c manner counts number line before request after says answers = tt

lacks_of : (c : Setup) (manner : Manner) (counts : List Tally) (number : ℕ) (line : List ℕ) (before : OperatorState) (request : Request) (after : OperatorState) (lack : Lack)
    → Says line (saids.Asks request) → Lacks (AnswersRequest c manner number line before request) before lack after → Lacks (AnswersLine c manner counts number line before) before lack after
lacks_of c manner counts number line before request after lacks.Undone says same = same
lacks_of c manner counts number line before request after lacks.Untold says (text, answers) = (text, record { said = saids.Asks request; says = says; answers = answers })

-- and where there is no memory for it
pub line_lacks : {A : Type 0} (r : Result A Lack) (c : Setup) (manner : Manner) (counts : List Tally) (number : ℕ) (line : List ℕ) (before : OperatorState) (request : Request) (after : OperatorState)
    → Says line (saids.Asks request) → IfErr r (λ lack. Lacks (AnswersRequest c manner number line before request) before lack after) → IfErr r (λ lack. Lacks (AnswersLine c manner counts number line before) before lack after)
line_lacks (Ok x) c manner counts number line before request after says lack = tt
line_lacks (Err error) c manner counts number line before request after says lack = lacks_of c manner counts number line before request after error says lack
