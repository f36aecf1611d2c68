-- What is told of an answer, be there memory for its text or not.
use Rattle.std.proofs.Common.{◌≡◌, ◌++◌, ◌∷◌, [], ℕ, List, Bool, Result, Ok, Err, refl, subst, sym}
use Rattle.std.specs.Prelude.{IfOk, OnErr}
use Rattle.abstract_paths.specs.declared.events.Event.{Event}
use Rattle.lsr_config.specs.Configs.{Setup}
use Rattle.lsr_facts.specs.declared.refusal.Refusal.{Refusal}
use Rattle.lsr_session.specs.Requests.{latest}
use Rattle.run_journal.specs.declared.receipt.Receipt.{Receipt}
use Rattle.lsr_console.specs.Answers.{AnswersEvent, IsAnswered, OperatorState, answer_text, reply_of}

-- what is answered to an event is printed
pub event_told : (c : Setup) (echo : Bool) (event : Event) (before after : OperatorState) (answer : Result Receipt Refusal) → IsAnswered c event before.work after.work answer → after.recent ≡ latest (before.recent ++ reply_of answer ∷ [])
    → AnswersEvent c echo event before (answer_text echo answer) after
event_told c echo event before after answer answered recent = record { answer = answer; answered = answered; shown = refl; recent = recent }

-- a text is told where there is memory for it
pub told : {A E : Type 0} (bytes : A → List ℕ) (r : Result A E) (text : List ℕ) (prints : List ℕ → Type 0) → prints text → IfOk r (λ x. bytes x ≡ text) → IfOk r (λ x. prints (bytes x))
told bytes (Ok x) text prints is shown = subst prints (sym shown) is
told bytes (Err error) text prints is shown = tt

-- and else it is one that would be
pub untold : {A E : Type 0} (r : Result A E) (text : List ℕ) (prints : List ℕ → Type 0) → prints text → OnErr r ((t : List ℕ) × prints t)
untold (Ok x) text prints is = tt
untold (Err error) text prints is = (text, is)
