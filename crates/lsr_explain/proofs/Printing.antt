-- What is printed after what was printed.
use Rattle.std.proofs.Common.{◌≡◌, ℕ, List, ◌++◌, Option, Result, Ok, Err}
use Rattle.std.specs.Result.{IfOk, OnOk}
use Rattle.std.specs.Io.KnownBytes.{Appends}
use Rattle.std.proofs.KnownBytes.{Appends-trans}
use Rattle.lsr_explain.specs.Answers.{IsTold, answer_status}
use Rattle.lsr_explain.specs.Topics.{Explains}
use Rattle.lsr_explain.specs.declared.explaining.Answer.{Answer}

pub appends_after : {T E : Type 0} (r : Result T E) (a b c : Option (List ℕ)) (x y : List ℕ) → Appends a b x → OnOk r (Appends b c y) → OnOk r (Appends a c (x ++ y))
appends_after (Ok t) a b c x y h k = Appends-trans a b c x y h k
appends_after (Err e) a b c x y h k = tt

pub appends_last : {T E : Type 0} (r : Result T E) (a b c d : Option (List ℕ)) (x y z : List ℕ) → Appends a b x → Appends b c y → OnOk r (Appends c d z) → OnOk r (Appends a d (x ++ (y ++ z)))
appends_last r a b c d x y z first second third = appends_after r a b d x (y ++ z) first (appends_after r b c d y z second third)

-- what is answered to a word, with its status
pub answered : {E : Type 0} (r : Result ℕ E) (word : List ℕ) (answer : Answer) (Shown : Answer → Type 0) (Told : List ℕ → Type 0) → Explains word answer
    → IfOk r (λ status. status ≡ answer_status answer) → OnOk r (Shown answer) → OnOk r ((told : List ℕ) × IsTold word answer told × Told told)
    → IfOk r (λ status. (x : Answer) × (told : List ℕ) × Explains word x × (status ≡ answer_status x) × Shown x × IsTold word x told × Told told)
answered (Ok status) word answer Shown Told explains is shown (told, tells, appends) = (answer, told, explains, is, shown, tells, appends)
answered (Err e) word answer Shown Told explains is shown told = tt
