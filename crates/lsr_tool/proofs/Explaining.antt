-- What is explained is what words ask for.
use Rattle.std.proofs.Common.{◌≡◌, ℕ, List, Option, Result, Ok, Err, refl, subst, Bor}
use Rattle.std.specs.Result.{IfOk}
use Rattle.std.specs.Io.KnownBytes.{Appends}
use Rattle.line_streams.specs.Texts.{Stream}
use Rattle.lsr_explain.specs.Answers.{IsTold, answer_status, shown_text}
use Rattle.lsr_explain.specs.Asking.{asked_by}
use Rattle.lsr_explain.specs.Topics.{Explains}
use Rattle.lsr_explain.specs.declared.explaining.Answer.{Answer}

-- what words ask for is explained, and the input isn't read
pub explained_so : {E : Type 0} (r : Result ℕ E) (texts words : List (Bor (List ℕ))) (input : Stream) (output printed error told : Option (List ℕ)) → texts ≡ words
    → IfOk r (λ status. (x : Answer) × (t : List ℕ) × Explains (asked_by texts) x × (status ≡ answer_status x) × Appends output printed (shown_text x) × IsTold (asked_by texts) x t × Appends error told t)
    → IfOk r (λ status. (x : Answer) × (t : List ℕ) × Explains (asked_by words) x × (status ≡ answer_status x) × (input ≡ input) × Appends output printed (shown_text x) × IsTold (asked_by words) x t × Appends error told t)
explained_so (Ok status) texts words input output printed error told same (x, t, explains, is, shown, tells, appends) =
    (x, t, subst (λ (ts : List (Bor (List ℕ))). Explains (asked_by ts) x) same explains, is, refl, shown, subst (λ (ts : List (Bor (List ℕ))). IsTold (asked_by ts) x t) same tells, appends)
explained_so (Err e) texts words input output printed error told same explained = tt
