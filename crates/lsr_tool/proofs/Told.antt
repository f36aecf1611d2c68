-- A run is told of after what the console answered.
use Rattle.std.proofs.Common.{◌≡◌, ◌++◌, ℕ, List, Option, Result, IfOk, append_assoc, subst, sym}
use Rattle.std.specs.Io.KnownBytes.{Appends}
use Rattle.lsr_config.specs.Configs.{Setup}
use Rattle.lsr_serve.specs.Told.{reconciled_text}
use Rattle.lsr_tool.specs.Attended.{AttendsRun}
use Rattle.lsr_tool.specs.Growing.{StaysBefore}
use Rattle.lsr_tool.proofs.Growing.{answers_before}

pub attends_after : (config : Setup) (ports : ℕ) (held mid printed : Option (List ℕ)) → StaysBefore held mid → AttendsRun config ports mid printed → AttendsRun config ports held printed
attends_after config ports held mid printed stays (run, answers, rounds, told) =
    let line = reconciled_text run.entries in
    let (more, after) = answers_before held mid printed (answers ++ line) stays told in
    (run, more ++ answers, rounds, subst (Appends held printed) (sym (append_assoc more answers line)) after)

-- what is printed, by another name
pub attends_so : {E : Type 0} (r : Result ℕ E) (config : Setup) (ports : ℕ) (held o p : Option (List ℕ)) → o ≡ p → IfOk r (λ status. status ≡ 0 → AttendsRun config ports held o) → IfOk r (λ status. status ≡ 0 → AttendsRun config ports held p)
attends_so r config ports held o p same told = subst (λ (o : Option (List ℕ)). IfOk r (λ (status : ℕ). status ≡ 0 → AttendsRun config ports held o)) same told
