-- What is asked for is what is answered.
use Rattle.std.proofs.Common.{◌≡◌, ℕ, List, subst}
use Rattle.std.specs.Io.KnownBytes.{Appends}
use Rattle.std.specs.Result.{OnOk}
use Rattle.lsr_explain.specs.Answers.{IsTold, shown_text}
use Rattle.lsr_explain.specs.Asking.{asked_by}
use Rattle.lsr_explain.specs.Topics.{Explains}
use Rattle.lsr_explain.specs.declared.explaining.Answer.{Answer}
use Rattle.lsr_explain.proofs.Printing.{answered}
use Rattle.lsr_explain.proofs.telling.run_explain.Goals as goal

pub returns : goal.returns
returns g c =
    let asked = asked_by c.args.texts.now in
    let answer = c.explain-answer.result in
    let word : c.as_str.result.now ≡ asked = let t = c.as_str.ensures.value in let u = c.in_ok-word.ensures in cc in
    let told : c.as_str-2.result.now ≡ asked = let t = c.as_str-2.ensures.value in let u = c.in_ok-word.ensures in cc in
    answered c.tell_answer.result asked answer (λ (x : Answer). Appends (g.W.Write.contents c.args.output.now) (g.W.Write.contents c.tell_answer.new.output) (shown_text x))
    (λ (t : List ℕ). Appends (g.E.Write.contents c.args.error.now) (g.E.Write.contents c.tell_answer.new.error) t)
    (subst (λ (w : List ℕ). Explains w answer) word c.explain-answer.ensures) c.tell_answer.ensures.status c.tell_answer.ensures.shown
    (subst (λ (w : List ℕ). OnOk c.tell_answer.result ((t : List ℕ) × IsTold w answer t × Appends (g.E.Write.contents c.args.error.now) (g.E.Write.contents c.tell_answer.new.error) t)) told c.tell_answer.ensures.told)
