-- What is told with this word, or with one after it, or with none.
use Rattle.std.proofs.Common.{◌≡◌, ◌++◌, ℕ, List, rules, ap, sym, subst, ◌∙◌, string_bytes}
use Rattle.std.specs.Result.{OnOk}
use Rattle.lsr_explain.specs.Asking.{asked_in, first_asked, sought_in, words_in}
use Rattle.lsr_explain.proofs.AskingLaws.{no_word, told_here, told_later, told_nowhere}
use Rattle.lsr_explain.proofs.TopicLaws.{none_by}
use Rattle.lsr_explain.proofs.asking.push_asked.Goals as goal

pub loop-word-preserved : goal.loop-word-preserved
loop-word-preserved c =
    let other = first_asked (words_in c.args.line.now) in
    record {
      told = record {
        same = c.loop-word.invariant.told.same ∙ ap (sought_in other) c.in-Some.ensures.word ∙ told_later other c.in-Some.word.now (words_in c.in-Some.others.now) (search rules);
        utf8 = search rules;
      };
      kept = c.loop-word.invariant.kept;
    }

pub returns-in-Some-told_after : goal.returns-in-Some-told_after
returns-in-Some-told_after c =
    let other = first_asked (words_in c.args.line.now) in
    let same = c.loop-word.invariant.told.same ∙ ap (sought_in other) c.in-Some.ensures.word
    ∙ told_here other c.in-Some.word.now (words_in c.in-Some.others.now) c.in-Some-told_after.told (sym c.in-Some-told_after.ensures) in
    subst (λ (old : List ℕ). OnOk c.push_told.result (string_bytes c.push_told.new.asked ≡ old ++ asked_in (words_in c.args.line.now))) c.loop-word.invariant.kept
    (subst (λ (word : List ℕ). OnOk c.push_told.result (string_bytes c.push_told.new.asked ≡ string_bytes c.loop-word.asked ++ word)) (sym same) c.push_told.ensures)

pub returns : goal.returns
returns c =
    let other = first_asked (words_in c.args.line.now) in
    let none = c.next_word.ensures.end.0 (none_by c.next_word.result c.in_default.not-Some) in
    let same = c.loop-word.invariant.told.same ∙ ap (λ r. sought_in other (words_in r)) none ∙ ap (sought_in other) no_word ∙ told_nowhere other in
    subst (λ (old : List ℕ). OnOk c.push_first.result (string_bytes c.push_first.new.asked ≡ old ++ asked_in (words_in c.args.line.now))) c.loop-word.invariant.kept
    (subst (λ (word : List ℕ). OnOk c.push_first.result (string_bytes c.push_first.new.asked ≡ string_bytes c.loop-word.asked ++ word)) (sym same) c.push_first.ensures)
