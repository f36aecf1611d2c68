use Rattle.journal_lines.proofs.Naming.{no_word_by, word_by}
use Rattle.journal_lines.proofs.words.word_of.Goals as goal

pub returns-in-Ok : goal.returns-in-Ok
returns-in-Ok c =
    (word_by c.args.name.now c.is_empty.result c.are_letters.result c.is_empty.ensures c.if-is_empty.false c.are_letters.ensures c.if-not-are_letters.false c.in-Ok.ensures.cases.1, c.in-Ok.ensures.cases.0)

pub returns-in-Err : goal.returns-in-Err
returns-in-Err c =
    no_word_by c.args.name.now c.is_empty.result c.are_letters.result c.is_empty.ensures c.if-is_empty.false c.are_letters.ensures c.if-not-are_letters.false c.in-Err.ensures.cases.0
