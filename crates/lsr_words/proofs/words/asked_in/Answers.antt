-- The command that was found has its name and its values.
use Rattle.std.proofs.lemmas.Result.{IfOk-weaker}
use Rattle.clap.specs.Words.{rows_of}
use Rattle.clap.specs.Matches.{found_of}
use Rattle.lsr_words.proofs.WordLaws.{asks_in, found_is, none_asks}
use Rattle.lsr_words.proofs.words.asked_in.Goals as goal

pub returns-in-Some : goal.returns-in-Some
returns-in-Some c =
    let name = c.in-Some.command.now in
    let given = rows_of (found_of c.in-Some.given.now) in
    let is = found_is c.args.matches.now name given c.in-Some.ensures.name c.in-Some.ensures.rows in
    IfOk-weaker c.asked_by.result _ _ (λ asked. asks_in asked _ name given is) c.asked_by.ensures

pub returns-in-None : goal.returns-in-None
returns-in-None c = none_asks c.args.matches.now c.in-None.ensures.name
