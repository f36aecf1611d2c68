-- What was given is what the command asks for.
use Rattle.std.proofs.Common.{◌≡◌, ◌∙◌, ap, codes, rules, sym}
use Rattle.clap.specs.Matches.{found_of}
use Rattle.clap.specs.Words.{rows_of}
use Rattle.clap.proofs.WalkLemmas.{first_value-rows}
use Rattle.lsr_words.specs.Words.{is_given}
use Rattle.lsr_words.proofs.WordLaws.{lacks, needed_by, none_given}
use Rattle.lsr_words.proofs.words.asked_by.Goals as goal

pub returns-in-config : goal.returns-in-config
returns-in-config c = (search rules, c.get_str.ensures ∙ first_value-rows (found_of c.args.given.now) (codes "FILE"))

pub returns-in-Some : goal.returns-in-Some
returns-in-Some c =
    let found = found_of c.args.given.now in
    (search rules, sym (first_value-rows found (codes "HEX")) ∙ sym c.in-Some.ensures, c.is_given.ensures ∙ ap is_given (c.get_str-in-Some.ensures ∙ first_value-rows found (codes "fields")))

pub returns-in-None : goal.returns-in-None
returns-in-None c = λ other.
    let is : c.args.command.now ≡ codes "decode" = search rules in
    lacks c.args.command.now (codes "HEX") (rows_of (found_of c.args.given.now)) other (ap needed_by is) (sym (first_value-rows (found_of c.args.given.now) (codes "HEX")) ∙ sym c.in-None.ensures)

pub returns-in-None-2 : goal.returns-in-None-2
returns-in-None-2 c = λ other.
    let is : c.args.command.now ≡ codes "explain" = search rules in
    lacks c.args.command.now (codes "WHAT") (rows_of (found_of c.args.given.now)) other (ap needed_by is) (none_given _ _ c.in_ok-words-in-explain.field-0 (search rules) c.in_ok-words-in-explain.ensures)

pub returns-in-Some-get_str : goal.returns-in-Some-get_str
returns-in-Some-get_str c =
    let found = found_of c.args.given.now in (
      search rules,
      sym (first_value-rows found (codes "FILE")) ∙ sym c.in-Some-get_str.ensures,
      c.is_given-in-Some-get_str.ensures ∙ ap is_given (c.get_str-in-Some-get_str.ensures ∙ first_value-rows found (codes "lab")),
    )

pub returns-in-None-get_str : goal.returns-in-None-get_str
returns-in-None-get_str c = λ other.
    let is : c.args.command.now ≡ codes "play" = search rules in
    lacks c.args.command.now (codes "FILE") (rows_of (found_of c.args.given.now)) other (ap needed_by is) (sym (first_value-rows (found_of c.args.given.now) (codes "FILE")) ∙ sym c.in-None-get_str.ensures)

pub returns-in-None-3 : goal.returns-in-None-3
returns-in-None-3 c = λ other.
    let is : c.args.command.now ≡ codes "check" = search rules in
    lacks c.args.command.now (codes "FILE") (rows_of (found_of c.args.given.now)) other (ap needed_by is) (none_given _ _ c.in_ok-files-in-check.field-0 (search rules) c.in_ok-files-in-check.ensures)

pub returns-in-Some-get_str-2 : goal.returns-in-Some-get_str-2
returns-in-Some-get_str-2 c =
    (search rules, sym (first_value-rows (found_of c.args.given.now) (codes "FILE")) ∙ sym c.in-Some-get_str-2.ensures)

pub returns-in-None-get_str-2 : goal.returns-in-None-get_str-2
returns-in-None-get_str-2 c = λ other.
    let is : c.args.command.now ≡ codes "show-journal" = search rules in
    lacks c.args.command.now (codes "FILE") (rows_of (found_of c.args.given.now)) other (ap needed_by is) (sym (first_value-rows (found_of c.args.given.now) (codes "FILE")) ∙ sym c.in-None-get_str-2.ensures)
