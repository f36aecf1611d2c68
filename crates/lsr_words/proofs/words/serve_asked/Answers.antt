-- What was given is what the command asks for.
use Rattle.std.proofs.Common.{refl, ◌∙◌, ap, sym, codes}
use Rattle.clap.specs.Matches.{found_of}
use Rattle.clap.proofs.WalkLemmas.{first_value-rows}
use Rattle.lsr_words.specs.Words.{is_given}
use Rattle.lsr_words.proofs.words.serve_asked.Goals as goal

pub returns-in-Some : goal.returns-in-Some
returns-in-Some c =
    let found = found_of c.args.given.now in (
      refl,
      sym (first_value-rows found (codes "FILE")) ∙ sym c.in-Some.ensures,
      c.get_str-in-Some.ensures ∙ first_value-rows found (codes "turns"),
      c.get_str-in-Some-2.ensures ∙ first_value-rows found (codes "journal"),
      c.is_given.ensures ∙ ap is_given (c.get_str-in-Some-3.ensures ∙ first_value-rows found (codes "console")),
      c.is_given-in-Some.ensures ∙ ap is_given (c.get_str-in-Some-4.ensures ∙ first_value-rows found (codes "echo")),
      c.is_given-in-Some-2.ensures ∙ ap is_given (c.get_str-in-Some-5.ensures ∙ first_value-rows found (codes "mark")),
      c.get_str-in-Some-6.ensures ∙ first_value-rows found (codes "log"),
    )

pub returns-in-None : goal.returns-in-None
returns-in-None c = sym (first_value-rows (found_of c.args.given.now) (codes "FILE")) ∙ sym c.in-None.ensures
