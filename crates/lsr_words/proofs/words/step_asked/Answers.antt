-- What was given is what the command asks for.
use Rattle.std.proofs.Common.{refl, ◌∙◌, ap, codes}
use Rattle.clap.specs.Matches.{found_of}
use Rattle.clap.proofs.WalkLemmas.{first_value-rows}
use Rattle.lsr_words.specs.Words.{is_given}
use Rattle.lsr_words.proofs.words.step_asked.Goals as goal

pub returns : goal.returns
returns c =
    let found = found_of c.args.given.now in (
      refl,
      c.get_str.ensures ∙ first_value-rows found (codes "config"),
      c.is_given.ensures ∙ ap is_given (c.get_str-2.ensures ∙ first_value-rows found (codes "echo")),
      c.is_given-2.ensures ∙ ap is_given (c.get_str-3.ensures ∙ first_value-rows found (codes "live")),
      c.get_str-4.ensures ∙ first_value-rows found (codes "journal"),
    )
