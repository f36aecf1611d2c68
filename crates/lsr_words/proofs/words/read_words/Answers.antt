-- The words are those of the command.
use Rattle.std.proofs.Common.{◌∙◌, ap, sym, subst, map, List, Option}
use Rattle.std.specs.Option.{MatchOption}
use Rattle.clap.specs.Words.{App, HasKind, Kinds, Row, Text, fault_of, is_simple, is_simple_and_free, subcommand_of, takes}
use Rattle.lsr_words.specs.Words.{AsksIn}
use Rattle.lsr_words.specs.declared.words.Asked.{Asked}
use Rattle.lsr_words.proofs.WordLaws.{is_free, is_taken}
use Rattle.lsr_words.proofs.words.read_words.Goals as goal

pub returns-in_ok-asked_in-in-Ok-clause-asked : goal.returns-in_ok-asked_in-in-Ok-clause-asked
returns-in_ok-asked_in-in-Ok-clause-asked g c =
    let words = map g.S.AsStr.text c.args.words.now in
    let app = c.in_ok-command.ensures in
    let same = (c.in-Ok.ensures.matches (ap is_simple app ∙ is_taken)).1 ∙ ap (λ (a : App). subcommand_of a words) app in
    subst (λ (found : Option (Text × List Row)). MatchOption c.in_ok-asked_in-in-Ok.field-0 ((other : Asked) → AsksIn found other → ⊥) (AsksIn found)) same c.in_ok-asked_in-in-Ok.ensures

pub returns-in_ok-asked_in-in-Ok-clause-kinds : goal.returns-in_ok-asked_in-in-Ok-clause-kinds
returns-in_ok-asked_in-in-Ok-clause-kinds g c =
    let words = map g.S.AsStr.text c.args.words.now in
    let app = c.in_ok-command.ensures in
    ap (λ (a : App). fault_of a words) (sym app) ∙ c.in-Ok.ensures.kinds (ap is_simple_and_free app ∙ is_free)

pub returns-in-Err-clause-kinds : goal.returns-in-Err-clause-kinds
returns-in-Err-clause-kinds g c =
    let words = map g.S.AsStr.text c.args.words.now in
    let app = c.in_ok-command.ensures in
    subst (λ (kinds : Kinds). HasKind kinds c.in-Err.fault) (ap (λ (a : App). fault_of a words) app) (c.in-Err.ensures.kinds (ap is_simple_and_free app ∙ is_free))

pub returns-in-Err-clause-taken : goal.returns-in-Err-clause-taken
returns-in-Err-clause-taken g c = λ e.
    let words = map g.S.AsStr.text c.args.words.now in
    c.in-Err.ensures.passes (ap (λ (a : App). takes a words) c.in_ok-command.ensures ∙ e)
