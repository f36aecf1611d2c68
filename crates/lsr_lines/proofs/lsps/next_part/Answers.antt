-- The first slash ends the part.
use Rattle.std.proofs.Common.{Some, None, ap, ◌∙◌, arith}
use Rattle.std.proofs.lemmas.Str.Pattern.{split_parts}
use Rattle.lsr_lines.specs.Lsps.{parts_left}
use Rattle.lsr_lines.proofs.PartLaws.{parts_cut, parts_whole}
use Rattle.lsr_lines.proofs.lsps.next_part.Goals as goal

pub returns-in-Some : goal.returns-in-Some
returns-in-Some c =
    let parts = split_parts 47 c.in_ok-text.text.now (Some (c.in-Some.part, c.in-Some.rest)) c.in-Some.ensures.cases (omega arith) in
    ap parts_left c.in_ok-text.was ∙ parts_cut c.in_ok-text.text.now c.in-Some.part.now c.in-Some.rest.now parts.0 parts.1

pub returns-in-None : goal.returns-in-None
returns-in-None c =
    ap parts_left c.in_ok-text.was ∙ parts_whole c.in_ok-text.text.now (split_parts 47 c.in_ok-text.text.now None c.in-None.ensures.cases (omega arith))
