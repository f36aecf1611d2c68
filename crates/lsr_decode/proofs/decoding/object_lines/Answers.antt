-- At first no object has its lines, and then one more.
use Rattle.std.proofs.Common.{rules, ◌++◌, ◌∷◌, [], refl}
use Rattle.std.proofs.lemmas.List.Elements.{All-nil, All-push}
use Rattle.lsr_decode.specs.Decoding.{IsSpelled}
use Rattle.lsr_decode.proofs.Showing.{parts_push, lines_push}
use Rattle.lsr_decode.proofs.decoding.object_lines.Goals as goal

pub loop-rest-init : goal.loop-rest-init
loop-rest-init c = ([], All-nil _, refl, search rules)

pub loop-rest-preserved : goal.loop-rest-preserved
loop-rest-preserved c =
    let before = c.loop-rest.invariant in
    let more = c.in_ok-rest.ensures.found in (
      before.0 ++ (more.0 ∷ []),
      All-push IsSpelled before.0 more.0 before.1 more.2,
      parts_push _ _ _ _ _ before.2 more.1,
      lines_push c.args.fields _ _ _ _ before.3 more.3,
    )
