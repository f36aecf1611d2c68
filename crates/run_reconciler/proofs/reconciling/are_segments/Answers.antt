-- One segment more.
use Rattle.std.proofs.Common.{◌≡◌, ◌+◌, ◌++◌, ◌∷◌, [], List, All, take, ap, subst, sym, ◌∙◌}
use Rattle.std.proofs.lemmas.List.{take_all, take_more}
use Rattle.std.proofs.lemmas.List.Elements.{All-push}
use Rattle.run_journal.specs.Journals.{IsSegment, Stretch}
use Rattle.run_reconciler.proofs.reconciling.are_segments.Goals as goal

pub loop-segment-preserved : goal.loop-segment-preserved
loop-segment-preserved c =
    let i = c.loop-segment.segment-index in
    let all : List Stretch = c.args.segments.now in
    let one : Stretch = c.segment-item.result in
    let step : take (i + 1) all ≡ take i all ++ one ∷ [] = take_more all i one c.loop-segment-test.true ∙ ap (λ (s : Stretch). take i all ++ s ∷ []) (sym c.segment-item.is) in
    subst (All IsSegment) (sym step) (All-push IsSegment (take i all) one c.loop-segment.invariant c.is_run.ensures.segment)

pub returns : goal.returns
returns c = subst (All IsSegment) (take_all c.loop-segment.segment-index c.args.segments.now c.loop-segment-test.false) c.loop-segment.invariant
