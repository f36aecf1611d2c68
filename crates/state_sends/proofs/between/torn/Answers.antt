-- One row more is torn down and forgotten, where it is wanted no more.
use Rattle.std.proofs.Common.{[], ap, filter_map, ◌∙◌}
use Rattle.std.proofs.lemmas.List.{take_all}
use Rattle.std.specs.FinMap.Entries.{find}
use Rattle.abstract_paths.specs.Outputs.{tear_for}
use Rattle.abstract_paths.specs.Touched.{forgotten}
use Rattle.state_sends.specs.Placing.{placed}
use Rattle.state_sends.proofs.Asking.{one_behind, one_placed}
use Rattle.state_sends.proofs.between.torn.Goals as goal

pub loop-row-preserved : goal.loop-row-preserved
loop-row-preserved g c =
    let cmp = g.I.Ord.cmp in
    let up = c.args.up.now in
    let is = c.args.is.now in
    let rows = c.args.was.now in
    let at = c.loop-row.row-index in
    let row = c.row-item.result in (
      one_behind (λ row. tear_for up (find cmp row.0 is) row) rows at row c.loop-row-test.true c.row-item.is [] _ _ _ c.loop-row.invariant.0 (c.in_ok-tear.ensures ∙ ap (λ o. tear_for up o row) c.get_near-found.ensures.found) c.in_ok-tears.ensures,
      one_placed cmp (λ row. forgotten (find cmp row.0 is) row) rows at row c.loop-row-test.true c.row-item.is _ _ _ _ c.loop-row.invariant.1 (c.forgotten.ensures ∙ ap (λ o. forgotten o row) c.get_near-found.ensures.found) c.in_ok-moments.ensures,
    )

pub returns-clause-tears : goal.returns-clause-tears
returns-clause-tears g c =
    let is = c.args.is.now in
    let up = c.args.up.now in
    c.loop-row.invariant.0 ∙ ap (filter_map (λ row. tear_for up (find g.I.Ord.cmp row.0 is) row)) (take_all c.loop-row.row-index c.args.was.now c.loop-row-test.false)

pub returns-clause-moments : goal.returns-clause-moments
returns-clause-moments g c =
    let cmp = g.I.Ord.cmp in
    let is = c.args.is.now in
    c.loop-row.invariant.1 ∙ ap (λ rows. placed cmp [] (filter_map (λ row. forgotten (find cmp row.0 is) row) rows)) (take_all c.loop-row.row-index c.args.was.now c.loop-row-test.false)
