use Rattle.sorted_rows.specs.Edits.{edited}
use Rattle.lsr_facts.specs.Orders.{key_cmp}
use Rattle.lsr_facts.specs.declared.key.Key.{Key}
use Rattle.state_settling.specs.Keeping.{moved}
use Rattle.state_settling.proofs.Moving.{none_yet, one_more}
use Rattle.state_settling.proofs.claims.with_moved.Goals as goal

pub loop-path-init : goal.loop-path-init
loop-path-init g c =
    let s = g.V.StateView.state c.args.view.now in
    let elsewhere = λ (key : Key). moved s.facts.paths (edited key_cmp c.args.paths.now s.facts.paths) s.resvs key in
    none_yet c.as_slice-touched.result.now c.args.kept elsewhere

pub loop-path-preserved : goal.loop-path-preserved
loop-path-preserved g c =
    let s = g.V.StateView.state c.args.view.now in
    let elsewhere = λ (key : Key). moved s.facts.paths (edited key_cmp c.args.paths.now s.facts.paths) s.resvs key in
    one_more c.as_slice-touched.result.now c.loop-path.path-index c.path-item.result c.loop-path-test.true c.path-item.is c.args.kept c.loop-path.edits _ elsewhere c.in_ok-edits.ensures c.loop-path.invariant
