-- One row of two lists after the other.
use Rattle.std.proofs.Common.{◌≡◌, ap, sym, ◌∙◌, ◌++◌, drop, append_assoc, arith}
use Rattle.lsr_facts.specs.OrderLaws.{key_exact, key_total}
use Rattle.lsr_facts.specs.Orders.{key_cmp}
use Rattle.bypass_shares.proofs.NextRows.{all_left, more_end, rows_end, step-both, step-more, step-row}
use Rattle.bypass_shares.specs.Merged.{with_rows}
use Rattle.bypass_shares.proofs.merging.merged.Goals as goal
use Rattle.bypass_shares.proofs.merging.merged.Goals.{then-loop-i-test+else-j-more, else-loop-i-test}

pub loop-i-preserved-in-Less : goal.loop-i-preserved-in-Less
loop-i-preserved-in-Less c = record {
  rows_left = omega (arith, c.loop-i-test.true);
  more_left = c.loop-i.invariant.more_left;
  together = step-row key_cmp key_total key_exact c.push.new.self.items c.loop-i.all.items c.args.rows.now c.args.more.now _ c.loop-i.i c.loop-i.j _ _ c.requires.more c.loop-i-test.true c.if-j-more.true (sym c.cmp.ensures ∙ c.in-Less.is) c.in_ok-push-in-Less.ensures.items c.loop-i.invariant.together;
}

pub loop-i-preserved-in-Equal : goal.loop-i-preserved-in-Equal
loop-i-preserved-in-Equal c = record {
  rows_left = omega (arith, c.loop-i-test.true);
  more_left = omega (arith, c.if-j-more.true);
  together = step-both key_cmp key_total key_exact c.push-in-Equal.new.self.items c.loop-i.all.items c.args.rows.now c.args.more.now _ c.loop-i.i c.loop-i.j _ _ c.requires.more c.loop-i-test.true c.if-j-more.true (sym c.cmp.ensures ∙ c.in-Equal.is) c.in_ok-push-in-Equal.ensures.items c.loop-i.invariant.together;
}

pub loop-i-preserved : goal.loop-i-preserved
loop-i-preserved c = record {
  rows_left = c.loop-i.invariant.rows_left;
  more_left = omega (arith, c.if-j-more.true);
  together = step-more key_cmp key_total key_exact c.push-in-Greater.new.self.items c.loop-i.all.items c.args.rows.now c.args.more.now _ c.loop-i.i c.loop-i.j _ _ c.requires.rows c.requires.more c.loop-i-test.true c.if-j-more.true (sym c.cmp.ensures ∙ c.in-Greater.is) c.in_ok-push-in-Greater.ensures.items c.loop-i.invariant.together;
}

pub returns : goal.returns
returns c =
    let all = c.loop-i.all.items in
    let rows = drop c.loop-i.i c.args.rows.now in
    let more = drop c.loop-i.j c.args.more.now in
    let ends : with_rows key_cmp more rows ≡ rows ++ more = elim c.loop-i-test.branch [
      | then-loop-i-test+else-j-more w ↦ more_end key_cmp key_total key_exact c.args.rows.now c.args.more.now c.loop-i.i c.loop-i.j w.if-j-more.false
      | else-loop-i-test w ↦ rows_end key_cmp key_total key_exact c.args.rows.now c.args.more.now c.loop-i.i c.loop-i.j c.requires.more w.loop-i-test.false
    ] in
    c.in_ok-extend_from_slice-2.ensures.items
    ∙ (λ t. (c.in_ok-extend_from_slice.ensures.items ∙ ap (λ xs. all ++ xs) (all_left c.args.rows.now c.loop-i.i)) t ++ all_left c.args.more.now c.loop-i.j t)
    ∙ append_assoc all rows more
    ∙ ap (λ xs. all ++ xs) (sym ends)
    ∙ c.loop-i.invariant.together
