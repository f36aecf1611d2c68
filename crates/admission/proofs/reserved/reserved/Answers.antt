use Rattle.std.proofs.Common.{[], ◌∙◌}
use Rattle.lsr_facts.specs.Orders.{key_cmp}
use Rattle.lsr_facts.specs.Claims.{counts, reserved_of}
use Rattle.sorted_rows.specs.RowsLaws.{is_sorted-filter}
use Rattle.admission.proofs.reserved.reserved.Goals as goal

pub returns : goal.returns
unfolding reserved_of
returns c =
    let counted = counts c.args.link c.args.priority in
    let sum = c.add_counting.ensures.added [] (is_sorted-filter key_cmp counted c.args.claims.now c.requires.sorted) c.new-sum.ensures.none in
    c.total.ensures ∙ sum.total
