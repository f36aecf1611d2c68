-- One turn more, and no turn more.
use Rattle.std.proofs.Common.{List, sym, ◌∙◌}
use Rattle.std.proofs.lemmas.List.{at_drop_all}
use Rattle.lsr_facts.specs.Orders.{key_cmp}
use Rattle.lsr_facts.specs.declared.assignment.Assignment.{Assignment}
use Rattle.lsr_facts.specs.declared.key.Key.{Key}
use Rattle.bypass_shares.specs.Merged.{with_rows}
use Rattle.bypass_shares.specs.Shares.{each_in_turn, kept_for}
use Rattle.bandwidth_protection.proofs.KeptTurns.{found_at, next_turn}
use Rattle.bandwidth_protection.specs.Keeping.{known_wishes}
use Rattle.bandwidth_protection.proofs.keeping.keep_each.Goals as goal

pub loop-row-preserved : goal.loop-row-preserved
loop-row-preserved g c = λ capacity are_left.
    let r = g.A.StateView.router c.args.after.now in
    let s = g.A.StateView.state c.args.after.now in
    let known = c.args.known.now in
    let used = c.args.used.now in
    let at = c.loop-row.row-index in
    let so_far = c.loop-row.invariant capacity are_left in
    let turn = c.in_ok-keep_next.ensures capacity known (found_at known at _ c.loop-row-test.true c.requires.known) so_far.0 in
    (turn.0, next_turn r s capacity known (with_rows key_cmp c.loop-row.made used) (with_rows key_cmp c.keep_next.new.made used) known at _ c.loop-row-test.true turn.1 ∙ so_far.1)

pub returns : goal.returns
returns g c = λ capacity are_left.
    let r = g.A.StateView.router c.args.after.now in
    let s = g.A.StateView.state c.args.after.now in
    let known = c.args.known.now in
    let so_far = c.loop-row.invariant capacity are_left in
    let turns = λ (rows : List (Key × Assignment)). each_in_turn key_cmp capacity (kept_for key_cmp capacity known) (with_rows key_cmp c.loop-row.made c.args.used.now) (known_wishes r s rows) in
    (so_far.0, sym (at_drop_all turns known c.loop-row.row-index c.loop-row-test.false) ∙ so_far.1)
