-- It is the LSP's turn, and it is given some.
use Rattle.std.proofs.Common.{sym, ◌∙◌}
use Rattle.lsr_facts.specs.Orders.{key_cmp}
use Rattle.bypass_shares.specs.Merged.{with_rows}
use Rattle.bypass_shares.proofs.OneTurn.{new-turn}
use Rattle.bypass_shares.proofs.passes.give_next.Goals as goal

pub returns : goal.returns
returns c = λ capacity are_left.
    let pairs = with_rows key_cmp c.args.made.now c.args.kept.now in
    new-turn capacity c.args.left.now c.give.new.left c.args.kept.now c.args.made.now c.give.new.made c.args.wish.now c.in-Some.given c.has_some.ensures.rows
    (sym c.has_some.ensures.some ∙ c.if-has_some.false)
    (sym c.in-Some.is ∙ c.found.ensures capacity pairs are_left)
    c.in_ok-give.ensures.made c.in_ok-give.ensures.left are_left
