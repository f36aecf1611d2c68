-- It is the LSP's turn, and it keeps what it may of what it had.
use Rattle.std.proofs.Common.{sym, ◌∙◌}
use Rattle.bandwidth_protection.proofs.KeptTurns.{given_turn}
use Rattle.bandwidth_protection.specs.Wishing.{wish_at}
use Rattle.bandwidth_protection.proofs.keeping.keep_next.Goals as goal

pub returns : goal.returns
returns g c = λ capacity known was are_left.
    let r = g.A.StateView.router c.args.after.now in
    let s = g.A.StateView.state c.args.after.now in
    let row = c.args.row.now in
    given_turn capacity known c.args.used.now c.args.made.now c.give.new.made c.args.left.now c.give.new.left row.0 row.1 c.in-Some.claim (wish_at r s row.0)
    c.has_some.ensures.rows (sym c.has_some.ensures.some ∙ c.if-has_some.false) was (sym c.claim_at.ensures ∙ c.in-Some.is)
    (sym c.is_left.ensures ∙ c.if-not-is_left.false) c.in_ok-give.ensures.left c.in_ok-give.ensures.made are_left
