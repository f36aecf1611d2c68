use Rattle.std.proofs.Common.{T, ap, length, subst, sym, ◌∙◌}
use Rattle.std.proofs.Math.Dec.{eqb→eq}
use Rattle.state_views.specs.Joining.{joined_none}
use Rattle.state_views.proofs.edits.joined_rows.Goals as goal

pub returns-then-is_empty : goal.returns-then-is_empty
returns-then-is_empty g c =
    let none = eqb→eq (length c.as_slice-2.result.now) 0 (subst T (sym c.if-is_empty.true ∙ c.is_empty.ensures) tt) in
    joined_none g.K.Ord.cmp c.args.rows c.args.later (ap length (sym c.as_slice-2.ensures.rows) ∙ none) c.as_slice.ensures.sorted
