-- Where there is no memory for a tunnel, the line brings one.
use Rattle.std.proofs.Common.{sym, subst, ◌∙◌}
use Rattle.std.proofs.lemmas.Result.{on_err_weaker}
use Rattle.world_lines.specs.Lines.{BringsLine}
use Rattle.world_lines.proofs.lines.read_line.Goals as goal

pub returns-in-Some-clause-memory : goal.returns-in-Some-clause-memory
returns-in-Some-clause-memory c =
    on_err_weaker c.read_after.result (λ brings. (sym c.has_return.ensures ∙ c.if-has_return.false, subst BringsLine (sym c.in-Some.ensures) brings)) c.read_after.ensures.memory
