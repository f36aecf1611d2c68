use Rattle.std.proofs.Common.{sym, subst}
use Rattle.slot_rows.specs.Marks.{Admits, mark_of}
use Rattle.slot_rows.specs.declared.marks.Mark.{Mark}
use Rattle.slot_rows.proofs.Marked.{admits_own, admits_still}
use Rattle.slot_rows.proofs.marks.Marks.come.Goals as goal

pub returns-clause-own : goal.returns-clause-own
returns-clause-own c =
    admits_own c.args.self.now c.write.new.self c.args.number c.with-mark.result c.write.ensures c.args.slot c.with-mark.ensures.own

pub returns-clause-others : goal.returns-clause-others
returns-clause-others c = λ n other was.
    let same : Admits (mark_of c.args.self.now c.args.number) other → Admits c.with-mark.result other = λ admits. c.with-mark.ensures.others other (subst (λ (m : Mark). Admits m other) (sym c.mark.ensures) admits) in
    admits_still c.args.self.now c.write.new.self c.args.number c.with-mark.result c.write.ensures n other same was
