use Rattle.std.proofs.Common.{sym, subst}
use Rattle.slot_rows.specs.Marks.{Admits, mark_of}
use Rattle.slot_rows.specs.declared.marks.Mark.{Mark}
use Rattle.slot_rows.proofs.Marked.{admits_still}
use Rattle.slot_rows.proofs.marks.Marks.go.Goals as goal

pub returns : goal.returns
returns c = λ n other apart was.
    let same : Admits (mark_of c.args.self.now c.args.number) other → Admits c.without-mark.result other = λ admits. c.without-mark.ensures other apart (subst (λ (m : Mark). Admits m other) (sym c.mark.ensures) admits) in
    admits_still c.args.self.now c.write.new.self c.args.number c.without-mark.result c.write.ensures n other same was
