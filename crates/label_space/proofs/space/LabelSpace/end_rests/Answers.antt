use Rattle.std.proofs.Common.{ap, sym, subst, ◌∙◌}
use Rattle.label_space.specs.Labels.{AreInLine, end_rests, labels_by}
use Rattle.label_space.proofs.Knowing.{line_within, now_ended}
use Rattle.label_space.proofs.Resting.{by_ended}
use Rattle.label_space.proofs.space.LabelSpace.end_rests.Goals as goal

pub invariant_of-self : goal.invariant_of-self
invariant_of-self c =
    let s = c.self.inside in
    subst (AreInLine s.range s.moment s.line) (sym c.end_all.ensures) (now_ended s.range s.moment s.line s.untils.items c.self.invariant)

pub returns : goal.returns
returns c =
    let s = c.self.inside in
    let always = c.self.invariant in
    ap (λ untils. labels_by s.range s.moment untils s.line.line) c.end_all.ensures
    ∙ by_ended s.range s.moment s.untils.items s.line.line (line_within s.range s.moment s.line s.untils.items always) always.rising
    ∙ ap end_rests c.self.view_is
