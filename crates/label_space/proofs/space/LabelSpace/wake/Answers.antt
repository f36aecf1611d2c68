use Rattle.std.proofs.Common.{ap, sym, subst, ◌∙◌}
use Rattle.label_space.specs.Labels.{AreInLine, Labels, labels_by, wake}
use Rattle.label_space.proofs.Knowing.{now_woken}
use Rattle.label_space.proofs.Resting.{by_woken}
use Rattle.label_space.proofs.space.LabelSpace.wake.Goals as goal

pub invariant_of-self : goal.invariant_of-self
invariant_of-self c =
    let s = c.self.inside in
    subst (λ moment. AreInLine s.range moment s.line s.untils.items) (sym c.max-self-inside.ensures) (now_woken s.range s.moment s.line s.untils.items c.self.invariant c.args.now)

pub returns : goal.returns
returns c =
    let s = c.self.inside in
    ap (λ moment. labels_by s.range moment s.untils.items s.line.line) c.max-self-inside.ensures
    ∙ by_woken s.range s.moment s.untils.items s.line.line c.args.now c.self.invariant.rising
    ∙ ap (λ (labels : Labels). wake labels c.args.now) c.self.view_is
