use Rattle.std.proofs.Common.{◌≡◌, ◌+◌, ◌-◌, ◌∙◌, ap, arith, inr, refl, sym, subst}
use Rattle.label_space.specs.LabelLaws.{IsHeld-hold}
use Rattle.label_space.specs.Labels.{AreInLine, IsFree, IsHeld, Labels, hold, labels_by}
use Rattle.label_space.specs.Lines.{Places}
use Rattle.label_space.proofs.Knowing.{now_held}
use Rattle.label_space.proofs.Resting.{by_held, free_where}
use Rattle.label_space.proofs.space.LabelSpace.hold.Goals as goal

pub overflow_sub-label : goal.overflow_sub-label
overflow_sub-label c =
    let s = c.self.inside in
    let free = subst (λ (labels : Labels). IsFree labels c.args.label) (sym c.self.view_is) c.requires in
    ((free_where s.range.first s.moment s.untils.items s.line.line c.args.label).0 free).0

pub remove-requires : goal.remove-requires
remove-requires c =
    let s = c.self.inside in
    let free = subst (λ (labels : Labels). IsFree labels c.args.label) (sym c.self.view_is) c.requires in
    ((free_where s.range.first s.moment s.untils.items s.line.line c.args.label).0 free).1

pub invariant_of-self : goal.invariant_of-self
invariant_of-self c =
    let s = c.self.inside in
    let free = subst (λ (labels : Labels). IsFree labels c.args.label) (sym c.self.view_is) c.requires in
    let is = (free_where s.range.first s.moment s.untils.items s.line.line c.args.label).0 free in
    subst (λ (p : Places). AreInLine s.range s.moment p s.untils.items) (sym c.remove.ensures.line) (now_held s.range s.moment s.line s.untils.items c.self.invariant (c.args.label - s.range.first) is.2)

pub returns-clause-labels : goal.returns-clause-labels
returns-clause-labels c =
    let s = c.self.inside in
    let free = subst (λ (labels : Labels). IsFree labels c.args.label) (sym c.self.view_is) c.requires in
    let is = (free_where s.range.first s.moment s.untils.items s.line.line c.args.label).0 free in
    let number : s.range.first + (c.args.label - s.range.first) ≡ c.args.label = omega (arith, is.0) in
    ap (λ (p : Places). labels_by s.range s.moment s.untils.items p.line) c.remove.ensures.line
    ∙ by_held s.range s.moment s.untils.items s.line.line (c.args.label - s.range.first) is.2
    ∙ ap (hold (labels_by s.range s.moment s.untils.items s.line.line)) number
    ∙ ap (λ (labels : Labels). hold labels c.args.label) c.self.view_is

pub returns-clause-held : goal.returns-clause-held
returns-clause-held c =
    let s = c.self.inside in
    let labels = labels_by s.range s.moment s.untils.items s.line.line in
    let free = subst (λ (labels : Labels). IsFree labels c.args.label) (sym c.self.view_is) c.requires in
    let held = (IsHeld-hold labels c.args.label c.args.label c.self.invariant.known free).1 (inr refl) in
    subst (λ (labels : Labels). IsHeld labels c.args.label) (sym (returns-clause-labels c)) (subst (λ (labels : Labels). IsHeld (hold labels c.args.label) c.args.label) c.self.view_is held)
