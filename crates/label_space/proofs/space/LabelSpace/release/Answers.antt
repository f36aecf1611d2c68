use Rattle.std.proofs.Common.{◌≡◌, ◌-◌, ◌∙◌, ap, max, set, sym, subst}
use Rattle.label_space.specs.Labels.{AreInLine, IsHeld, Labels, labels_by, release}
use Rattle.label_space.specs.Lines.{IsRising, Places, line_with}
use Rattle.label_space.proofs.Knowing.{held_absent, is_released, now_released, rising_then}
use Rattle.label_space.proofs.space.LabelSpace.release.Goals as goal

pub join-requires-clause-absent : goal.join-requires-clause-absent
join-requires-clause-absent c =
    let s = c.self.inside in
    let held = subst (λ (labels : Labels). IsHeld labels c.args.label) (sym c.self.view_is) c.requires in
    held_absent s.range s.moment s.line s.untils.items c.self.invariant c.args.label held

pub join-requires-clause-rising : goal.join-requires-clause-rising
join-requires-clause-rising c =
    let s = c.self.inside in
    let held = subst (λ (labels : Labels). IsHeld labels c.args.label) (sym c.self.view_is) c.requires in
    let place = c.args.label - s.range.first in
    let untils : c.deref.result.now ≡ set s.untils.items place (max c.args.until s.moment) = c.deref.ensures.value ∙ ap (set s.untils.items place) c.max.ensures in
    subst (λ us. IsRising us s.line.line) (sym untils) (rising_then s.range s.moment s.line s.untils.items c.self.invariant c.args.label c.args.until held)

pub invariant_of-self : goal.invariant_of-self
invariant_of-self c =
    let s = c.self.inside in
    let label = c.args.label in
    let held = subst (λ (labels : Labels). IsHeld labels label) (sym c.self.view_is) c.requires in
    let place = label - s.range.first in
    let after = set s.untils.items place (max c.args.until s.moment) in
    let untils : c.deref.result.now ≡ after = c.deref.ensures.value ∙ ap (set s.untils.items place) c.max.ensures in
    let places = c.join.ensures ∙ ap (λ us. record { count = s.line.count; line = line_with us place s.line.line }) untils in
    subst (λ (p : Places). AreInLine s.range s.moment p (set s.untils.items place c.max.result)) (sym places)
    (subst (λ until. AreInLine s.range s.moment record { count = s.line.count; line = line_with after place s.line.line } (set s.untils.items place until)) (sym c.max.ensures) (now_released s.range s.moment s.line s.untils.items c.self.invariant label c.args.until held))

pub returns : goal.returns
returns c =
    let s = c.self.inside in
    let label = c.args.label in
    let held = subst (λ (labels : Labels). IsHeld labels label) (sym c.self.view_is) c.requires in
    let place = label - s.range.first in
    let after = set s.untils.items place (max c.args.until s.moment) in
    let untils : c.deref.result.now ≡ after = c.deref.ensures.value ∙ ap (set s.untils.items place) c.max.ensures in
    let places = c.join.ensures ∙ ap (λ us. record { count = s.line.count; line = line_with us place s.line.line }) untils in
    ap (λ (p : Places). labels_by s.range s.moment (set s.untils.items place c.max.result) p.line) places
    ∙ ap (λ until. labels_by s.range s.moment (set s.untils.items place until) (line_with after place s.line.line)) c.max.ensures
    ∙ is_released s.range s.moment s.line s.untils.items c.self.invariant label c.args.until held
    ∙ ap (λ (labels : Labels). release labels label c.args.until) c.self.view_is
