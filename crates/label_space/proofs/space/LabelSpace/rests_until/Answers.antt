use Rattle.std.proofs.Common.{◌≡◌, ◌-◌, ◌<◌, ◌≤◌, ◌∙◌, Some, ap, arith, get_or, length, sym}
use Rattle.std.specs.FinMap.Entries.{find}
use Rattle.std.specs.Ordering.{nat_cmp}
use Rattle.std.proofs.lemmas.Bool.{both_ways}
use Rattle.std.proofs.lemmas.List.{get_or_read}
use Rattle.label_space.specs.Labels.{Labels}
use Rattle.label_space.proofs.Resting.{rest_found, rest_not_found}
use Rattle.label_space.proofs.space.LabelSpace.rests_until.Goals as goal
use Rattle.label_space.proofs.space.LabelSpace.rests_until.Goals.{then-label-self-via-then-label-self, then-label-self-via-else-label-self+then-not-contains}

pub returns-then-label-self : goal.returns-then-label-self
returns-then-label-self c =
    let s = c.self.inside in
    let label = c.args.label in
    sym (rest_not_found s.range.first s.moment s.untils.items s.line.line label (λ from among. elim c.then-label-self.branch [
      | then-label-self-via-then-label-self w ↦ absurd (omega (arith, from, w.if-label-self.true))
      | then-label-self-via-else-label-self+then-not-contains w ↦ absurd (both_ways w.contains.result w.if-not-contains.true (w.contains.ensures.in_line.1 among))
    ]))
    ∙ ap (λ (labels : Labels). find nat_cmp label labels.resting) c.self.view_is

pub returns-then-self-until : goal.returns-then-self-until
returns-then-self-until c =
    let s = c.self.inside in
    let label = c.args.label in
    let place = label - s.range.first in
    let untils = s.untils.items in
    let from : s.range.first ≤ label = omega (arith, c.if-label-self.false) in
    let among = c.contains.ensures.in_line.0 c.if-not-contains.false in
    let below = c.contains.ensures.within c.if-not-contains.false in
    let within : place < length untils = omega (arith, below, c.self.invariant.each) in
    let read = get_or_read untils place c.index-until.result.now within c.index-until.ensures 0 in
    ap Some read
    ∙ sym (rest_found s.range.first s.moment untils s.line.line label from among (omega (arith, read, c.if-self-until.true)))
    ∙ ap (λ (labels : Labels). find nat_cmp label labels.resting) c.self.view_is

pub returns-else-self-until : goal.returns-else-self-until
returns-else-self-until c =
    let s = c.self.inside in
    let label = c.args.label in
    let place = label - s.range.first in
    let untils = s.untils.items in
    let below = c.contains.ensures.within c.if-not-contains.false in
    let within : place < length untils = omega (arith, below, c.self.invariant.each) in
    let read = get_or_read untils place c.index-until.result.now within c.index-until.ensures 0 in
    sym (rest_not_found s.range.first s.moment untils s.line.line label (λ from among. omega (arith, read, c.if-self-until.false)))
    ∙ ap (λ (labels : Labels). find nat_cmp label labels.resting) c.self.view_is
