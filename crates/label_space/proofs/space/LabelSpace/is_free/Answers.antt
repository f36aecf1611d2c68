use Rattle.std.proofs.Common.{◌-◌, ◌<◌, ◌≤◌, arith, get_or, length, sym, subst}
use Rattle.std.proofs.lemmas.Bool.{both_ways, false≢true, le-leb, leb-true}
use Rattle.std.proofs.lemmas.List.{get_or_read}
use Rattle.label_space.specs.Labels.{IsFree, Labels}
use Rattle.label_space.proofs.Resting.{free_where}
use Rattle.label_space.proofs.space.LabelSpace.is_free.Goals as goal
use Rattle.label_space.proofs.space.LabelSpace.is_free.Goals.{then-label-self-via-then-label-self, then-label-self-via-else-label-self+then-not-contains}

pub returns-then-label-self : goal.returns-then-label-self
returns-then-label-self c = (
  λ is. absurd (false≢true is),
  λ free.
      let s = c.self.inside in
      let is = (free_where s.range.first s.moment s.untils.items s.line.line c.args.label).0 (subst (λ (labels : Labels). IsFree labels c.args.label) (sym c.self.view_is) free) in
      elim c.then-label-self.branch [
        | then-label-self-via-then-label-self w ↦ absurd (omega (arith, is.0, w.if-label-self.true))
        | then-label-self-via-else-label-self+then-not-contains w ↦ absurd (both_ways w.contains.result w.if-not-contains.true (w.contains.ensures.in_line.1 is.1))
      ],
)

pub returns : goal.returns
returns c =
    let s = c.self.inside in
    let label = c.args.label in
    let place = label - s.range.first in
    let untils = s.untils.items in
    let from : s.range.first ≤ label = omega (arith, c.if-label-self.false) in
    let among = c.contains.ensures.in_line.0 c.if-not-contains.false in
    let below = c.contains.ensures.within c.if-not-contains.false in
    let within : place < length untils = omega (arith, below, c.self.invariant.each) in
    let read = get_or_read untils place c.index.result.now within c.index.ensures 0 in
    let where_free = free_where s.range.first s.moment untils s.line.line label in (
      λ over. subst (λ (labels : Labels). IsFree labels label) c.self.view_is (where_free.1 (from, among, (let h = leb-true c.index.result.now s.moment over in omega (arith, read, h)))),
      λ free.
          let is = where_free.0 (subst (λ (labels : Labels). IsFree labels label) (sym c.self.view_is) free) in
          le-leb c.index.result.now s.moment (omega (arith, read, is.2)),
    )
