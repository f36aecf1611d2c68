use Rattle.std.proofs.Common.{◌+◌, ◌≤◌, ◌∙◌, None, Some, ap, arith, cond, get_or, sym}
use Rattle.std.proofs.lemmas.Bool.{le-leb, lt-leb}
use Rattle.std.proofs.lemmas.List.{get_or_read}
use Rattle.label_space.specs.Labels.{give}
use Rattle.label_space.proofs.Knowing.{first_within}
use Rattle.label_space.proofs.Resting.{given_first, given_free}
use Rattle.label_space.proofs.space.LabelSpace.give.Goals as goal

pub returns-then-index-self-clause-next : goal.returns-then-index-self-clause-next
returns-then-index-self-clause-next c =
    let s = c.self.inside in
    let place = c.in_ok-place.place in
    let untils = s.untils.items in
    let first = sym c.in_ok-place.ensures.first in
    let within = first_within s.range s.moment s.line untils c.self.invariant place first in
    let read = get_or_read untils place c.index.result.now within c.index.ensures 0 in
    sym (given_first s.range s.moment untils place s.line.line c.self.invariant.rising first ∙ ap (λ b. cond b (Some (s.range.first + place)) None) (le-leb (get_or untils place 0) s.moment (omega (arith, read, c.if-index-self.true)))) ∙ ap give c.self.view_is

pub returns-then-index-self-clause-free : goal.returns-then-index-self-clause-free
returns-then-index-self-clause-free c = given_free c.args.self.now (c.self.inside.range.first + c.in_ok-place.place) (sym (returns-then-index-self-clause-next c))

pub returns-else-index-self-clause-next : goal.returns-else-index-self-clause-next
returns-else-index-self-clause-next c =
    let s = c.self.inside in
    let place = c.in_ok-place.place in
    let untils = s.untils.items in
    let first = sym c.in_ok-place.ensures.first in
    let within = first_within s.range s.moment s.line untils c.self.invariant place first in
    let read = get_or_read untils place c.index.result.now within c.index.ensures 0 in
    sym (given_first s.range s.moment untils place s.line.line c.self.invariant.rising first ∙ ap (λ b. cond b (Some (s.range.first + place)) None) (lt-leb (get_or untils place 0) s.moment (omega (arith, read, c.if-index-self.false)))) ∙ ap give c.self.view_is
