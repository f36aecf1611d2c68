use Rattle.std.proofs.Common.{◌≤◌, arith, sym, subst}
use Rattle.std.proofs.lemmas.Bool.{both_ways, false_from_ne_true, not-true, not_from_false}
use Rattle.label_space.specs.Labels.{IsHeld, IsOf, Labels}
use Rattle.label_space.proofs.Knowing.{absent_held, held_absent}
use Rattle.label_space.proofs.space.LabelSpace.is_held.Goals as goal

pub returns-then-contains : goal.returns-then-contains
returns-then-contains c =
    let s = c.self.inside in
    let label = c.args.label in
    let in_line = c.contains-then-contains.ensures.in_line in
    let own : IsOf s.range label = record { from = grind arith; to = grind arith } in (
      λ absent. subst (λ (labels : Labels). IsHeld labels label) c.self.view_is (absent_held s.range s.moment s.line s.untils.items c.self.invariant label own (λ among. both_ways _ (not-true _ absent) (in_line.1 among))),
      λ held. not_from_false _ (false_from_ne_true _ (λ among. held_absent s.range s.moment s.line s.untils.items c.self.invariant label (subst (λ (labels : Labels). IsHeld labels label) (sym c.self.view_is) held) (in_line.0 among))),
    )
