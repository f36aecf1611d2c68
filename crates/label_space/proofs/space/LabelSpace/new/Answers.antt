use Rattle.std.proofs.Common.{◌≡◌, ◌+◌, ◌-◌, List, ℕ, ap, arith, sym, subst, ◌∙◌}
use Rattle.std.specs.List.{range_with_len}
use Rattle.label_space.specs.Labels.{AreInLine, HasPlaces, IsLabelSpace, labels_by}
use Rattle.label_space.specs.Lines.{Places}
use Rattle.label_space.proofs.Knowing.{are_new, new_labels}
use Rattle.label_space.proofs.Resting.{zeros}
use Rattle.label_space.proofs.space.LabelSpace.new.Goals as goal

pub invariant_of-result : goal.invariant_of-result
invariant_of-result c =
    let range = c.args.range in
    let count = range.last - range.first + 1 in
    let places : HasPlaces range count = record { labels = c.requires; places = omega (arith, c.requires.some) } in
    let untils : c.in_ok-vec.field-0.items ≡ zeros count = c.in_ok-vec.ensures.items_if_clones_equal (λ y same. same) in
    subst (λ (p : Places). AreInLine range 0 p c.in_ok-vec.field-0.items) (sym c.in_ok-new.ensures) (subst (AreInLine range 0 record { count = count; line = range_with_len 0 count }) (sym untils) (are_new range count places))

pub returns-clause-labels : goal.returns-clause-labels
returns-clause-labels c =
    let range = c.args.range in
    let count = range.last - range.first + 1 in
    let untils : c.in_ok-vec.field-0.items ≡ zeros count = c.in_ok-vec.ensures.items_if_clones_equal (λ y same. same) in
    ap (λ (p : Places). labels_by range 0 c.in_ok-vec.field-0.items p.line) c.in_ok-new.ensures
    ∙ ap (λ (us : List ℕ). labels_by range 0 us (range_with_len 0 count)) untils
    ∙ new_labels range c.requires

pub returns-clause-space : goal.returns-clause-space
returns-clause-space c = (invariant_of-result c).known
