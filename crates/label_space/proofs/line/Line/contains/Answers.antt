use Rattle.std.proofs.Common.{◌<◌, arith, sym, subst, ◌∙◌}
use Rattle.std.specs.List.{Contains}
use Rattle.std.proofs.lemmas.Bool.{eqb-false, ne_eqb, not-true, not_from_false}
use Rattle.std.proofs.lemmas.List.{get_or_read}
use Rattle.label_space.specs.Lines.{Places}
use Rattle.label_space.proofs.Relinked.{has_another, is_in_line}
use Rattle.label_space.proofs.line.Line.contains.Goals as goal

pub returns-then-place-self : goal.returns-then-place-self
returns-then-place-self c =
    let count = c.self.inside.count in
    let next = c.self.inside.next.items in
    let previous = c.self.inside.previous.items in
    let place = c.args.place in
    let behind = c.index.result.now in
    let below : place < count = omega arith in
    let read = get_or_read next place behind (omega (arith, c.self.invariant.nexts)) c.index.ensures 0 in
    record {
      in_line = (
        λ other. subst (λ (p : Places). Contains p.line place) c.self.view_is (is_in_line count next previous c.self.invariant place below (λ same. eqb-false behind place (not-true _ other) (read ∙ same))),
        λ among. not_from_false _ (ne_eqb behind place (λ same. has_another count next previous c.self.invariant place (subst (λ (p : Places). Contains p.line place) (sym c.self.view_is) among) (sym read ∙ same))),
      );
      within = λ other. subst (λ (p : Places). place < p.count) c.self.view_is below;
    }
