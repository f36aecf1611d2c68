use Rattle.std.proofs.Common.{Some, ap, sym, ◌∙◌, arith}
use Rattle.std.specs.List.{slice_get}
use Rattle.std.proofs.lemmas.List.{get_or_read}
use Rattle.label_space.specs.Lines.{Places}
use Rattle.label_space.proofs.Relinked.{none_first, some_first}
use Rattle.label_space.proofs.line.Line.first.Goals as goal

pub returns-then-first-self-clause-first : goal.returns-then-first-self-clause-first
returns-then-first-self-clause-first c =
    let count = c.self.inside.count in
    let next = c.self.inside.next.items in
    let read = get_or_read next count c.index-first.result.now (omega (arith, c.self.invariant.nexts)) c.index-first.ensures 0 in
    sym (none_first count next c.self.inside.previous.items c.self.invariant (sym read ∙ c.if-first-self.true)) ∙ ap (λ (p : Places). slice_get p.line 0) c.self.view_is

pub returns-else-first-self-clause-first : goal.returns-else-first-self-clause-first
returns-else-first-self-clause-first c =
    let count = c.self.inside.count in
    let next = c.self.inside.next.items in
    let read = get_or_read next count c.index-first.result.now (omega (arith, c.self.invariant.nexts)) c.index-first.ensures 0 in
    ap (λ p. Some p) read ∙ sym (some_first count next c.self.inside.previous.items c.self.invariant (λ same. c.if-first-self.false (read ∙ same))) ∙ ap (λ (p : Places). slice_get p.line 0) c.self.view_is
