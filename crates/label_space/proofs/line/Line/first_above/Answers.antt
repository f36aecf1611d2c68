use Rattle.std.proofs.Common.{◌≡◌, ◌≢◌, ◌+◌, ◌++◌, ◌<◌, ◌≤◌, ◌∷◌, ℕ, List, [], ap, arith, get_or, inl, inr, length, refl, sym, subst, ◌∙◌}
use Rattle.std.specs.List.{AllByRecursion, slice_get}
use Rattle.std.specs.Option.{unwrap_or}
use Rattle.std.proofs.lemmas.List.{append-nil, append_assoc, get_or_read, length-append, nil_from_length}
use Rattle.label_space.specs.Lines.{IsRising, Places, line_of}
use Rattle.label_space.proofs.Relinked.{last_below, last_is_place, last_of, line_few, there_within}
use Rattle.label_space.proofs.Rising.{all_least}
use Rattle.label_space.proofs.line.Line.first_above.Goals as goal
use Rattle.label_space.proofs.line.Line.first_above.Goals.{then-last-self-via-then-last-self, then-last-self-via-else-last-self+then-numbers-last}

pub loop-init : goal.loop-init
loop-init c =
    (c.args.self.now.line, [], sym (append-nil c.args.self.now.line), tt, sym (ap (λ (p : Places). p.count) c.self.view_is), refl)

pub index-last-requires : goal.index-last-requires
index-last-requires c =
    let links = c.self.invariant in
    let at = c.loop.invariant in
    let below = there_within c.self.inside.count c.self.inside.next.items c.self.inside.previous.items links c.loop.behind at.0 at.1 (ap (λ (p : Places). p.line) c.self.view_is ∙ at.2) (ap (λ (p : Places). unwrap_or (slice_get at.1 0) p.count) c.self.view_is ∙ at.4) in
    omega (arith, below, links.previouses)

pub bounds-numbers-last : goal.bounds-numbers-last
bounds-numbers-last c =
    let links = c.self.invariant in
    let at = c.loop.invariant in
    let count = c.self.inside.count in
    let previous = c.self.inside.previous.items in
    let last = c.index-last.result.now in
    let parts = ap (λ (p : Places). p.line) c.self.view_is ∙ at.2 in
    let first = ap (λ (p : Places). unwrap_or (slice_get at.1 0) p.count) c.self.view_is ∙ at.4 in
    let within = there_within count c.self.inside.next.items previous links c.loop.behind at.0 at.1 parts first in
    let read : last ≡ get_or previous c.loop.behind 0 = get_or_read previous c.loop.behind last (omega (arith, within, links.previouses)) c.index-last.ensures 0 in
    let below = last_below count c.self.inside.next.items previous links c.loop.behind at.0 at.1 parts first (λ same. c.if-last-self.false (read ∙ same)) in
    omega (arith, read, below, c.requires.numbers, ap (λ (p : Places). p.count) c.self.view_is)

pub returns-then-last-self : goal.returns-then-last-self
returns-then-last-self c =
    let links = c.self.invariant in
    let at = c.loop.invariant in
    let count = c.self.inside.count in
    let next = c.self.inside.next.items in
    let previous = c.self.inside.previous.items in
    let numbers = c.args.numbers.now in
    let number = c.args.number in
    let last = c.index-last.result.now in
    let parts = ap (λ (p : Places). p.line) c.self.view_is ∙ at.2 in
    let first = ap (λ (p : Places). unwrap_or (slice_get at.1 0) p.count) c.self.view_is ∙ at.4 in
    let within = there_within count next previous links c.loop.behind at.0 at.1 parts first in
    let read : last ≡ get_or previous c.loop.behind 0 = get_or_read previous c.loop.behind last (omega (arith, within, links.previouses)) c.index-last.ensures 0 in
    let least : AllByRecursion (λ other. get_or numbers other 0 ≤ number) at.0 =
    elim (last_of count next previous links c.loop.behind at.0 at.1 parts first) [
      | inl none ↦ subst (AllByRecursion (λ other. get_or numbers other 0 ≤ number)) (sym none.0) tt
      | inr some ↦
          let is : at.0 ≡ some.0 ++ last ∷ [] = some.1 ∙ ap (λ x. some.0 ++ x ∷ []) (sym read) in
          elim c.then-last-self.branch [
            | then-last-self-via-then-last-self w ↦
                let below = last_is_place count next previous links some.0 at.1 last (parts ∙ ap (λ l. l ++ at.1) is) in
                absurd (omega (arith, below, w.if-last-self.true))
            | then-last-self-via-else-last-self+then-numbers-last w ↦
                subst (AllByRecursion (λ other. get_or numbers other 0 ≤ number)) (sym is) (all_least numbers number some.0 last at.1 (subst (IsRising numbers) (at.2 ∙ ap (λ l. l ++ at.1) is) c.requires.rising) (omega (arith, w.if-numbers-last.true)))
          ]
    ] in
    record { before = at.0; behind = at.1; parts = at.2; least = least; more = at.3; first = at.4 }

pub loop-preserved : goal.loop-preserved
loop-preserved c =
    let links = c.self.invariant in
    let at = c.loop.invariant in
    let count = c.self.inside.count in
    let next = c.self.inside.next.items in
    let previous = c.self.inside.previous.items in
    let last = c.index-last.result.now in
    let parts = ap (λ (p : Places). p.line) c.self.view_is ∙ at.2 in
    let first = ap (λ (p : Places). unwrap_or (slice_get at.1 0) p.count) c.self.view_is ∙ at.4 in
    let within = there_within count next previous links c.loop.behind at.0 at.1 parts first in
    let read : last ≡ get_or previous c.loop.behind 0 = get_or_read previous c.loop.behind last (omega (arith, within, links.previouses)) c.index-last.ensures 0 in
    elim (last_of count next previous links c.loop.behind at.0 at.1 parts first) [
      | inl none ↦ absurd (c.if-last-self.false (read ∙ none.1))
      | inr some ↦
          let is : at.0 ≡ some.0 ++ last ∷ [] = some.1 ∙ ap (λ x. some.0 ++ x ∷ []) (sym read) in
          (some.0, last ∷ at.1, at.2 ∙ ap (λ l. l ++ at.1) is ∙ append_assoc some.0 (last ∷ []) at.1, (omega (arith, c.if-numbers-last.false), at.3), refl, omega (arith, at.5))
    ]

pub returns : goal.returns
returns c =
    let links = c.self.invariant in
    let at = c.loop.invariant in
    let count = c.self.inside.count in
    let next = c.self.inside.next.items in
    let previous = c.self.inside.previous.items in
    let numbers = c.args.numbers.now in
    let number = c.args.number in
    let few = line_few count next previous links in
    let whole = ap length (ap (λ (p : Places). p.line) c.self.view_is ∙ at.2) ∙ length-append at.0 at.1 in
    let same = ap (λ (p : Places). p.count) c.self.view_is in
    let none : at.0 ≡ [] = nil_from_length at.0 (omega (arith, few, whole, at.5, same)) in
    record {
      before = at.0;
      behind = at.1;
      parts = at.2;
      least = subst (AllByRecursion (λ other. get_or numbers other 0 ≤ number)) (sym none) tt;
      more = at.3;
      first = at.4;
    }
