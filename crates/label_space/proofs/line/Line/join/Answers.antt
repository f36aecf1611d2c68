use Rattle.std.proofs.Common.{◌≡◌, ◌+◌, ◌++◌, ◌<◌, ◌∷◌, ℕ, List, ap, arith, get_or, length, sym, subst, ◌∙◌}
use Rattle.std.specs.List.{Contains, slice_get}
use Rattle.std.specs.Option.{unwrap_or}
use Rattle.std.proofs.lemmas.List.{get_or_read, length-set}
use Rattle.label_space.specs.Lines.{Places, line_with}
use Rattle.label_space.proofs.Relinked.{inserted, last_before_within, there_within}
use Rattle.label_space.proofs.Rising.{with_between}
use Rattle.label_space.proofs.line.Line.join.Goals as goal

pub index-last-requires : goal.index-last-requires
index-last-requires c =
    let links = c.self.invariant in
    let at = c.first_above-behind.ensures in
    let within = there_within c.self.inside.count c.self.inside.next.items c.self.inside.previous.items links c.first_above-behind.result at.before at.behind (ap (λ (p : Places). p.line) c.self.view_is ∙ at.parts) (ap (λ (p : Places). unwrap_or (slice_get at.behind 0) p.count) c.self.view_is ∙ at.first) in
    omega (arith, within, links.previouses)

pub index_mut-requires : goal.index_mut-requires
index_mut-requires c =
    let links = c.self.invariant in
    let at = c.first_above-behind.ensures in
    let there = c.first_above-behind.result in
    let previous = c.self.inside.previous.items in
    let parts = ap (λ (p : Places). p.line) c.self.view_is ∙ at.parts in
    let first = ap (λ (p : Places). unwrap_or (slice_get at.behind 0) p.count) c.self.view_is ∙ at.first in
    let within = there_within c.self.inside.count c.self.inside.next.items previous links there at.before at.behind parts first in
    let read = get_or_read previous there c.index-last.result.now (omega (arith, within, links.previouses)) c.index-last.ensures 0 in
    let below = last_before_within c.self.inside.count c.self.inside.next.items previous links there at.before at.behind parts first in
    omega (arith, read, below, links.nexts)

pub index_mut-requires-4 : goal.index_mut-requires-4
index_mut-requires-4 c =
    let links = c.self.invariant in
    let at = c.first_above-behind.ensures in
    let within = there_within c.self.inside.count c.self.inside.next.items c.self.inside.previous.items links c.first_above-behind.result at.before at.behind (ap (λ (p : Places). p.line) c.self.view_is ∙ at.parts) (ap (λ (p : Places). unwrap_or (slice_get at.behind 0) p.count) c.self.view_is ∙ at.first) in
    omega (arith, within, links.previouses)

pub invariant_of-self : goal.invariant_of-self
invariant_of-self c =
    let links = c.self.invariant in
    let at = c.first_above-behind.ensures in
    let there = c.first_above-behind.result in
    let previous = c.self.inside.previous.items in
    let parts = ap (λ (p : Places). p.line) c.self.view_is ∙ at.parts in
    let first = ap (λ (p : Places). unwrap_or (slice_get at.behind 0) p.count) c.self.view_is ∙ at.first in
    let below : c.args.place < c.self.inside.count = omega (arith, c.requires.within, ap (λ (p : Places). p.count) c.self.view_is) in
    let absent = subst (λ (p : Places). ¬ Contains p.line c.args.place) (sym c.self.view_is) c.requires.absent in
    let within = there_within c.self.inside.count c.self.inside.next.items previous links there at.before at.behind parts first in
    let read = get_or_read previous there c.index-last.result.now (omega (arith, within, links.previouses)) c.index-last.ensures 0 in
    (inserted c.self.inside.count c.self.inside.next.items previous links c.args.place c.index-last.result.now there at.before at.behind parts first below absent read).0

pub returns : goal.returns
returns c =
    let links = c.self.invariant in
    let at = c.first_above-behind.ensures in
    let there = c.first_above-behind.result in
    let previous = c.self.inside.previous.items in
    let numbers = c.args.numbers.now in
    let place = c.args.place in
    let parts = ap (λ (p : Places). p.line) c.self.view_is ∙ at.parts in
    let first = ap (λ (p : Places). unwrap_or (slice_get at.behind 0) p.count) c.self.view_is ∙ at.first in
    let below : place < c.self.inside.count = omega (arith, c.requires.within, ap (λ (p : Places). p.count) c.self.view_is) in
    let absent = subst (λ (p : Places). ¬ Contains p.line place) (sym c.self.view_is) c.requires.absent in
    let within = there_within c.self.inside.count c.self.inside.next.items previous links there at.before at.behind parts first in
    let read = get_or_read previous there c.index-last.result.now (omega (arith, within, links.previouses)) c.index-last.ensures 0 in
    let said = (inserted c.self.inside.count c.self.inside.next.items previous links place c.index-last.result.now there at.before at.behind parts first below absent read).1 in
    let joined = said ∙ sym (with_between numbers place at.before at.behind at.least at.more) ∙ ap (line_with numbers place) (sym at.parts) in
    ap (λ (line : List ℕ). record { count = c.self.inside.count; line = line }) joined
    ∙ ap (λ (p : Places). record { count = p.count; line = line_with numbers place c.args.self.now.line }) c.self.view_is
