use Rattle.std.proofs.Common.{ℕ, List, ap, sym, subst, ◌∙◌, arith}
use Rattle.std.specs.List.{Contains}
use Rattle.std.proofs.lemmas.List.{get_or_read}
use Rattle.label_space.specs.Lines.{Places, line_without}
use Rattle.label_space.proofs.Relinked.{next_within, place_within, previous_within, removed}
use Rattle.label_space.proofs.line.Line.remove.Goals as goal

pub index_mut-requires : goal.index_mut-requires
index_mut-requires c =
    let links = c.self.invariant in
    let among = subst (λ (p : Places). Contains p.line c.args.place) (sym c.self.view_is) c.requires in
    let below = place_within _ _ _ links c.args.place among in
    let read = get_or_read c.self.inside.previous.items c.args.place c.index-before.result.now (omega (arith, below, links.previouses)) c.index-before.ensures 0 in
    let within = previous_within _ _ _ links c.args.place among in
    omega (arith, read, within, links.nexts)

pub index_mut-requires-2 : goal.index_mut-requires-2
index_mut-requires-2 c =
    let links = c.self.invariant in
    let among = subst (λ (p : Places). Contains p.line c.args.place) (sym c.self.view_is) c.requires in
    let below = place_within _ _ _ links c.args.place among in
    let read = get_or_read c.self.inside.next.items c.args.place c.index-behind.result.now (omega (arith, below, links.nexts)) c.index-behind.ensures 0 in
    let within = next_within _ _ _ links c.args.place among in
    omega (arith, read, within, links.previouses)

pub invariant_of-self : goal.invariant_of-self
invariant_of-self c =
    let links = c.self.invariant in
    let among = subst (λ (p : Places). Contains p.line c.args.place) (sym c.self.view_is) c.requires in
    let below = place_within _ _ _ links c.args.place among in
    let before = get_or_read c.self.inside.previous.items c.args.place c.index-before.result.now (omega (arith, below, links.previouses)) c.index-before.ensures 0 in
    let behind = get_or_read c.self.inside.next.items c.args.place c.index-behind.result.now (omega (arith, below, links.nexts)) c.index-behind.ensures 0 in
    (removed _ _ _ links c.args.place c.index-before.result.now c.index-behind.result.now among before behind).0

pub returns-clause-line : goal.returns-clause-line
returns-clause-line c =
    let links = c.self.invariant in
    let among = subst (λ (p : Places). Contains p.line c.args.place) (sym c.self.view_is) c.requires in
    let below = place_within _ _ _ links c.args.place among in
    let before = get_or_read c.self.inside.previous.items c.args.place c.index-before.result.now (omega (arith, below, links.previouses)) c.index-before.ensures 0 in
    let behind = get_or_read c.self.inside.next.items c.args.place c.index-behind.result.now (omega (arith, below, links.nexts)) c.index-behind.ensures 0 in
    let said = (removed _ _ _ links c.args.place c.index-before.result.now c.index-behind.result.now among before behind).1 in
    ap (λ (line : List ℕ). record { count = c.self.inside.count; line = line }) said
    ∙ ap (λ (p : Places). record { count = p.count; line = line_without c.args.place p.line }) c.self.view_is

pub returns-clause-within : goal.returns-clause-within
returns-clause-within c =
    let among = subst (λ (p : Places). Contains p.line c.args.place) (sym c.self.view_is) c.requires in
    let below = place_within _ _ _ c.self.invariant c.args.place among in
    omega (arith, below, ap (λ (p : Places). p.count) c.self.view_is)
