use Rattle.std.proofs.Common.{◌≡◌, ◌+◌, ◌<◌, ◌++◌, ℕ, List, [], ◌∷◌, length, get_or, take, subst, ap, sym, ◌∙◌, refl}
use Rattle.std.specs.List.{flat_map, All}
use Rattle.std.proofs.lemmas.List.{take_more, take_all, flat_map_more}
use Rattle.std.proofs.lemmas.List.Elements.{All-more}
use Rattle.rsvp_bodies.proofs.Sequences.{SpellsEach-flat_map}
use Rattle.rsvp_bodies.proofs.Codes.{whole_words_spelled}
use Rattle.rsvp_bodies.proofs.subobjects.Subobjects.write.Goals as goal

-- one more item is written behind those so far
one_more_written : {X : Type 0} (f : X → List ℕ) (old before after : List ℕ) (xs : List X) (i : ℕ) (x : X) → i < length xs → x ≡ get_or xs i x → before ≡ old ++ flat_map f (take i xs) → after ≡ before ++ f x → after ≡ old ++ flat_map f (take (i + 1) xs)
one_more_written {X} f old before after xs i x within is e a =
    let items : take (i + 1) xs ≡ take i xs ++ x ∷ [] = take_more xs i x within ∙ ap (λ (v : X). take i xs ++ v ∷ []) (sym is) in
    rw (items, ← flat_map_more f old (take i xs) x, a, e) refl

pub loop-item-preserved : goal.loop-item-preserved
loop-item-preserved g c =
    let P : g.row.T.Denot → Type 0 = λ x. g.T.Subobject.Spells (g.T.Subobject.spelling x) x in (
      c.loop-item.invariant.0,
      one_more_written g.T.Subobject.spelling c.args.out.now.items c.loop-item.out.items c.write.new.out.items c.deref-item-items.result.now c.loop-item.item-index c.item-item.result c.loop-item-test.true c.item-item.is c.loop-item.invariant.1 c.in_default.ensures.ok,
      All-more P c.deref-item-items.result.now c.loop-item.item-index c.item-item.result c.loop-item-test.true c.loop-item.invariant.2 (subst P c.item-item.is c.in_default.ensures.again),
    )

pub returns-clause-again : goal.returns-clause-again
returns-clause-again g c =
    let P : g.row.T.Denot → Type 0 = λ x. g.T.Subobject.Spells (g.T.Subobject.spelling x) x in
    let all = take_all c.loop-item.item-index c.deref-item-items.result.now c.loop-item-test.false in
    let same : c.deref-item-items.result.now ≡ c.args.self.now = c.deref-item-items.ensures.value ∙ c.self.view_is in
    SpellsEach-flat_map g.T.Subobject.Spells g.T.Subobject.spelling c.args.self.now
    (subst (λ (v : List g.row.T.Denot). All P v) (all ∙ same) c.loop-item.invariant.2)

pub returns-clause-body : goal.returns-clause-body
returns-clause-body g c = record {
  whole_words = whole_words_spelled g.T.Subobject.Spells g.met.T.Subobject.is_subobject _ c.args.self.now (returns-clause-again g c);
  fits = rw c.self.view_is at c.self.invariant;
}
