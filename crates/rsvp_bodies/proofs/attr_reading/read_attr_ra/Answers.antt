-- The affinities, and the attributes behind them, are what the body spells.
use Rattle.std.proofs.Common.{◌≡◌, ◌≤◌, ◌-◌, ℕ, List, Some, Ok, length, take, drop, arith, refl, sym, ap, ◌∙◌, subst}
use Rattle.std.proofs.lemmas.List.{length-drop}
use Rattle.std.proofs.Math.Seq.{take-length}
use Rattle.rsvp_bodies.specs.Reading.{ReadsWhole}
use Rattle.rsvp_bodies.specs.declared.affinities.Affinities.{Affinities}
use Rattle.rsvp_bodies.specs.declared.attr.Attr.{Attr}
use Rattle.rsvp_bodies.specs.Affinities.{affinities_at}
use Rattle.rsvp_bodies.specs.Attributes.{HasName, attr_with, SpellsAttrRa}
use Rattle.rsvp_bodies.proofs.attr_reading.read_attr_ra.Goals as goal

-- what stands behind the affinities, as the code cuts it
behind : (body : List ℕ) → take (length body - 12) (drop 12 body) ≡ drop 12 body
behind body = ap (λ (n : ℕ). take n (drop 12 body)) (sym (length-drop 12 body)) ∙ take-length (drop 12 body)

read_whole : (body rest : List ℕ) (affinities : Affinities) (attr : Attr) → rest ≡ drop 12 body → 12 ≤ length body → HasName rest →
    affinities ≡ affinities_at body → attr ≡ attr_with (Some affinities) rest → ReadsWhole SpellsAttrRa body (Ok attr)
read_whole body rest affinities attr is_rest long named is_affinities is_attr =
    let same : attr ≡ attr_with (Some (affinities_at body)) (drop 12 body) =
    is_attr ∙ ap (λ (a : Affinities). attr_with (Some a) rest) is_affinities ∙ ap (λ (b : List ℕ). attr_with (Some (affinities_at body)) b) is_rest in
    record { found = (long, subst (λ (b : List ℕ). HasName b) is_rest named, same); only = λ x s. same ∙ sym s.2 }

pub returns : goal.returns
returns c =
    read_whole c.args.body.now _ _ _ (behind c.args.body.now) (omega arith) (c.if-not-has_name.ensures.0 refl) c.affinities_of-affinities.ensures c.in_ok-attr_of.ensures
