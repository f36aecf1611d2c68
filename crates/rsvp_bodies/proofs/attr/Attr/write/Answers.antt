-- Affinities and what stands behind them are the body.
use Rattle.std.proofs.Common.{◌≡◌, List, ℕ, [], ◌++◌, Option, Some, sym, ap, ◌∙◌, append_assoc}
use Rattle.std.specs.Option.{option_map_or}
use Rattle.std.proofs.lemmas.Result.{on_ok_weaker}
use Rattle.rsvp_bodies.specs.declared.affinities.Affinities.{Affinities}
use Rattle.rsvp_bodies.specs.declared.attr.Attr.{Attr}
use Rattle.rsvp_bodies.specs.Affinities.{affinities_body}
use Rattle.rsvp_bodies.specs.Attributes.{attr_body, name_body}
use Rattle.rsvp_bodies.proofs.attr.Attr.write.Goals as goal

written : (attr : Attr) (affinities : Affinities) (old mid new : List ℕ) → attr.affinities ≡ Some affinities →
    mid ≡ old ++ affinities_body affinities → new ≡ mid ++ name_body attr → new ≡ old ++ attr_body attr
written attr affinities old mid new some first second =
    second ∙ ap (λ (front : List ℕ). front ++ name_body attr) first ∙ append_assoc old (affinities_body affinities) (name_body attr)
    ∙ ap (λ (o : Option Affinities). old ++ (option_map_or affinities_body o [] ++ name_body attr)) (sym some)

pub returns-in_ok-write_affinities-in-Some-clause-ok : goal.returns-in_ok-write_affinities-in-Some-clause-ok
returns-in_ok-write_affinities-in-Some-clause-ok c =
    on_ok_weaker c.write_name-in-Some.result (written c.args.self.now c.in-Some.affinities _ _ _ c.in-Some.is c.in_ok-write_affinities-in-Some.ensures.ok) c.write_name-in-Some.ensures.ok
