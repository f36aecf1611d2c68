-- Why attributes that compare as equal are the same.
use Rattle.std.proofs.Common.{◌≡◌, Bool, Option, Some, None, ap, refl}
use Rattle.std.specs.Bool.{Decides}
use Rattle.std.specs.Option.{option_eq}
use Rattle.std.specs.Cmp.Lexicographic.{bytes_decides}
use Rattle.std.proofs.lemmas.Bool.Decides.{Decides-and, Decides-eqb, Decides-like}
use Rattle.rsvp_bodies.specs.declared.affinities.Affinities.{Affinities}
use Rattle.rsvp_bodies.specs.declared.attr.Attr.{Attr}
use Rattle.rsvp_bodies.specs.contracts.affinities.AffinitiesPartialEq.TheImpl as affinities
use Rattle.rsvp_bodies.specs.contracts.attr.AttrPartialEq.TheImpl as attributes
use Rattle.rsvp_bodies.proofs.attr_laws.equal_attributes_are_same.Goals as goal

same_option : {K : Type 0} (E : K → K → Bool) → ((a b : K) → Decides (E a b) (a ≡ b)) → (x y : Option K) → Decides (option_eq E x y) (x ≡ y)
same_option E each None None = (λ e. refl, λ e. refl)
same_option E each None (Some b) = (λ e. absurd cc, λ e. absurd cc)
same_option E each (Some a) None = (λ e. absurd cc, λ e. absurd cc)
same_option E each (Some a) (Some b) = Decides-like _ (λ e. ap Some e) (λ e. cc) (each a b)

same_affinities : (a b : Affinities) → Decides (affinities.ghosts.eq a b) (a ≡ b)
same_affinities a b =
    Decides-like _ (λ h i. record { exclude_any = h.0 i; include_any = h.1.0 i; include_all = h.1.1 i })
    (λ e. (ap (λ s. s.exclude_any) e, (ap (λ s. s.include_any) e, ap (λ s. s.include_all) e)))
    (Decides-and _ _ (Decides-eqb a.exclude_any b.exclude_any)
    (Decides-and _ _ (Decides-eqb a.include_any b.include_any) (Decides-eqb a.include_all b.include_all)))

same_attr : (a b : Attr) → Decides (attributes.ghosts.eq a b) (a ≡ b)
same_attr a b =
    Decides-like _
    (λ h i. record { affinities = h.0 i; setup = h.1.0 i; hold = h.1.1.0 i; flags = h.1.1.1.0 i; name = h.1.1.1.1 i })
    (λ e. (ap (λ t. t.affinities) e, (ap (λ t. t.setup) e, (ap (λ t. t.hold) e, (ap (λ t. t.flags) e, ap (λ t. t.name) e)))))
    (Decides-and _ _ (same_option affinities.ghosts.eq same_affinities a.affinities b.affinities)
    (Decides-and _ _ (Decides-eqb a.setup b.setup)
    (Decides-and _ _ (Decides-eqb a.hold b.hold)
    (Decides-and _ _ (Decides-eqb a.flags b.flags) (bytes_decides a.name b.name)))))

pub returns : goal.returns
returns c = same_attr
