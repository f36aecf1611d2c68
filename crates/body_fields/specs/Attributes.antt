-- The parts of attributes and of affinities.
use Rattle.std.specs.Prelude.{◌≡◌, ◌≢◌, ◌==◌, ◌++◌, ◌∷◌, ℕ, List, Option, Some, None, if◌then◌else◌, refl}
use Rattle.std.specs.Option.{option_map_or, unwrap_or}
use Rattle.std.proofs.Common.{ap, sym}
use Rattle.field_bytes.specs.Making.{IsToldApart, told_by}
use Rattle.rsvp_bodies.specs.Affinities.{affinities_body}
use Rattle.rsvp_bodies.specs.Attributes.{attr_ctype}
use Rattle.rsvp_bodies.specs.Names.{IsName}
use Rattle.rsvp_bodies.specs.declared.affinities.Affinities.{Affinities}
use Rattle.rsvp_bodies.specs.declared.attr.Attr.{Attr}
use Rattle.journal_bytes.specs.Events.{affinities_bytes, attr_bytes, counted_bytes}

-- exclude-any, include-any, include-all (RFC 3209, 4.7.2)
abbrev pub affinities_parts : Affinities → ℕ × (ℕ × ℕ)
affinities_parts a = (a.exclude_any, (a.include_any, a.include_all))

-- the affinities of these
abbrev pub affinities_of : ℕ × (ℕ × ℕ) → Affinities
affinities_of parts = record { exclude_any = parts.0; include_any = parts.1.0; include_all = parts.1.1 }

pub affinities_told : IsToldApart (λ (a : Affinities). Unit {0}) affinities_parts
affinities_told = told_by (λ (a : Affinities). Unit {0}) affinities_parts affinities_of (λ a. refl)

-- what stands where there are none
abbrev pub no_affinities : Affinities
no_affinities = record { exclude_any = 0; include_any = 0; include_all = 0 }

-- the affinities, or zeros where there are none
abbrev pub words_of : Option Affinities → Affinities
words_of affinities = unwrap_or affinities no_affinities

-- the C-Type of attributes with these affinities, or with none
abbrev pub ctype_with : Option Affinities → ℕ
ctype_with affinities = option_map_or (λ _. 1) affinities 7

-- The affinities that attributes of this C-Type have (RFC 3209, 4.7): 1 with them, 7 without. Where there are none, zeros stand there.
abbrev pub AreAffinities : ℕ → Affinities → Option (Option Affinities) → Type 0
AreAffinities ctype words None = (affinities : Option Affinities) → ctype_with affinities ≡ ctype → words_of affinities ≡ words → ⊥
AreAffinities ctype words (Some affinities) = (ctype_with affinities ≡ ctype) × (words_of affinities ≡ words)

-- the name can be counted in 8 bits
abbrev pub HasName : Attr → Type 0
HasName a = IsName a.name

-- the C-Type, the affinities or zeros, the priorities, the flags and the name
abbrev pub attr_parts : Attr → ℕ × (Affinities × (ℕ × (ℕ × (ℕ × List ℕ))))
attr_parts a = (attr_ctype a, (words_of a.affinities, (a.setup, (a.hold, (a.flags, a.name)))))

-- the affinities of attributes of this C-Type
abbrev pub affinities_by : ℕ → Affinities → Option Affinities
affinities_by ctype words = if ctype == 1 then Some words else None

-- the attributes of these parts
abbrev pub attr_of : ℕ × (Affinities × (ℕ × (ℕ × (ℕ × List ℕ)))) → Attr
attr_of parts = record {
  affinities = affinities_by parts.0 parts.1.0;
  setup = parts.1.1.0;
  hold = parts.1.1.1.0;
  flags = parts.1.1.1.1.0;
  name = parts.1.1.1.1.1;
}

affinities_again : (affinities : Option Affinities) → affinities_by (ctype_with affinities) (words_of affinities) ≡ affinities
affinities_again None = refl
affinities_again (Some words) = refl

pub attr_told : IsToldApart HasName attr_parts
attr_told = told_by HasName attr_parts attr_of (λ a i. record a { affinities = affinities_again a.affinities i })

words_spelled : (affinities : Option Affinities) → affinities_bytes affinities ≡ affinities_body (words_of affinities)
words_spelled None = refl
words_spelled (Some words) = refl

pub attr_spelled : (a : Attr) → attr_bytes a ≡ attr_ctype a ∷ (affinities_body (words_of a.affinities) ++ (a.setup ∷ a.hold ∷ a.flags ∷ counted_bytes a.name))
attr_spelled a = ap (λ (v : List ℕ). attr_ctype a ∷ (v ++ (a.setup ∷ a.hold ∷ a.flags ∷ counted_bytes a.name))) (words_spelled a.affinities)

-- with another C-Type, and with others than zeros where there are none, no attributes are
pub not_affinities : (ctype : ℕ) (words : Affinities) → ctype ≢ 1 → (ctype ≡ 7 → words ≢ no_affinities) → AreAffinities ctype words None
not_affinities ctype words other filled None kind same = filled (sym kind) (sym same)
not_affinities ctype words other filled (Some given) kind same = other (sym kind)
