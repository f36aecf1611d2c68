-- The parts of reservations, of repairs and of promises.
use Rattle.std.specs.Prelude.{◌≡◌, ◌≢◌, ◌==◌, ◌++◌, ◌∷◌, [], ℕ, Bool, List, Option, if◌then◌else◌, refl}
use Rattle.std.proofs.Common.{sym}
use Rattle.byteorder.specs.Endian.{big_bytes}
use Rattle.field_bytes.specs.Making.{IsToldApart, told_by}
use Rattle.field_bytes.specs.NumberLaws.{flag_byte}
use Rattle.field_bytes.specs.OptionLaws.{option_bytes}
use Rattle.rsvp_bodies.specs.declared.trace.Trace.{Trace}
use Rattle.rsvp_objects.specs.Raw.{Raw}
use Rattle.lsr_facts.specs.Reservations.{style_bits}
use Rattle.lsr_facts.specs.declared.assignment.Assignment.{Assignment}
use Rattle.lsr_facts.specs.declared.repair.Repair.{Repair}
use Rattle.lsr_facts.specs.declared.resv_fact.ResvFact.{ResvFact}
use Rattle.lsr_facts.specs.declared.resv_fact.ResvStyle.{ResvStyle}
use Rattle.lsr_facts.specs.declared.resv_fact.ResvStyle.TheVariants as styles
use Rattle.body_fields.specs.Passing.{passing_bytes}
use Rattle.body_fields.specs.Routes.{record_bytes}
use Rattle.fact_fields.specs.declared.resvs.ResvEnd.{ResvEnd}

-- a style, in 1 byte (RFC 2205, A.7)
abbrev pub style_bytes : ResvStyle → List ℕ
style_bytes style = style_bits style ∷ []

-- the style of these bits
abbrev pub style_by : ℕ → ResvStyle
style_by bits = if bits == 10 then styles.FixedFilter else styles.SharedExplicit

style_again : (style : ResvStyle) → style_by (style_bits style) ≡ style
style_again styles.FixedFilter = refl
style_again styles.SharedExplicit = refl

pub style_told : IsToldApart (λ (s : ResvStyle). Unit {0}) style_bits
style_told = told_by (λ (s : ResvStyle). Unit {0}) style_bits style_by style_again

-- no style has other bits
pub no_style : (bits : ℕ) → bits ≢ 10 → bits ≢ 18 → (style : ResvStyle) → Unit {0} → style_bits style ≡ bits → ⊥
no_style bits fixed shared styles.FixedFilter _ e = fixed (sym e)
no_style bits fixed shared styles.SharedExplicit _ e = shared (sym e)

-- What ends a reservation: the route that its Resv took, objects that are passed on, and until when it counts.
abbrev pub end_bytes : ResvEnd → List ℕ
end_bytes e = option_bytes record_bytes e.recorded ++ (passing_bytes e.passing ++ big_bytes 8 e.expiry)

abbrev pub EndOf : Type 0
EndOf = Option (List Trace) × (List Raw × ℕ)

abbrev pub end_parts : ResvEnd → EndOf
end_parts e = (e.recorded, (e.passing, e.expiry))

-- what ends it by these
abbrev pub end_by : EndOf → ResvEnd
end_by parts = record { recorded = parts.0; passing = parts.1.0; expiry = parts.1.1 }

pub end_told : IsToldApart (λ (e : ResvEnd). Unit {0}) end_parts
end_told = told_by (λ (e : ResvEnd). Unit {0}) end_parts end_by (λ e. refl)

-- what ends a reservation
abbrev pub end_of : ResvFact → ResvEnd
end_of v = record { recorded = v.recorded; passing = v.passing; expiry = v.expiry }

-- A reservation: its link, its style, its traffic, its label and what ends it.
abbrev pub resv_bytes : ResvFact → List ℕ
resv_bytes v = big_bytes 2 v.link ++ (style_bits v.style ∷ (v.flowspec ++ (big_bytes 4 v.label ++ end_bytes (end_of v))))

abbrev pub ResvOf : Type 0
ResvOf = ℕ × (ResvStyle × (List ℕ × (ℕ × ResvEnd)))

abbrev pub resv_parts : ResvFact → ResvOf
resv_parts v = (v.link, (v.style, (v.flowspec, (v.label, end_of v))))

-- the reservation of these
abbrev pub resv_of : ResvOf → ResvFact
resv_of parts =
    let end = parts.1.1.1.1 in
    record {
      link = parts.0;
      style = parts.1.0;
      flowspec = parts.1.1.0;
      label = parts.1.1.1.0;
      recorded = end.recorded;
      passing = end.passing;
      expiry = end.expiry;
    }

pub resv_told : IsToldApart (λ (v : ResvFact). Unit {0}) resv_parts
resv_told = told_by (λ (v : ResvFact). Unit {0}) resv_parts resv_of (λ v. refl)

-- What follows a repair's label: whether its bypass ends after the next hop, its style, its traffic and what ends it.
abbrev pub repaired_bytes : Repair → List ℕ
repaired_bytes u = flag_byte u.is_nnhop ∷ style_bits u.resv.style ∷ (u.resv.flowspec ++ end_bytes (end_of u.resv))

-- A repair: its bypass, the link that it protects, its label, and what follows.
abbrev pub repair_bytes : Repair → List ℕ
repair_bytes u = big_bytes 2 u.bypass ++ (big_bytes 2 u.resv.link ++ (big_bytes 4 u.resv.label ++ repaired_bytes u))

abbrev pub Repaired : Type 0
Repaired = Bool × (ResvStyle × (List ℕ × ResvEnd))

abbrev pub RepairOf : Type 0
RepairOf = ℕ × (ℕ × (ℕ × Repaired))

abbrev pub repaired_parts : Repair → Repaired
repaired_parts u = (u.is_nnhop, (u.resv.style, (u.resv.flowspec, end_of u.resv)))

abbrev pub repair_parts : Repair → RepairOf
repair_parts u = (u.bypass, (u.resv.link, (u.resv.label, repaired_parts u)))

-- the repair of these
abbrev pub repair_of : RepairOf → Repair
repair_of parts =
    let repaired = parts.1.1.1 in
    let end = repaired.1.1.1 in
    record {
      bypass = parts.0;
      is_nnhop = repaired.0;
      resv = record {
        link = parts.1.0;
        style = repaired.1.0;
        flowspec = repaired.1.1.0;
        label = parts.1.1.0;
        recorded = end.recorded;
        passing = end.passing;
        expiry = end.expiry;
      };
    }

pub repair_told : IsToldApart (λ (u : Repair). Unit {0}) repair_parts
repair_told = told_by (λ (u : Repair). Unit {0}) repair_parts repair_of (λ u. refl)

-- What an LSP is promised of a bypass's bandwidth: the bypass, and bytes per second.
abbrev pub assignment_bytes : Assignment → List ℕ
assignment_bytes a = big_bytes 2 a.bypass ++ big_bytes 8 a.rate

abbrev pub assignment_parts : Assignment → ℕ × ℕ
assignment_parts a = (a.bypass, a.rate)

-- the promise of these
abbrev pub assignment_of : ℕ × ℕ → Assignment
assignment_of parts = record { bypass = parts.0; rate = parts.1 }

pub assignment_told : IsToldApart (λ (a : Assignment). Unit {0}) assignment_parts
assignment_told = told_by (λ (a : Assignment). Unit {0}) assignment_parts assignment_of (λ a. refl)
