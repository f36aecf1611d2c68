-- The parts of protection that is asked for.
use Rattle.std.specs.Prelude.{◌++◌, ℕ, List, refl}
use Rattle.byteorder.specs.Endian.{big_bytes}
use Rattle.field_bytes.specs.Making.{IsToldApart, told_by}
use Rattle.rsvp_bodies.specs.declared.affinities.Affinities.{Affinities}
use Rattle.rsvp_objects.specs.declared.values.FastReroute.{FastReroute}

-- setup, hold, hop limit, flags, bandwidth, include-any, exclude-any, include-all (RFC 4090, 4.1)
abbrev pub protection_parts : FastReroute → ℕ × (ℕ × (ℕ × (ℕ × (ℕ × (ℕ × (ℕ × ℕ))))))
protection_parts f =
    (f.setup, (f.hold, (f.hop_limit, (f.flags, (f.bandwidth, (f.affinities.include_any, (f.affinities.exclude_any, f.affinities.include_all)))))))

-- include-any, exclude-any and include-all, and how they are written
abbrev pub sets_of : Affinities → ℕ × (ℕ × ℕ)
sets_of a = (a.include_any, (a.exclude_any, a.include_all))

abbrev pub sets_bytes : Affinities → List ℕ
sets_bytes a = big_bytes 4 a.include_any ++ (big_bytes 4 a.exclude_any ++ big_bytes 4 a.include_all)

-- the protection of these
abbrev pub protection_of : ℕ × (ℕ × (ℕ × (ℕ × (ℕ × (ℕ × (ℕ × ℕ)))))) → FastReroute
protection_of parts = record {
  setup = parts.0;
  hold = parts.1.0;
  hop_limit = parts.1.1.0;
  flags = parts.1.1.1.0;
  bandwidth = parts.1.1.1.1.0;
  affinities = record {
    exclude_any = parts.1.1.1.1.1.1.0;
    include_any = parts.1.1.1.1.1.0;
    include_all = parts.1.1.1.1.1.1.1;
  };
}

pub protection_told : IsToldApart (λ (f : FastReroute). Unit {0}) protection_parts
protection_told = told_by (λ (f : FastReroute). Unit {0}) protection_parts protection_of (λ f. refl)
