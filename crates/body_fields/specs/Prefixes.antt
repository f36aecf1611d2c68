-- The parts of a prefix.
use Rattle.std.specs.Prelude.{ℕ, refl}
use Rattle.std.specs.declared.net.ipv4_addr.Ipv4Addr.{Ipv4Addr}
use Rattle.field_bytes.specs.Making.{IsToldApart, told_by}
use Rattle.rsvp_bodies.specs.declared.prefix.Prefix.{Prefix}

-- its address and its length
abbrev pub prefix_parts : Prefix → Ipv4Addr × ℕ
prefix_parts p = (p.address, p.length)

-- the prefix of these
abbrev pub prefix_of : Ipv4Addr × ℕ → Prefix
prefix_of parts = record { address = parts.0; length = parts.1 }

pub prefix_told : IsToldApart (λ (p : Prefix). Unit {0}) prefix_parts
prefix_told = told_by (λ (p : Prefix). Unit {0}) prefix_parts prefix_of (λ p. refl)
