-- The parts of the origins of paths.
use Rattle.std.specs.Prelude.{◌≡◌, ◌≢◌, ◌==◌, ◌++◌, ◌∷◌, ℕ, List, if◌then◌else◌, refl}
use Rattle.std.specs.Net.Addr.{ipv4_octets}
use Rattle.std.specs.declared.net.ipv4_addr.Ipv4Addr.{Ipv4Addr}
use Rattle.std.proofs.Common.{ap, sym}
use Rattle.byteorder.specs.Endian.{big_bytes}
use Rattle.field_bytes.specs.Making.{IsToldApart, told_by}
use Rattle.lsr_facts.specs.declared.path_fact.Origin.{Origin}
use Rattle.lsr_facts.specs.declared.path_fact.Via.{Via}
use Rattle.lsr_facts.specs.declared.path_fact.Via.TheVariants as vias

-- How Paths come: 0 and the link; or 1, where they come through stacks of labels, and a link number of 0.
abbrev pub via_bytes : Via → List ℕ
via_bytes (vias.Link number) = 0 ∷ big_bytes 2 number
via_bytes vias.Stack = 1 ∷ big_bytes 2 0

abbrev pub via_parts : Via → ℕ × ℕ
via_parts (vias.Link number) = (0, number)
via_parts vias.Stack = (1, 0)

-- how Paths come by these
abbrev pub via_of : ℕ × ℕ → Via
via_of parts = if parts.0 == 0 then vias.Link parts.1 else vias.Stack

via_again : (via : Via) → via_of (via_parts via) ≡ via
via_again (vias.Link number) = refl
via_again vias.Stack = refl

pub via_told : IsToldApart (λ (v : Via). Unit {0}) via_parts
via_told = told_by (λ (v : Via). Unit {0}) via_parts via_of via_again

-- by others they don't
pub no_via : (parts : ℕ × ℕ) → parts.0 ≢ 0 → (parts.0 ≡ 1 → parts.1 ≢ 0) → (via : Via) → Unit {0} → via_parts via ≡ parts → ⊥
no_via parts link stack (vias.Link number) _ e = link (sym (ap (λ (v : ℕ × ℕ). v.0) e))
no_via parts link stack vias.Stack _ e = stack (sym (ap (λ (v : ℕ × ℕ). v.0) e)) (sym (ap (λ (v : ℕ × ℕ). v.1) e))

-- An origin: how its Paths come, the router that sent them, that router's logical interface handle, and until when it counts.
abbrev pub origin_bytes : Origin → List ℕ
origin_bytes o = via_bytes o.via ++ (ipv4_octets o.hop.address ++ (big_bytes 4 o.hop.interface ++ big_bytes 8 o.expiry))

abbrev pub origin_parts : Origin → Via × (Ipv4Addr × (ℕ × ℕ))
origin_parts o = (o.via, (o.hop.address, (o.hop.interface, o.expiry)))

-- the origin of these
abbrev pub origin_of : Via × (Ipv4Addr × (ℕ × ℕ)) → Origin
origin_of parts = record { via = parts.0; hop = record { address = parts.1.0; interface = parts.1.1.0 }; expiry = parts.1.1.1 }

pub origin_told : IsToldApart (λ (o : Origin). Unit {0}) origin_parts
origin_told = told_by (λ (o : Origin). Unit {0}) origin_parts origin_of (λ o. refl)

-- an origin of a path, and before it the sender that the Path named
abbrev pub origin_row_bytes : Ipv4Addr × Origin → List ℕ
origin_row_bytes row = ipv4_octets row.0 ++ origin_bytes row.1
