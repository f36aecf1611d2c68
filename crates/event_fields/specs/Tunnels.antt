-- The parts of tunnels and bypasses that an operator asks for.
use Rattle.std.specs.Prelude.{◌≡◌, ◌≢◌, ◌++◌, ◌∷◌, [], ℕ, List, length, Option, Some, None, refl}
use Rattle.std.specs.Option.{option_map_or}
use Rattle.std.specs.declared.net.ipv4_addr.Ipv4Addr.{Ipv4Addr}
use Rattle.std.specs.Net.Addr.{ipv4_octets}
use Rattle.std.proofs.Common.{ap, sym, subst, ◌∙◌}
use Rattle.std.proofs.Props.{props}
use Rattle.byteorder.specs.Endian.{big_bytes}
use Rattle.field_bytes.specs.Making.{IsToldApart, told_by}
use Rattle.field_bytes.specs.OptionLaws.{option_bytes}
use Rattle.rsvp_bodies.specs.declared.attr.Attr.{Attr}
use Rattle.rsvp_bodies.specs.declared.step.Step.{Step}
use Rattle.rsvp_objects.specs.declared.values.FastReroute.{FastReroute}
use Rattle.rsvp_objects.specs.Values.{fast_reroute_body}
use Rattle.abstract_paths.specs.declared.tunnels.NewTunnel.{NewTunnel}
use Rattle.abstract_paths.specs.declared.tunnels.TunnelChange.{TunnelChange}
use Rattle.abstract_paths.specs.declared.tunnels.NewBypass.{NewBypass}
use Rattle.journal_bytes.specs.Events.{attr_bytes, protection_bytes, route_bytes, tunnel_bytes}

-- a tunnel's number, its end, its route, its traffic, its attributes and its protection
abbrev pub TunnelParts : Type 0
TunnelParts = ℕ × (Ipv4Addr × (List Step × (List ℕ × (Attr × Option FastReroute))))

abbrev pub tunnel_parts : NewTunnel → TunnelParts
tunnel_parts t = (t.number, (t.endpoint, (t.route, (t.tspec, (t.attr, t.fast_reroute)))))

-- any tunnel may be asked for
abbrev pub AnyTunnel : NewTunnel → Type 0
AnyTunnel t = Unit {0}

-- the tunnel of these, whose traffic has 32 bytes
abbrev pub tunnel_of : (parts : TunnelParts) → length parts.1.1.1.0 ≡ 32 → NewTunnel
tunnel_of parts whole = record {
  number = parts.0;
  endpoint = parts.1.0;
  route = parts.1.1.0;
  tspec = parts.1.1.1.0;
  attr = parts.1.1.1.1.0;
  fast_reroute = parts.1.1.1.1.1;
  whole = whole;
}

is_tunnel_of : (t : NewTunnel) (parts : TunnelParts) → tunnel_parts t ≡ parts → (whole : length parts.1.1.1.0 ≡ 32) → t ≡ tunnel_of parts whole
is_tunnel_of t parts e =
    let P : TunnelParts → Type 0 = λ parts. (whole : length parts.1.1.1.0 ≡ 32) → t ≡ tunnel_of parts whole in
    let one : (a b : length t.tspec ≡ 32) → a ≡ b = hlevel props in
    subst P e (λ whole i. tunnel_of (tunnel_parts t) (one t.whole whole i))

pub tunnel_told : IsToldApart AnyTunnel tunnel_parts
tunnel_told x y _ _ e = is_tunnel_of x (tunnel_parts y) e y.whole

-- no tunnel has traffic of another length
pub no_tunnel : (parts : TunnelParts) → length parts.1.1.1.0 ≢ 32 → (t : NewTunnel) → Unit {0} → tunnel_parts t ≡ parts → ⊥
no_tunnel parts other t _ e = other (sym (ap (λ (v : TunnelParts). length v.1.1.1.0) e) ∙ t.whole)

protection_spelled : (protection : Option FastReroute) → protection_bytes protection ≡ option_bytes fast_reroute_body protection
protection_spelled None = refl
protection_spelled (Some f) = refl

pub tunnel_spelled : (t : NewTunnel) → tunnel_bytes t ≡ big_bytes 2 t.number ++ (ipv4_octets t.endpoint ++ (route_bytes t.route ++ (t.tspec ++ (attr_bytes t.attr ++ option_bytes fast_reroute_body t.fast_reroute))))
tunnel_spelled t =
    ap (λ (v : List ℕ). big_bytes 2 t.number ++ (ipv4_octets t.endpoint ++ (route_bytes t.route ++ (t.tspec ++ (attr_bytes t.attr ++ v))))) (protection_spelled t.fast_reroute)

-- a change's number, its route and its traffic
abbrev pub ChangeParts : Type 0
ChangeParts = ℕ × (List Step × List ℕ)

abbrev pub change_parts : TunnelChange → ChangeParts
change_parts c = (c.number, (c.route, c.tspec))

-- any change may be asked for
abbrev pub AnyChange : TunnelChange → Type 0
AnyChange c = Unit {0}

-- the change of these, whose traffic has 32 bytes
abbrev pub change_of : (parts : ChangeParts) → length parts.1.1 ≡ 32 → TunnelChange
change_of parts whole = record { number = parts.0; route = parts.1.0; tspec = parts.1.1; whole = whole }

is_change_of : (c : TunnelChange) (parts : ChangeParts) → change_parts c ≡ parts → (whole : length parts.1.1 ≡ 32) → c ≡ change_of parts whole
is_change_of c parts e =
    let P : ChangeParts → Type 0 = λ parts. (whole : length parts.1.1 ≡ 32) → c ≡ change_of parts whole in
    let one : (a b : length c.tspec ≡ 32) → a ≡ b = hlevel props in
    subst P e (λ whole i. change_of (change_parts c) (one c.whole whole i))

pub change_told : IsToldApart AnyChange change_parts
change_told x y _ _ e = is_change_of x (change_parts y) e y.whole

-- no change has traffic of another length
pub no_change : (parts : ChangeParts) → length parts.1.1 ≢ 32 → (c : TunnelChange) → Unit {0} → change_parts c ≡ parts → ⊥
no_change parts other c _ e = other (sym (ap (λ (v : ChangeParts). length v.1.1) e) ∙ c.whole)

-- a bypass's number, its tunnel, its link and its capacity
abbrev pub bypass_parts : NewBypass → ℕ × (ℕ × (ℕ × ℕ))
bypass_parts b = (b.number, (b.tunnel, (b.link, b.capacity)))

-- the bypass of these
abbrev pub bypass_of : ℕ × (ℕ × (ℕ × ℕ)) → NewBypass
bypass_of parts = record { number = parts.0; tunnel = parts.1.0; link = parts.1.1.0; capacity = parts.1.1.1 }

pub bypass_told : IsToldApart (λ (b : NewBypass). Unit {0}) bypass_parts
bypass_told = told_by (λ (b : NewBypass). Unit {0}) bypass_parts bypass_of (λ b. refl)
