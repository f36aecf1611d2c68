-- The parts of tunnels and of bypasses.
use Rattle.std.specs.Prelude.{◌≡◌, ◌==◌, ◌++◌, ◌∷◌, [], ℕ, List, Option, Some, None, if◌then◌else◌, refl}
use Rattle.std.specs.Option.{option_map_or}
use Rattle.std.specs.Net.Addr.{ipv4_octets}
use Rattle.std.specs.declared.net.ipv4_addr.Ipv4Addr.{Ipv4Addr}
use Rattle.std.proofs.Common.{ap, sym, ◌∙◌}
use Rattle.byteorder.specs.Endian.{big_bytes}
use Rattle.field_bytes.specs.Making.{IsToldApart, told_by}
use Rattle.field_bytes.specs.OptionLaws.{option_bytes}
use Rattle.rsvp_bodies.specs.declared.attr.Attr.{Attr}
use Rattle.rsvp_bodies.specs.declared.step.Step.{Step}
use Rattle.rsvp_objects.specs.Values.{fast_reroute_body}
use Rattle.rsvp_objects.specs.declared.values.FastReroute.{FastReroute}
use Rattle.lsr_facts.specs.declared.bypass.Bypass.{Bypass}
use Rattle.lsr_facts.specs.declared.tunnel.Noted.{Noted}
use Rattle.lsr_facts.specs.declared.tunnel.Tunnel.{Tunnel}
use Rattle.lsr_facts.specs.declared.tunnel.TunnelLsp.{TunnelLsp}
use Rattle.journal_bytes.specs.Events.{attr_bytes, route_bytes}
use Rattle.fact_fields.specs.declared.tunnels.TunnelIds.{TunnelIds}

-- An error that came for a tunnel: the router that found it, its code and its value (RFC 2205, A.5).
abbrev pub noted_bytes : Noted → List ℕ
noted_bytes n = ipv4_octets n.node ++ (n.code ∷ big_bytes 2 n.value)

abbrev pub noted_parts : Noted → Ipv4Addr × (ℕ × ℕ)
noted_parts n = (n.node, (n.code, n.value))

-- the error of these
abbrev pub noted_of : Ipv4Addr × (ℕ × ℕ) → Noted
noted_of parts = record { node = parts.0; code = parts.1.0; value = parts.1.1 }

pub noted_told : IsToldApart (λ (n : Noted). Unit {0}) noted_parts
noted_told = told_by (λ (n : Noted). Unit {0}) noted_parts noted_of (λ n. refl)

-- the ID of an LSP that may be there, or 0
abbrev pub id_of : Option TunnelLsp → ℕ
id_of lsp = option_map_or (λ l. l.id) lsp 0

-- the ID of the LSP that is to take the current one's place, or 0
abbrev pub pending_id : Tunnel → ℕ
pending_id t = id_of t.pending

-- The LSP of this ID of which nothing more is said: no route, and this traffic. There is none of 0.
abbrev pub untold_by : ℕ → List ℕ → Option TunnelLsp
untold_by id tspec = if id == 0 then None else Some (record { id = id; route = []; tspec = tspec })

-- The tunnel as a file says it: of the LSP that is to take the current one's place the ID alone.
abbrev pub untold : Tunnel → Tunnel
untold t = record t { pending = untold_by (pending_id t) t.current.tspec }

-- nothing more is said of that LSP
abbrev pub IsUntold : Tunnel → Type 0
IsUntold t = t.pending ≡ untold_by (pending_id t) t.current.tspec

-- Its current LSP ID, that of the LSP which is to take its place (0 where there is none), the one that was given last; and the error that came last.
abbrev pub ids_bytes : TunnelIds → List ℕ
ids_bytes i = big_bytes 2 i.current ++ (big_bytes 2 i.pending ++ (big_bytes 2 i.last ++ option_bytes noted_bytes i.noted))

abbrev pub IdsOf : Type 0
IdsOf = ℕ × (ℕ × (ℕ × Option Noted))

abbrev pub ids_parts : TunnelIds → IdsOf
ids_parts i = (i.current, (i.pending, (i.last, i.noted)))

-- the IDs of these
abbrev pub ids_by : IdsOf → TunnelIds
ids_by parts = record { current = parts.0; pending = parts.1.0; last = parts.1.1.0; noted = parts.1.1.1 }

pub ids_told : IsToldApart (λ (i : TunnelIds). Unit {0}) ids_parts
ids_told = told_by (λ (i : TunnelIds). Unit {0}) ids_parts ids_by (λ i. refl)

-- a tunnel's IDs
abbrev pub ids_of : Tunnel → TunnelIds
ids_of t = record { current = t.current.id; pending = pending_id t; last = t.last; noted = t.noted }

-- What follows its route: the traffic of its current LSP, attributes, protection, and its LSP IDs.
abbrev pub held_bytes : Tunnel → List ℕ
held_bytes t = t.current.tspec ++ (attr_bytes t.attr ++ (option_bytes fast_reroute_body t.fast_reroute ++ ids_bytes (ids_of t)))

-- A tunnel: where it ends, the route of its current LSP, and what follows.
abbrev pub tunnel_bytes : Tunnel → List ℕ
tunnel_bytes t = ipv4_octets t.endpoint ++ (route_bytes t.current.route ++ held_bytes t)

abbrev pub Held : Type 0
Held = List ℕ × (Attr × (Option FastReroute × TunnelIds))

abbrev pub TunnelOf : Type 0
TunnelOf = Ipv4Addr × (List Step × Held)

abbrev pub held_parts : Tunnel → Held
held_parts t = (t.current.tspec, (t.attr, (t.fast_reroute, ids_of t)))

abbrev pub tunnel_parts : Tunnel → TunnelOf
tunnel_parts t = (t.endpoint, (t.current.route, held_parts t))

-- the tunnel of these
abbrev pub tunnel_of : TunnelOf → Tunnel
tunnel_of parts =
    let ids = parts.1.1.1.1.1 in
    record {
      endpoint = parts.0;
      attr = parts.1.1.1.0;
      fast_reroute = parts.1.1.1.1.0;
      current = record { id = ids.current; route = parts.1.0; tspec = parts.1.1.0 };
      pending = untold_by ids.pending parts.1.1.0;
      last = ids.last;
      noted = ids.noted;
    }

tunnel_again : (t : Tunnel) → IsUntold t → t ≡ tunnel_of (tunnel_parts t)
tunnel_again t is = λ i. record t { pending = is i }

pub tunnel_told : IsToldApart IsUntold tunnel_parts
tunnel_told x y p q e = tunnel_again x p ∙ (ap tunnel_of e ∙ sym (tunnel_again y q))

-- A bypass: its tunnel, the link that it protects and its capacity.
abbrev pub bypass_bytes : Bypass → List ℕ
bypass_bytes b = big_bytes 2 b.tunnel ++ (big_bytes 2 b.link ++ big_bytes 8 b.capacity)

abbrev pub bypass_parts : Bypass → ℕ × (ℕ × ℕ)
bypass_parts b = (b.tunnel, (b.link, b.capacity))

-- the bypass of these
abbrev pub bypass_of : ℕ × (ℕ × ℕ) → Bypass
bypass_of parts = record { tunnel = parts.0; link = parts.1.0; capacity = parts.1.1 }

pub bypass_told : IsToldApart (λ (b : Bypass). Unit {0}) bypass_parts
bypass_told = told_by (λ (b : Bypass). Unit {0}) bypass_parts bypass_of (λ b. refl)

-- the bypass has no capacity
abbrev pub IsPlainBypass : Bypass → Type 0
IsPlainBypass b = b.capacity ≡ 0

-- A bypass without a capacity: its tunnel and the link that it protects.
abbrev pub plain_bypass_bytes : Bypass → List ℕ
plain_bypass_bytes b = big_bytes 2 b.tunnel ++ big_bytes 2 b.link

abbrev pub plain_bypass_parts : Bypass → ℕ × ℕ
plain_bypass_parts b = (b.tunnel, b.link)

pub plain_bypass_told : IsToldApart IsPlainBypass plain_bypass_parts
plain_bypass_told x y p q e i = record { tunnel = (e i).0; link = (e i).1; capacity = (p ∙ sym q) i }
