-- The parts of keys, and of Resvs that are kept alive.
use Rattle.std.specs.Prelude.{◌++◌, ℕ, List, refl}
use Rattle.std.specs.Net.Addr.{ipv4_octets}
use Rattle.std.specs.declared.net.ipv4_addr.Ipv4Addr.{Ipv4Addr}
use Rattle.byteorder.specs.Endian.{big_bytes}
use Rattle.field_bytes.specs.Making.{IsToldApart, told_by}
use Rattle.lsr_facts.specs.declared.key.Key.{Key}
use Rattle.lsr_facts.specs.declared.upstream.Upstream.{Upstream}

-- An LSP: endpoint, tunnel, extended tunnel ID, sender, LSP ID (RFC 3209, 4.6).
abbrev pub key_bytes : Key → List ℕ
key_bytes k =
    ipv4_octets k.session.endpoint ++ (big_bytes 2 k.session.tunnel ++ (ipv4_octets k.session.extended ++ (ipv4_octets k.sender.sender ++ big_bytes 2 k.sender.lsp)))

abbrev pub KeyOf : Type 0
KeyOf = Ipv4Addr × (ℕ × (Ipv4Addr × (Ipv4Addr × ℕ)))

abbrev pub key_parts : Key → KeyOf
key_parts k = (k.session.endpoint, (k.session.tunnel, (k.session.extended, (k.sender.sender, k.sender.lsp))))

-- the LSP of these
abbrev pub key_of : KeyOf → Key
key_of parts = record {
  session = record { endpoint = parts.0; tunnel = parts.1.0; extended = parts.1.1.0 };
  sender = record { sender = parts.1.1.1.0; lsp = parts.1.1.1.1 };
}

pub key_told : IsToldApart (λ (k : Key). Unit {0}) key_parts
key_told = told_by (λ (k : Key). Unit {0}) key_parts key_of (λ k. refl)

-- A Resv that is kept alive at a neighbour: its LSP, the sender that the neighbour's Path named, the link and the neighbour.
abbrev pub upstream_bytes : Upstream → List ℕ
upstream_bytes u = key_bytes u.key ++ (ipv4_octets u.sender ++ (big_bytes 2 u.link ++ ipv4_octets u.hop))

abbrev pub upstream_parts : Upstream → Key × (Ipv4Addr × (ℕ × Ipv4Addr))
upstream_parts u = (u.key, (u.sender, (u.link, u.hop)))

-- the Resv of these
abbrev pub upstream_of : Key × (Ipv4Addr × (ℕ × Ipv4Addr)) → Upstream
upstream_of parts = record { key = parts.0; sender = parts.1.0; link = parts.1.1.0; hop = parts.1.1.1 }

pub upstream_told : IsToldApart (λ (u : Upstream). Unit {0}) upstream_parts
upstream_told = told_by (λ (u : Upstream). Unit {0}) upstream_parts upstream_of (λ u. refl)
