-- What is true of each prefix.
use Rattle.std.proofs.Common.{◌≡◌, ◌==◌, ◌&&◌, Bool, ap, nat_eq}
use Rattle.std.specs.Bool.{Decides}
use Rattle.std.specs.Cmp.Lexicographic.{pointwise, bytes_decides}
use Rattle.std.specs.Net.Addr.{ipv4_octets}
use Rattle.std.proofs.lemmas.Bool.Decides.{Decides-and, Decides-eqb, Decides-like}
use Rattle.rsvp_bodies.specs.declared.prefix.Prefix.{Prefix}

-- address and length are the same
abbrev pub same_prefix : Prefix → Prefix → Bool
same_prefix a b = pointwise nat_eq (ipv4_octets a.address) (ipv4_octets b.address) && (a.length == b.length)

-- two prefixes compare as equal exactly where they are the same
pub equal_is_same_lem : (a b : Prefix) → Decides (same_prefix a b) (a ≡ b)
equal_is_same_lem a b =
    Decides-like _ (λ h i. record { address = record { octets = h.0 i }; length = h.1 i })
    (λ e. (ap (λ p. p.address.octets) e, ap (λ p. p.length) e))
    (Decides-and _ _ (bytes_decides a.address.octets b.address.octets) (Decides-eqb a.length b.length))
