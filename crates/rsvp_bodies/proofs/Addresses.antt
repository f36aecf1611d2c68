-- Addresses are one where their numbers are.
use Rattle.std.proofs.Common.{◌≡◌, ◌==◌, ℕ, true, refl, sym, ap, ◌∙◌, nat_eq}
use Rattle.std.proofs.lemmas.Bool.{eq-eqb, eqb-true}
use Rattle.std.proofs.lemmas.Nat.{be_bytes_4}
use Rattle.std.specs.Bool.{Decides}
use Rattle.std.specs.Cmp.{both_ways}
use Rattle.std.specs.Cmp.Lexicographic.{pointwise, bytes_decides}
use Rattle.std.specs.Int.{to_be_bytes, from_be_bytes, w32}
use Rattle.std.specs.Net.Addr.{IsIpv4Addr, ipv4_bits, ipv4_octets}
use Rattle.std.specs.declared.net.ipv4_addr.Ipv4Addr.{Ipv4Addr}

octets_of_number : (a : Ipv4Addr) → IsIpv4Addr a → to_be_bytes w32 (ipv4_bits a) ≡ ipv4_octets a
unfolding ipv4_bits
octets_of_number a is = be_bytes_4 (ipv4_octets a) (ipv4_bits a) is.0 is.1 refl

bits_of_octets : (a b : Ipv4Addr) → ipv4_octets a ≡ ipv4_octets b → ipv4_bits a ≡ ipv4_bits b
unfolding ipv4_bits
bits_of_octets a b same = ap (from_be_bytes w32) same

-- two addresses are one where their numbers are
pub same_number : (a b : Ipv4Addr) → IsIpv4Addr a → IsIpv4Addr b → (ipv4_bits a == ipv4_bits b) ≡ pointwise nat_eq (ipv4_octets a) (ipv4_octets b)
same_number a b four others =
    let decides = bytes_decides (ipv4_octets a) (ipv4_octets b) in
    both_ways (ipv4_bits a == ipv4_bits b) (pointwise nat_eq (ipv4_octets a) (ipv4_octets b))
    (λ same. decides.1 (sym (octets_of_number a four) ∙ ap (to_be_bytes w32) (eqb-true (ipv4_bits a) (ipv4_bits b) same) ∙ octets_of_number b others))
    (λ same. eq-eqb (ipv4_bits a) (ipv4_bits b) (bits_of_octets a b (decides.0 same)))
