use Rattle.std.proofs.Common.{◌≡◌, ℕ, ◌≤◌, ◌-◌, ◌*◌, ◌%◌, ◌^◌, ap, ◌∙◌, arith}
use Rattle.std.proofs.lemmas.Nat.{pow_below}
use Rattle.std.specs.Int.{to_be_bytes, w32}
use Rattle.std.specs.Net.Addr.{ipv4_bits, IsIpv4OfBits}
use Rattle.std.specs.declared.net.ipv4_addr.Ipv4Addr.{Ipv4Addr}
use Rattle.lsr_facts.specs.Routers.{masked}
use Rattle.lsr_facts.proofs.prefixes.masked.Goals as goal

-- an address with the bits past a length set to 0, by its bits
masked_from_bits : (a b : Ipv4Addr) (bits same length : ℕ) → length ≤ 32 → bits ≡ ipv4_bits b → same ≡ bits → IsIpv4OfBits a (bits - same % (1 * 2 ^ (32 - length) % 18446744073709551616)) → a ≡ masked b length
unfolding masked IsIpv4OfBits
masked_from_bits a b bits same length short is again h =
    let size : 1 * 2 ^ (32 - length) % 18446744073709551616 ≡ 2 ^ (32 - length) = let p = pow_below (32 - length) 33 (omega arith) in omega arith in
    ap (λ octets. record { octets = octets }) (h ∙ ap (to_be_bytes w32) (ap (λ m. bits - same % m) size ∙ rw (again, is)))

pub returns : goal.returns
returns c = masked_from_bits _ _ c.to_bits-bits.result c.from.result _ c.requires c.to_bits-bits.ensures c.from.ensures c.from_bits.ensures
