-- An address with the bits past a length set to 0.
use Rattle.std.proofs.Common.{◌≡◌, ℕ, ◌+◌, ◌-◌, ◌*◌, ◌/◌, ◌%◌, ◌^◌, ◌<◌, ◌≤◌, List, [], sym, ap, subst, ◌∙◌, arith}
use Rattle.std.proofs.Math.Nat.{dvd-mul_right, mod-mod_of_dvd, mul-mod_right}
use Rattle.std.proofs.lemmas.Nat.{pow-add, pow_pos}
use Rattle.std.specs.Int.{◌∣◌, from_be_bytes, to_be_bytes, w32}
use Rattle.std.specs.Net.Addr.{ipv4_bits}
use Rattle.std.specs.declared.net.ipv4_addr.Ipv4Addr.{Ipv4Addr}
use Rattle.byteorder.specs.Endian.{big_from}
use Rattle.byteorder.specs.Numbers.{big_from-bytes}
use Rattle.lsr_facts.specs.Routers.{masked}

-- four bytes as a number
from_four : (xs : List ℕ) → from_be_bytes w32 xs ≡ big_from 0 4 xs
from_four xs = omega arith

-- the four lowest bytes of a number make what is left of it above 2^32
four_bytes : (n : ℕ) → from_be_bytes w32 (to_be_bytes w32 n) ≡ n % 2 ^ 32
four_bytes n = from_four (to_be_bytes w32 n) ∙ big_from-bytes 4 n []

-- a size that is a power of 2 of at most 32 bits is a part of 2^32
size-whole : (n : ℕ) → n ≤ 32 → 2 ^ (32 - n) ∣ 2 ^ 32
size-whole n short =
    let whole : 32 - n + n ≡ 32 = omega arith in
    let both : 2 ^ (32 - n) * 2 ^ n ≡ 2 ^ 32 = sym (pow-add 2 (32 - n) n) ∙ ap (λ k. 2 ^ k) whole in
    subst (λ whole. 2 ^ (32 - n) ∣ whole) both (dvd-mul_right (2 ^ (32 - n)) (2 ^ n))

whole_part : (bits size : ℕ) → 0 < size → bits - bits % size ≡ size * (bits / size)
whole_part bits size some = omega arith

-- Bits past the length are 0 in what is left of an address.
pub masked_past : (a : Ipv4Addr) (n : ℕ) → n ≤ 32 → ipv4_bits (masked a n) % 2 ^ (32 - n) ≡ 0
unfolding masked ipv4_bits
masked_past a n short =
    let bits = ipv4_bits a in
    let size = 2 ^ (32 - n) in
    ap (λ b. b % size) (four_bytes (bits - bits % size))
    ∙ mod-mod_of_dvd size (bits - bits % size) (size-whole n short)
    ∙ ap (λ b. b % size) (whole_part bits size (pow_pos (32 - n)))
    ∙ mul-mod_right size (bits / size)
