-- No bytes begin with two numbers of one width, with two flags or with two addresses.
use Rattle.std.specs.Prelude.{◌≡◌, ◌<◌, ◌^◌, ◌++◌, List, [], ◌∷◌, ℕ, Bool, true, false, if◌then◌else◌, length, refl}
use Rattle.std.specs.Int.{to_be_bytes, from_be_bytes, w16, w32, w64}
use Rattle.std.specs.Net.Addr.{ipv4_octets}
use Rattle.std.specs.declared.net.Ipv4Addr.{Ipv4Addr}
use Rattle.std.proofs.Common.{sym, ◌∙◌, ap, take, drop, get_or, arith}
use Rattle.std.proofs.lemmas.Nat.{from_be_bytes-to_be_bytes_2, from_be_bytes-to_be_bytes_4, from_be_bytes-to_be_bytes_8}

-- the byte of a flag
abbrev pub flag_byte : Bool → ℕ
flag_byte flag = if flag then 1 else 0

pub one_nothing : (x y : Unit {0}) (r s : List ℕ) → Unit {0} → Unit {0} → r ≡ s → (x ≡ y) × (r ≡ s)
one_nothing x y r s _ _ e = (refl, e)

pub one_byte : (x y : ℕ) (r s : List ℕ) → x < 2 ^ 8 → y < 2 ^ 8 → x ∷ r ≡ y ∷ s → (x ≡ y) × (r ≡ s)
one_byte x y r s _ _ e = (ap (λ (v : List ℕ). get_or v 0 0) e, ap (drop 1) e)

pub one_short : (x y : ℕ) (r s : List ℕ) → x < 2 ^ 16 → y < 2 ^ 16 → to_be_bytes w16 x ++ r ≡ to_be_bytes w16 y ++ s → (x ≡ y) × (r ≡ s)
one_short x y r s a b e =
    (sym (from_be_bytes-to_be_bytes_2 x a) ∙ (ap (λ (v : List ℕ). from_be_bytes w16 (take 2 v)) e ∙ from_be_bytes-to_be_bytes_2 y b), ap (drop 2) e)

pub one_word : (x y : ℕ) (r s : List ℕ) → x < 2 ^ 32 → y < 2 ^ 32 → to_be_bytes w32 x ++ r ≡ to_be_bytes w32 y ++ s → (x ≡ y) × (r ≡ s)
one_word x y r s a b e =
    (sym (from_be_bytes-to_be_bytes_4 x a) ∙ (ap (λ (v : List ℕ). from_be_bytes w32 (take 4 v)) e ∙ from_be_bytes-to_be_bytes_4 y b), ap (drop 4) e)

pub one_long : (x y : ℕ) (r s : List ℕ) → x < 2 ^ 64 → y < 2 ^ 64 → to_be_bytes w64 x ++ r ≡ to_be_bytes w64 y ++ s → (x ≡ y) × (r ≡ s)
one_long x y r s a b e =
    (sym (from_be_bytes-to_be_bytes_8 x a) ∙ (ap (λ (v : List ℕ). from_be_bytes w64 (take 8 v)) e ∙ from_be_bytes-to_be_bytes_8 y b), ap (drop 8) e)

pub one_flag : (x y : Bool) (r s : List ℕ) → Unit {0} → Unit {0} → flag_byte x ∷ r ≡ flag_byte y ∷ s → (x ≡ y) × (r ≡ s)
one_flag true true r s _ _ e = (refl, ap (drop 1) e)
one_flag false false r s _ _ e = (refl, ap (drop 1) e)
one_flag true false r s _ _ e = let h : 1 ≡ 0 = ap (λ (v : List ℕ). get_or v 0 0) e in absurd (omega (arith, h))
one_flag false true r s _ _ e = let h : 0 ≡ 1 = ap (λ (v : List ℕ). get_or v 0 0) e in absurd (omega (arith, h))

-- two lists of one length with something behind each
pub heads_and_rests : (xs ys r s : List ℕ) → length xs ≡ length ys → xs ++ r ≡ ys ++ s → (xs ≡ ys) × (r ≡ s)
heads_and_rests [] [] r s same e = (refl, e)
heads_and_rests (x ∷ xs) [] r s same e = absurd (omega (arith, same))
heads_and_rests [] (y ∷ ys) r s same e = absurd (omega (arith, same))
heads_and_rests (x ∷ xs) (y ∷ ys) r s same e =
    let n : length xs ≡ length ys = omega (arith, same) in
    let others = heads_and_rests xs ys r s n (ap (drop 1) e) in
    let head : x ≡ y = ap (λ (v : List ℕ). get_or v 0 0) e in
    ((λ i. head i ∷ others.0 i), others.1)

pub one_address : (x y : Ipv4Addr) (r s : List ℕ) → length (ipv4_octets x) ≡ 4 → length (ipv4_octets y) ≡ 4 → ipv4_octets x ++ r ≡ ipv4_octets y ++ s → (x ≡ y) × (r ≡ s)
one_address x y r s a b e =
    let parts = heads_and_rests (ipv4_octets x) (ipv4_octets y) r s (a ∙ sym b) e in
    ((λ i. record { octets = parts.0 i }), parts.1)
