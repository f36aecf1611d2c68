-- Flags, as the code asks for them and as a definition does.
use Rattle.std.specs.Prelude.{◌≡◌, ◌<◌, ◌*◌, ◌/◌, ◌%◌, ◌==◌, ℕ, zero, suc, not}
use Rattle.std.specs.Int.Bits.{bit_and}
use Rattle.std.proofs.Common.{refl, ap, ◌∙◌, arith}
use Rattle.std.proofs.lemmas.Nat.Bits.{and_pow}

-- a bit in its place is there just where it is 1
placed-first : (bit : ℕ) → bit < 2 → not (bit * 1 == 0) ≡ (bit == 1)
placed-first zero small = refl
placed-first (suc zero) small = refl
placed-first (suc (suc n)) small = absurd (omega arith)

placed-second : (bit : ℕ) → bit < 2 → not (bit * 2 == 0) ≡ (bit == 1)
placed-second zero small = refl
placed-second (suc zero) small = refl
placed-second (suc (suc n)) small = absurd (omega arith)

placed-fifth : (bit : ℕ) → bit < 2 → not (bit * 16 == 0) ≡ (bit == 1)
placed-fifth zero small = refl
placed-fifth (suc zero) small = refl
placed-fifth (suc (suc n)) small = absurd (omega arith)

pub protection_flag : (flags : ℕ) → not (bit_and flags 1 == 0) ≡ (flags / 1 % 2 == 1)
protection_flag flags = ap (λ n. not (n == 0)) (and_pow flags 0) ∙ placed-first (flags / 1 % 2) (omega arith)

pub facility_flag : (flags : ℕ) → not (bit_and flags 2 == 0) ≡ (flags / 2 % 2 == 1)
facility_flag flags = ap (λ n. not (n == 0)) (and_pow flags 1) ∙ placed-second (flags / 2 % 2) (omega arith)

pub node_flag : (flags : ℕ) → not (bit_and flags 16 == 0) ≡ (flags / 16 % 2 == 1)
node_flag flags = ap (λ n. not (n == 0)) (and_pow flags 4) ∙ placed-fifth (flags / 16 % 2) (omega arith)

pub global_flag : (flags : ℕ) → not (bit_and flags 1 == 0) ≡ (flags % 2 == 1)
global_flag flags =
    let same : flags / 1 % 2 ≡ flags % 2 = omega arith in
    protection_flag flags ∙ ap (λ n. n == 1) same
