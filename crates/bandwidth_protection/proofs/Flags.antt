-- A flag, as the code asks for it and as a definition does.
use Rattle.std.specs.Prelude.{◌≡◌, ◌<◌, ◌*◌, ◌/◌, ◌%◌, ◌==◌, ℕ, zero, suc, not}
use Rattle.std.specs.Int.Bits.{bit_and}
use Rattle.std.proofs.Common.{refl, ap, ◌∙◌, arith}
use Rattle.std.proofs.lemmas.Nat.Bits.{and_pow}

-- a bit in its place is there just where it is 1
placed-fourth : (bit : ℕ) → bit < 2 → not (bit * 8 == 0) ≡ (bit == 1)
placed-fourth zero small = refl
placed-fourth (suc zero) small = refl
placed-fourth (suc (suc n)) small = absurd (omega arith)

pub bandwidth_flag : (flags : ℕ) → not (bit_and flags 8 == 0) ≡ (flags / 8 % 2 == 1)
bandwidth_flag flags = ap (λ n. not (n == 0)) (and_pow flags 3) ∙ placed-fourth (flags / 8 % 2) (omega arith)
