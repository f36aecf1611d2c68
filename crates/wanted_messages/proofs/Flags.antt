-- Flags, as the code asks for them and as a definition does.
use Rattle.std.specs.Prelude.{◌≡◌, ◌<◌, ◌*◌, ◌/◌, ◌%◌, ◌==◌, ℕ, zero, suc, not}
use Rattle.std.specs.Int.Bits.{bit_and}
use Rattle.std.proofs.Common.{refl, ap, ◌∙◌, arith}
use Rattle.std.proofs.lemmas.Nat.Bits.{and_pow}

-- a bit in its place is there just where it is 1
placed : (bit : ℕ) → bit < 2 → not (bit * 2 == 0) ≡ (bit == 1)
placed zero small = refl
placed (suc zero) small = refl
placed (suc (suc n)) small = absurd (omega arith)

placed-twice : (bit : ℕ) → bit < 2 → not (bit * 4 == 0) ≡ (bit == 1)
placed-twice zero small = refl
placed-twice (suc zero) small = refl
placed-twice (suc (suc n)) small = absurd (omega arith)

pub recording_flag : (flags : ℕ) → not (bit_and flags 2 == 0) ≡ (flags / 2 % 2 == 1)
recording_flag flags = ap (λ n. not (n == 0)) (and_pow flags 1) ∙ placed (flags / 2 % 2) (omega arith)

pub sharing_flag : (flags : ℕ) → not (bit_and flags 4 == 0) ≡ (flags / 4 % 2 == 1)
sharing_flag flags = ap (λ n. not (n == 0)) (and_pow flags 2) ∙ placed-twice (flags / 4 % 2) (omega arith)
