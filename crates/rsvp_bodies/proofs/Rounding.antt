-- Quotients by a power of 2, rounded up.
use Rattle.std.proofs.Common.{◌≡◌, ℕ, zero, ◌-◌, ◌*◌, ◌^◌, ◌<◌, ◌≤◌, arith}
use Rattle.std.proofs.Math.Nat.{div-eq_of_lt, mod-eq_of_lt, pow-le-pow_right}
use Rattle.std.proofs.lemmas.Nat.{mul-le}
use Rattle.std.specs.Int.{div_ceil}

-- a part of 1 is rounded up to 1
pub part_of_one : (a k : ℕ) → 0 < a → a < 2 ^ 24 → 24 ≤ k → div_ceil a (2 ^ k) ≡ 1
part_of_one a k some fits far =
    let two : zero < 2 = omega arith in
    let large : 2 ^ 24 ≤ 2 ^ k = pow-le-pow_right two far in
    let below : a < 2 ^ k = omega arith in
    rw (div-eq_of_lt below, mod-eq_of_lt below) (omega arith)

-- the greatest of the numbers of 24 bits, shifted by at most 26
pub shifted_le : (a k : ℕ) → a < 2 ^ 24 → k ≤ 26 → a * 2 ^ k ≤ 1125899839733760
shifted_le a k fits near =
    let two : zero < 2 = omega arith in
    let power : 2 ^ k ≤ 2 ^ 26 = pow-le-pow_right two near in
    let most : a ≤ 2 ^ 24 - 1 = omega arith in
    mul-le a (2 ^ k) (2 ^ 24 - 1) (2 ^ 26) most power
