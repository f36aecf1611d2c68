-- Sums of 64 bits, and the words that they come to.
use Rattle.std.specs.Prelude.{ℕ, ◌+◌, ◌-◌, ◌/◌, ◌%◌, ◌^◌, ◌==◌, if◌then◌else◌}

-- the sum of two numbers of 64 bits: the low bits, to which the carry is added
abbrev pub add_wide : ℕ → ℕ → ℕ
add_wide a b = (a + b) % 2 ^ 64 + (a + b) / 2 ^ 64

-- what a sum leaves modulo ffff, as a word that is 0 for 0 alone
abbrev pub narrowed : ℕ → ℕ
narrowed sum = if sum == 0 then 0 else (sum - 1) % 65535 + 1
