-- How a walk over options goes on.
use Rattle.std.proofs.Common.{◌≡◌, ◌≢◌, ◌<◌, ◌-◌, ℕ, zero, suc, List, Some, refl, sym, arith}
use Rattle.std.proofs.lemmas.Bool.{ne_eqb}
use Rattle.capture_files.specs.declared.endian.Endian.{Endian}
use Rattle.capture_files.specs.Options.{OptionParts, first_option, option_among}

-- an option of another code is passed over
pub passed_over : (n : ℕ) (endian : Endian) (code : ℕ) (bytes : List ℕ) (o : OptionParts) → 0 < n → Some o ≡ first_option endian bytes → o.code ≢ code → option_among (n - 1) endian code o.rest ≡ option_among n endian code bytes
passed_over zero endian code bytes o some first other = absurd (omega (arith, some))
passed_over (suc n) endian code bytes o some first other =
    let before : suc n - 1 ≡ n = omega arith in
    rw (before, sym first, ne_eqb _ _ other) refl
