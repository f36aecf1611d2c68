-- Numbers in either byte order.
use Rattle.std.specs.Prelude.{ℕ, List, drop}
use Rattle.byteorder.specs.Endian.{big_number, little_number}
use Rattle.capture_files.specs.declared.endian.Endian.{Endian}
use Rattle.capture_files.specs.declared.endian.Endian.TheVariants.{Big, Little}

-- the number in the first n bytes
abbrev pub number_in : Endian → ℕ → List ℕ → ℕ
number_in Big n bytes = big_number n bytes
number_in Little n bytes = little_number n bytes

-- the number in n bytes from this place on
abbrev pub field : Endian → ℕ → ℕ → List ℕ → ℕ
field endian place n bytes = number_in endian n (drop place bytes)
