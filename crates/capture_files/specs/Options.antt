-- The options at the end of a block (draft-ietf-opsawg-pcapng, 3.5): each a code 2, the length of its value 2, and the value,
-- filled up to whole words of four bytes. Code 0 ends them, and so does what doesn't fit.
use Rattle.std.specs.Prelude.{ℕ, zero, suc, ◌+◌, ◌*◌, ◌/◌, ◌==◌, nat_lt, if◌then◌else◌, List, length, take, drop, Option, Some, None}
use Rattle.std.specs.Option.{option_map_or}
use Rattle.capture_files.specs.declared.endian.Endian.{Endian}
use Rattle.capture_files.specs.Numbers.{field}

-- an option's code and value, and what follows it
pub record OptionParts : Type 0 where
  pub code : ℕ
  pub value : List ℕ
  pub rest : List ℕ

abbrev pub value_len : Endian → List ℕ → ℕ
value_len endian bytes = field endian 2 2 bytes

-- its length with what fills up its value
abbrev pub option_len : Endian → List ℕ → ℕ
option_len endian bytes = 4 + (value_len endian bytes + 3) / 4 * 4

abbrev pub parts_in : Endian → List ℕ → OptionParts
parts_in endian bytes =
    record {
      code = field endian 0 2 bytes;
      value = take (value_len endian bytes) (drop 4 bytes);
      rest = drop (option_len endian bytes) bytes;
    }

-- the first option, if there is one
unfoldable pub first_option : Endian → List ℕ → Option OptionParts
first_option endian bytes =
    if nat_lt (length bytes) 4 then None
    else if nat_lt (length bytes) (option_len endian bytes) then None
    else if field endian 0 2 bytes == 0 then None
    else Some (parts_in endian bytes)

-- the value of the first option of this code among the first n
abbrev pub option_among : ℕ → Endian → ℕ → List ℕ → Option (List ℕ)
option_among zero endian code bytes = None
option_among (suc n) endian code bytes =
    option_map_or (λ o. if o.code == code then Some o.value else option_among n endian code o.rest) (first_option endian bytes) None

-- the value of the first option of this code: at most a quarter as many options as bytes fit in them
abbrev pub option_in : Endian → ℕ → List ℕ → Option (List ℕ)
option_in endian code bytes = option_among (length bytes / 4) endian code bytes
