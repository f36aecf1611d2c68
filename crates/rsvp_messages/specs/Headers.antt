-- The common header while a message is written: its length and its checksum come last.
use Rattle.std.specs.Prelude.{ℕ, ◌+◌, List, [], ◌∷◌, ◌++◌, length, take, drop}
use Rattle.byteorder.specs.Endian.{big_bytes}
use Rattle.internet_checksum.specs.Checksums.{with_checksum, checksum_of}

-- the header of a message of this type, without length and checksum
abbrev pub bare_header : ℕ → List ℕ
bare_header type = 16 ∷ type ∷ 0 ∷ 0 ∷ 255 ∷ 0 ∷ 0 ∷ 0 ∷ []

-- the bytes with a number of 16 bits in place of the two from here on
abbrev pub with_word : ℕ → ℕ → List ℕ → List ℕ
with_word at word bytes = take at bytes ++ (big_bytes 2 word ++ drop (at + 2) bytes)

-- the message with its length in bytes 6 and 7, and then its checksum in bytes 2 and 3
abbrev pub sealed : List ℕ → List ℕ
sealed bytes = let counted = with_word 6 (length bytes) bytes in with_checksum (checksum_of counted) counted
