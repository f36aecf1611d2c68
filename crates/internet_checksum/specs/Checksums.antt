-- The checksum of an RSVP message (RFC 2205, 3.1.1).
use Rattle.std.specs.Prelude.{ℕ, ◌==◌, ◌||◌, Bool, if◌then◌else◌, List, ◌++◌, take, drop}
use Rattle.byteorder.specs.Endian.{big_number, big_bytes}
use Rattle.internet_checksum.specs.OnesSums.{words_of, ones_sum, ones_complement}

-- the checksum field, bytes 2 and 3 of the message
abbrev pub checksum_field : List ℕ → ℕ
checksum_field bytes = big_number 2 (drop 2 bytes)

-- the message with this number in the field
abbrev pub with_checksum : ℕ → List ℕ → List ℕ
with_checksum n bytes = take 2 bytes ++ (big_bytes 2 n ++ drop 4 bytes)

-- the one's complement of the one's complement sum of the message, with the field replaced by zero
abbrev pub complement_of_sum : List ℕ → ℕ
complement_of_sum bytes = ones_complement (ones_sum (words_of (with_checksum 0 bytes)))

-- A field of zero means that no checksum was sent. So a zero that was computed is written as ffff, which
-- is the other zero of one's complement.
abbrev pub without_zero : ℕ → ℕ
without_zero n = if n == 0 then 65535 else n

unfoldable pub checksum_of : List ℕ → ℕ
checksum_of bytes = without_zero (complement_of_sum bytes)

-- no checksum was sent, or the right one
unfoldable pub has_good_checksum : List ℕ → Bool
has_good_checksum bytes = checksum_field bytes == 0 || checksum_field bytes == checksum_of bytes
