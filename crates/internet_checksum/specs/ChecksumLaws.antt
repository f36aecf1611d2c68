-- Laws of the checksum, which the functions of `src/laws.rt` have as their contracts.
use Rattle.std.specs.Prelude.{◌≡◌, ◌≢◌, ◌<◌, ◌≤◌, ◌-◌, ◌%◌, ◌^◌, ◌↔◌, ℕ, List, length, slice_index, slice_set, sum, All, IsTrue}
use Rattle.std.specs.Bool.{IsFalse}
use Rattle.internet_checksum.specs.OnesSums.{words_of, ones_sum}
use Rattle.internet_checksum.specs.Checksums.{checksum_field, with_checksum, checksum_of, has_good_checksum}

-- A carry that is added back leaves the sum as it is modulo ffff. So the checksum is what the plain sum of
-- the words, with the field as zero, lacks to a multiple of ffff.
abbrev pub ChecksumsAreModular : Type 0
ChecksumsAreModular =
    (bytes : List ℕ) → All (λ b. b < 256) bytes →
    checksum_of bytes ≡ 65535 - sum (words_of (with_checksum 0 bytes)) % 65535

-- it is a word, and not the zero that says that none was sent
abbrev pub ChecksumsCanBeSent : Type 0
ChecksumsCanBeSent = (bytes : List ℕ) → (0 < checksum_of bytes) × (checksum_of bytes < 2 ^ 16)

-- the checksum does not read its field
abbrev pub ChecksumsIgnoreTheirField : Type 0
ChecksumsIgnoreTheirField =
    (bytes : List ℕ) (n : ℕ) → 4 ≤ length bytes → checksum_of (with_checksum n bytes) ≡ checksum_of bytes

-- a message into which its checksum is written is good
abbrev pub WrittenChecksumsAreGood : Type 0
WrittenChecksumsAreGood =
    (bytes : List ℕ) → 4 ≤ length bytes → IsTrue (has_good_checksum (with_checksum (checksum_of bytes) bytes))

-- A checksum that was sent is good exactly where the one's complement sum of the whole message, with the
-- field as it came, is all ones (RFC 1071, 1).
abbrev pub GoodMessagesSumToOnes : Type 0
GoodMessagesSumToOnes =
    (bytes : List ℕ) → 4 ≤ length bytes → All (λ b. b < 256) bytes → checksum_field bytes ≢ 0 →
    IsTrue (has_good_checksum bytes) ↔ (ones_sum (words_of bytes) ≡ 65535)

-- `new` has another byte than `old` at one place, outside of the field
pub record ChangesOneByte (old new : List ℕ) : Type 0 where
  pub place : ℕ
  pub byte : ℕ
  pub within : place < length old
  pub outside : (place ≢ 2) × (place ≢ 3)
  pub fits : byte < 256
  pub differs : byte ≢ slice_index old place
  pub changed : new ≡ slice_set old place byte

-- a changed byte changes the checksum
abbrev pub ChangesAreSeen : Type 0
ChangesAreSeen =
    (old new : List ℕ) → All (λ b. b < 256) old → ChangesOneByte old new → checksum_of new ≢ checksum_of old

-- a message with a good checksum that was sent is no longer good with a byte changed
abbrev pub ChangesAreRefused : Type 0
ChangesAreRefused =
    (old new : List ℕ) → All (λ b. b < 256) old → checksum_field old ≢ 0 → IsTrue (has_good_checksum old) →
    ChangesOneByte old new → IsFalse (has_good_checksum new)
