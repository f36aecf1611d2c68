-- The shape that the subobjects of an EXPLICIT_ROUTE (RFC 3209, 4.3.3) and of a RECORD_ROUTE (RFC 3209,
-- 4.4.1) share, and which of them are kept as their bytes.
use Rattle.std.specs.Prelude.{◌≡◌, ◌≢◌, ◌≤◌, ◌%◌, ◌++◌, ◌==◌, ◌&&◌, Bool, false, ℕ, List, length, slice_index}

-- A byte of type, a byte that counts all the bytes, and a body: whole words of four bytes.
pub record IsSubobject (bytes : List ℕ) : Type 0 where
  pub at_least : 4 ≤ length bytes
  pub whole_words : length bytes % 4 ≡ 0
  pub counted : slice_index bytes 1 ≡ length bytes

-- The first of the bytes are a subobject.
abbrev pub BeginsWithSubobject : List ℕ → Type 0
BeginsWithSubobject bytes = (first : List ℕ) × (rest : List ℕ) × (bytes ≡ first ++ rest) × IsSubobject first

-- A step of another type than IPv4 (1). The type is the low seven bits of the first byte.
pub record IsOtherStep (bytes : List ℕ) : Type 0 where
  pub subobject : IsSubobject bytes
  pub no_address : slice_index bytes 0 % 128 ≢ 1

-- A label as an entry of a recorded route holds it (RFC 3209, 4.4.1.3): type 3, 8 bytes, C-Type 1.
abbrev pub is_label : List ℕ → Bool
is_label bytes = (slice_index bytes 0 == 3) && ((length bytes == 8) && (slice_index bytes 3 == 1))

-- An entry that is neither of type IPv4 (1) nor such a label. The type is the whole first byte.
pub record IsOtherTrace (bytes : List ℕ) : Type 0 where
  pub subobject : IsSubobject bytes
  pub no_address : slice_index bytes 0 ≢ 1
  pub no_label : is_label bytes ≡ false
