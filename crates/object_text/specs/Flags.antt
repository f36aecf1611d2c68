-- Flags by their names: the byte, and after it the names of those that are set. A bit without a name stands in the byte alone.
use Rattle.std.specs.Prelude.{ℕ, ◌==◌, List, [], ◌++◌, bit_and, codes, if◌then◌else◌}
use Rattle.object_text.specs.Words.{byte_text}

-- the name of a flag after a space, where its bit is set
unfoldable pub flag_word : ℕ → ℕ → List ℕ → List ℕ
flag_word flags bit name = if bit_and flags bit == 0 then [] else codes " " ++ name

abbrev pub flags_words : ℕ → List ℕ → List ℕ
flags_words flags names = codes " flags " ++ (byte_text flags ++ names)

-- ERROR_SPEC (RFC 2205, A.5)
unfoldable pub error_flags : ℕ → List ℕ
error_flags flags = flags_words flags (flag_word flags 1 (codes "in-place") ++ flag_word flags 2 (codes "not-guilty"))

-- whether an LSP can be repaired here, and is
unfoldable pub repair_flags : ℕ → List ℕ
repair_flags flags = flag_word flags 1 (codes "protection-available") ++ flag_word flags 2 (codes "protection-in-use")

-- which protection, by these bits: of its bandwidth, and against the loss of the next router
unfoldable pub protection_flags : ℕ → ℕ → ℕ → List ℕ
protection_flags flags bandwidth node = flag_word flags bandwidth (codes "bandwidth-protection") ++ flag_word flags node (codes "node-protection")

-- an address in a RECORD_ROUTE (RFC 3209, 4.4.1.1; RFC 4090, 4.4)
abbrev pub address_flags : ℕ → List ℕ
address_flags flags = flags_words flags (repair_flags flags ++ protection_flags flags 4 8)

-- a label in a RECORD_ROUTE (RFC 3209, 4.4.1.3)
abbrev pub label_flags : ℕ → List ℕ
label_flags flags = flags_words flags (flag_word flags 1 (codes "global"))

-- FAST_REROUTE (RFC 4090, 4.1)
abbrev pub reroute_flags : ℕ → List ℕ
reroute_flags flags = flags_words flags (flag_word flags 1 (codes "one-to-one") ++ flag_word flags 2 (codes "facility"))

-- what a sender asks for: local protection, labels in the record, reservations that it may share
unfoldable pub asked_flags : ℕ → List ℕ
asked_flags flags =
    flag_word flags 1 (codes "local-protection") ++ (flag_word flags 2 (codes "label-recording") ++ flag_word flags 4 (codes "se-style"))

-- SESSION_ATTRIBUTE (RFC 3209, 4.7.1; RFC 4090, 4.3)
abbrev pub attribute_flags : ℕ → List ℕ
attribute_flags flags = flags_words flags (asked_flags flags ++ protection_flags flags 8 16)
