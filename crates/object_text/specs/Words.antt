-- Words that the lines of objects are made of.
use Rattle.std.specs.Prelude.{ℕ, List, [], ◌∷◌, ◌++◌, codes}
use Rattle.std.specs.Net.Addr.{ipv4_octets}
use Rattle.std.specs.Net.Text.{ipv4_text}
use Rattle.std.specs.declared.net.Ipv4Addr.{Ipv4Addr}
use Rattle.byteorder.specs.Endian.{big_bytes}
use Rattle.hex.specs.Hex.{encode_lower}

-- a word after a space; nothing for no word
abbrev pub next_word : List ℕ → List ℕ
next_word [] = []
next_word (byte ∷ word) = codes " " ++ (byte ∷ word)

-- bytes in hexadecimal digits after a space; nothing for no bytes
abbrev pub digits_word : List ℕ → List ℕ
digits_word [] = []
digits_word (byte ∷ bytes) = codes " " ++ encode_lower (byte ∷ bytes)

-- a byte in two hexadecimal digits
abbrev pub byte_text : ℕ → List ℕ
byte_text byte = encode_lower (byte ∷ [])

-- a number of 32 bits in eight hexadecimal digits
abbrev pub word_text : ℕ → List ℕ
word_text word = encode_lower (big_bytes 4 word)

abbrev pub address_text : Ipv4Addr → List ℕ
address_text address = ipv4_text (ipv4_octets address)
