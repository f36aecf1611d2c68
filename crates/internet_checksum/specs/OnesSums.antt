-- One's complement arithmetic on words of 16 bits (RFC 1071, 1).
use Rattle.std.specs.Prelude.{ℕ, ◌+◌, ◌-◌, ◌*◌, ◌/◌, ◌%◌, ◌^◌, List, [], ◌∷◌, fold}

-- The words of bytes, the high byte first. A last byte that is left alone stands before a zero.
abbrev pub words_of : List ℕ → List ℕ
words_of [] = []
words_of (last ∷ []) = last * 256 ∷ []
words_of (high ∷ low ∷ rest) = (high * 256 + low) ∷ words_of rest

-- the sum of two words: the low 16 bits, to which the carry is added
abbrev pub ones_add : ℕ → ℕ → ℕ
ones_add a b = (a + b) % 2 ^ 16 + (a + b) / 2 ^ 16

-- the sum of all the words
abbrev pub ones_sum : List ℕ → ℕ
ones_sum words = fold ones_add 0 words

-- the complement of a word: each of its bits is turned
abbrev pub ones_complement : ℕ → ℕ
ones_complement word = 65535 - word
