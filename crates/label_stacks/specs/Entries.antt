-- A label stack entry in a word of 32 bits: label 20, traffic class 3, bottom of stack 1, TTL 8 (RFC 3032, 2.1).
use Rattle.std.specs.Prelude.{ℕ, ◌+◌, ◌*◌, ◌/◌, ◌%◌, ◌^◌, ◌<◌}
use Rattle.label_stacks.specs.declared.entry.StackEntry.{StackEntry}

-- what a word says, whatever its bottom bit
abbrev pub entry_of : ℕ → StackEntry
entry_of word = record { label = word / 2 ^ 12; class = word / 2 ^ 9 % 8; ttl = word % 256 }

-- its bottom bit
abbrev pub bottom_of : ℕ → ℕ
bottom_of word = word / 2 ^ 8 % 2

-- the word that says an entry, with this bottom bit
abbrev pub word_of : StackEntry → ℕ → ℕ
word_of entry bottom = entry.label * 2 ^ 12 + entry.class * 2 ^ 9 + bottom * 2 ^ 8 + entry.ttl

-- each number fits its field
pub record IsEntry (entry : StackEntry) : Type 0 where
  pub label : entry.label < 2 ^ 20
  pub class : entry.class < 8
  pub ttl : entry.ttl < 256
