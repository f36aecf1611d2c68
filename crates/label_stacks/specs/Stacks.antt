-- Label stacks, the top first (RFC 3032, 2.1).
use Rattle.std.specs.Prelude.{◌≡◌, ◌*◌, ◌≤◌, ◌==◌, ◌&&◌, ℕ, zero, suc, Bool, true, if◌then◌else◌, List, [], ◌∷◌, ◌++◌, All, length, drop, map}
use Rattle.byteorder.specs.Endian.{big_number, big_bytes}
use Rattle.label_stacks.specs.declared.entry.StackEntry.{StackEntry}
use Rattle.label_stacks.specs.Entries.{bottom_of, entry_of, word_of, IsEntry}

-- at most eight entries, whose numbers fit
pub record IsStack (stack : List StackEntry) : Type 0 where
  pub few : length stack ≤ 8
  pub entries : All IsEntry stack

-- the bottom bit of an entry with so many below it
abbrev pub bottom_above : ℕ → ℕ
bottom_above below = if below == 0 then 1 else 0

-- the first n words of 32 bits
abbrev pub words_at : ℕ → List ℕ → List ℕ
words_at zero bytes = []
words_at (suc n) bytes = big_number 4 bytes ∷ words_at n (drop 4 bytes)

-- the bottom bit is 1 in the last word alone
abbrev pub has_one_bottom : List ℕ → Bool
has_one_bottom [] = true
has_one_bottom (word ∷ below) = (bottom_of word == bottom_above (length below)) && has_one_bottom below

-- the stack that words say
abbrev pub stack_of : List ℕ → List StackEntry
stack_of words = map entry_of words

-- what a stack is written as
abbrev pub stack_bytes : List StackEntry → List ℕ
stack_bytes [] = []
stack_bytes (entry ∷ below) = big_bytes 4 (word_of entry (bottom_above (length below))) ++ stack_bytes below

-- A written stack is read as the same stack, whatever stands behind it: so many entries of four bytes, the last of
-- which alone has the bottom bit.
pub record IsReadAgain (stack : List StackEntry) : Type 0 where
  pub size : length (stack_bytes stack) ≡ 4 * length stack
  pub bottom : (rest : List ℕ) → has_one_bottom (words_at (length stack) (stack_bytes stack ++ rest)) ≡ true
  pub same : (rest : List ℕ) → stack_of (words_at (length stack) (stack_bytes stack ++ rest)) ≡ stack
