-- A written stack is read again as the same stack, whatever stands behind it.
use Rattle.std.proofs.Common.{◌≡◌, ◌≤◌, ◌<◌, ◌==◌, ◌+◌, ◌*◌, ◌/◌, ◌%◌, ◌^◌, ◌++◌, ℕ, suc, true, false, if◌then◌else◌, List, [], ◌∷◌, length, refl, sym, ap, ◌∙◌, arith}
use Rattle.std.specs.List.{All}
use Rattle.std.proofs.lemmas.Bool.{eq-eqb}
use Rattle.std.proofs.lemmas.List.Elements.{All-head, All-tail}
use Rattle.byteorder.specs.Numbers.{big_number-reads_back}
use Rattle.label_stacks.specs.declared.entry.StackEntry.{StackEntry}
use Rattle.label_stacks.specs.Entries.{bottom_of, entry_of, word_of, IsEntry}
use Rattle.label_stacks.specs.Stacks.{bottom_above, has_one_bottom, stack_of, stack_bytes, words_at, IsReadAgain}

-- the words of a stack
abbrev words_of : List StackEntry → List ℕ
words_of [] = []
words_of (entry ∷ below) = word_of entry (bottom_above (length below)) ∷ words_of below

-- a bottom bit is a bit
bottom-le : (n : ℕ) → bottom_above n ≤ 1
bottom-le n = elim (n == 0) as (λ t. (if t then 1 else 0) ≤ 1) [ true ↦ omega arith | false ↦ omega arith ]

-- an entry is a word
word-lt : (entry : StackEntry) (bottom : ℕ) → IsEntry entry → bottom ≤ 1 → word_of entry bottom < 2 ^ 32
word-lt entry bottom h bit = omega (arith, h.label, h.class, h.ttl, bit)

-- that says it
label-again : (label class bottom ttl : ℕ) → class < 8 → bottom ≤ 1 → ttl < 256 → (label * 4096 + class * 512 + bottom * 256 + ttl) / 4096 ≡ label
label-again label class bottom ttl c b t = omega arith

class-again : (label class bottom ttl : ℕ) → class < 8 → bottom ≤ 1 → ttl < 256 → (label * 4096 + class * 512 + bottom * 256 + ttl) / 512 % 8 ≡ class
class-again label class bottom ttl c b t = omega arith

bottom-again : (label class bottom ttl : ℕ) → class < 8 → bottom ≤ 1 → ttl < 256 → (label * 4096 + class * 512 + bottom * 256 + ttl) / 256 % 2 ≡ bottom
bottom-again label class bottom ttl c b t = omega arith

ttl-again : (label class bottom ttl : ℕ) → class < 8 → bottom ≤ 1 → ttl < 256 → (label * 4096 + class * 512 + bottom * 256 + ttl) % 256 ≡ ttl
ttl-again label class bottom ttl c b t = omega arith

-- a function of three numbers at equal numbers
three_words : {X : Type 0} (f : ℕ → ℕ → ℕ → X) {a a' b b' c c' : ℕ} → a ≡ a' → b ≡ b' → c ≡ c' → f a b c ≡ f a' b' c'
three_words f p q r = cc

entry_again : (entry : StackEntry) (bottom : ℕ) → IsEntry entry → bottom ≤ 1 → entry_of (word_of entry bottom) ≡ entry
entry_again entry bottom h bit =
    three_words (λ l c t. record { label = l; class = c; ttl = t })
    (label-again entry.label entry.class bottom entry.ttl h.class bit h.ttl)
    (class-again entry.label entry.class bottom entry.ttl h.class bit h.ttl)
    (ttl-again entry.label entry.class bottom entry.ttl h.class bit h.ttl)

-- so many words are
length-words_of : (stack : List StackEntry) → length (words_of stack) ≡ length stack
length-words_of [] = refl
length-words_of (entry ∷ below) = ap suc (length-words_of below)

-- four bytes an entry are written
length-stack_bytes : (stack : List StackEntry) → length (stack_bytes stack) ≡ 4 * length stack
length-stack_bytes [] = refl
length-stack_bytes (entry ∷ below) = omega (arith, length-stack_bytes below)

-- the words are read as they were written
words_again : (stack : List StackEntry) (rest : List ℕ) → All IsEntry stack → words_at (length stack) (stack_bytes stack ++ rest) ≡ words_of stack
words_again [] rest all = refl
words_again (entry ∷ below) rest all =
    let bottom = bottom_above (length below) in
    let first = big_number-reads_back 4 (word_of entry bottom) (stack_bytes below ++ rest) (word-lt entry bottom (All-head IsEntry entry below all) (bottom-le (length below))) in
    let others = words_again below rest (All-tail IsEntry entry below all) in
    cong_cons first others
  where
    cong_cons : {a b : ℕ} {xs ys : List ℕ} → a ≡ b → xs ≡ ys → a ∷ xs ≡ b ∷ ys
    cong_cons p q = cc

-- they have one bottom
one_bottom : (stack : List StackEntry) → All IsEntry stack → has_one_bottom (words_of stack) ≡ true
one_bottom [] all = refl
one_bottom (entry ∷ below) all =
    let bottom = bottom_above (length below) in
    let h = All-head IsEntry entry below all in
    let first : (bottom_of (word_of entry bottom) == bottom_above (length (words_of below))) ≡ true =
    eq-eqb _ _ (bottom-again entry.label entry.class bottom entry.ttl h.class (bottom-le (length below)) h.ttl ∙ ap bottom_above (sym (length-words_of below))) in
    rw (first, one_bottom below (All-tail IsEntry entry below all)) refl

-- and say the stack
entries_again : (stack : List StackEntry) → All IsEntry stack → stack_of (words_of stack) ≡ stack
entries_again [] all = refl
entries_again (entry ∷ below) all =
    let first = entry_again entry (bottom_above (length below)) (All-head IsEntry entry below all) (bottom-le (length below)) in
    cons_again first (entries_again below (All-tail IsEntry entry below all))
  where
    cons_again : {a b : StackEntry} {xs ys : List StackEntry} → a ≡ b → xs ≡ ys → a ∷ xs ≡ b ∷ ys
    cons_again p q = cc

-- so a written stack is read again
pub read_again : (stack : List StackEntry) → All IsEntry stack → IsReadAgain stack
read_again stack all = record {
  size = length-stack_bytes stack;
  bottom = λ rest. ap has_one_bottom (words_again stack rest all) ∙ one_bottom stack all;
  same = λ rest. ap stack_of (words_again stack rest all) ∙ entries_again stack all;
}
