-- Stacks as they are read, word by word.
use Rattle.std.proofs.Common.{◌≡◌, ◌≢◌, ◌<◌, ◌-◌, ◌==◌, ◌&&◌, ◌++◌, ℕ, zero, suc, true, false, List, [], ◌∷◌, length, drop, refl, sym, ◌∙◌, append_assoc, arith}
use Rattle.std.proofs.lemmas.Bool.{eq-eqb, ne_eqb}
use Rattle.byteorder.specs.Endian.{big_number}
use Rattle.label_stacks.specs.declared.entry.StackEntry.{StackEntry}
use Rattle.label_stacks.specs.Entries.{bottom_of, entry_of}
use Rattle.label_stacks.specs.Stacks.{bottom_above, has_one_bottom, stack_of, words_at}

-- the first of some words
pub words_step : (n : ℕ) (bytes : List ℕ) → 0 < n → words_at n bytes ≡ big_number 4 bytes ∷ words_at (n - 1) (drop 4 bytes)
words_step zero bytes some = absurd (omega (arith, some))
words_step (suc n) bytes some = let e : suc n - 1 ≡ n = omega arith in rw e refl

-- so many words
pub length-words_at : (n : ℕ) (bytes : List ℕ) → length (words_at n bytes) ≡ n
length-words_at zero bytes = refl
length-words_at (suc n) bytes = let e = length-words_at n (drop 4 bytes) in omega (arith, e)

-- words are right where the first is, and those behind it are
pub tested : (n : ℕ) (bytes : List ℕ) → 0 < n → has_one_bottom (words_at n bytes) ≡ ((bottom_of (big_number 4 bytes) == bottom_above (n - 1)) && has_one_bottom (words_at (n - 1) (drop 4 bytes)))
tested n bytes some = rw (words_step n bytes some, length-words_at (n - 1) (drop 4 bytes)) refl

-- they are wrong where the first is
pub wrong_first : (n first wanted : ℕ) (bytes : List ℕ) → 0 < n → first ≡ bottom_of (big_number 4 bytes) → wanted ≡ bottom_above (n - 1) → first ≢ wanted → false ≡ has_one_bottom (words_at n bytes)
wrong_first n first wanted bytes some is_first is_wanted wrong =
    let t = tested n bytes some in
    let unlike : (bottom_of (big_number 4 bytes) == bottom_above (n - 1)) ≡ false = ne_eqb _ _ (λ e. wrong (is_first ∙ (e ∙ sym is_wanted))) in
    rw (t, unlike) refl

-- and where it is right, as those behind it
pub right_first : (n first wanted : ℕ) (bytes : List ℕ) → 0 < n → first ≡ bottom_of (big_number 4 bytes) → wanted ≡ bottom_above (n - 1) → first ≡ wanted → has_one_bottom (words_at (n - 1) (drop 4 bytes)) ≡ has_one_bottom (words_at n bytes)
right_first n first wanted bytes some is_first is_wanted right =
    let t = tested n bytes some in
    let alike : (bottom_of (big_number 4 bytes) == bottom_above (n - 1)) ≡ true = eq-eqb _ _ (sym is_first ∙ (right ∙ is_wanted)) in
    rw (t, alike) refl

-- one more entry is read
pub one_more : (n : ℕ) (bytes rest : List ℕ) (before : List StackEntry) (entry : StackEntry) → 0 < n → entry ≡ entry_of (big_number 4 bytes) → rest ≡ drop 4 bytes → (before ++ entry ∷ []) ++ stack_of (words_at (n - 1) rest) ≡ before ++ stack_of (words_at n bytes)
one_more n bytes rest before entry some is_entry is_rest = rw (words_step n bytes some, is_entry, is_rest, append_assoc before (entry_of (big_number 4 bytes) ∷ []) (stack_of (words_at (n - 1) (drop 4 bytes)))) refl
