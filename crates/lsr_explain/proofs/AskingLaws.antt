-- The words of a text, by its first, and those that were looked at.
use Rattle.std.proofs.Common.{◌≡◌, ◌≢◌, ◌<◌, ℕ, suc, List, [], ◌∷◌, ◌++◌, refl, sym, ap, ◌∙◌, arith, get_or, length, ne_eqb}
use Rattle.std.specs.Prelude.{Option, Some, None}
use Rattle.std.specs.List.{onto_first}
use Rattle.std.specs.Str.{IsUtf8}
use Rattle.lsr_explain.specs.Asking.{asked_as, asked_or, sought_in, told_after, words_in}
use Rattle.lsr_explain.specs.declared.asking.Told.{Told}

pub no_word : words_in [] ≡ []
unfolding words_in
no_word = refl

-- a byte that is no space goes onto the first word
word_longer : (b : ℕ) (rest : List ℕ) → b ≢ 32 → words_in (b ∷ rest) ≡ onto_first b (words_in rest)
unfolding words_in
word_longer b rest h = rw (ne_eqb b 32 h) refl

pub word_cut : (word rest : List ℕ) → ((i : ℕ) → i < length word → get_or word i 0 ≢ 32) → words_in (word ++ (32 ∷ rest)) ≡ word ∷ words_in rest
unfolding words_in
word_cut [] rest h = refl
word_cut (b ∷ word) rest h = word_longer b (word ++ (32 ∷ rest)) (h 0 (omega arith)) ∙ ap (onto_first b) (word_cut word rest (λ i l. h (suc i) (omega arith)))

pub word_last : (text : List ℕ) → 0 < length text → ((i : ℕ) → i < length text → get_or text i 0 ≢ 32) → words_in text ≡ text ∷ words_in []
unfolding words_in
word_last [] low h = absurd (omega (arith, low))
word_last (b ∷ []) low h = word_longer b [] (h 0 (omega arith))
word_last (b ∷ c ∷ word) low h = word_longer b (c ∷ word) (h 0 (omega arith)) ∙ ap (onto_first b) (word_last (c ∷ word) (omega arith) (λ i l. h (suc i) (omega arith)))

-- what is told is still among the words that are left
pub record IsStillTold (other text rest : List ℕ) : Type 0 where
  pub same : sought_in other (words_in text) ≡ sought_in other (words_in rest)
  pub utf8 : IsUtf8 rest

pub told_here : (other word : List ℕ) (more : List (List ℕ)) (how : Told) → told_after word ≡ Some how → sought_in other (word ∷ more) ≡ asked_as how more
unfolding sought_in
told_here other word more how h = ap (λ (o : Option Told). asked_or o more (sought_in other more)) h

pub told_later : (other word : List ℕ) (more : List (List ℕ)) → told_after word ≡ None → sought_in other (word ∷ more) ≡ sought_in other more
unfolding sought_in
told_later other word more h = ap (λ (o : Option Told). asked_or o more (sought_in other more)) h

pub told_nowhere : (other : List ℕ) → sought_in other [] ≡ other
unfolding sought_in
told_nowhere other = refl
