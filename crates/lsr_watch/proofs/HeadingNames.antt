-- Headings cut at their first space.
use Rattle.std.proofs.Common.{◌≡◌, ◌≢◌, ◌<◌, ℕ, suc, List, [], ◌∷◌, ◌++◌, refl, ap, ◌∙◌, arith, get_or, length, ne_eqb}
use Rattle.std.specs.Prelude.{Some, None}
use Rattle.lsr_explain.specs.Topics.{longer_first, words_of}

word_more : (b : ℕ) (rest : List ℕ) → b ≢ 32 → words_of (b ∷ rest) ≡ longer_first b (words_of rest)
unfolding words_of
word_more b rest h = rw (ne_eqb b 32 h) refl

pub words_cut : (first second : List ℕ) → ((i : ℕ) → i < length first → get_or first i 0 ≢ 32) → words_of (first ++ (32 ∷ second)) ≡ Some (first, second)
unfolding words_of
words_cut [] second h = refl
words_cut (b ∷ first) second h = word_more b (first ++ (32 ∷ second)) (h 0 (omega arith)) ∙ ap (longer_first b) (words_cut first second (λ i l. h (suc i) (omega arith)))

pub no_words : (line : List ℕ) → ((i : ℕ) → i < length line → get_or line i 0 ≢ 32) → words_of line ≡ None
unfolding words_of
no_words [] h = refl
no_words (b ∷ line) h = word_more b line (h 0 (omega arith)) ∙ ap (longer_first b) (no_words line (λ i l. h (suc i) (omega arith)))
