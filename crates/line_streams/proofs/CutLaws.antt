-- What the lines of a text are, by its first.
use Rattle.std.proofs.Common.{◌≡◌, ◌≢◌, ◌<◌, ℕ, suc, List, [], ◌∷◌, ◌++◌, refl, ap, ◌∙◌, arith, get_or, length, ne_eqb}
use Rattle.std.specs.List.{onto_first}
use Rattle.line_streams.specs.Cuts.{lines_of}

pub lines_of-nil : lines_of [] ≡ []
unfolding lines_of
lines_of-nil = refl

-- a byte that is no newline goes onto the first line
line_more : (b : ℕ) (rest : List ℕ) → b ≢ 10 → lines_of (b ∷ rest) ≡ onto_first b (lines_of rest)
unfolding lines_of
line_more b rest h = rw (ne_eqb b 10 h) refl

pub lines_cut : (line rest : List ℕ) → ((i : ℕ) → i < length line → get_or line i 0 ≢ 10) → lines_of (line ++ (10 ∷ rest)) ≡ line ∷ lines_of rest
unfolding lines_of
lines_cut [] rest h = refl
lines_cut (b ∷ line) rest h = line_more b (line ++ (10 ∷ rest)) (h 0 (omega arith)) ∙ ap (onto_first b) (lines_cut line rest (λ i l. h (suc i) (omega arith)))

pub lines_last : (text : List ℕ) → 0 < length text → ((i : ℕ) → i < length text → get_or text i 0 ≢ 10) → lines_of text ≡ text ∷ lines_of []
unfolding lines_of
lines_last [] low h = absurd (omega (arith, low))
lines_last (b ∷ []) low h = line_more b [] (h 0 (omega arith))
lines_last (b ∷ c ∷ line) low h = line_more b (c ∷ line) (h 0 (omega arith)) ∙ ap (onto_first b) (lines_last (c ∷ line) (omega arith) (λ i l. h (suc i) (omega arith)))
