-- Lists of four bytes by their cells: an address in an array of bytes.
use Rattle.std.proofs.Common.{◌≡◌, ℕ, List, [], ◌∷◌, ◌++◌, length, get_or, refl, arith, ap, ◌∙◌, append-nil}

-- the cells of four bytes are the four bytes
pub cells_4 : (xs rest : List ℕ) → length xs ≡ 4 → get_or xs 0 0 ∷ get_or xs 1 0 ∷ get_or xs 2 0 ∷ get_or xs 3 0 ∷ rest ≡ xs ++ rest
cells_4 [] rest h = absurd (omega arith)
cells_4 (a ∷ []) rest h = absurd (omega arith)
cells_4 (a ∷ b ∷ []) rest h = absurd (omega arith)
cells_4 (a ∷ b ∷ c ∷ []) rest h = absurd (omega arith)
cells_4 (a ∷ b ∷ c ∷ d ∷ []) rest h = refl
cells_4 (a ∷ b ∷ c ∷ d ∷ e ∷ more) rest h = absurd (omega arith)

-- the cells of two bytes are the two bytes
pub cells_2 : (xs rest : List ℕ) → length xs ≡ 2 → get_or xs 0 0 ∷ get_or xs 1 0 ∷ rest ≡ xs ++ rest
cells_2 [] rest h = absurd (omega arith)
cells_2 (a ∷ []) rest h = absurd (omega arith)
cells_2 (a ∷ b ∷ []) rest h = refl
cells_2 (a ∷ b ∷ c ∷ more) rest h = absurd (omega arith)

-- the cells of a session's body are its two addresses with the tunnel between them
pub cells_session : (xs ts ys : List ℕ) → length xs ≡ 4 → length ts ≡ 2 → length ys ≡ 4 →
    get_or xs 0 0 ∷ get_or xs 1 0 ∷ get_or xs 2 0 ∷ get_or xs 3 0 ∷ 0 ∷ 0 ∷ get_or ts 0 0 ∷ get_or ts 1 0
    ∷ get_or ys 0 0 ∷ get_or ys 1 0 ∷ get_or ys 2 0 ∷ get_or ys 3 0 ∷ [] ≡ xs ++ (0 ∷ 0 ∷ (ts ++ ys))
cells_session xs ts ys h i j =
    let last : get_or ys 0 0 ∷ get_or ys 1 0 ∷ get_or ys 2 0 ∷ get_or ys 3 0 ∷ [] ≡ ys = cells_4 ys [] j ∙ append-nil ys in
    cells_4 xs _ h ∙ ap (λ (rest : List ℕ). xs ++ (0 ∷ 0 ∷ rest)) (cells_2 ts _ i ∙ ap (λ (rest : List ℕ). ts ++ rest) last)
