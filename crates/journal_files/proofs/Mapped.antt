-- Lists whose items are written by what is made of them.
use Rattle.std.proofs.Common.{◌≡◌, ◌<◌, ◌^◌, ◌+◌, ◌++◌, ◌∷◌, [], ℕ, zero, suc, List, map, length, take, get_or, Result, Ok, Err, OnOk, refl, sym, ap, subst, ◌∙◌, append_assoc, append-nil, add-one, arith}
use Rattle.std.specs.Int.{to_be_bytes, w32}
use Rattle.std.specs.List.{AllByRecursion, flat_map}
use Rattle.field_bytes.specs.Spelling.{ListFits, list_bytes}

-- ---- one item after another

step : {A B : Type 0} (f : A → B) (spelling : B → List ℕ) (xs : List A) (i : ℕ) (x : A) → i < length xs → x ≡ get_or xs i x →
    flat_map spelling (map f (take (suc i) xs)) ≡ flat_map spelling (map f (take i xs)) ++ spelling (f x)
step f spelling [] i x less e = absurd (omega (arith, less))
step {A} f spelling (y ∷ ys) zero x less e = append-nil (spelling (f y)) ∙ ap (λ (v : A). spelling (f v)) (sym e)
step f spelling (y ∷ ys) (suc i) x less e =
    let more = step f spelling ys i x (omega (arith, less)) e in
    ap (λ (v : List ℕ). spelling (f y) ++ v) more ∙ sym (append_assoc (spelling (f y)) (flat_map spelling (map f (take i ys))) (spelling (f x)))

all_step : {A B : Type 0} (f : A → B) (Fits : B → Type 0) (xs : List A) (i : ℕ) (x : A) → i < length xs → x ≡ get_or xs i x →
    AllByRecursion Fits (map f (take i xs)) → Fits (f x) → AllByRecursion Fits (map f (take (suc i) xs))
all_step f Fits [] i x less e all fits = absurd (omega (arith, less))
all_step {A} f Fits (y ∷ ys) zero x less e all fits = (subst (λ (v : A). Fits (f v)) e fits, tt)
all_step f Fits (y ∷ ys) (suc i) x less e all fits = (all.0, all_step f Fits ys i x (omega (arith, less)) e all.1 fits)

-- one item more is written
pub one_more : {A B : Type 0} (f : A → B) (spelling : B → List ℕ) (xs : List A) (i : ℕ) (x : A) (begun old new : List ℕ) → i < length xs → x ≡ get_or xs i x →
    old ≡ begun ++ flat_map spelling (map f (take i xs)) → new ≡ old ++ spelling (f x) → new ≡ begun ++ flat_map spelling (map f (take (i + 1) xs))
one_more f spelling xs i x begun old new less at so_far next =
    next ∙ (ap (λ (v : List ℕ). v ++ spelling (f x)) so_far ∙ (append_assoc begun (flat_map spelling (map f (take i xs))) (spelling (f x))
    ∙ (λ k. begun ++ (sym (step f spelling xs i x less at) ∙ (λ n. flat_map spelling (map f (take (sym (add-one i) n) xs)))) k)))

-- and has a spelling
pub all_more : {A B : Type 0} (f : A → B) (Fits : B → Type 0) (xs : List A) (i : ℕ) (x : A) → i < length xs → x ≡ get_or xs i x →
    AllByRecursion Fits (map f (take i xs)) → Fits (f x) → AllByRecursion Fits (map f (take (i + 1) xs))
all_more f Fits xs i x less at all fits = subst (λ (n : ℕ). AllByRecursion Fits (map f (take n xs))) (sym (add-one i)) (all_step f Fits xs i x less at all fits)

-- ---- the count

map_length : {A B : Type 0} (f : A → B) (xs : List A) → length (map f xs) ≡ length xs
map_length f [] = refl
map_length f (x ∷ xs) = ap (λ (n : ℕ). suc n) (map_length f xs)

-- their count, and after it each
pub list_written : {A B X E : Type 0} (f : A → B) (spelling : B → List ℕ) (result : Result X E) (old new : List ℕ) (xs : List A) →
    OnOk result (new ≡ (old ++ to_be_bytes w32 (length xs)) ++ flat_map spelling (map f xs)) → OnOk result (new ≡ old ++ list_bytes spelling (map f xs))
list_written f spelling (Ok x) old new xs e =
    e ∙ ((λ i. (old ++ to_be_bytes w32 (sym (map_length f xs) i)) ++ flat_map spelling (map f xs)) ∙ append_assoc old (to_be_bytes w32 (length (map f xs))) (flat_map spelling (map f xs)))
list_written f spelling (Err e) old new xs _ = tt

-- so many can be counted
pub list_fits : {A B X E : Type 0} (f : A → B) (Fits : B → Type 0) (result : Result X E) (xs : List A) → length xs < 2 ^ 32 → OnOk result (AllByRecursion Fits (map f xs)) → OnOk result (ListFits Fits (map f xs))
list_fits f Fits (Ok x) xs few all = (subst (λ (n : ℕ). n < 2 ^ 32) (sym (map_length f xs)) few, all)
list_fits f Fits (Err e) xs few _ = tt
