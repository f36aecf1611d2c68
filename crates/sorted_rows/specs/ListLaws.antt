-- Laws of `AllByRecursion`, `filter`, `filter_map` and `IsDistinct` that the laws of rows stand on.
use Rattle.std.specs.Prelude.{◌≡◌, Bool, true, false, cond, List, [], ◌∷◌, ◌++◌, map, Option, None}
use Rattle.std.specs.List.{AllByRecursion, IsDistinct, filter, filter_map, cons_option}
use Rattle.std.proofs.Common.{refl, ap, ◌∙◌}
use Rattle.std.proofs.lemmas.Map.Keys.{IsDistinct-head, IsDistinct-tail, IsDistinct-cons}

-- what follows from two facts at each element holds of each element
pub all-both : {A : Type 0} (P Q S : A → Type 0) → ((x : A) → P x → Q x → S x) → (xs : List A) → AllByRecursion P xs → AllByRecursion Q xs → AllByRecursion S xs
all-both P Q S step [] p q = tt
all-both P Q S step (x ∷ xs) p q = (step x p.0 q.0, all-both P Q S step xs p.1 q.1)

-- what follows from a fact at each element holds of each element
pub all-weaker : {A : Type 0} (P Q : A → Type 0) → ((x : A) → P x → Q x) → (xs : List A) → AllByRecursion P xs → AllByRecursion Q xs
all-weaker P Q step [] p = tt
all-weaker P Q step (x ∷ xs) p = (step x p.0, all-weaker P Q step xs p.1)

-- what holds of every value holds of each element
pub all-always : {A : Type 0} (P : A → Type 0) → ((x : A) → P x) → (xs : List A) → AllByRecursion P xs
all-always P always [] = tt
all-always P always (x ∷ xs) = (always x, all-always P always xs)

-- what holds of each element of two lists holds of each of both
pub all-append : {A : Type 0} (P : A → Type 0) (xs ys : List A) → AllByRecursion P xs → AllByRecursion P ys → AllByRecursion P (xs ++ ys)
all-append P [] ys p q = q
all-append P (x ∷ xs) ys p q = (p.0, all-append P xs ys p.1 q)

-- a filter keeps a fact of each element
pub all-filter : {A : Type 0} (P : A → Type 0) (p : A → Bool) (xs : List A) → AllByRecursion P xs → AllByRecursion P (filter p xs)
all-filter P p [] h = tt
all-filter P p (x ∷ xs) h =
    elim (p x) as (λ b. AllByRecursion P (cond b (x ∷ filter p xs) (filter p xs))) [ true ↦ (h.0, all-filter P p xs h.1) | false ↦ all-filter P p xs h.1 ]

-- what the test shows holds of each element that a filter keeps
pub all-filter_passes : {A : Type 0} (P : A → Type 0) (p : A → Bool) → ((x : A) → p x ≡ true → P x) → (xs : List A) → AllByRecursion P (filter p xs)
all-filter_passes P p shows [] = tt
all-filter_passes P p shows (x ∷ xs) =
    elim (p x) as (λ b. p x ≡ b → AllByRecursion P (cond b (x ∷ filter p xs) (filter p xs))) [
      | true ↦ λ passes. (shows x passes, all-filter_passes P p shows xs)
      | false ↦ λ fails. all-filter_passes P p shows xs
    ] refl

-- a fact of what f gives of each element is one of each element of `map f`
pub all-map : {A B : Type 0} (P : B → Type 0) (f : A → B) (xs : List A) → AllByRecursion (λ x. P (f x)) xs → AllByRecursion P (map f xs)
all-map P f [] h = tt
all-map P f (x ∷ xs) h = (h.0, all-map P f xs h.1)

-- and the other way round
pub all-from_map : {A B : Type 0} (P : B → Type 0) (f : A → B) (xs : List A) → AllByRecursion P (map f xs) → AllByRecursion (λ x. P (f x)) xs
all-from_map P f [] h = tt
all-from_map P f (x ∷ xs) h = (h.0, all-from_map P f xs h.1)

-- two tests that agree at each element filter alike
pub filter_agree_within : {A : Type 0} (p q : A → Bool) (xs : List A) → AllByRecursion (λ x. p x ≡ q x) xs → filter p xs ≡ filter q xs
filter_agree_within p q [] h = refl
filter_agree_within p q (x ∷ xs) h = λ i. cond (h.0 i) (x ∷ filter_agree_within p q xs h.1 i) (filter_agree_within p q xs h.1 i)

-- a test that each element passes keeps them all
pub filter-all_pass : {A : Type 0} (p : A → Bool) (xs : List A) → AllByRecursion (λ x. p x ≡ true) xs → filter p xs ≡ xs
filter-all_pass p [] h = refl
filter-all_pass p (x ∷ xs) h = λ i. cond (h.0 i) (x ∷ filter-all_pass p xs h.1 i) (filter-all_pass p xs h.1 i)

-- two functions that agree at each element give the same items
pub filter_map_agree_within : {A B : Type 0} (f g : A → Option B) (xs : List A) → AllByRecursion (λ x. f x ≡ g x) xs → filter_map f xs ≡ filter_map g xs
filter_map_agree_within f g [] h = refl
filter_map_agree_within f g (x ∷ xs) h = λ i. cons_option (h.0 i) (filter_map_agree_within f g xs h.1 i)

-- elements that fail a test, and of which f gives nothing, may be left out first
pub filter_map_within : {A B : Type 0} (f : A → Option B) (p : A → Bool) (xs : List A) → AllByRecursion (λ x. p x ≡ false → f x ≡ None) xs → filter_map f xs ≡ filter_map f (filter p xs)
filter_map_within f p [] h = refl
filter_map_within f p (x ∷ xs) h =
    let rest = filter_map_within f p xs h.1 in
    elim (p x) as (λ b. p x ≡ b → cons_option (f x) (filter_map f xs) ≡ filter_map f (cond b (x ∷ filter p xs) (filter p xs))) [
      | true ↦ λ passes. ap (cons_option (f x)) rest
      | false ↦ λ fails. ap (λ o. cons_option o (filter_map f xs)) (h.0 fails) ∙ rest
    ] refl

-- what f gives stays distinct after a filter
pub distinct-filter : {A B : Type 0} (eq : B → B → Bool) (f : A → B) (p : A → Bool) (xs : List A) → IsDistinct eq (map f xs) → IsDistinct eq (map f (filter p xs))
distinct-filter eq f p [] h = h
distinct-filter eq f p (x ∷ xs) h =
    let rest = distinct-filter eq f p xs (IsDistinct-tail eq (f x) (map f xs) h) in
    let head = all-from_map (λ y. eq (f x) y ≡ false) f xs (IsDistinct-head eq (f x) (map f xs) h) in
    elim (p x) as (λ b. IsDistinct eq (map f (cond b (x ∷ filter p xs) (filter p xs)))) [
      | true ↦ IsDistinct-cons eq (f x) (map f (filter p xs)) (all-map (λ y. eq (f x) y ≡ false) f (filter p xs) (all-filter (λ y. eq (f x) (f y) ≡ false) p xs head)) rest
      | false ↦ rest
    ]
