-- Elements of a list that pass a test, looked for place by place.
use Rattle.std.specs.Prelude.{◌≡◌, ◌+◌, ◌≤◌, ◌||◌, ℕ, zero, suc, Bool, true, false, cond, List, [], ◌∷◌, drop, filter, find, length, slice_get, Option, Some, None}
use Rattle.std.specs.List.{list_any}
use Rattle.std.specs.Option.{option_map_or}
use Rattle.std.proofs.Common.{refl, ap, sym, add-one, arith, ◌∙◌}
use Rattle.abstract_router.specs.Returning.{the_one}

-- Behind the last place there is no element.
pub none_left : {X : Type 0} (xs : List X) (i : ℕ) → length xs ≤ i → drop i xs ≡ []
none_left [] zero past = refl
none_left [] (suc i) past = refl
none_left (x ∷ xs) zero past = absurd (omega (arith, past))
none_left (x ∷ xs) (suc i) past = none_left xs i (omega (arith, past))

module _ {X : Type 0} (test : X → Bool) where
  any_behind : (xs : List X) (i : ℕ) → list_any test (drop i xs) ≡ (option_map_or test (slice_get xs i) false || list_any test (drop (suc i) xs))
  any_behind [] zero = refl
  any_behind [] (suc i) = refl
  any_behind (x ∷ xs) zero = refl
  any_behind (x ∷ xs) (suc i) = any_behind xs i

  -- One from a place on passes if the one there does, if there is one, or one behind it.
  pub any_from : (xs : List X) (i : ℕ) → list_any test (drop i xs) ≡ (option_map_or test (slice_get xs i) false || list_any test (drop (i + 1) xs))
  any_from xs i = any_behind xs i ∙ ap (λ n. option_map_or test (slice_get xs i) false || list_any test (drop n xs)) (sym (add-one i))

  -- those that pass from a place on: the one there, if it does, and those behind it
  abbrev with_one : Option X → List X → List X
  with_one None ys = ys
  with_one (Some x) ys = cond (test x) (x ∷ ys) ys

  passing_behind : (xs : List X) (i : ℕ) → filter test (drop i xs) ≡ with_one (slice_get xs i) (filter test (drop (suc i) xs))
  passing_behind [] zero = refl
  passing_behind [] (suc i) = refl
  passing_behind (x ∷ xs) zero = refl
  passing_behind (x ∷ xs) (suc i) = passing_behind xs i

  passing_from : (xs : List X) (i : ℕ) → filter test (drop i xs) ≡ with_one (slice_get xs i) (filter test (drop (i + 1) xs))
  passing_from xs i = passing_behind xs i ∙ ap (λ n. with_one (slice_get xs i) (filter test (drop n xs))) (sym (add-one i))

  -- Where the one at a place fails, or there is none, those that pass stand behind it.
  pub passing_over : (xs : List X) (i : ℕ) → option_map_or test (slice_get xs i) false ≡ false → filter test (drop i xs) ≡ filter test (drop (i + 1) xs)
  passing_over xs i fails = passing_from xs i ∙ by (slice_get xs i) fails
    where
      by : (o : Option X) → option_map_or test o false ≡ false → with_one o (filter test (drop (i + 1) xs)) ≡ filter test (drop (i + 1) xs)
      by None fails = refl
      by (Some x) fails = ap (λ b. cond b (x ∷ filter test (drop (i + 1) xs)) (filter test (drop (i + 1) xs))) fails

  -- where none passes, none is kept
  none_passes : (ys : List X) → list_any test ys ≡ false → filter test ys ≡ []
  none_passes [] none = refl
  none_passes (y ∷ ys) none =
      elim (test y) as (λ b. (b || list_any test ys) ≡ false → cond b (y ∷ filter test ys) (filter test ys) ≡ []) [ true ↦ λ e. absurd (let f = e in cc) | false ↦ λ e. none_passes ys e ] none

  -- where one does, it isn't alone with another one
  several : (x : X) (ys : List X) → list_any test ys ≡ true → the_one (x ∷ filter test ys) ≡ None
  several x [] some = absurd (let f = some in cc)
  several x (y ∷ ys) some =
      elim (test y) as (λ b. (b || list_any test ys) ≡ true → the_one (x ∷ cond b (y ∷ filter test ys) (filter test ys)) ≡ None) [ true ↦ λ e. refl | false ↦ λ e. several x ys e ] some

  -- The one at a place is the only one that passes where it does, and none behind it;
  pub only_there : (xs : List X) (i : ℕ) → option_map_or test (slice_get xs i) false ≡ true → list_any test (drop (i + 1) xs) ≡ false → the_one (filter test (drop i xs)) ≡ slice_get xs i
  only_there xs i passes none = ap the_one (passing_from xs i) ∙ by (slice_get xs i) passes
    where
      by : (o : Option X) → option_map_or test o false ≡ true → the_one (with_one o (filter test (drop (i + 1) xs))) ≡ o
      by None passes = absurd (let f = passes in cc)
      by (Some x) passes = (λ k. the_one (cond (passes k) (x ∷ none_passes (drop (i + 1) xs) none k) (none_passes (drop (i + 1) xs) none k)))

  -- and none is the only one where one behind it passes too.
  pub none_alone : (xs : List X) (i : ℕ) → option_map_or test (slice_get xs i) false ≡ true → list_any test (drop (i + 1) xs) ≡ true → the_one (filter test (drop i xs)) ≡ None
  none_alone xs i passes some = ap the_one (passing_from xs i) ∙ by (slice_get xs i) passes
    where
      by : (o : Option X) → option_map_or test o false ≡ true → the_one (with_one o (filter test (drop (i + 1) xs))) ≡ None
      by None passes = absurd (let f = passes in cc)
      by (Some x) passes = ap (λ b. the_one (cond b (x ∷ filter test (drop (i + 1) xs)) (filter test (drop (i + 1) xs)))) passes ∙ several x (drop (i + 1) xs) some

  -- the first that passes from a place on: the one there, if it does, or the first behind it
  abbrev or_else : Option X → Option X → Option X
  or_else None behind = behind
  or_else (Some x) behind = cond (test x) (Some x) behind

  first_behind : (xs : List X) (i : ℕ) → find test (drop i xs) ≡ or_else (slice_get xs i) (find test (drop (suc i) xs))
  first_behind [] zero = refl
  first_behind [] (suc i) = refl
  first_behind (x ∷ xs) zero = refl
  first_behind (x ∷ xs) (suc i) = first_behind xs i

  first_from : (xs : List X) (i : ℕ) → find test (drop i xs) ≡ or_else (slice_get xs i) (find test (drop (i + 1) xs))
  first_from xs i = first_behind xs i ∙ ap (λ n. or_else (slice_get xs i) (find test (drop n xs))) (sym (add-one i))

  -- Where the one at a place fails, or there is none, the first that passes stands behind it,
  pub first_over : (xs : List X) (i : ℕ) → option_map_or test (slice_get xs i) false ≡ false → find test (drop i xs) ≡ find test (drop (i + 1) xs)
  first_over xs i fails = first_from xs i ∙ by (slice_get xs i) fails
    where
      by : (o : Option X) → option_map_or test o false ≡ false → or_else o (find test (drop (i + 1) xs)) ≡ find test (drop (i + 1) xs)
      by None fails = refl
      by (Some x) fails = ap (λ b. cond b (Some x) (find test (drop (i + 1) xs))) fails

  -- and where it passes, it is the first.
  pub first_there : (xs : List X) (i : ℕ) → option_map_or test (slice_get xs i) false ≡ true → find test (drop i xs) ≡ slice_get xs i
  first_there xs i passes = first_from xs i ∙ by (slice_get xs i) passes
    where
      by : (o : Option X) → option_map_or test o false ≡ true → or_else o (find test (drop (i + 1) xs)) ≡ o
      by None passes = absurd (let f = passes in cc)
      by (Some x) passes = ap (λ b. cond b (Some x) (find test (drop (i + 1) xs))) passes
