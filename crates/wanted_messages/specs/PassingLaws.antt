-- What objects that pass unread fit, some of them fit.
use Rattle.std.specs.Prelude.{◌≡◌, ℕ, ◌-◌, ◌≤◌, ◌==◌, ◌||◌, Bool, true, false, cond, if◌then◌else◌, not, nat_le, IsTrue, List, [], ◌∷◌, count_by, filter, length, sum_by, take}
use Rattle.std.specs.List.{list_all}
use Rattle.std.proofs.Common.{suc, refl, ap, arith, subst, sym}
use Rattle.std.proofs.lemmas.Bool.{and_from, and_parts, le-leb, leb-true}
use Rattle.std.proofs.lemmas.List.Sums.{sum_by-cons}
use Rattle.rsvp_objects.specs.Raw.{Raw}
use Rattle.rsvp_objects.specs.declared.object.Object.TheVariants as objects
use Rattle.rsvp_contents.specs.Counting.{passes}
use Rattle.rsvp_contents.specs.Fitting.{are_passed_on, has_adspec_last}
use Rattle.rsvp_contents.specs.Limits.{is_short_passing}
use Rattle.abstract_paths.specs.RowLaws.{length-filter_most}

module _ {A : Type 0} (p : A → Bool) where
  -- what all pass, some of them do
  all_of_some : (test : A → Bool) (xs : List A) → list_all test xs ≡ true → list_all test (filter p xs) ≡ true
  all_of_some test [] all = refl
  all_of_some test (x ∷ xs) all =
      let parts = and_parts (test x) (list_all test xs) all in
      elim (p x) as (λ b. list_all test (cond b (x ∷ filter p xs) (filter p xs)) ≡ true) [
        | true ↦ and_from (test x) _ parts.0 (all_of_some test xs parts.1)
        | false ↦ all_of_some test xs parts.1
      ]

  -- some of them measure no more together
  sum_of_some : (f : A → ℕ) (xs : List A) → sum_by f (filter p xs) ≤ sum_by f xs
  sum_of_some f [] = omega arith
  sum_of_some f (x ∷ xs) =
      elim (p x) as (λ b. sum_by f (cond b (x ∷ filter p xs) (filter p xs)) ≤ sum_by f (x ∷ xs)) [
        | true ↦ omega (arith, sum_of_some f xs, sum_by-cons f x xs, sum_by-cons f x (filter p xs))
        | false ↦ omega (arith, sum_of_some f xs, sum_by-cons f x xs)
      ]

  -- all but the last of at least two
  all_but_last : (x y : A) (ys : List A) → take (length (x ∷ y ∷ ys) - 1) (x ∷ y ∷ ys) ≡ x ∷ take (length (y ∷ ys) - 1) (y ∷ ys)
  all_but_last x y ys =
      let e : length (x ∷ y ∷ ys) - 1 ≡ suc (length (y ∷ ys) - 1) = omega arith in
      ap (λ (n : ℕ). take n (x ∷ y ∷ ys)) e

  -- what all but the last pass
  abbrev AllButLast : (A → Bool) → List A → Type 0
  AllButLast test xs = list_all test (take (length xs - 1) xs) ≡ true

  -- one more in front passes as well, if it isn't the last
  one_before : (test : A → Bool) (x : A) (ys : List A) → (1 ≤ length ys → test x ≡ true) → AllButLast test ys → AllButLast test (x ∷ ys)
  one_before test x [] first rest = refl
  one_before test x (y ∷ ys) first rest = subst (λ zs. list_all test zs ≡ true) (sym (all_but_last x y ys)) (and_from (test x) _ (first (omega arith)) rest)

  -- of two or more, the first passes, and so do all but the last of the others
  first_passes : (test : A → Bool) (x y : A) (ys : List A) → AllButLast test (x ∷ y ∷ ys) → (test x ≡ true) × AllButLast test (y ∷ ys)
  first_passes test x y ys all = and_parts (test x) _ (subst (λ zs. list_all test zs ≡ true) (all_but_last x y ys) all)

  last_of_some : (test : A → Bool) (xs : List A) → AllButLast test xs → AllButLast test (filter p xs)
  last_of_some test [] all = refl
  last_of_some test (x ∷ []) all = elim (p x) as (λ b. AllButLast test (cond b (x ∷ []) [])) [ true ↦ refl | false ↦ refl ]
  last_of_some test (x ∷ y ∷ ys) all =
      let parts = first_passes test x y ys all in
      let rest = last_of_some test (y ∷ ys) parts.1 in
      elim (p x) as (λ b. AllButLast test (cond b (x ∷ filter p (y ∷ ys)) (filter p (y ∷ ys)))) [
        | true ↦ one_before test x (filter p (y ∷ ys)) (λ some. parts.0) rest
        | false ↦ rest
      ]

-- What is within the limits is so without some of it.
pub some_short : (p : Raw → Bool) (passing : List Raw) → IsTrue (is_short_passing passing) → IsTrue (is_short_passing (filter p passing))
some_short p passing is =
    let parts = and_parts (nat_le (length passing) 8) _ is in
    let bodies = and_parts (list_all (λ (o : Raw). nat_le (length o.body) 512) passing) _ parts.1 in
    let few : length passing ≤ 8 = leb-true (length passing) 8 parts.0 in
    let short : sum_by (λ (o : Raw). length o.body) passing ≤ 2048 = leb-true (sum_by (λ (o : Raw). length o.body) passing) 2048 bodies.1 in
    and_from (nat_le (length (filter p passing)) 8) _ (le-leb (length (filter p passing)) 8 (omega (arith, few, length-filter_most p passing)))
    (and_from (list_all (λ (o : Raw). nat_le (length o.body) 512) (filter p passing)) _ (all_of_some p (λ o. nat_le (length o.body) 512) passing bodies.0)
    (le-leb (sum_by (λ (o : Raw). length o.body) (filter p passing)) 2048 (omega (arith, short, sum_of_some p (λ o. length o.body) passing))))

-- What a Path passes on it passes on without some of it,
pub some_passed_on : (p : Raw → Bool) (passing : List Raw) → IsTrue (are_passed_on passing) → IsTrue (are_passed_on (filter p passing))
some_passed_on p passing is = all_of_some p (λ (o : Raw). (o.class == 13) || passes 1 (objects.Other o)) passing is

-- with an ADSPEC last, if it has one.
pub some_adspec_last : (p : Raw → Bool) (passing : List Raw) → IsTrue (has_adspec_last passing) → IsTrue (has_adspec_last (filter p passing))
some_adspec_last p passing is = last_of_some p (λ (o : Raw). not (o.class == 13)) passing is

-- There are no more of a class then.
pub some_count : (p test : Raw → Bool) (passing : List Raw) → count_by test (filter p passing) ≤ count_by test passing
some_count p test passing = sum_of_some p (λ (o : Raw). if test o then 1 else 0) passing
