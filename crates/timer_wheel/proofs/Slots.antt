-- Lists of slots: which are among them, and what is left without one.
use Rattle.std.proofs.Common.{◌≡◌, ℕ, ◌<◌, ◌≢◌, List, [], ◌∷◌, ◌++◌, Bool, true, false, cond, not, nat_eq, filter, refl, arith}
use Rattle.std.proofs.lemmas.Bool.Decides.{nat_tests}
use Rattle.std.proofs.lemmas.Map.Keys.{IsDistinct-head, IsDistinct-tail, IsDistinct-cons}
use Rattle.std.specs.List.{AllByRecursion, IsDistinct, list_any}

-- the slots other than one
abbrev pub without : ℕ → List ℕ → List ℕ
without node slots = filter (λ slot. not (nat_eq node slot)) slots

-- whether a slot is among them
abbrev pub has : ℕ → List ℕ → Bool
has slot slots = list_any (nat_eq slot) slots

pub has_tail : (x slot : ℕ) (slots : List ℕ) → has x slots ≡ true → has x (slot ∷ slots) ≡ true
has_tail x slot slots h = grind (arith, nat_tests)

pub has_head : (slot : ℕ) (slots : List ℕ) → has slot (slot ∷ slots) ≡ true
has_head slot slots = grind (arith, nat_tests)

pub without_none : (node : ℕ) (slots : List ℕ) → has node (without node slots) ≡ false
without_none node [] = refl
without_none node (slot ∷ slots) = let rest = without_none node slots in grind (arith, nat_tests)

pub without_some : (node x : ℕ) (slots : List ℕ) → x ≢ node → has x slots ≡ true → has x (without node slots) ≡ true
without_some node x [] ne h = cc
without_some node x (slot ∷ slots) ne h = let rest = without_some node x slots ne in grind (arith, nat_tests)

pub filter_has : (test : ℕ → Bool) (x : ℕ) (slots : List ℕ) → test x ≡ true → has x slots ≡ true → has x (filter test slots) ≡ true
filter_has test x [] passes h = cc
filter_has test x (slot ∷ slots) passes h = let rest = filter_has test x slots passes in grind (arith, nat_tests)

pub has_passes : (test : ℕ → Bool) (x : ℕ) (slots : List ℕ) → has x (filter test slots) ≡ true → test x ≡ true
has_passes test x [] h = cc
has_passes test x (slot ∷ slots) h = let rest = has_passes test x slots in grind (arith, nat_tests)

pub has_kept : (test : ℕ → Bool) (x : ℕ) (slots : List ℕ) → has x (filter test slots) ≡ true → has x slots ≡ true
has_kept test x [] h = cc
has_kept test x (slot ∷ slots) h = let rest = has_kept test x slots in grind (arith, nat_tests)

pub without_fewer : (node x : ℕ) (slots : List ℕ) → has x (without node slots) ≡ true → has x slots ≡ true
without_fewer node x slots h = has_kept (λ slot. not (nat_eq node slot)) x slots h

pub none_twice : IsDistinct nat_eq []
unfolding IsDistinct
none_twice = tt

all_filter : (P : ℕ → Type 0) (test : ℕ → Bool) (slots : List ℕ) → AllByRecursion P slots → AllByRecursion P (filter test slots)
all_filter P test [] all = all
all_filter P test (slot ∷ slots) all =
    elim (test slot) as (λ b. AllByRecursion P (cond b (slot ∷ filter test slots) (filter test slots))) [ true ↦ (all.0, all_filter P test slots all.1) | false ↦ all_filter P test slots all.1 ]

pub distinct_filter : (test : ℕ → Bool) (slots : List ℕ) → IsDistinct nat_eq slots → IsDistinct nat_eq (filter test slots)
distinct_filter test [] once = once
distinct_filter test (slot ∷ slots) once =
    let rest = distinct_filter test slots (IsDistinct-tail nat_eq slot slots once) in
    elim (test slot) as (λ b. IsDistinct nat_eq (cond b (slot ∷ filter test slots) (filter test slots)))
    [ true ↦ IsDistinct-cons nat_eq slot (filter test slots) (all_filter (λ y. nat_eq slot y ≡ false) test slots (IsDistinct-head nat_eq slot slots once)) rest | false ↦ rest ]

none_all : (x : ℕ) (slots : List ℕ) → has x slots ≡ false → AllByRecursion (λ y. nat_eq x y ≡ false) slots
none_all x [] h = tt
none_all x (slot ∷ slots) h = let rest = none_all x slots in grind (arith, nat_tests)

pub distinct_more : (x : ℕ) (slots : List ℕ) → has x slots ≡ false → IsDistinct nat_eq slots → IsDistinct nat_eq (x ∷ slots)
distinct_more x slots h once = IsDistinct-cons nat_eq x slots (none_all x slots h) once

pub has_cases : (x slot : ℕ) (slots : List ℕ) (bound : ℕ) → slot < bound → (has x slots ≡ true → x < bound) → has x (slot ∷ slots) ≡ true → x < bound
has_cases x slot slots bound low rest h = grind (arith, nat_tests)

all_both : (P : ℕ → Type 0) (slots others : List ℕ) → AllByRecursion P slots → AllByRecursion P others → AllByRecursion P (slots ++ others)
all_both P [] others all all_too = all_too
all_both P (slot ∷ slots) others all all_too = (all.0, all_both P slots others all.1 all_too)

-- what stands twice in two lists stands in both
pub distinct_both : (slots others : List ℕ) → IsDistinct nat_eq slots → IsDistinct nat_eq others → ((x : ℕ) → has x slots ≡ true → has x others ≡ false) → IsDistinct nat_eq (slots ++ others)
distinct_both [] others once once_too apart = once_too
distinct_both (slot ∷ slots) others once once_too apart =
    let rest = distinct_both slots others (IsDistinct-tail nat_eq slot slots once) once_too (λ x h. apart x (has_tail x slot slots h)) in
    IsDistinct-cons nat_eq slot (slots ++ others) (all_both (λ y. nat_eq slot y ≡ false) slots others (IsDistinct-head nat_eq slot slots once) (none_all slot others (apart slot (has_head slot slots)))) rest
