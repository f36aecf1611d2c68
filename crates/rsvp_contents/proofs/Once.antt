-- What counts holds a class that doesn't repeat once, and such a list counts whole.
use Rattle.std.proofs.Common.{◌≡◌, ◌≤◌, ◌+◌, ℕ, Bool, true, false, not, ◌||◌, ◌&&◌, nat_eq, if◌then◌else◌, List, [], ◌∷◌, ◌++◌, refl, sym, ap, ◌∙◌, subst, arith, append_assoc, append-nil}
use Rattle.std.specs.Prelude.{fold}
use Rattle.std.proofs.lemmas.Bool.{cond-true, eq-eqb, eqb-true, not-true, or_right, or_left, not_from_false}
use Rattle.rsvp_objects.specs.declared.kind.Kind.{Kind}
use Rattle.rsvp_objects.specs.declared.kind.Kind.TheVariants as kinds
use Rattle.rsvp_objects.specs.declared.object.Object.{Object}
use Rattle.rsvp_objects.specs.Kinds.{kind_of, listed}
use Rattle.rsvp_objects.specs.Objects.{raw_of}
use Rattle.rsvp_contents.specs.Counting.{class_of, has_class, has_style, is_flow_class, repeats_as, repeats, counted, counting}
use Rattle.rsvp_contents.proofs.Totals.{total, one_if, total-append, list_any-from_total, total-from_list_any}

-- an object is of the class
abbrev pub is_class : ℕ → Object → Bool
is_class class o = nat_eq (class_of o) class

-- whether a class repeats, with this C-Type
abbrev pub repeats_at : ℕ → ℕ → ℕ → Bool
repeats_at type class ctype = repeats_as (kind_of class ctype) || (has_style type && is_flow_class class)

-- a class of which one object counts
abbrev pub CountsOnce : ℕ → ℕ → Type 0
CountsOnce type class = (ctype : ℕ) → repeats_at type class ctype ≡ false

-- no class that doesn't repeat is there twice
abbrev pub IsCounting : ℕ → List Object → Type 0
IsCounting type os = (class : ℕ) → CountsOnce type class → total (one_if (is_class class)) os ≤ 1

-- whether an object is of the class, with what follows
one_or_none : (same : Bool) (n : ℕ) → n ≤ 1 → (same ≡ true → n ≡ 0) → n + (if same then 1 else 0) ≤ 1
one_or_none true n h none = omega (arith, none refl)
one_or_none false n h none = omega arith

-- an object that was counted, of a class that doesn't repeat, is the first of it
first_of_class : (repeating there : Bool) → repeating ≡ false → (repeating || not there) ≡ true → there ≡ false
first_of_class true there e h = absurd cc
first_of_class false there e h = not-true there h

-- where an object counts, none of its class was there if that doesn't repeat
none_before : (type class : ℕ) (xs : List Object) (o : Object) → CountsOnce type class → (repeats type o || not (has_class (class_of o) xs)) ≡ true → class_of o ≡ class → total (one_if (is_class class)) xs ≡ 0
none_before type class xs o alone counts same =
    let single : repeats type o ≡ false = subst (λ (n : ℕ). repeats_at type n (raw_of o).ctype ≡ false) (sym same) (alone (raw_of o).ctype) in
    let absent : has_class (class_of o) xs ≡ false = first_of_class (repeats type o) (has_class (class_of o) xs) single counts in
    subst (λ (n : ℕ). total (one_if (is_class n)) xs ≡ 0) same (total-from_list_any (is_class (class_of o)) xs absent)

-- so one more object leaves no such class twice
one_more : (type : ℕ) (test : Bool) (xs : List Object) (o : Object) → (repeats type o || not (has_class (class_of o) xs)) ≡ test → IsCounting type xs → IsCounting type (if test then xs ++ o ∷ [] else xs)
one_more type true xs o counts h class alone =
    let none = λ (is : is_class class o ≡ true). none_before type class xs o alone counts (eqb-true (class_of o) class is) in
    let joined = total-append (one_if (is_class class)) xs (o ∷ []) in
    let bound = one_or_none (is_class class o) (total (one_if (is_class class)) xs) (h class alone) none in
    omega (arith, joined, bound)
one_more type false xs o counts h class alone = h class alone

-- and so with all of them
fold-IsCounting : (type : ℕ) (xs os : List Object) → IsCounting type xs → IsCounting type (fold (counted type) xs os)
fold-IsCounting type xs [] h = h
fold-IsCounting type xs (o ∷ os) h =
    fold-IsCounting type (counted type xs o) os (one_more type (repeats type o || not (has_class (class_of o) xs)) xs o refl h)

-- what counts has no such class twice
pub counting-IsCounting : (type : ℕ) (os : List Object) → IsCounting type (counting type os)
counting-IsCounting type os = fold-IsCounting type [] os (λ class alone. omega arith)

-- one choice among kinds repeats where both do
same_choice : (test : Bool) (k l m n : Kind) → repeats_as k ≡ repeats_as l → repeats_as m ≡ repeats_as n → repeats_as (if test then k else m) ≡ repeats_as (if test then l else n)
same_choice true k l m n e f = e
same_choice false k l m n e f = f

-- a C-Type that is not listed does not repeat either
same_listed : (a b : Bool) (k : Kind) → repeats_as k ≡ false → repeats_as (listed a k) ≡ repeats_as (listed b k)
same_listed true true k h = refl
same_listed true false k h = h
same_listed false true k h = sym h
same_listed false false k h = refl

-- attributes do not repeat
tunnel : (a b : Bool) → repeats_as (if a then kinds.SessionAttributeRa else listed b kinds.SessionAttribute) ≡ false
tunnel true b = refl
tunnel false true = refl
tunnel false false = refl

-- whether an object repeats is a matter of its class alone
kind_repeats_by_class : (class a b : ℕ) → repeats_as (kind_of class a) ≡ repeats_as (kind_of class b)
unfolding kind_of
kind_repeats_by_class class a b =
    same_choice (nat_eq class 0) _ _ _ _ refl
    (same_choice (nat_eq class 1) _ _ _ _ (same_listed (nat_eq a 7) (nat_eq b 7) kinds.Session refl)
    (same_choice (nat_eq class 3) _ _ _ _ (same_listed (nat_eq a 1) (nat_eq b 1) kinds.Hop refl)
    (same_choice (nat_eq class 4) _ _ _ _ refl
    (same_choice (nat_eq class 5) _ _ _ _ (same_listed (nat_eq a 1) (nat_eq b 1) kinds.TimeValues refl)
    (same_choice (nat_eq class 6) _ _ _ _ (same_listed (nat_eq a 1) (nat_eq b 1) kinds.ErrorSpec refl)
    (same_choice (nat_eq class 7) _ _ _ _ refl
    (same_choice (nat_eq class 8) _ _ _ _ (same_listed (nat_eq a 1) (nat_eq b 1) kinds.Style refl)
    (same_choice (nat_eq class 9) _ _ _ _ (same_listed (nat_eq a 2) (nat_eq b 2) kinds.Flowspec refl)
    (same_choice (nat_eq class 10) _ _ _ _ (same_listed (nat_eq a 7) (nat_eq b 7) kinds.FilterSpec refl)
    (same_choice (nat_eq class 11) _ _ _ _ (same_listed (nat_eq a 7) (nat_eq b 7) kinds.SenderTemplate refl)
    (same_choice (nat_eq class 12) _ _ _ _ (same_listed (nat_eq a 2) (nat_eq b 2) kinds.SenderTspec refl)
    (same_choice (nat_eq class 13) _ _ _ _ refl
    (same_choice (nat_eq class 14) _ _ _ _ refl
    (same_choice (nat_eq class 15) _ _ _ _ refl
    (same_choice (nat_eq class 16) _ _ _ _ (same_listed (nat_eq a 1) (nat_eq b 1) kinds.Label refl)
    (same_choice (nat_eq class 19) _ _ _ _ (same_listed (nat_eq a 1) (nat_eq b 1) kinds.LabelRequest refl)
    (same_choice (nat_eq class 20) _ _ _ _ (same_listed (nat_eq a 1) (nat_eq b 1) kinds.ExplicitRoute refl)
    (same_choice (nat_eq class 21) _ _ _ _ (same_listed (nat_eq a 1) (nat_eq b 1) kinds.RecordRoute refl)
    (same_choice (nat_eq class 205) _ _ _ _ (same_listed (nat_eq a 1) (nat_eq b 1) kinds.FastReroute refl)
    (same_choice (nat_eq class 207) _ _ _ _ (tunnel (nat_eq a 1) (nat_eq a 7) ∙ sym (tunnel (nat_eq b 1) (nat_eq b 7)))
    refl))))))))))))))))))))

pub repeats_by_class : (type class a b : ℕ) → repeats_at type class a ≡ repeats_at type class b
repeats_by_class type class a b = ap (λ (r : Bool). r || (has_style type && is_flow_class class)) (kind_repeats_by_class class a b)

-- an object that is its class's only one counts
counts_here : (type : ℕ) (xs : List Object) (o : Object) (repeating : Bool) → repeats type o ≡ repeating → (CountsOnce type (class_of o) → total (one_if (is_class (class_of o))) xs ≡ 0) →
    (repeats type o || not (has_class (class_of o) xs)) ≡ true
counts_here type xs o true e h = or_left (repeats type o) (not (has_class (class_of o) xs)) e
counts_here type xs o false e h =
    let none = h (λ ctype. repeats_by_class type (class_of o) ctype (raw_of o).ctype ∙ e) in
    or_right (repeats type o) (not (has_class (class_of o) xs)) (not_from_false (has_class (class_of o) xs) (list_any-from_total (is_class (class_of o)) xs none))

-- an object is of its class
own_class : (n : ℕ) → nat_eq n n ≡ true
own_class n = eq-eqb n n refl

-- where a class may not be there twice, none of it is before an object of it
none_twice : (type : ℕ) (xs os : List Object) (o : Object) → IsCounting type (xs ++ o ∷ os) → CountsOnce type (class_of o) → total (one_if (is_class (class_of o))) xs ≡ 0
none_twice type xs os o h alone =
    let here : one_if (is_class (class_of o)) o ≡ 1 = ap (λ (b : Bool). if b then 1 else 0) (own_class (class_of o)) in
    omega (arith, h (class_of o) alone, total-append (one_if (is_class (class_of o))) xs (o ∷ os), here)

-- what follows a list without such a class twice counts whole
fold_whole : (type : ℕ) (xs os : List Object) → IsCounting type (xs ++ os) → fold (counted type) xs os ≡ xs ++ os
fold_whole type xs [] h = sym (append-nil xs)
fold_whole type xs (o ∷ os) h =
    let whole : xs ++ (o ∷ []) ++ os ≡ xs ++ (o ∷ os) = append_assoc xs (o ∷ []) os in
    let counts = counts_here type xs o (repeats type o) refl (none_twice type xs os o h) in
    let step : counted type xs o ≡ xs ++ o ∷ [] = cond-true (repeats type o || not (has_class (class_of o) xs)) (xs ++ o ∷ []) xs counts in
    ap (λ (v : List Object). fold (counted type) v os) step
    ∙ fold_whole type (xs ++ o ∷ []) os (subst (IsCounting type) (sym whole) h)
    ∙ whole

-- a list without such a class twice counts whole
pub counting_whole : (type : ℕ) (os : List Object) → IsCounting type os → counting type os ≡ os
counting_whole type os h = fold_whole type [] os h
