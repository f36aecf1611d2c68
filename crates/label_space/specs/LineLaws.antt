-- Laws of lines: what they have, and what one is without a member.
use Rattle.std.specs.Prelude.{◌≡◌, ◌≢◌, ℕ, zero, suc, ◌<◌, ◌==◌, ◌⊎◌, nat_eq, Bool, true, false, cond, not, List, [], ◌∷◌, ◌++◌, Contains, filter, length}
use Rattle.std.specs.List.{AllByRecursion, IsDistinct, slice_index_or}
use Rattle.std.proofs.Common.{refl, sym, ap, subst, ◌∙◌, inl, inr, arith}
use Rattle.std.proofs.lemmas.Bool.{cases_eq, eqb-false, eqb-true, ne_eqb}
use Rattle.std.proofs.lemmas.List.Elements.{Contains-append_cases, Contains-append_left, Contains-append_right, filter-append}
use Rattle.std.proofs.lemmas.Map.Keys.{IsDistinct-head, IsDistinct-tail, IsDistinct-cons}
use Rattle.sorted_rows.specs.ListLaws.{all-append, all-filter, all-weaker, filter-all_pass}
use Rattle.label_space.specs.Lines.{line_without}

-- a number that differs from each of a line
abbrev pub Differs : ℕ → List ℕ → Type 0
Differs x line = AllByRecursion (λ y. (x == y) ≡ false) line

-- a difference, the other way round
pub differ_turned : (x y : ℕ) → (x == y) ≡ false → (y == x) ≡ false
differ_turned x y apart = ne_eqb y x (λ same. eqb-false x y apart (sym same))

-- nothing is in an empty line
pub none_contained : {X : Type 0} (x : X) → ¬ Contains [] x
none_contained x among = absurd (omega (arith, among.1))

-- what is in a line is its first, or among the others
cases_at : {X : Type 0} (y : X) (line : List X) (x : X) (k : ℕ) → k < length (y ∷ line) → slice_index_or (y ∷ line) k x ≡ x → (y ≡ x) ⊎ Contains line x
cases_at y line x zero within here = inl here
cases_at y line x (suc k) within here = inr (k, omega (arith, within), here)

pub Contains-cons_cases : {X : Type 0} (y : X) (line : List X) (x : X) → Contains (y ∷ line) x → (y ≡ x) ⊎ Contains line x
Contains-cons_cases y line x among = cases_at y line x among.0 among.1 among.2

-- and the other way round
pub Contains-first : {X : Type 0} (y : X) (line : List X) (x : X) → y ≡ x → Contains (y ∷ line) x
Contains-first y line x same = (0, omega arith, same)

pub Contains-later : {X : Type 0} (y : X) (line : List X) (x : X) → Contains line x → Contains (y ∷ line) x
Contains-later y line x among = (suc among.0, omega (arith, among.1), among.2)

-- a number is in a line, or it isn't
pub cases_contained : (line : List ℕ) (x : ℕ) → Contains line x ⊎ (¬ Contains line x)
cases_contained [] x = inr (none_contained x)
cases_contained (y ∷ line) x =
    elim (cases_eq y x) [
      | inl same ↦ inl (Contains-first y line x same)
      | inr apart ↦ elim (cases_contained line x) [
        | inl among ↦ inl (Contains-later y line x among)
        | inr absent ↦ inr (λ among. elim (Contains-cons_cases y line x among) [ inl same ↦ apart same | inr later ↦ absent later ])
      ]
    ]

-- what isn't in a line differs from each of it
pub differs_from : (line : List ℕ) (x : ℕ) → ¬ Contains line x → Differs x line
differs_from [] x absent = tt
differs_from (y ∷ line) x absent =
    (ne_eqb x y (λ same. absent (Contains-first y line x (sym same))), differs_from line x (λ among. absent (Contains-later y line x among)))

-- and the other way round
pub absent_from : (line : List ℕ) (x : ℕ) → Differs x line → ¬ Contains line x
absent_from [] x differs among = none_contained x among
absent_from (y ∷ line) x differs among =
    elim (Contains-cons_cases y line x among) [ inl same ↦ eqb-false x y differs.0 (sym same) | inr later ↦ absent_from line x differs.1 later ]

-- what is in a line stands between others of it
pub line_around : (line : List ℕ) (x : ℕ) → Contains line x → (before : List ℕ) × (behind : List ℕ) × (line ≡ before ++ x ∷ behind)
line_around [] x among = absurd (none_contained x among)
line_around (y ∷ line) x among =
    elim (Contains-cons_cases y line x among) [
      | inl same ↦ ([], line, ap (λ z. z ∷ line) same)
      | inr later ↦ let around = line_around line x later in (y ∷ around.0, around.1, ap (λ rest. y ∷ rest) around.2)
    ]

-- a line without one that isn't in it is the line
pub line_without-absent : (gone : ℕ) (line : List ℕ) → Differs gone line → line_without gone line ≡ line
line_without-absent gone line differs =
    filter-all_pass (λ other. not (gone == other)) line (all-weaker (λ y. (gone == y) ≡ false) (λ y. not (gone == y) ≡ true) (λ y apart. ap not apart) line differs)

-- a line without its first
pub line_without-first : (gone : ℕ) (line : List ℕ) → Differs gone line → line_without gone (gone ∷ line) ≡ line
line_without-first gone line differs =
    elim (gone == gone) as (λ b. (gone == gone) ≡ b → cond (not b) (gone ∷ line_without gone line) (line_without gone line) ≡ line) [
      | true ↦ λ same. line_without-absent gone line differs
      | false ↦ λ apart. absurd (eqb-false gone gone apart refl)
    ] refl

-- a line without one of it is what stands before that one, and what stands behind it
pub line_without-between : (gone : ℕ) (before behind : List ℕ) → Differs gone before → Differs gone behind → line_without gone (before ++ gone ∷ behind) ≡ before ++ behind
line_without-between gone before behind first later =
    filter-append (λ other. not (gone == other)) before (gone ∷ behind) ∙ (λ i. line_without-absent gone before first i ++ line_without-first gone behind later i)

-- a line keeps all others
pub Contains-line_without : (gone : ℕ) (line : List ℕ) (x : ℕ) → gone ≢ x → Contains line x → Contains (line_without gone line) x
Contains-line_without gone [] x other among = among
Contains-line_without gone (y ∷ line) x other among =
    let rest = Contains-line_without gone line x other in
    elim (gone == y) as (λ b. (gone == y) ≡ b → Contains (cond (not b) (y ∷ line_without gone line) (line_without gone line)) x) [
      | true ↦ λ same. elim (Contains-cons_cases y line x among) [
        | inl here ↦ absurd (other (eqb-true gone y same ∙ here))
        | inr later ↦ rest later
      ]
      | false ↦ λ apart. elim (Contains-cons_cases y line x among) [
        | inl here ↦ Contains-first y (line_without gone line) x here
        | inr later ↦ Contains-later y (line_without gone line) x (rest later)
      ]
    ] refl

-- and has no more than before
pub Contains-from_without : (gone : ℕ) (line : List ℕ) (x : ℕ) → Contains (line_without gone line) x → Contains line x
Contains-from_without gone [] x = λ among. among
Contains-from_without gone (y ∷ line) x =
    let rest = Contains-from_without gone line x in
    elim (gone == y) as (λ b. Contains (cond (not b) (y ∷ line_without gone line) (line_without gone line)) x → Contains (y ∷ line) x) [
      | true ↦ λ among. Contains-later y line x (rest among)
      | false ↦ λ among. elim (Contains-cons_cases y (line_without gone line) x among) [
        | inl here ↦ Contains-first y line x here
        | inr later ↦ Contains-later y line x (rest later)
      ]
    ]

-- the one that left is in it no more
pub gone_differs : (gone : ℕ) (line : List ℕ) → Differs gone (line_without gone line)
gone_differs gone [] = tt
gone_differs gone (y ∷ line) =
    elim (gone == y) as (λ b. (gone == y) ≡ b → Differs gone (cond (not b) (y ∷ line_without gone line) (line_without gone line))) [
      | true ↦ λ same. gone_differs gone line
      | false ↦ λ apart. (apart, gone_differs gone line)
    ] refl

-- nothing is twice in what is left of a line
pub IsDistinct-line_without : (gone : ℕ) (line : List ℕ) → IsDistinct nat_eq line → IsDistinct nat_eq (line_without gone line)
IsDistinct-line_without gone [] distinct = distinct
IsDistinct-line_without gone (y ∷ line) distinct =
    let rest = IsDistinct-line_without gone line (IsDistinct-tail nat_eq y line distinct) in
    let head = all-filter (λ z. (y == z) ≡ false) (λ other. not (gone == other)) line (IsDistinct-head nat_eq y line distinct) in
    elim (gone == y) as (λ b. IsDistinct nat_eq (cond (not b) (y ∷ line_without gone line) (line_without gone line))) [
      | true ↦ rest
      | false ↦ IsDistinct-cons nat_eq y (line_without gone line) head rest
    ]

-- nor in a line that another one joins at the end
pub IsDistinct-joined : (line : List ℕ) (x : ℕ) → IsDistinct nat_eq line → Differs x line → IsDistinct nat_eq (line ++ x ∷ [])
IsDistinct-joined [] x distinct differs = IsDistinct-cons nat_eq x [] tt distinct
IsDistinct-joined (y ∷ line) x distinct differs =
    IsDistinct-cons nat_eq y (line ++ x ∷ []) (all-append (λ z. (y == z) ≡ false) line (x ∷ []) (IsDistinct-head nat_eq y line distinct) (differ_turned x y differs.0, tt)) (IsDistinct-joined line x (IsDistinct-tail nat_eq y line distinct) differs.1)

-- what holds of each of a line holds of one in it, and of the others
pub all-around : {A : Type 0} (P : A → Type 0) (before : List A) (x : A) (behind : List A) → AllByRecursion P (before ++ x ∷ behind) → P x × AllByRecursion P (before ++ behind)
all-around P [] x behind each = each
all-around P (y ∷ before) x behind each = let rest = all-around P before x behind each.1 in (rest.0, (each.0, rest.1))

-- and the other way round
pub all-with : {A : Type 0} (P : A → Type 0) (before : List A) (x : A) (behind : List A) → P x → AllByRecursion P (before ++ behind) → AllByRecursion P (before ++ x ∷ behind)
all-with P [] x behind here each = (here, each)
all-with P (y ∷ before) x behind here each = (each.0, all-with P before x behind here each.1)

-- what holds of each of a line holds of each of its parts
pub all-parts : {A : Type 0} (P : A → Type 0) (before behind : List A) → AllByRecursion P (before ++ behind) → AllByRecursion P before × AllByRecursion P behind
all-parts P [] behind each = (tt, each)
all-parts P (y ∷ before) behind each = let rest = all-parts P before behind each.1 in ((each.0, rest.0), rest.1)

-- one of a line in which nothing is twice differs from the others, of which none is twice
pub distinct_around : (before : List ℕ) (x : ℕ) (behind : List ℕ) → IsDistinct nat_eq (before ++ x ∷ behind) → Differs x (before ++ behind) × IsDistinct nat_eq (before ++ behind)
distinct_around [] x behind distinct = (IsDistinct-head nat_eq x behind distinct, IsDistinct-tail nat_eq x behind distinct)
distinct_around (y ∷ before) x behind distinct =
    let head = all-around (λ z. (y == z) ≡ false) before x behind (IsDistinct-head nat_eq y (before ++ x ∷ behind) distinct) in
    let rest = distinct_around before x behind (IsDistinct-tail nat_eq y (before ++ x ∷ behind) distinct) in
    ((differ_turned y x head.0, rest.0), IsDistinct-cons nat_eq y (before ++ behind) head.1 rest.1)

-- and the other way round
pub distinct_with : (before : List ℕ) (x : ℕ) (behind : List ℕ) → Differs x (before ++ behind) → IsDistinct nat_eq (before ++ behind) → IsDistinct nat_eq (before ++ x ∷ behind)
distinct_with [] x behind away distinct = IsDistinct-cons nat_eq x behind away distinct
distinct_with (y ∷ before) x behind away distinct =
    IsDistinct-cons nat_eq y (before ++ x ∷ behind)
    (all-with (λ z. (y == z) ≡ false) before x behind (differ_turned x y away.0) (IsDistinct-head nat_eq y (before ++ behind) distinct))
    (distinct_with before x behind away.1 (IsDistinct-tail nat_eq y (before ++ behind) distinct))

-- what is in one part of it isn't in the other
pub distinct_parts : (before behind : List ℕ) (x : ℕ) → IsDistinct nat_eq (before ++ behind) → Contains before x → Differs x behind
distinct_parts [] behind x distinct among = absurd (none_contained x among)
distinct_parts (y ∷ before) behind x distinct among =
    elim (Contains-cons_cases y before x among) [
      | inl same ↦ subst (λ z. Differs z behind) same (all-parts (λ z. (y == z) ≡ false) before behind (IsDistinct-head nat_eq y (before ++ behind) distinct)).1
      | inr later ↦ distinct_parts before behind x (IsDistinct-tail nat_eq y (before ++ behind) distinct) later
    ]

-- and nothing is twice where some of the one part went
pub distinct_filter : (p : ℕ → Bool) (before behind : List ℕ) → IsDistinct nat_eq (before ++ behind) → IsDistinct nat_eq (filter p before ++ behind)
distinct_filter p [] behind distinct = distinct
distinct_filter p (y ∷ before) behind distinct =
    let rest = distinct_filter p before behind (IsDistinct-tail nat_eq y (before ++ behind) distinct) in
    let head = all-parts (λ z. (y == z) ≡ false) before behind (IsDistinct-head nat_eq y (before ++ behind) distinct) in
    elim (p y) as (λ b. IsDistinct nat_eq (cond b (y ∷ filter p before) (filter p before) ++ behind)) [
      | true ↦ IsDistinct-cons nat_eq y (filter p before ++ behind) (all-append (λ z. (y == z) ≡ false) (filter p before) behind (all-filter (λ z. (y == z) ≡ false) p before head.0) head.1) rest
      | false ↦ rest
    ]

-- a line that one more joins has this one, and the others
pub Contains-with_cases : {X : Type 0} (before : List X) (y : X) (behind : List X) (x : X) → Contains (before ++ y ∷ behind) x → (y ≡ x) ⊎ Contains (before ++ behind) x
Contains-with_cases before y behind x among =
    elim (Contains-append_cases before (y ∷ behind) x among) [
      | inl first ↦ inr (Contains-append_left before behind x first)
      | inr later ↦ elim (Contains-cons_cases y behind x later) [
        | inl same ↦ inl same
        | inr last ↦ inr (Contains-append_right before behind x last)
      ]
    ]

pub Contains-with_same : {X : Type 0} (before : List X) (y : X) (behind : List X) → Contains (before ++ y ∷ behind) y
Contains-with_same before y behind = Contains-append_right before (y ∷ behind) y (Contains-first y behind y refl)

pub Contains-with_others : {X : Type 0} (before : List X) (y : X) (behind : List X) (x : X) → Contains (before ++ behind) x → Contains (before ++ y ∷ behind) x
Contains-with_others before y behind x among =
    elim (Contains-append_cases before behind x among) [
      | inl first ↦ Contains-append_left before (y ∷ behind) x first
      | inr later ↦ Contains-append_right before (y ∷ behind) x (Contains-later y behind x later)
    ]

-- what passes a test is in what the test leaves of a line
pub Contains-filter : {X : Type 0} (p : X → Bool) (line : List X) (x : X) → p x ≡ true → Contains line x → Contains (filter p line) x
Contains-filter p [] x passes among = among
Contains-filter p (y ∷ line) x passes among =
    let rest = Contains-filter p line x passes in
    elim (Contains-cons_cases y line x among) [
      | inl same ↦ subst (λ b. Contains (cond b (y ∷ filter p line) (filter p line)) x) (sym (ap p same ∙ passes)) (Contains-first y (filter p line) x same)
      | inr later ↦ elim (p y) as (λ b. Contains (cond b (y ∷ filter p line) (filter p line)) x) [
        | true ↦ Contains-later y (filter p line) x (rest later)
        | false ↦ rest later
      ]
    ]

-- and what is in that passes, and was in the line
pub Contains-from_filter : {X : Type 0} (p : X → Bool) (line : List X) (x : X) → Contains (filter p line) x → (p x ≡ true) × Contains line x
Contains-from_filter p [] x = λ among. absurd (none_contained x among)
Contains-from_filter p (y ∷ line) x =
    let rest = Contains-from_filter p line x in
    let further : Contains (filter p line) x → (p x ≡ true) × Contains (y ∷ line) x = λ among. ((rest among).0, Contains-later y line x (rest among).1) in
    elim (p y) as (λ b. p y ≡ b → Contains (cond b (y ∷ filter p line) (filter p line)) x → (p x ≡ true) × Contains (y ∷ line) x) [
      | true ↦ λ passes among. elim (Contains-cons_cases y (filter p line) x among) [
        | inl same ↦ (ap p (sym same) ∙ passes, Contains-first y line x same)
        | inr later ↦ further later
      ]
      | false ↦ λ fails among. further among
    ] refl
