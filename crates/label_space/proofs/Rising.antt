-- Lines along which the numbers of places don't fall: where a place joins them, and what is left of them.
use Rattle.std.proofs.Common.{◌≡◌, ℕ, ◌<◌, ◌≤◌, ◌==◌, nat_lt, Bool, true, false, cond, not, List, [], ◌∷◌, ◌++◌, get_or, set, refl, sym, ap, subst, ◌∙◌, inl, inr, arith, get_or-set_other}
use Rattle.std.specs.List.{AllByRecursion, filter}
use Rattle.std.proofs.lemmas.Bool.{cases_lt, eqb-false, le-ltb, lt-ltb}
use Rattle.sorted_rows.specs.ListLaws.{all-both, all-filter, all-weaker}
use Rattle.label_space.specs.LineLaws.{Differs, all-around, all-parts, differ_turned}
use Rattle.label_space.specs.Lines.{IsRising, line_with, line_without}

-- What is at most a number's is at most it in all of a line's part whose last is.
pub all_least : (numbers : List ℕ) (number : ℕ) (less : List ℕ) (last : ℕ) (behind : List ℕ) → IsRising numbers ((less ++ last ∷ []) ++ behind) → get_or numbers last 0 ≤ number → AllByRecursion (λ other. get_or numbers other 0 ≤ number) (less ++ last ∷ [])
all_least numbers number [] last behind rising least = (least, tt)
all_least numbers number (x ∷ less) last behind rising least =
    let first = all-parts (λ other. get_or numbers x 0 ≤ get_or numbers other 0) (less ++ last ∷ []) behind rising.0 in
    let under : get_or numbers x 0 ≤ get_or numbers last 0 = (all-around (λ other. get_or numbers x 0 ≤ get_or numbers other 0) less last [] first.0).0 in
    (omega (arith, under, least), all_least numbers number less last behind rising.1 least)

-- a place joins a line between those whose numbers are no more than its own, and those whose numbers are more
pub with_between : (numbers : List ℕ) (place : ℕ) (before behind : List ℕ) → AllByRecursion (λ other. get_or numbers other 0 ≤ get_or numbers place 0) before → AllByRecursion (λ other. get_or numbers place 0 < get_or numbers other 0) behind → line_with numbers place (before ++ behind) ≡ before ++ place ∷ behind
with_between numbers place [] [] least more = refl
with_between numbers place [] (x ∷ behind) least more =
    ap (λ b. cond b (place ∷ x ∷ behind) (x ∷ line_with numbers place behind)) (lt-ltb (get_or numbers place 0) (get_or numbers x 0) more.0)
with_between numbers place (x ∷ before) behind least more =
    ap (λ b. cond b (place ∷ x ∷ before ++ behind) (x ∷ line_with numbers place (before ++ behind))) (le-ltb (get_or numbers place 0) (get_or numbers x 0) least.0)
    ∙ ap (λ line. x ∷ line) (with_between numbers place before behind least.1 more)

-- what holds of a place and of each of a line holds of each where the place joined it
pub all-line_with : (P : ℕ → Type 0) (numbers : List ℕ) (place : ℕ) (line : List ℕ) → P place → AllByRecursion P line → AllByRecursion P (line_with numbers place line)
all-line_with P numbers place [] here each = (here, tt)
all-line_with P numbers place (x ∷ line) here each =
    elim (nat_lt (get_or numbers place 0) (get_or numbers x 0)) as (λ b. AllByRecursion P (cond b (place ∷ x ∷ line) (x ∷ line_with numbers place line))) [
      | true ↦ (here, each)
      | false ↦ (each.0, all-line_with P numbers place line here each.1)
    ]

-- numbers don't fall where a place joined the line
pub rising-with : (numbers : List ℕ) (place : ℕ) (line : List ℕ) → IsRising numbers line → IsRising numbers (line_with numbers place line)
rising-with numbers place [] rising = (tt, tt)
rising-with numbers place (x ∷ line) rising =
    elim (cases_lt (get_or numbers place 0) (get_or numbers x 0)) [
      | inl less ↦ rw (lt-ltb (get_or numbers place 0) (get_or numbers x 0) less)
          ((omega (arith, less), all-weaker (λ other. get_or numbers x 0 ≤ get_or numbers other 0) (λ other. get_or numbers place 0 ≤ get_or numbers other 0) (λ other more. omega (arith, less, more)) line rising.0), rising)
      | inr more ↦ rw (le-ltb (get_or numbers place 0) (get_or numbers x 0) more)
          (all-line_with (λ other. get_or numbers x 0 ≤ get_or numbers other 0) numbers place line more rising.0, rising-with numbers place line rising.1)
    ]

-- nor where one left it
pub rising-without : (numbers : List ℕ) (gone : ℕ) (line : List ℕ) → IsRising numbers line → IsRising numbers (line_without gone line)
rising-without numbers gone [] rising = tt
rising-without numbers gone (x ∷ line) rising =
    let rest = rising-without numbers gone line rising.1 in
    elim (gone == x) as (λ b. IsRising numbers (cond (not b) (x ∷ line_without gone line) (line_without gone line))) [
      | true ↦ rest
      | false ↦ (all-filter (λ other. get_or numbers x 0 ≤ get_or numbers other 0) (λ other. not (gone == other)) line rising.0, rest)
    ]

-- nor where others have the same numbers
pub rising-same : (numbers others : List ℕ) (line : List ℕ) → AllByRecursion (λ place. get_or others place 0 ≡ get_or numbers place 0) line → IsRising numbers line → IsRising others line
rising-same numbers others [] same rising = tt
rising-same numbers others (x ∷ line) same rising = (
  all-both (λ place. get_or others place 0 ≡ get_or numbers place 0) (λ place. get_or numbers x 0 ≤ get_or numbers place 0) (λ place. get_or others x 0 ≤ get_or others place 0) (λ place e more. let first = same.0 in omega (arith, e, more, first)) line same.1 rising.0,
  rising-same numbers others line same.1 rising.1,
)

-- the number of a place that isn't in line may be another
pub same_but : (numbers : List ℕ) (place number : ℕ) (line : List ℕ) → Differs place line → AllByRecursion (λ other. get_or (set numbers place number) other 0 ≡ get_or numbers other 0) line
same_but numbers place number line away =
    all-weaker (λ other. (place == other) ≡ false) (λ other. get_or (set numbers place number) other 0 ≡ get_or numbers other 0) (λ other apart. get_or-set_other numbers place other number 0 (λ same. eqb-false place other apart (sym same))) line away
