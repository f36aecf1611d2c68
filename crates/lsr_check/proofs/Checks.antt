-- What is said of files, one after the other.
use Rattle.std.proofs.Common.{◌≡◌, ◌≤◌, ◌<◌, ◌-◌, ◌++◌, ◌∙◌, take, ℕ, List, [], ◌∷◌, Option, Some, Result, Ok, Err, refl, sym, subst, ap, arith, drop, get_or, inl, length, map}
use Rattle.std.specs.Borrow.{Bor}
use Rattle.std.specs.Result.{IfOk}
use Rattle.std.specs.Io.KnownBytes.{Appends}
use Rattle.std.proofs.KnownBytes.{Appends-trans}
use Rattle.std.proofs.lemmas.List.{take_rest}
use Rattle.abstract_router.specs.States.{State}
use Rattle.lsr_check.specs.Checking.{Checks, IsRunIn}
use Rattle.lsr_check.specs.Following.{end_of}
use Rattle.lsr_check.specs.Telling.{run_line}
use Rattle.lsr_check.specs.declared.recorded.Recorded.{Recorded}
use Rattle.lsr_check.specs.declared.recorded.RunEnd.{RunEnd}
use Rattle.lsr_check.specs.declared.recorded.Unread.{Unread}

-- nothing is said of no files
pub none_left : (spells : List ℕ → Recorded → Type 0) (fails : List ℕ → Unread → Type 0) (before : Option RunEnd) (names : List (Bor (List ℕ))) → length names < 1 → Checks spells fails before (map (λ name. name.now) names) [] [] 0
none_left spells fails before [] few = (refl, refl, refl)
none_left spells fails before (name ∷ names) few = absurd (omega (arith, few))

split_name : (names : List (Bor (List ℕ))) (other : Bor (List ℕ)) → 1 ≤ length names → names ≡ get_or names 0 other ∷ drop 1 names
split_name [] other some = absurd (omega (arith, some))
split_name (name ∷ names) other some = refl

-- the first of some, and the others
pub first_name : (names : List (Bor (List ℕ))) (other : Bor (List ℕ)) → 1 ≤ length names → names ≡ get_or names 0 other ∷ take (length names - 1) (drop 1 names)
first_name names other some = split_name names other some ∙ ap (λ (v : List (Bor (List ℕ))). get_or names 0 other ∷ v) (sym (take_rest names 1))

-- the first file is a run, and this is said of the others
pub one_more : {E : Type 0} (spells : List ℕ → Recorded → Type 0) (fails : List ℕ → Unread → Type 0) (before found : Option RunEnd) (names rest : List (Bor (List ℕ))) (first : Bor (List ℕ)) (count : ℕ) (end : RunEnd) (old grown new told_old told_new : Option (List ℕ))
    (r : Result ℕ E) → names ≡ first ∷ rest → found ≡ before → (run : Recorded) × (state : State) × IsRunIn spells found first.now run state × (count ≡ length run.entries) × (end ≡ end_of run state) → Appends old grown (run_line count)
    → IfOk r (λ status. (printed : List ℕ) × (told : List ℕ) × Checks spells fails (Some end) (map (λ name. name.now) rest) printed told status × Appends grown new printed × Appends told_old told_new told)
    → IfOk r (λ status. (printed : List ℕ) × (told : List ℕ) × Checks spells fails before (map (λ name. name.now) names) printed told status × Appends old new printed × Appends told_old told_new told)
one_more spells fails before found names rest first count end old grown new told_old told_new (Err e) parts same is line h = tt
one_more spells fails before found names rest first count end old grown new told_old told_new (Ok status) parts same (run, state, leads, counted, ends) line (printed, told, checks, out, err) =
    let others : Checks spells fails (Some (end_of run state)) (map (λ name. name.now) rest) printed told status = subst (λ (e : RunEnd). Checks spells fails (Some e) (map (λ name. name.now) rest) printed told status) ends checks in
    let first_is : IsRunIn spells before first.now run state = subst (λ (b : Option RunEnd). IsRunIn spells b first.now run state) same leads in
    let all : Checks spells fails before (map (λ name. name.now) (first ∷ rest)) (run_line count ++ printed) told status = inl (run, state, printed, first_is, ap (λ (n : ℕ). run_line n ++ printed) counted, others) in (
      run_line count ++ printed,
      told,
      subst (λ (ns : List (Bor (List ℕ))). Checks spells fails before (map (λ name. name.now) ns) (run_line count ++ printed) told status) (sym parts) all,
      Appends-trans old grown new (run_line count) printed line out,
      err,
    )
