-- What an output held stays before what is written to it.
use Rattle.std.proofs.Common.{◌≡◌, ◌++◌, ◌∙◌, ℕ, List, [], Option, Some, None, Result, Ok, Err, ap, append-nil, append_assoc, drop, length, refl, subst, sym, take}
use Rattle.std.proofs.KnownBytes.{starts_with_rest}
use Rattle.std.proofs.Math.Seq.{take-append_seam}
use Rattle.std.specs.Io.KnownBytes.{Appends, Keeps, WriteAppends}
use Rattle.lsr_tool.specs.Growing.{StaysBefore}

stays_itself : (held : Option (List ℕ)) → StaysBefore held held
stays_itself None = refl
stays_itself (Some xs) = ap (λ (l : List ℕ). Some l) (ap (take (length xs)) (sym (append-nil xs)) ∙ take-append_seam xs [])

-- at first
pub stays_first : (held now : Option (List ℕ)) → now ≡ held → StaysBefore held now
stays_first held now same = subst (StaysBefore held) (sym same) (stays_itself held)

-- where nothing is written
pub stays_kept : (held old new : Option (List ℕ)) → StaysBefore held old → Keeps old new → StaysBefore held new
stays_kept None old new stays kept = refl
stays_kept (Some xs) None new stays kept = absurd (let e = stays in cc)
stays_kept (Some xs) (Some ys) None stays kept = absurd kept
stays_kept (Some xs) (Some ys) (Some zs) stays kept = ap (λ l. Some (take (length xs) l)) kept ∙ stays

-- it begins with what was held
begins : (xs ys : List ℕ) → StaysBefore (Some xs) (Some ys) → ys ≡ xs ++ drop (length xs) ys
begins xs ys stays =
    let start : take (length xs) ys ≡ xs = let e = stays in cc in
    starts_with_rest ys xs start

-- where something is written
stays_appended : (held old new : Option (List ℕ)) (bs : List ℕ) → StaysBefore held old → Appends old new bs → StaysBefore held new
stays_appended None old new bs stays told = refl
stays_appended (Some xs) None new bs stays told = absurd (let e = stays in cc)
stays_appended (Some xs) (Some ys) None bs stays told = absurd told
stays_appended (Some xs) (Some ys) (Some zs) bs stays told =
    let more = drop (length xs) ys ++ bs in
    let parts : zs ≡ xs ++ more = told ∙ (ap (λ l. l ++ bs) (begins xs ys stays) ∙ append_assoc xs (drop (length xs) ys) bs) in
    ap (λ (l : List ℕ). Some l) (ap (take (length xs)) parts ∙ take-append_seam xs more)

-- after a write
pub stays_written : {E : Type 0} (held old new : Option (List ℕ)) (r : Result ℕ E) (buf : List ℕ) → StaysBefore held old → WriteAppends old new r buf → StaysBefore held new
stays_written held old new (Ok n) buf stays wrote = stays_appended held old new (take n buf) stays wrote
stays_written held old new (Err e) buf stays wrote = stays_kept held old new stays wrote

-- what is written after what others wrote
pub answers_before : (held mid new : Option (List ℕ)) (line : List ℕ) → StaysBefore held mid → Appends mid new line → (answers : List ℕ) × Appends held new (answers ++ line)
answers_before None mid new line stays told = ([], tt)
answers_before (Some xs) None new line stays told = absurd (let e = stays in cc)
answers_before (Some xs) (Some ys) None line stays told = absurd told
answers_before (Some xs) (Some ys) (Some zs) line stays told =
    (drop (length xs) ys, told ∙ (ap (λ l. l ++ line) (begins xs ys stays) ∙ append_assoc xs (drop (length xs) ys) line))
