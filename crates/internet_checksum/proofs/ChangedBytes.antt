-- A changed byte changes the sum by less than ffff, and so the checksum.
use Rattle.std.proofs.Common.{◌≡◌, ◌≢◌, ◌<◌, ◌+◌, ◌-◌, ◌*◌, ◌%◌, ◌⊎◌, ℕ, zero, suc, List, [], ◌∷◌, length, sum, get_or, set, inl, inr, refl, sym, ap, subst, ◌∙◌, arith}
use Rattle.std.specs.List.{All}
use Rattle.std.proofs.lemmas.Bool.{eqb-true, ne_eqb}
use Rattle.std.proofs.lemmas.List.Elements.{All-set}
use Rattle.std.proofs.lemmas.List.Sums.{sum_by-cons}
use Rattle.internet_checksum.specs.OnesSums.{words_of}
use Rattle.internet_checksum.specs.Checksums.{checksum_field, with_checksum, checksum_of}
use Rattle.internet_checksum.specs.ChecksumLaws.{ChangesAreSeen, ChangesAreRefused}
use Rattle.internet_checksum.proofs.ModularSums.{IsByte, checksum_of-modular}
use Rattle.internet_checksum.proofs.WrittenFields.{good_is_right}

-- what a byte counts for at its place: the first of a word 256 times, the second once
worth : ℕ → ℕ
worth zero = 256
worth (suc zero) = 1
worth (suc (suc i)) = worth i

worth-cases : (i : ℕ) → (worth i ≡ 256) ⊎ (worth i ≡ 1)
unfolding worth
worth-cases zero = inl refl
worth-cases (suc zero) = inr refl
worth-cases (suc (suc i)) = worth-cases i

cons : (word : ℕ) (words : List ℕ) → sum (word ∷ words) ≡ word + sum words
cons word words = sum_by-cons (λ x. x) word words

-- the sum changes by the worth of the change
sum-set : (bytes : List ℕ) (i byte : ℕ) → i < length bytes
    → sum (words_of (set bytes i byte)) + worth i * get_or bytes i 0 ≡ sum (words_of bytes) + worth i * byte
unfolding worth
sum-set [] i byte within = absurd (omega arith)
sum-set (last ∷ []) zero byte within = omega (arith, cons (last * 256) [], cons (byte * 256) [])
sum-set (last ∷ []) (suc i) byte within = absurd (omega arith)
sum-set (high ∷ low ∷ rest) zero byte within =
    omega (arith, cons (high * 256 + low) (words_of rest), cons (byte * 256 + low) (words_of rest))
sum-set (high ∷ low ∷ rest) (suc zero) byte within =
    omega (arith, cons (high * 256 + low) (words_of rest), cons (high * 256 + byte) (words_of rest))
sum-set (high ∷ low ∷ rest) (suc (suc i)) byte within =
    omega (arith, sum-set rest i byte (omega arith), cons (high * 256 + low) (words_of rest), cons (high * 256 + low) (words_of (set rest i byte)))

-- a change outside of the field is there with the field at zero too
record IsOutside (bytes : List ℕ) (i byte : ℕ) : Type 0 where
  zeroed : with_checksum 0 (set bytes i byte) ≡ set (with_checksum 0 bytes) i byte
  within : i < length (with_checksum 0 bytes)
  same : get_or (with_checksum 0 bytes) i 0 ≡ get_or bytes i 0
  field : checksum_field (set bytes i byte) ≡ checksum_field bytes

is_outside : (bytes : List ℕ) (i byte : ℕ) → i < length bytes → i ≢ 2 → i ≢ 3 → IsOutside bytes i byte
is_outside [] i byte within not_high not_low = absurd (omega arith)
is_outside (a ∷ bytes) zero byte within not_high not_low =
    record { zeroed = refl; within = omega arith; same = refl; field = refl }
is_outside (a ∷ []) (suc i) byte within not_high not_low = absurd (omega arith)
is_outside (a ∷ b ∷ bytes) (suc zero) byte within not_high not_low =
    record { zeroed = refl; within = omega arith; same = refl; field = refl }
is_outside (a ∷ b ∷ []) (suc (suc i)) byte within not_high not_low = absurd (omega arith)
is_outside (a ∷ b ∷ c ∷ bytes) (suc (suc zero)) byte within not_high not_low = absurd (not_high refl)
is_outside (a ∷ b ∷ c ∷ []) (suc (suc (suc i))) byte within not_high not_low = absurd (omega arith)
is_outside (a ∷ b ∷ c ∷ d ∷ bytes) (suc (suc (suc zero))) byte within not_high not_low = absurd (not_low refl)
is_outside (a ∷ b ∷ c ∷ d ∷ bytes) (suc (suc (suc (suc i)))) byte within not_high not_low =
    record { zeroed = refl; within = omega arith; same = refl; field = refl }

-- a change by less than ffff, of the worth of a byte, leaves no sum as it is modulo ffff
changed_sum : (worth old byte before after : ℕ) → (worth ≡ 256) ⊎ (worth ≡ 1) → old < 256 → byte < 256 → byte ≢ old
    → after + worth * old ≡ before + worth * byte → 65535 - after % 65535 ≡ 65535 - before % 65535 → ⊥
changed_sum worth old byte before after (inl is) fits fits' differs change same =
    let change' : after + 256 * old ≡ before + 256 * byte = subst (λ (w : ℕ). after + w * old ≡ before + w * byte) is change in
    omega arith
changed_sum worth old byte before after (inr is) fits fits' differs change same =
    let change' : after + 1 * old ≡ before + 1 * byte = subst (λ (w : ℕ). after + w * old ≡ before + w * byte) is change in
    omega arith

set-seen : (bytes : List ℕ) (i byte : ℕ) → All IsByte bytes → i < length bytes → i ≢ 2 → i ≢ 3 → byte < 256 → byte ≢ get_or bytes i 0
    → checksum_of (set bytes i byte) ≢ checksum_of bytes
set-seen bytes i byte fits within not_high not_low fits' differs same =
    let outside = is_outside bytes i byte within not_high not_low in
    let before = sum (words_of (with_checksum 0 bytes)) in
    let after = sum (words_of (with_checksum 0 (set bytes i byte))) in
    let change : after + worth i * get_or bytes i 0 ≡ before + worth i * byte =
    rw (outside.zeroed, ← outside.same) (sum-set (with_checksum 0 bytes) i byte outside.within) in
    changed_sum (worth i) (get_or bytes i 0) byte before after (worth-cases i) (fits i 0 within) fits' differs change
    (sym (checksum_of-modular (set bytes i byte) (All-set IsByte bytes i byte fits' fits)) ∙ (same ∙ checksum_of-modular bytes fits))

pub changes_are_seen : ChangesAreSeen
changes_are_seen old new fits change =
    subst (λ (n : List ℕ). checksum_of n ≢ checksum_of old) (sym change.changed)
    (set-seen old change.place change.byte fits change.within change.outside.0 change.outside.1 change.fits change.differs)

pub changes_are_refused : ChangesAreRefused
changes_are_refused old new fits sent good change =
    let outside = is_outside old change.place change.byte change.within change.outside.0 change.outside.1 in
    let field : checksum_field new ≡ checksum_field old = ap checksum_field change.changed ∙ outside.field in
    let right : checksum_field old ≡ checksum_of old =
    eqb-true (checksum_field old) (checksum_of old) (sym (good_is_right old sent) ∙ good) in
    good_is_right new (λ none. sent (sym field ∙ none))
    ∙ ne_eqb (checksum_field new) (checksum_of new)
    (λ same. changes_are_seen old new fits change (sym same ∙ (field ∙ right)))
