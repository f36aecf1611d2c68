-- A checksum that is written into its field is good.
use Rattle.std.proofs.Common.{◌≡◌, ◌≢◌, ◌<◌, ◌≤◌, ◌-◌, ◌^◌, ℕ, List, [], ◌∷◌, Bool, true, false, ◌||◌, if◌then◌else◌, nat_eq, length, refl, sym, ap, ◌∙◌, arith}
use Rattle.std.proofs.Math.Bool.{or-true}
use Rattle.std.proofs.lemmas.Bool.{eqb-false, eq-eqb, ne_eqb}
use Rattle.internet_checksum.specs.OnesSums.{words_of, ones_sum}
use Rattle.internet_checksum.specs.Checksums.{checksum_field, with_checksum, without_zero, complement_of_sum, checksum_of, has_good_checksum}
use Rattle.internet_checksum.specs.ChecksumLaws.{ChecksumsCanBeSent, ChecksumsIgnoreTheirField, WrittenChecksumsAreGood}

without_zero-word : (n : ℕ) (none : Bool) → nat_eq n 0 ≡ none → n ≤ 65535 → (0 < (if none then 65535 else n)) × ((if none then 65535 else n) < 2 ^ 16)
without_zero-word n true is fits = (omega arith, omega arith)
without_zero-word n false is fits = let some = eqb-false n 0 is in (omega (arith, some), omega arith)

pub checksum_of-sent : ChecksumsCanBeSent
unfolding checksum_of
checksum_of-sent bytes =
    without_zero-word (complement_of_sum bytes) (nat_eq (complement_of_sum bytes) 0) refl (omega arith)

-- what is written last stands
pub with_checksum-again : (m n : ℕ) (bytes : List ℕ) → 4 ≤ length bytes → with_checksum m (with_checksum n bytes) ≡ with_checksum m bytes
with_checksum-again m n [] long = absurd (omega arith)
with_checksum-again m n (a ∷ []) long = absurd (omega arith)
with_checksum-again m n (a ∷ b ∷ []) long = absurd (omega arith)
with_checksum-again m n (a ∷ b ∷ c ∷ []) long = absurd (omega arith)
with_checksum-again m n (a ∷ b ∷ c ∷ d ∷ rest) long = refl

pub checksum_of-with_checksum : ChecksumsIgnoreTheirField
unfolding checksum_of
checksum_of-with_checksum bytes n long =
    ap (λ (zeroed : List ℕ). without_zero (65535 - ones_sum (words_of zeroed))) (with_checksum-again 0 n bytes long)

-- the field holds what was written
pub checksum_field-with_checksum : (n : ℕ) (bytes : List ℕ) → 4 ≤ length bytes → n < 2 ^ 16 → checksum_field (with_checksum n bytes) ≡ n
checksum_field-with_checksum n [] long fits = absurd (omega arith)
checksum_field-with_checksum n (a ∷ []) long fits = absurd (omega arith)
checksum_field-with_checksum n (a ∷ b ∷ []) long fits = absurd (omega arith)
checksum_field-with_checksum n (a ∷ b ∷ c ∷ []) long fits = absurd (omega arith)
checksum_field-with_checksum n (a ∷ b ∷ c ∷ d ∷ rest) long fits = omega arith

-- a field that holds the checksum is good
pub good_by_field : (bytes : List ℕ) → checksum_field bytes ≡ checksum_of bytes → has_good_checksum bytes ≡ true
unfolding has_good_checksum
good_by_field bytes is =
    ap (λ (right : Bool). nat_eq (checksum_field bytes) 0 || right) (eq-eqb (checksum_field bytes) (checksum_of bytes) is)
    ∙ or-true (nat_eq (checksum_field bytes) 0)

-- and a field that holds another number, not zero, is not
or_false : (none right : Bool) → none ≡ false → (none || right) ≡ right
or_false none right is = ap (λ (b : Bool). b || right) is

pub good_is_right : (bytes : List ℕ) → checksum_field bytes ≢ 0 → has_good_checksum bytes ≡ nat_eq (checksum_field bytes) (checksum_of bytes)
unfolding has_good_checksum
good_is_right bytes sent =
    or_false (nat_eq (checksum_field bytes) 0) (nat_eq (checksum_field bytes) (checksum_of bytes)) (ne_eqb (checksum_field bytes) 0 sent)

pub written_is_good : WrittenChecksumsAreGood
written_is_good bytes long =
    good_by_field (with_checksum (checksum_of bytes) bytes)
    (checksum_field-with_checksum (checksum_of bytes) bytes long (checksum_of-sent bytes).1
    ∙ sym (checksum_of-with_checksum bytes (checksum_of bytes) long))
