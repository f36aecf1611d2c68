-- A receiver can sum the whole message, its checksum with it.
use Rattle.std.proofs.Common.{◌≡◌, ◌≢◌, ◌<◌, ◌≤◌, ◌+◌, ◌-◌, ◌*◌, ◌%◌, ℕ, List, [], ◌∷◌, length, sum, sym, subst, ◌∙◌, arith}
use Rattle.std.specs.List.{All}
use Rattle.std.proofs.lemmas.Bool.{eqb-true}
use Rattle.std.proofs.lemmas.List.Sums.{sum_by-cons}
use Rattle.internet_checksum.specs.OnesSums.{words_of, ones_sum}
use Rattle.internet_checksum.specs.Checksums.{checksum_field, with_checksum, checksum_of}
use Rattle.internet_checksum.specs.ChecksumLaws.{GoodMessagesSumToOnes}
use Rattle.internet_checksum.proofs.ModularSums.{IsByte, IsFolded, ones_sum-folded, checksum_of-modular}
use Rattle.internet_checksum.proofs.WrittenFields.{good_by_field, good_is_right}

-- the field counts once
pub sum-field : (bytes : List ℕ) → 4 ≤ length bytes → sum (words_of bytes) ≡ sum (words_of (with_checksum 0 bytes)) + checksum_field bytes
sum-field [] long = absurd (omega arith)
sum-field (a ∷ []) long = absurd (omega arith)
sum-field (a ∷ b ∷ []) long = absurd (omega arith)
sum-field (a ∷ b ∷ c ∷ []) long = absurd (omega arith)
sum-field (a ∷ b ∷ c ∷ d ∷ rest) long =
    let ones : List ℕ → ℕ → Type 0 = λ words word. sum (word ∷ words) ≡ word + sum words in
    let cons : (words : List ℕ) (word : ℕ) → ones words word = λ words word. sum_by-cons (λ x. x) word words in
    omega (arith, cons ((c * 256 + d) ∷ words_of rest) (a * 256 + b), cons (words_of rest) (c * 256 + d), cons ((0 * 256 + 0) ∷ words_of rest) (a * 256 + b), cons (words_of rest) (0 * 256 + 0))

-- the field of bytes is a word
pub checksum_field-fits : (bytes : List ℕ) → 4 ≤ length bytes → All IsByte bytes → checksum_field bytes ≤ 65535
checksum_field-fits [] long fits = absurd (omega arith)
checksum_field-fits (a ∷ []) long fits = absurd (omega arith)
checksum_field-fits (a ∷ b ∷ []) long fits = absurd (omega arith)
checksum_field-fits (a ∷ b ∷ c ∷ []) long fits = absurd (omega arith)
checksum_field-fits (a ∷ b ∷ c ∷ d ∷ rest) long fits =
    let high : c < 256 = fits 2 0 (omega arith) in
    let low : d < 256 = fits 3 0 (omega arith) in
    omega arith

right_sums : (field total plain : ℕ) → field ≢ 0 → IsFolded total (plain + field) → field ≡ 65535 - plain % 65535 → total ≡ 65535
right_sums field total plain sent folded right =
    let same = folded.same in
    let word = folded.word in
    let some : total ≢ 0 = λ none. sent (let all = folded.zero none in omega arith) in
    omega arith

sums_right : (field total plain : ℕ) → field ≢ 0 → field ≤ 65535 → IsFolded total (plain + field) → total ≡ 65535 → field ≡ 65535 - plain % 65535
sums_right field total plain sent fits folded ones =
    let same = folded.same in
    omega arith

pub good_sums_to_ones : GoodMessagesSumToOnes
good_sums_to_ones bytes long fits sent =
    let plain = sum (words_of (with_checksum 0 bytes)) in
    let folded : IsFolded (ones_sum (words_of bytes)) (plain + checksum_field bytes) =
    subst (λ (n : ℕ). IsFolded (ones_sum (words_of bytes)) n) (sum-field bytes long) (ones_sum-folded bytes fits) in
    let modular = checksum_of-modular bytes fits in (
      λ good.
          right_sums (checksum_field bytes) (ones_sum (words_of bytes)) plain sent folded
          (eqb-true (checksum_field bytes) (checksum_of bytes) (sym (good_is_right bytes sent) ∙ good) ∙ modular),
      λ ones.
          good_by_field bytes
          (sums_right (checksum_field bytes) (ones_sum (words_of bytes)) plain sent (checksum_field-fits bytes long fits) folded ones
          ∙ sym modular),
    )
