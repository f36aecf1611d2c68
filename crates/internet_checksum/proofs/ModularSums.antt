-- One's complement sums are sums modulo ffff.
use Rattle.std.proofs.Common.{◌≡◌, ◌<◌, ◌≤◌, ◌+◌, ◌-◌, ◌*◌, ◌%◌, ℕ, List, [], ◌∷◌, Bool, true, false, if◌then◌else◌, nat_eq, take, drop, fold, sum, refl, subst, zero-add, arith}
use Rattle.std.specs.List.{All}
use Rattle.std.proofs.lemmas.Bool.{eqb-true, eqb-false}
use Rattle.std.proofs.lemmas.List.Elements.{All-nil, All-cons, All-head, All-tail, All-take, All-drop, All-append}
use Rattle.std.proofs.lemmas.List.Sums.{sum_by-cons}
use Rattle.internet_checksum.specs.OnesSums.{words_of, ones_add, ones_sum}
use Rattle.internet_checksum.specs.Checksums.{with_checksum, checksum_of}
use Rattle.internet_checksum.specs.ChecksumLaws.{ChecksumsAreModular}

abbrev pub IsByte : ℕ → Type 0
IsByte b = b < 256

abbrev pub IsWord : ℕ → Type 0
IsWord w = w ≤ 65535

-- a sum with the carries added back, and the same without them
pub record IsFolded (total plain : ℕ) : Type 0 where
  pub word : total ≤ 65535
  pub same : total % 65535 ≡ plain % 65535
  pub zero : total ≡ 0 → plain ≡ 0

-- two words
ones_add-folded : (a b plain : ℕ) → a ≤ 65535 → b ≤ 65535 → IsFolded a plain → IsFolded (ones_add a b) (plain + b)
ones_add-folded a b plain fits fits' folded = record {
  word = omega arith;
  same = let same = folded.same in omega arith;
  zero = λ none. let before : plain ≡ 0 = folded.zero (omega arith) in omega arith;
}

-- a list of words
pub fold-folded : (start plain : ℕ) (words : List ℕ) → IsFolded start plain → All IsWord words → IsFolded (fold ones_add start words) (plain + sum words)
fold-folded start plain [] folded fits =
    let total : plain ≡ plain + 0 = omega arith in
    subst (λ (p : ℕ). IsFolded start p) total folded
fold-folded start plain (word ∷ words) folded fits =
    let here = ones_add-folded start word plain folded.word (All-head IsWord word words fits) folded in
    let all = fold-folded (ones_add start word) (plain + word) words here (All-tail IsWord word words fits) in
    let total : plain + word + sum words ≡ plain + sum (word ∷ words) = omega (arith, sum_by-cons (λ x. x) word words) in
    subst (λ (p : ℕ). IsFolded (fold ones_add start (word ∷ words)) p) total all

-- bytes make words
pub words_of-fit : (bytes : List ℕ) → All IsByte bytes → All IsWord (words_of bytes)
words_of-fit [] fits = All-nil IsWord
words_of-fit (last ∷ []) fits =
    let byte = All-head IsByte last [] fits in
    All-cons IsWord (last * 256) [] (omega arith) (All-nil IsWord)
words_of-fit (high ∷ low ∷ rest) fits =
    let byte = All-head IsByte high (low ∷ rest) fits in
    let tail = All-tail IsByte high (low ∷ rest) fits in
    let byte' = All-head IsByte low rest tail in
    All-cons IsWord (high * 256 + low) (words_of rest) (omega arith) (words_of-fit rest (All-tail IsByte low rest tail))

-- the sum of bytes
pub ones_sum-folded : (bytes : List ℕ) → All IsByte bytes → IsFolded (ones_sum (words_of bytes)) (sum (words_of bytes))
ones_sum-folded bytes fits =
    subst (λ (n : ℕ). IsFolded (ones_sum (words_of bytes)) n) (zero-add (sum (words_of bytes)))
    (fold-folded 0 0 (words_of bytes) (record { word = omega arith; same = refl; zero = λ e. e }) (words_of-fit bytes fits))

-- the field at zero leaves bytes
pub with_checksum-bytes : (bytes : List ℕ) → All IsByte bytes → All IsByte (with_checksum 0 bytes)
with_checksum-bytes bytes fits =
    All-append IsByte (take 2 bytes) (0 ∷ 0 ∷ drop 4 bytes) (All-take IsByte 2 bytes fits)
    (All-cons IsByte 0 (0 ∷ drop 4 bytes) (omega arith) (All-cons IsByte 0 (drop 4 bytes) (omega arith) (All-drop IsByte 4 bytes fits)))

-- a zero is written as the other zero
without_zero-modular : (total plain : ℕ) (none : Bool) → nat_eq (65535 - total) 0 ≡ none → total ≤ 65535 → total % 65535 ≡ plain % 65535
    → (if none then 65535 else 65535 - total) ≡ 65535 - plain % 65535
without_zero-modular total plain true is fits same =
    let all : 65535 - total ≡ 0 = eqb-true (65535 - total) 0 is in
    omega arith
without_zero-modular total plain false is fits same =
    let some = eqb-false (65535 - total) 0 is in
    omega (arith, some)

pub checksum_of-modular : ChecksumsAreModular
unfolding checksum_of
checksum_of-modular bytes fits =
    let zeroed = with_checksum 0 bytes in
    let folded = ones_sum-folded zeroed (with_checksum-bytes bytes fits) in
    without_zero-modular (ones_sum (words_of zeroed)) (sum (words_of zeroed)) (nat_eq (65535 - ones_sum (words_of zeroed)) 0) refl folded.word folded.same
