-- The words of a wide sum come to what they come to one by one.
use Rattle.std.proofs.Common.{◌≡◌, ◌≢◌, ◌<◌, ◌≤◌, ◌+◌, ◌-◌, ◌*◌, ◌%◌, ◌^◌, ℕ, List, [], ◌∷◌, Bool, true, false, if◌then◌else◌, nat_eq, length, get_or, drop, fold, refl, ap, ◌∙◌, arith}
use Rattle.byteorder.specs.Endian.{big_number}
use Rattle.std.proofs.lemmas.Bool.{eqb-true, eqb-false}
use Rattle.internet_checksum.specs.OnesSums.{ones_add, words_of}
use Rattle.internet_checksum.specs.WideSums.{add_wide, narrowed}

-- the word is the number modulo ffff, and 0 for 0 alone
record IsNarrowed (word number : ℕ) : Type 0 where
  fits : word ≤ 65535
  same : word % 65535 ≡ number % 65535
  zero : word ≡ 0 → number ≡ 0
  none : number ≡ 0 → word ≡ 0

one_word : (a b number : ℕ) → IsNarrowed a number → IsNarrowed b number → a ≡ b
one_word a b number p q =
    let a_fits = p.fits in let a_same = p.same in let b_fits = q.fits in let b_same = q.same in
    split (nat_eq number 0) refl
  where
    split : (is : Bool) → nat_eq number 0 ≡ is → a ≡ b
    split true is =
        let nothing : number ≡ 0 = eqb-true number 0 is in
        let a_none : a ≡ 0 = p.none nothing in
        let b_none : b ≡ 0 = q.none nothing in
        omega arith
    split false is =
        let some = eqb-false number 0 is in
        let a_some : a ≢ 0 = λ e. some (p.zero e) in
        let b_some : b ≢ 0 = λ e. some (q.zero e) in
        omega arith

narrowed_is : (number : ℕ) (is : Bool) → nat_eq number 0 ≡ is → IsNarrowed (if is then 0 else (number - 1) % 65535 + 1) number
narrowed_is number true is =
    let nothing : number ≡ 0 = eqb-true number 0 is in
    record { fits = omega arith; same = omega arith; zero = λ _. nothing; none = λ _. refl }
narrowed_is number false is =
    let some = eqb-false number 0 is in
    record { fits = omega arith; same = omega (arith, some); zero = λ e. absurd (omega arith); none = λ e. absurd (some e) }

one_more : (word number more : ℕ) → more ≤ 65535 → IsNarrowed word number → IsNarrowed (ones_add word more) (number + more)
one_more word number more fits p =
    let word_fits = p.fits in
    let same = p.same in
    record {
      fits = omega arith;
      same = omega arith;
      zero = λ e. let before : number ≡ 0 = p.zero (omega arith) in omega arith;
      none = λ e. let before : word ≡ 0 = p.none (omega arith) in omega arith;
    }

-- four words as one number
abbrev four : ℕ → ℕ → ℕ → ℕ → ℕ
four a b c d = a * 2 ^ 48 + b * 2 ^ 32 + c * 2 ^ 16 + d

wide_same : (total a b c d : ℕ) → total < 2 ^ 64 → a ≤ 65535 → b ≤ 65535 → c ≤ 65535 → d ≤ 65535 → add_wide total (four a b c d) % 65535 ≡ (total + a + b + c + d) % 65535
wide_same total a b c d wide fits_a fits_b fits_c fits_d = omega arith

wide_none : (total a b c d : ℕ) → add_wide total (four a b c d) ≡ 0 → total + a + b + c + d ≡ 0
wide_none total a b c d none = omega arith

wide_zero : (total a b c d : ℕ) → total + a + b + c + d ≡ 0 → add_wide total (four a b c d) ≡ 0
wide_zero total a b c d none = omega arith

wide : (word total a b c d : ℕ) → total < 2 ^ 64 → a ≤ 65535 → b ≤ 65535 → c ≤ 65535 → d ≤ 65535 → IsNarrowed word (total + a + b + c + d) → IsNarrowed word (add_wide total (four a b c d))
wide word total a b c d fits fits_a fits_b fits_c fits_d p = record {
  fits = p.fits;
  same = let same = p.same in omega (arith, wide_same total a b c d fits fits_a fits_b fits_c fits_d);
  zero = λ e. wide_zero total a b c d (p.zero e);
  none = λ e. p.none (wide_none total a b c d e);
}

-- a word stands for itself
pub narrowed_word : (word : ℕ) → word ≤ 65535 → narrowed word ≡ word
narrowed_word word fits =
    one_word (narrowed word) word word (narrowed_is word (nat_eq word 0) refl)
    (record { fits = fits; same = refl; zero = λ e. e; none = λ e. e })

-- four words that are added as one number
narrowed_wide : (total a b c d : ℕ) → total < 2 ^ 64 → a ≤ 65535 → b ≤ 65535 → c ≤ 65535 → d ≤ 65535
    → narrowed (add_wide total (a * 2 ^ 48 + b * 2 ^ 32 + c * 2 ^ 16 + d)) ≡ ones_add (ones_add (ones_add (ones_add (narrowed total) a) b) c) d
narrowed_wide total a b c d fits fits_a fits_b fits_c fits_d =
    let start = narrowed_is total (nat_eq total 0) refl in
    let each =
    one_more _ (total + a + b + c) d fits_d
    (one_more _ (total + a + b) c fits_c (one_more _ (total + a) b fits_b (one_more (narrowed total) total a fits_a start))) in
    let sum = add_wide total (four a b c d) in
    one_word (narrowed sum) _ sum (narrowed_is sum (nat_eq sum 0) refl) (wide _ total a b c d fits fits_a fits_b fits_c fits_d each)

-- eight bytes, which are four words
pub eight : (total number : ℕ) (bytes : List ℕ) → 8 ≤ length bytes → total < 2 ^ 64 → ((i : ℕ) → get_or bytes i 0 < 256) → number ≡ big_number 8 bytes
    → fold ones_add (narrowed (add_wide total number)) (words_of (drop 8 bytes)) ≡ fold ones_add (narrowed total) (words_of bytes)
eight total number [] long fits bytes is = absurd (omega arith)
eight total number (a ∷ []) long fits bytes is = absurd (omega arith)
eight total number (a ∷ b ∷ []) long fits bytes is = absurd (omega arith)
eight total number (a ∷ b ∷ c ∷ []) long fits bytes is = absurd (omega arith)
eight total number (a ∷ b ∷ c ∷ d ∷ []) long fits bytes is = absurd (omega arith)
eight total number (a ∷ b ∷ c ∷ d ∷ e ∷ []) long fits bytes is = absurd (omega arith)
eight total number (a ∷ b ∷ c ∷ d ∷ e ∷ f ∷ []) long fits bytes is = absurd (omega arith)
eight total number (a ∷ b ∷ c ∷ d ∷ e ∷ f ∷ g ∷ []) long fits bytes is = absurd (omega arith)
eight total number (a ∷ b ∷ c ∷ d ∷ e ∷ f ∷ g ∷ h ∷ bytes) long fits small is =
    let a_small : a < 256 = small 0 in
    let b_small : b < 256 = small 1 in
    let c_small : c < 256 = small 2 in
    let d_small : d < 256 = small 3 in
    let e_small : e < 256 = small 4 in
    let f_small : f < 256 = small 5 in
    let g_small : g < 256 = small 6 in
    let h_small : h < 256 = small 7 in
    let words : number ≡ (a * 256 + b) * 2 ^ 48 + (c * 256 + d) * 2 ^ 32 + (e * 256 + f) * 2 ^ 16 + (g * 256 + h) = omega arith in
    let same = narrowed_wide total (a * 256 + b) (c * 256 + d) (e * 256 + f) (g * 256 + h) fits (omega arith) (omega arith) (omega arith) (omega arith) in
    ap (λ (start : ℕ). fold ones_add start (words_of bytes)) (ap (λ (n : ℕ). narrowed (add_wide total n)) words ∙ same)
