-- What is read in the first format.
use Rattle.std.proofs.Common.{◌≡◌, ◌<◌, ◌≤◌, ◌++◌, ◌∷◌, [], ℕ, Bool, true, false, ◌&&◌, ◌==◌, List, length, take, drop, Result, Ok, Err, refl, sym, ap, subst, get_or, ◌∙◌, arith, append-nil, length-append, if◌then◌else◌, ◌+◌}
use Rattle.std.proofs.Math.Seq.{drop-append_seam, take-append_seam}
use Rattle.std.specs.Borrow.{Bor}
use Rattle.field_bytes.specs.NumberLaws.{heads_and_rests}
use Rattle.field_bytes.specs.Spelling.{Answers, IsOne}
use Rattle.field_bytes.specs.declared.fault.ReadFault.{ReadFault}
use Rattle.field_bytes.specs.declared.fault.ReadFault.TheVariants as faults
use Rattle.field_bytes.specs.Wholes.{ReadsWhole}
use Rattle.journal_files.specs.FirstFormat.{FitsFirst, HaveCodes, StandsSo, begins_so, first_text, is_add_bypass, no_capacity, not_there, others_stay, whole_again}

-- ---- the first format

-- what begins with such a command is one
so_begun : (bytes text rest : List ℕ) → bytes ≡ text ++ rest → is_add_bypass text ≡ true → is_add_bypass bytes ≡ true
so_begun bytes text rest e is =
    let b = begins_so text is in
    ap is_add_bypass (e ∙ (λ i. b.1 i ++ rest))

-- where no such command stands it is read as ever
pub others_read : (Fits : List ℕ → Type 0) (spelling : List ℕ → List ℕ) → StandsSo Fits spelling → (bytes : List ℕ) → is_add_bypass bytes ≡ false → (result : Result (List ℕ × Bor (List ℕ)) ReadFault) →
    Answers Fits spelling bytes result → Answers (FitsFirst Fits) first_text bytes result
others_read Fits spelling stands bytes none (Ok read) is =
    let e : bytes ≡ read.0 ++ read.1.now = is.0 ∙ ap (λ (v : List ℕ). v ++ read.1.now) (stands read.0 is.1) in
    let other : is_add_bypass read.0 ≡ true → ⊥ = λ h. (let k : false ≡ true = sym none ∙ so_begun bytes read.0 read.1.now e h in cc) in
    (e ∙ ap (λ (v : List ℕ). v ++ read.1.now) (sym (others_stay read.0 (is_false (is_add_bypass read.0) other))), record { is_text = is.1; plain = λ h. absurd (other h) }) where
      is_false : (b : Bool) → (b ≡ true → ⊥) → b ≡ false
      is_false true h = absurd (h refl)
      is_false false h = refl
others_read Fits spelling stands bytes none (Err faults.Memory) is = tt
others_read Fits spelling stands bytes none (Err faults.Format) is = λ text rest fits e. by_case text rest fits e (is_add_bypass text) refl where
  by_case : (text rest : List ℕ) → FitsFirst Fits text → bytes ≡ first_text text ++ rest → (b : Bool) → is_add_bypass text ≡ b → ⊥
  by_case text rest fits e true b =
      let w = whole_again Fits text fits b in
      let g = begins_so text b in
      let f : bytes ≡ 8 ∷ 5 ∷ (take 6 g.0 ++ rest) = e ∙ (ap (λ (v : List ℕ). v ++ rest) w.0 ∙ (λ i. take 8 (g.1 i) ++ rest)) in
      let k : false ≡ true = sym none ∙ ap is_add_bypass f in cc
  by_case text rest fits e false b =
      is text rest fits.is_text (e ∙ ap (λ (v : List ℕ). v ++ rest) (others_stay text b ∙ sym (stands text fits.is_text)))

-- a command that is cut off is none
pub cut_short : (Fits : List ℕ → Type 0) → HaveCodes Fits → (bytes : List ℕ) → is_add_bypass bytes ≡ true → length bytes < 8 → (text rest : List ℕ) → FitsFirst Fits text → bytes ≡ first_text text ++ rest → ⊥
cut_short Fits codes bytes is short text rest fits e = by_case (is_add_bypass text) refl where
  by_case : (b : Bool) → is_add_bypass text ≡ b → ⊥
  by_case true b =
      let w = whole_again Fits text fits b in
      let f : bytes ≡ take 8 text ++ rest = e ∙ ap (λ (v : List ℕ). v ++ rest) w.0 in
      let sum : length bytes ≡ length (take 8 text) + length rest = ap length f ∙ length-append (take 8 text) rest in
      absurd (omega (arith, sum, w.2, short))
  by_case false b =
      let g = begins_so bytes is in
      not_there Fits codes text rest g.0 fits.is_text b (sym (e ∙ ap (λ (v : List ℕ). v ++ rest) (others_stay text b)) ∙ g.1)

-- what isn't read with a capacity of 0 after it is none
pub head_unread : (Fits : List ℕ → Type 0) (spelling : List ℕ → List ℕ) → StandsSo Fits spelling → HaveCodes Fits → (bytes head after : List ℕ) → is_add_bypass bytes ≡ true → length head ≡ 8 → bytes ≡ head ++ after → (fault : ReadFault) →
    ReadsWhole Fits spelling (head ++ no_capacity) (Err fault) → Answers (FitsFirst Fits) first_text bytes (Err fault)
head_unread Fits spelling stands codes bytes head after is len parts faults.Memory none = tt
head_unread Fits spelling stands codes bytes head after is len parts faults.Format none = λ text rest fits e. by_case text rest fits e (is_add_bypass text) refl where
  by_case : (text rest : List ℕ) → FitsFirst Fits text → bytes ≡ first_text text ++ rest → (b : Bool) → is_add_bypass text ≡ b → ⊥
  by_case text rest fits e true b =
      let w = whole_again Fits text fits b in
      let f : take 8 text ++ rest ≡ head ++ after = ap (λ (v : List ℕ). v ++ rest) (sym w.0) ∙ (sym e ∙ parts) in
      let same = heads_and_rests (take 8 text) head rest after (w.2 ∙ sym len) f in
      let whole : text ≡ head ++ no_capacity = w.1 ∙ ap (λ (v : List ℕ). v ++ no_capacity) same.0 in
      none text fits.is_text (sym whole ∙ sym (stands text fits.is_text))
  by_case text rest fits e false b =
      let g = begins_so bytes is in
      not_there Fits codes text rest g.0 fits.is_text b (sym (e ∙ ap (λ (v : List ℕ). v ++ rest) (others_stay text b)) ∙ g.1)

-- and what is is
pub head_read : (Fits : List ℕ → Type 0) (spelling : List ℕ → List ℕ) → StandsSo Fits spelling → (bytes head after text : List ℕ) → is_add_bypass bytes ≡ true → length head ≡ 8 → bytes ≡ head ++ after →
    ReadsWhole Fits spelling (head ++ no_capacity) (Ok text) → (bytes ≡ first_text text ++ after) × FitsFirst Fits text
head_read Fits spelling stands bytes head after text is len parts reads =
    let fits : Fits text = reads.1 in
    let same : text ≡ head ++ no_capacity = sym (reads.0 ∙ stands text fits) in
    let cut : take 8 text ≡ head = ap (take 8) same ∙ ((λ i. take (sym len i) (head ++ no_capacity)) ∙ take-append_seam head no_capacity) in
    let left : drop 8 text ≡ no_capacity = ap (drop 8) same ∙ ((λ i. drop (sym len i) (head ++ no_capacity)) ∙ drop-append_seam head no_capacity) in
    let begun : is_add_bypass text ≡ true = ap is_add_bypass same ∙ (two_bytes head no_capacity (omega (arith, len)) ∙ (sym (two_bytes head after (omega (arith, len))) ∙ (sym (ap is_add_bypass parts) ∙ is))) in (
      parts ∙ ap (λ (v : List ℕ). v ++ after) (sym cut ∙ sym (ap (λ (b : Bool). if b then take 8 text else text) begun)),
      record { is_text = fits; plain = λ _. left },
    ) where
      two_bytes : (head after : List ℕ) → 2 ≤ length head → is_add_bypass (head ++ after) ≡ is_add_bypass head
      two_bytes [] after long = absurd (omega (arith, long))
      two_bytes (a ∷ []) after long = absurd (omega (arith, long))
      two_bytes (a ∷ b ∷ more) after long = refl
