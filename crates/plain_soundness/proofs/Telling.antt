-- Answers about rows, and what they mean.
use Rattle.std.specs.Prelude.{◌≡◌, ◌↔◌, ◌<◌, ◌+◌, ℕ, suc, Bool, true, List, ◌∷◌, length, drop}
use Rattle.std.specs.List.{AllByRecursion}
use Rattle.std.proofs.Common.{get_or, ap, sym, subst, ◌∙◌, add-one, drop-cons}
use Rattle.sorted_rows.specs.Rows.{keys_of}

-- what is told of rows two by two, where they are those of a list
pub told_of_pairs : {A : Type 0} (P : A → A → Type 0) (b : Bool) (rows all : List A) (X : Type 0) → rows ≡ all → ((b ≡ true) ↔ AllByRecursion (λ row. AllByRecursion (P row) rows) rows) → (AllByRecursion (λ row. AllByRecursion (P row) all) all ↔ X) → (b ≡ true) ↔ X
told_of_pairs {A} P b rows all X is answer means =
    let each : List A → Type 0 = λ list. AllByRecursion (λ row. AllByRecursion (P row) list) list in
    (λ passes. means.0 (subst each is (answer.0 passes)), λ x. answer.1 (subst each (sym is) (means.1 x)))

-- the key at a place, and those behind it
pub key_at : {K V : Type 0} (rows : List (K × V)) (i : ℕ) (row : K × V) → i < length rows → row ≡ get_or rows i row → keys_of (drop i rows) ≡ row.0 ∷ keys_of (drop (i + 1) rows)
key_at rows i row within is =
    let at : drop i rows ≡ row ∷ drop (i + 1) rows = rw add-one (drop-cons rows i row within ∙ ap (λ r. r ∷ drop (suc i) rows) (sym is)) in
    ap keys_of at

-- rows that stand under the same key do so just where those behind them do
pub same_key : {K V W X : Type 0} (rows : List (K × V)) (others : List (K × W)) (i : ℕ) (row : K × V) (other : K × W) → i < length rows → i < length others → row ≡ get_or rows i row → other ≡ get_or others i other → (get_or rows i row).0 ≡ (get_or others i other).0 → ((keys_of (drop i rows) ≡ keys_of (drop i others)) ↔ X) → (keys_of (drop (i + 1) rows) ≡ keys_of (drop (i + 1) others)) ↔ X
same_key {K} {V} {W} rows others i row other p q is are same means =
    let first = key_at rows i row p is in
    let second = key_at others i other q are in
    let tied : row.0 ≡ other.0 = ap (λ (r : K × V). r.0) is ∙ same ∙ sym (ap (λ (r : K × W). r.0) are) in
    (λ e. means.0 (first ∙ ap (λ k. k ∷ keys_of (drop (i + 1) rows)) tied ∙ ap (λ ks. other.0 ∷ ks) e ∙ sym second), λ x. let e = means.1 x in cc)

-- and those under another don't
pub other_key : {K V W X : Type 0} (rows : List (K × V)) (others : List (K × W)) (i : ℕ) (row : K × V) (other : K × W) → i < length rows → i < length others → row ≡ get_or rows i row → other ≡ get_or others i other → ((get_or rows i row).0 ≡ (get_or others i other).0 → ⊥) → ((keys_of (drop i rows) ≡ keys_of (drop i others)) ↔ X) → X → ⊥
other_key {K} {V} {W} rows others i row other p q is are differ means x =
    let first = key_at rows i row p is in
    let second = key_at others i other q are in
    let e = means.1 x in
    let tied : row.0 ≡ other.0 = cc in
    differ (sym (ap (λ (r : K × V). r.0) is) ∙ tied ∙ ap (λ (r : K × W). r.0) are)

-- what is told of keys, where they are those of others
pub told_of_keys : {I : Type 0} (b : Bool) (keys sent wanted items : List I) → keys ≡ sent → wanted ≡ items → ((b ≡ true) ↔ (keys ≡ wanted)) → (b ≡ true) ↔ (sent ≡ items)
told_of_keys {I} b keys sent wanted items p q means =
    subst (λ (list : List I). (b ≡ true) ↔ (sent ≡ list)) q (subst (λ (list : List I). (b ≡ true) ↔ (list ≡ wanted)) p means)
