-- No bytes begin with two lists.
use Rattle.std.specs.Prelude.{◌≡◌, ◌<◌, ◌++◌, List, [], ◌∷◌, ℕ, length, Err, refl}
use Rattle.std.specs.Int.{to_be_bytes, w32}
use Rattle.std.specs.List.{AllByRecursion, flat_map}
use Rattle.std.proofs.Common.{sym, ◌∙◌, ap, append_assoc, arith}
use Rattle.field_bytes.specs.NumberLaws.{heads_and_rests, one_word}
use Rattle.std.proofs.lemmas.List.{flat_map_more}
use Rattle.field_bytes.specs.Spelling.{Answers, IsCountable, IsOne, ItemsFit, ListFits, list_bytes, octet_bytes}
use Rattle.field_bytes.specs.declared.fault.ReadFault.{ReadFault}
use Rattle.field_bytes.specs.declared.fault.ReadFault.TheVariants as faults

pub one_octets : IsOne {V = List ℕ} (λ bytes. IsCountable bytes) octet_bytes
one_octets xs ys r s p q e =
    let count = one_word (length xs) (length ys) (xs ++ r) (ys ++ s) p q
    (sym (append_assoc (to_be_bytes w32 (length xs)) xs r) ∙ (e ∙ append_assoc (to_be_bytes w32 (length ys)) ys s)) in
    heads_and_rests xs ys r s count.0 count.1

-- as many items one after the other
pub one_items : {V : Type 0} (Fits : V → Type 0) (spelling : V → List ℕ) → IsOne Fits spelling →
    (xs ys : List V) (r s : List ℕ) → length xs ≡ length ys → AllByRecursion Fits xs → AllByRecursion Fits ys →
    flat_map spelling xs ++ r ≡ flat_map spelling ys ++ s → (xs ≡ ys) × (r ≡ s)
one_items Fits spelling own [] [] r s n p q e = (refl, e)
one_items Fits spelling own (x ∷ xs) [] r s n p q e = absurd (omega (arith, n))
one_items Fits spelling own [] (y ∷ ys) r s n p q e = absurd (omega (arith, n))
one_items Fits spelling own (x ∷ xs) (y ∷ ys) r s n p q e =
    let first = own x y (flat_map spelling xs ++ r) (flat_map spelling ys ++ s) p.0 q.0
    (sym (append_assoc (spelling x) (flat_map spelling xs) r) ∙ (e ∙ append_assoc (spelling y) (flat_map spelling ys) s)) in
    let m : length xs ≡ length ys = omega (arith, n) in
    let others = one_items Fits spelling own xs ys r s m p.1 q.1 first.1 in
    ((λ i. first.0 i ∷ others.0 i), others.1)

pub one_list : {V : Type 0} (Fits : V → Type 0) (spelling : V → List ℕ) → IsOne Fits spelling → IsOne (ListFits Fits) (list_bytes spelling)
one_list Fits spelling own xs ys r s p q e =
    let count = one_word (length xs) (length ys) (flat_map spelling xs ++ r) (flat_map spelling ys ++ s) p.0 q.0
    (sym (append_assoc (to_be_bytes w32 (length xs)) (flat_map spelling xs) r) ∙ (e ∙ append_assoc (to_be_bytes w32 (length ys)) (flat_map spelling ys) s)) in
    one_items Fits spelling own xs ys r s count.0 p.1 q.1 count.1

-- Where more items are spelled than were read so far, the next one stands at the head of what is left.
pub next_item : {V : Type 0} (Fits : V → Type 0) (spelling : V → List ℕ) → IsOne Fits spelling →
    (read all : List V) (left behind : List ℕ) → length read < length all → AllByRecursion Fits read → AllByRecursion Fits all →
    flat_map spelling read ++ left ≡ flat_map spelling all ++ behind → (item : V) × (rest : List ℕ) × Fits item × (left ≡ spelling item ++ rest)
next_item Fits spelling own read [] left behind n p q e = absurd (omega (arith, n))
next_item Fits spelling own [] (y ∷ ys) left behind n p q e = (y, flat_map spelling ys ++ behind, q.0, e ∙ append_assoc (spelling y) (flat_map spelling ys) behind)
next_item Fits spelling own (x ∷ xs) (y ∷ ys) left behind n p q e =
    let first = own x y (flat_map spelling xs ++ left) (flat_map spelling ys ++ behind) p.0 q.0
    (sym (append_assoc (spelling x) (flat_map spelling xs) left) ∙ (e ∙ append_assoc (spelling y) (flat_map spelling ys) behind)) in
    let m : length xs < length ys = omega (arith, n) in
    next_item Fits spelling own xs ys left behind m p.1 q.1 first.1

-- Where the next item isn't there, no list of so many items is.
pub no_more : {V : Type 0} (Fits : V → Type 0) (spelling : V → List ℕ) → IsOne Fits spelling → (count : ℕ) (bytes : List ℕ) (read : List V) (left : List ℕ) (fault : ReadFault) →
    length read < count → bytes ≡ flat_map spelling read ++ left → AllByRecursion Fits read → Answers Fits spelling left (Err fault) →
    Answers (ItemsFit count Fits) (flat_map spelling) bytes (Err fault)
no_more Fits spelling own count bytes read left faults.Memory n so_far fit none = tt
no_more Fits spelling own count bytes read left faults.Format n so_far fit none = λ all behind fits e.
    let m : length read < length all = omega (arith, n, fits.0) in
    let item = next_item Fits spelling own read all left behind m fit fits.1 (sym so_far ∙ e) in
    none item.0 item.1 item.2 item.3

-- one more item stands behind those so far
pub one_more : {V : Type 0} (spelling : V → List ℕ) (bytes : List ℕ) (read : List V) (left : List ℕ) (item : V) (rest : List ℕ) →
    bytes ≡ flat_map spelling read ++ left → left ≡ spelling item ++ rest → bytes ≡ flat_map spelling (read ++ item ∷ []) ++ rest
one_more spelling bytes read left item rest so_far next =
    so_far ∙ (ap (λ (v : List ℕ). flat_map spelling read ++ v) next ∙ (sym (append_assoc (flat_map spelling read) (spelling item) rest)
    ∙ ap (λ (v : List ℕ). v ++ rest) (flat_map_more spelling [] read item)))

-- and fits
pub all_more : {V : Type 0} (P : V → Type 0) (xs : List V) (x : V) → AllByRecursion P xs → P x → AllByRecursion P (xs ++ x ∷ [])
all_more P [] x _ p = (p, tt)
all_more P (y ∷ ys) x q p = (q.0, all_more P ys x q.1 p)

pub one_exactly : (n : ℕ) → IsOne {V = List ℕ} (λ bytes. length bytes ≡ n) (λ bytes. bytes)
one_exactly n xs ys r s p q e = heads_and_rests xs ys r s (p ∙ sym q) e
