-- Each change of a table in reserved memory keeps what always holds of it.
use Rattle.std.proofs.Common.{◌≡◌, ℕ, ◌≤◌, suc, T, List, [], ◌∷◌, Bool, true, false, cond, length, map, not, Result, Ok, Err, IsOk, OnOk, arith, ap, refl, sym, subst}
use Rattle.std.specs.Cmp.{IsTotalOrder}
use Rattle.std.specs.FinMap.Entries.{put, where_key, is_sorted-put, is_sorted-where_key, length_without}
use Rattle.std.specs.List.{filter}
use Rattle.std.specs.Ordering.{is_eq}
use Rattle.std.specs.declared.cmp.Ordering.{Ordering}
use Rattle.sorted_rows.specs.Reserved.{IsReserved}
use Rattle.sorted_rows.specs.Rows.{keys_of}
use Rattle.sorted_rows.specs.RowsLaws.{is_sorted-both, is_sorted-filter}

-- what holds where a call succeeds holds after one that succeeded
pub after_ok : {X E P : Type 0} (result : Result X E) → IsOk result → OnOk result P → P
after_ok (Ok x) ok p = p
after_ok (Err e) ok p = cc

-- rows whose values became others have their keys
keys_left : {K X : Type 0} (f : X → X) (es : List (K × X)) → keys_of (map (λ (row : K × X). (row.0, f row.1)) es) ≡ keys_of es
keys_left f [] = refl
keys_left f (e ∷ es) = ap (λ ks. e.0 ∷ ks) (keys_left f es)

-- and there are as many as before, or fewer where some went
length_left : {K X : Type 0} (f : X → X) (p : K × X → Bool) (es : List (K × X)) → length {A = K × X} (map (λ (row : K × X). (row.0, f row.1)) (filter p es)) ≤ length es
length_left f p [] = omega arith
length_left {K} {X} f p (e ∷ es) =
    let rest = length_left f p es in
    elim (p e) as (λ b. length {A = K × X} (map (λ (row : K × X). (row.0, f row.1)) (cond b (e ∷ filter p es) (filter p es))) ≤ suc (length es)) [ true ↦ omega arith | false ↦ omega arith ]

module _ {K X : Type 0} (cmp : K → K → Ordering) (most : ℕ) (es : List (K × X)) (capacity : ℕ) (kept : IsReserved cmp most es capacity) where
  -- after a row was removed
  pub reserved_removed : IsTotalOrder cmp → (k : K) → IsReserved cmp most (where_key cmp (λ q. not (is_eq (cmp k q))) es) capacity
  reserved_removed total k = record {
    in_order = is_sorted-where_key cmp (λ q. not (is_eq (cmp k q))) es kept.in_order;
    few = omega (arith, length_without cmp total k es kept.in_order, kept.few);
    room = kept.room;
  }

  -- after a value was set, where there are not too many rows then
  pub reserved_set : IsTotalOrder cmp → (k : K) (v : X) (now : ℕ) → length (put cmp k v es) ≤ most → capacity ≤ now → IsReserved cmp most (put cmp k v es) now
  reserved_set total k v now fits more = record {
    in_order = is_sorted-put cmp total k v es kept.in_order;
    few = fits;
    room = omega (arith, kept.room, more);
  }

  -- after some rows went, and of the others a part of the value
  pub reserved_swept : (p : K × X → Bool) (f : X → X) → IsReserved cmp most (map (λ (row : K × X). (row.0, f row.1)) (filter p es)) capacity
  reserved_swept p f = record {
    in_order = subst T (sym (is_sorted-both cmp (map (λ (row : K × X). (row.0, f row.1)) (filter p es)) (filter p es) (keys_left f (filter p es)))) (is_sorted-filter cmp p es kept.in_order);
    few = omega (arith, length_left f p es, kept.few);
    room = kept.room;
  }
