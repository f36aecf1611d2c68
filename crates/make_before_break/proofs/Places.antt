-- What f gives of the element at a place comes after what it gives of those before, and so does a row at a place.
use Rattle.std.specs.Prelude.{◌≡◌, ◌+◌, ◌<◌, ℕ, suc, zero, cond, List, [], ◌∷◌, ◌++◌, filter_map, length, take, slice_get, Option, Some, None}
use Rattle.std.specs.FinMap.Entries.{find}
use Rattle.std.specs.List.{cons_option}
use Rattle.std.specs.Option.{option_and_then, option_or, option_to_list}
use Rattle.std.specs.Ordering.{eq_by_cmp}
use Rattle.std.specs.declared.cmp.Ordering.{Ordering}
use Rattle.std.proofs.Common.{get_or, refl, sym, ap, ◌∙◌, append_assoc, add-one}
use Rattle.std.proofs.lemmas.List.{take_more}
use Rattle.sorted_rows.specs.RowsLaws.{find-append}

-- what there may be, before others
before_rest : {Y : Type 0} (o : Option Y) (ys zs : List Y) → cons_option o (ys ++ zs) ≡ cons_option o ys ++ zs
before_rest None ys zs = refl
before_rest (Some y) ys zs = refl

-- what there may be, as a list
listed : {Y : Type 0} (o : Option Y) → cons_option o [] ≡ option_to_list o
listed None = refl
listed (Some y) = refl

given : {X Y : Type 0} (f : X → Option Y) (xs : List X) (i : ℕ) → filter_map f (take (suc i) xs) ≡ filter_map f (take i xs) ++ option_to_list (option_and_then f (slice_get xs i))
given f [] zero = refl
given f [] (suc i) = refl
given f (x ∷ xs) zero = listed (f x)
given f (x ∷ xs) (suc i) = ap (cons_option (f x)) (given f xs i) ∙ before_rest (f x) (filter_map f (take i xs)) (option_to_list (option_and_then f (slice_get xs i)))

pub one_more_at : {X Y : Type 0} (f : X → Option Y) (first before after : List Y) (xs : List X) (i : ℕ) (o : Option Y) → before ≡ first ++ filter_map f (take i xs) → o ≡ option_and_then f (slice_get xs i) → after ≡ before ++ option_to_list o → after ≡ first ++ filter_map f (take (i + 1) xs)
one_more_at f first before after xs i o was gives is =
    is ∙ (λ k. was k ++ option_to_list (gives k))
    ∙ append_assoc first (filter_map f (take i xs)) (option_to_list (option_and_then f (slice_get xs i)))
    ∙ ap (λ ys. first ++ ys) (sym (given f xs i) ∙ ap (λ n. filter_map f (take n xs)) (sym (add-one i)))

-- what is found of a key in one row more
pub find-one_more : {K E : Type 0} (cmp : K → K → Ordering) (rows : List (K × E)) (i : ℕ) (row : K × E) → i < length rows → row ≡ get_or rows i row → (q : K) → find cmp q (take (i + 1) rows) ≡ option_or (find cmp q (take i rows)) (cond (eq_by_cmp cmp q row.0) (Some row.1) None)
find-one_more cmp rows i row within is q =
    ap (find cmp q) (take_more rows i row within ∙ ap (λ p. take i rows ++ p ∷ []) (sym is)) ∙ find-append cmp q (take i rows) (row ∷ [])
