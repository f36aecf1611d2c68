-- Both passes together make the edits, and need no row more on the way than at the end.
use Rattle.std.proofs.Common.{◌≡◌, suc, ◌≤◌, T, Bool, true, false, cond, not, List, [], ◌∷◌, length, Option, Some, None, refl, reverse, sym, ap, ◌∙◌, ◌++◌, arith}
use Rattle.std.specs.Cmp.{IsTotalOrder}
use Rattle.std.specs.FinMap.Entries.{by_order, put, find, is_sorted, same_entries}
use Rattle.std.specs.List.{filter}
use Rattle.std.specs.Ordering.{eq_by_cmp, is_eq}
use Rattle.std.specs.declared.cmp.Ordering.{Ordering}
use Rattle.std.specs.declared.cmp.Ordering.TheVariants.{Less, Equal, Greater}
use Rattle.std.proofs.lemmas.List.{reverse-append, reverse-reverse}
use Rattle.sorted_rows.specs.RowsLaws.{find-behind, second, ties}
use Rattle.sorted_rows.specs.Edits.{over, edited}
use Rattle.sorted_rows.specs.EditLaws.{find-at_key, find-edited, is_sorted-at_key, is_sorted-edited}
use Rattle.sorted_rows.specs.InTurn.{taken, given, in_turn}

-- what an edit leaves in the first pass
abbrev over_taken : {X : Type 0} → Option (Option X) → Option X → Option X
over_taken None was = was
over_taken (Some None) was = None
over_taken (Some (Some value)) was = was

-- and what it makes of that in the second
abbrev over_given : {X : Type 0} → Option (Option X) → Option X → Option X
over_given None was = was
over_given (Some None) was = was
over_given (Some (Some value)) was = Some value

over_both : {X : Type 0} (edit : Option (Option X)) (was : Option X) → over_given edit (over_taken edit was) ≡ over edit was
over_both None was = refl
over_both (Some None) was = refl
over_both (Some (Some value)) was = refl

-- the same either way
either : {A : Type 0} (b : Bool) (x : A) → x ≡ cond b x x
either true x = refl
either false x = refl

-- a value that is set takes no row away
length_put : {K X : Type 0} (cmp : K → K → Ordering) (key : K) (value : X) (rows : List (K × X)) → length rows ≤ length (put cmp key value rows)
length_put cmp key value [] = omega arith
length_put cmp key value (e ∷ es) =
    let rest = length_put cmp key value es in
    elim (cmp key e.0) as (λ r. suc (length es) ≤ length (by_order r ((key, value) ∷ e ∷ es) ((e.0, value) ∷ es) (e ∷ put cmp key value es))) [ Less ↦ omega arith | Equal ↦ omega arith | Greater ↦ omega (arith, rest) ]

length_given : {K X : Type 0} (cmp : K → K → Ordering) (key : K) (now : Option X) (rows : List (K × X)) → length rows ≤ length (given cmp key now rows)
length_given cmp key None rows = omega arith
length_given cmp key (Some value) rows = length_put cmp key value rows

-- Nor does the whole second pass: there is room for each of its steps where there is room for the last.
pub length_in_turn : {K X : Type 0} (cmp : K → K → Ordering) (es : List (K × Option X)) (rows : List (K × X)) → length rows ≤ length (in_turn (given cmp) es rows)
length_in_turn cmp [] rows = omega arith
length_in_turn cmp (e ∷ es) rows = omega (arith, length_given cmp e.0 e.1 rows, length_in_turn cmp es (given cmp e.0 e.1 rows))

-- Backwards, the last edit of a list is the next one.
pub given_next : {K X : Type 0} (cmp : K → K → Ordering) (left more : List (K × Option X)) (key : K) (now : Option X) (rows : List (K × X)) → more ≡ left ++ (key, now) ∷ [] → in_turn (given cmp) (reverse more) rows ≡ in_turn (given cmp) (reverse left) (given cmp key now rows)
given_next cmp left more key now rows is =
    ap (λ es. in_turn (given cmp) (reverse es) rows) is ∙ ap (λ es. in_turn (given cmp) es rows) (reverse-append left ((key, now) ∷ []))

-- a test of what another leaves
filter_rest : {A : Type 0} (q : A → Bool) (b : Bool) (x : A) (xs : List A) → filter q (cond b (x ∷ xs) xs) ≡ cond b (cond (q x) (x ∷ filter q xs) (filter q xs)) (filter q xs)
filter_rest q true x xs = refl
filter_rest q false x xs = refl

swapped : {A : Type 0} (a b : Bool) (x : A) (l r : List A) → l ≡ r → cond a (cond b (x ∷ l) l) l ≡ cond b (cond a (x ∷ r) r) r
swapped true true x l r same = ap (λ xs. x ∷ xs) same
swapped true false x l r same = same
swapped false true x l r same = same
swapped false false x l r same = same

-- what two tests leave is the same whichever comes first
filter_either : {A : Type 0} (p q : A → Bool) (xs : List A) → filter q (filter p xs) ≡ filter p (filter q xs)
filter_either p q [] = refl
filter_either p q (x ∷ xs) =
    filter_rest q (p x) x (filter p xs)
    ∙ swapped (p x) (q x) x (filter q (filter p xs)) (filter p (filter q xs)) (filter_either p q xs)
    ∙ sym (filter_rest p (q x) x (filter q xs))

-- so are the rows after two edits of the first pass
taken_either : {K X : Type 0} (cmp : K → K → Ordering) (e f : K × Option X) (rows : List (K × X)) → taken cmp e.0 e.1 (taken cmp f.0 f.1 rows) ≡ taken cmp f.0 f.1 (taken cmp e.0 e.1 rows)
taken_either cmp (key, None) (other, None) rows = filter_either (λ row. not (is_eq (cmp other row.0))) (λ row. not (is_eq (cmp key row.0))) rows
taken_either cmp (key, None) (other, Some value) rows = refl
taken_either cmp (key, Some value) (other, None) rows = refl
taken_either cmp (key, Some value) (other, Some worth) rows = refl

taken_last : {K X : Type 0} (cmp : K → K → Ordering) (e : K × Option X) (es : List (K × Option X)) (rows : List (K × X)) → in_turn (taken cmp) es (taken cmp e.0 e.1 rows) ≡ taken cmp e.0 e.1 (in_turn (taken cmp) es rows)
taken_last cmp e [] rows = refl
taken_last cmp e (f ∷ es) rows = ap (in_turn (taken cmp) es) (taken_either cmp f e rows) ∙ taken_last cmp e es (taken cmp f.0 f.1 rows)

in_turn_append : {K X : Type 0} (make : K → Option X → List (K × X) → List (K × X)) (es fs : List (K × Option X)) (rows : List (K × X)) → in_turn make (es ++ fs) rows ≡ in_turn make fs (in_turn make es rows)
in_turn_append make [] fs rows = refl
in_turn_append make (e ∷ es) fs rows = in_turn_append make es fs (make e.0 e.1 rows)

-- The first pass leaves the same from the last edit on.
pub taken_back : {K X : Type 0} (cmp : K → K → Ordering) (es : List (K × Option X)) (rows : List (K × X)) → in_turn (taken cmp) (reverse es) rows ≡ in_turn (taken cmp) es rows
taken_back cmp [] rows = refl
taken_back cmp (e ∷ es) rows =
    ap (λ xs. in_turn (taken cmp) xs rows) (reverse-append (e ∷ []) es)
    ∙ in_turn_append (taken cmp) (reverse es) (e ∷ []) rows
    ∙ ap (taken cmp e.0 e.1) (taken_back cmp es rows)
    ∙ sym (taken_last cmp e es rows)

module _ {K X : Type 0} (cmp : K → K → Ordering) (total : IsTotalOrder cmp) where
  find_taken : (q key : K) (now : Option X) (rows : List (K × X)) → find cmp q (taken cmp key now rows) ≡ cond (eq_by_cmp cmp q key) (over_taken (Some now) (find cmp q rows)) (find cmp q rows)
  find_taken q key None rows = find-at_key cmp total q key None rows
  find_taken q key (Some value) rows = either (eq_by_cmp cmp q key) (find cmp q rows)

  find_given : (q key : K) (now : Option X) (rows : List (K × X)) → find cmp q (given cmp key now rows) ≡ cond (eq_by_cmp cmp q key) (over_given (Some now) (find cmp q rows)) (find cmp q rows)
  find_given q key None rows = either (eq_by_cmp cmp q key) (find cmp q rows)
  find_given q key (Some value) rows = find-at_key cmp total q key (Some value) rows

  sorted_taken : (key : K) (now : Option X) (rows : List (K × X)) → T (is_sorted cmp rows) → T (is_sorted cmp (taken cmp key now rows))
  sorted_taken key None rows h = is_sorted-at_key cmp total key None rows h
  sorted_taken key (Some value) rows h = h

  sorted_given : (key : K) (now : Option X) (rows : List (K × X)) → T (is_sorted cmp rows) → T (is_sorted cmp (given cmp key now rows))
  sorted_given key None rows h = h
  sorted_given key (Some value) rows h = is_sorted-at_key cmp total key (Some value) rows h

  module _ (make : K → Option X → List (K × X) → List (K × X)) where
    sorted_in_turn : ((key : K) (now : Option X) (rows : List (K × X)) → T (is_sorted cmp rows) → T (is_sorted cmp (make key now rows))) → (es : List (K × Option X)) (rows : List (K × X)) → T (is_sorted cmp rows) → T (is_sorted cmp (in_turn make es rows))
    sorted_in_turn keeps [] rows h = h
    sorted_in_turn keeps (e ∷ es) rows h = sorted_in_turn keeps es (make e.0 e.1 rows) (keeps e.0 e.1 rows h)

    -- each key of edits in order is edited once
    find_in_turn : (of : Option (Option X) → Option X → Option X) → ((was : Option X) → of None was ≡ was) → ((q key : K) (now : Option X) (rows : List (K × X)) → find cmp q (make key now rows) ≡ cond (eq_by_cmp cmp q key) (of (Some now) (find cmp q rows)) (find cmp q rows)) → (q : K) (es : List (K × Option X)) (rows : List (K × X)) → T (is_sorted cmp es) → find cmp q (in_turn make es rows) ≡ of (find cmp q es) (find cmp q rows)
    find_in_turn of none made q [] rows h = sym (none (find cmp q rows))
    find_in_turn of none made q (e ∷ es) rows h =
        let was = find cmp q rows in
        find_in_turn of none made q es (make e.0 e.1 rows) (second _ _ h)
        ∙ ap (of (find cmp q es)) (made q e.0 e.1 rows)
        ∙ elim (eq_by_cmp cmp q e.0) as (λ b. eq_by_cmp cmp q e.0 ≡ b → of (find cmp q es) (cond b (of (Some e.1) (find cmp q rows)) (find cmp q rows)) ≡ of (cond b (Some e.1) (find cmp q es)) (find cmp q rows)) [
          | true ↦ λ tie. ap (λ later. of later (of (Some e.1) was)) (find-behind cmp total q e es h (ties _ tie)) ∙ none (of (Some e.1) was)
          | false ↦ λ apart. refl
        ] refl

  -- The two passes together make the edits.
  pub both_passes : ((x y : K) → cmp x y ≡ Equal → x ≡ y) → (es : List (K × Option X)) (rows : List (K × X)) → T (is_sorted cmp es) → T (is_sorted cmp rows) → in_turn (given cmp) es (in_turn (taken cmp) es rows) ≡ edited cmp es rows
  both_passes exact es rows g h =
      let left = in_turn (taken cmp) es rows in
      let sorted_left = sorted_in_turn (taken cmp) sorted_taken es rows h in
      same_entries cmp total exact (in_turn (given cmp) es left) (edited cmp es rows) (sorted_in_turn (given cmp) sorted_given es left sorted_left) (is_sorted-edited cmp total es rows h) (λ q.
      find_in_turn (given cmp) over_given (λ was. refl) find_given q es left g
      ∙ ap (over_given (find cmp q es)) (find_in_turn (taken cmp) over_taken (λ was. refl) find_taken q es rows g)
      ∙ over_both (find cmp q es) (find cmp q rows)
      ∙ sym (find-edited cmp total q es rows))

  -- So they do where the first pass went over a slice of the edits, from the last one on, and the second takes them.
  pub passes_made : ((x y : K) → cmp x y ≡ Equal → x ≡ y) → (edits rows_of es seen : List (K × Option X)) (rows left : List (K × X)) → rows_of ≡ edits → es ≡ reverse rows_of → seen ≡ es → left ≡ in_turn (taken cmp) seen rows → T (is_sorted cmp edits) → T (is_sorted cmp rows) → in_turn (given cmp) (reverse es) left ≡ edited cmp edits rows
  passes_made exact edits rows_of es seen rows left is_edits is_back is_seen made g h =
      let back = is_back ∙ ap reverse is_edits in
      let first = made ∙ ap (λ xs. in_turn (taken cmp) xs rows) (is_seen ∙ back) ∙ taken_back cmp edits rows in
      let second = ap reverse back ∙ reverse-reverse edits in
      (λ i. in_turn (given cmp) (second i) (first i)) ∙ both_passes exact edits rows g h
