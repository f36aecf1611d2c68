-- Laws of labels that rest.
use Rattle.std.specs.Prelude.{◌≡◌, ℕ, ◌||◌, nat_eq, nat_lt, Bool, true, false, cond, not, T, List, [], ◌∷◌, Contains, Option, Some, None, filter, is_some}
use Rattle.std.specs.Bool.{then_some}
use Rattle.std.specs.FinMap.Entries.{find, find-put, is_sorted, is_sorted-put, put, same_entries, where_key}
use Rattle.std.specs.List.{AllByRecursion, IsDistinct, list_any}
use Rattle.std.specs.Option.{option_and_then, option_map_or}
use Rattle.std.specs.Ordering.{eq_by_cmp, is_eq, nat_cmp}
use Rattle.std.proofs.Common.{refl, sym, ap, subst, ◌∙◌, inl, inr}
use Rattle.std.proofs.lemmas.Bool.{eqb-false}
use Rattle.std.proofs.lemmas.Cmp.{eq_by_cmp_equiv, nat_cmp_total, tied_itself}
use Rattle.std.proofs.lemmas.Map.Keys.{IsDistinct-head, IsDistinct-tail}
use Rattle.std.proofs.lemmas.Map.Lookups.{exact_unsigned}
use Rattle.sorted_rows.specs.Rows.{keys_of, values_of}
use Rattle.sorted_rows.specs.RowsLaws.{all-put_row, find-behind, find-filter, is_sorted-filter, second, ties, where_key-absent}
use Rattle.lsr_facts.specs.OrderLaws.{key_total}
use Rattle.lsr_facts.specs.Orders.{key_cmp}
use Rattle.lsr_facts.specs.declared.key.Key.{Key}
use Rattle.label_space.specs.Bindings.{by_label}
use Rattle.label_space.specs.Labels.{rests_with}
use Rattle.label_space.specs.LineLaws.{Contains-cons_cases, Contains-first, Contains-later, Differs, absent_from, none_contained}
use Rattle.label_space.specs.Rests.{freed_by, held_by, rested, resting_past, with_rest}

-- a label is one of these
abbrev pub is_one_of : List ℕ → ℕ → Bool
is_one_of labels label = list_any (λ other. eq_by_cmp nat_cmp label other) labels

-- labels that rest stay in order where others join them
pub is_sorted-with_rest : (until : ℕ) (freed : List ℕ) (resting : List (ℕ × ℕ)) → T (is_sorted nat_cmp resting) → T (is_sorted nat_cmp (with_rest until freed resting))
is_sorted-with_rest until [] resting sorted = sorted
is_sorted-with_rest until (label ∷ freed) resting sorted =
    is_sorted-put nat_cmp nat_cmp_total label until (with_rest until freed resting) (is_sorted-with_rest until freed resting sorted)

pub is_sorted-rested : (moment until : ℕ) (freed : List ℕ) (resting : List (ℕ × ℕ)) → T (is_sorted nat_cmp resting) → T (is_sorted nat_cmp (rested moment until freed resting))
is_sorted-rested moment until freed resting sorted =
    elim (nat_lt moment until) as (λ b. T (is_sorted nat_cmp (cond b (with_rest until freed resting) resting))) [ true ↦ is_sorted-with_rest until freed resting sorted | false ↦ sorted ]

either_way : {X : Type 0} (a b : Bool) (x y : X) → cond a x (cond b x y) ≡ cond (a || b) x y
either_way true b x y = refl
either_way false b x y = refl

-- Until when a label rests then.
pub find-with_rest : (label until : ℕ) (freed : List ℕ) (resting : List (ℕ × ℕ)) → find nat_cmp label (with_rest until freed resting) ≡ cond (is_one_of freed label) (Some until) (find nat_cmp label resting)
find-with_rest label until [] resting = refl
find-with_rest label until (other ∷ freed) resting =
    find-put nat_cmp nat_cmp_total label other until (with_rest until freed resting)
    ∙ ap (cond (eq_by_cmp nat_cmp label other) (Some until)) (find-with_rest label until freed resting)
    ∙ either_way (eq_by_cmp nat_cmp label other) (is_one_of freed label) (Some until) (find nat_cmp label resting)

-- Labels that are freed one after the other rest as those that are freed at once.
pub with_rest_in_turn : (until : ℕ) (all later first : List ℕ) (resting : List (ℕ × ℕ)) → T (is_sorted nat_cmp resting) → ((label : ℕ) → is_one_of all label ≡ (is_one_of later label || is_one_of first label)) → with_rest until later (with_rest until first resting) ≡ with_rest until all resting
with_rest_in_turn until all later first resting sorted same =
    same_entries nat_cmp nat_cmp_total exact_unsigned (with_rest until later (with_rest until first resting)) (with_rest until all resting) (is_sorted-with_rest until later (with_rest until first resting) (is_sorted-with_rest until first resting sorted)) (is_sorted-with_rest until all resting sorted) (λ label.
    find-with_rest label until later (with_rest until first resting)
    ∙ ap (cond (is_one_of later label) (Some until)) (find-with_rest label until first resting)
    ∙ either_way (is_one_of later label) (is_one_of first label) (Some until) (find nat_cmp label resting)
    ∙ ap (λ b. cond b (Some until) (find nat_cmp label resting)) (sym (same label))
    ∙ sym (find-with_rest label until all resting))

pub rested_in_turn : (moment until : ℕ) (all later first : List ℕ) (resting : List (ℕ × ℕ)) → T (is_sorted nat_cmp resting) → ((label : ℕ) → is_one_of all label ≡ (is_one_of later label || is_one_of first label)) → rested moment until later (rested moment until first resting) ≡ rested moment until all resting
rested_in_turn moment until all later first resting sorted same =
    elim (nat_lt moment until) as (λ b. cond b (with_rest until later (cond b (with_rest until first resting) resting)) (cond b (with_rest until first resting) resting) ≡ cond b (with_rest until all resting) resting) [
      | true ↦ with_rest_in_turn until all later first resting sorted same
      | false ↦ refl
    ]

-- where nothing is freed nothing changes
pub rested_none : (moment until : ℕ) (resting : List (ℕ × ℕ)) → rested moment until [] resting ≡ resting
rested_none moment until resting = elim (nat_lt moment until) as (λ b. cond b resting resting ≡ resting) [ true ↦ refl | false ↦ refl ]

-- the rows without those of a key
abbrev but : Key → List (Key × ℕ) → List (Key × ℕ)
but key labels = where_key key_cmp (λ q. not (is_eq (key_cmp key q))) labels

or_grouped : (a b c : Bool) → (a || (b || c)) ≡ ((a || b) || c)
or_grouped true b c = refl
or_grouped false b c = refl

or_swapped : (a b : Bool) → (a || b) ≡ (b || (a || false))
or_swapped true true = refl
or_swapped true false = refl
or_swapped false true = refl
or_swapped false false = refl

-- a row before others, whether it is kept or not
both_kept : (b : Bool) (row : Key × ℕ) (rows others : List (Key × ℕ)) → values_of rows ≡ values_of others → values_of (cond b (row ∷ rows) rows) ≡ values_of (cond b (row ∷ others) others)
both_kept true row rows others same = ap (λ more. row.1 ∷ more) same
both_kept false row rows others same = same

either_kept : (b : Bool) (row : Key × ℕ) (rows others : List (Key × ℕ)) (label : ℕ) (last : Bool) → is_one_of (values_of rows) label ≡ (is_one_of (values_of others) label || last) → is_one_of (values_of (cond b (row ∷ rows) rows)) label ≡ (is_one_of (values_of (cond b (row ∷ others) others)) label || last)
either_kept true row rows others label last same =
    ap (λ b. eq_by_cmp nat_cmp label row.1 || b) same ∙ or_grouped (eq_by_cmp nat_cmp label row.1) (is_one_of (values_of others) label) last
either_kept false row rows others label last same = same

module _ {X : Type 0} (key : Key) (now : X) (edits : List (Key × X)) where
  abbrev named : Key × ℕ → Bool
  named row = is_some (find key_cmp row.0 ((key, now) ∷ edits))

  abbrev named_later : Key × ℕ → Bool
  named_later row = is_some (find key_cmp row.0 edits)

  -- an edit of an LSP that holds none frees nothing
  freed-absent : (labels : List (Key × ℕ)) → find key_cmp key labels ≡ None → freed_by ((key, now) ∷ edits) labels ≡ freed_by edits labels
  freed-absent [] = λ none. refl
  freed-absent (row ∷ labels) =
      let rest = freed-absent labels in
      elim (eq_by_cmp key_cmp key row.0) as (λ b. eq_by_cmp key_cmp key row.0 ≡ b → cond b (Some row.1) (find key_cmp key labels) ≡ None → freed_by ((key, now) ∷ edits) (row ∷ labels) ≡ freed_by edits (row ∷ labels)) [
        | true ↦ λ tie some. absurd (let e = some in cc)
        | false ↦ λ apart none.
            let turned : eq_by_cmp key_cmp row.0 key ≡ false = (eq_by_cmp_equiv key_total).symm row.0 key ∙ apart in
            ap (λ b. values_of (cond (is_some (cond b (Some now) (find key_cmp row.0 edits))) (row ∷ filter named labels) (filter named labels))) turned
            ∙ both_kept (named_later row) row (filter named labels) (filter named_later labels) (rest none)
      ] refl

  -- What the edits free is what the others free once the first was made, and what the first frees.
  pub freed_first : (labels : List (Key × ℕ)) → T (is_sorted key_cmp labels) → (label : ℕ) → is_one_of (freed_by ((key, now) ∷ edits) labels) label ≡ (is_one_of (freed_by edits (but key labels)) label || is_one_of (held_by key labels) label)
  freed_first [] sorted label = refl
  freed_first (row ∷ labels) sorted label =
      let rest = freed_first labels (second _ _ sorted) label in
      let symm = (eq_by_cmp_equiv key_total).symm row.0 key in
      elim (eq_by_cmp key_cmp key row.0) as (λ b. eq_by_cmp key_cmp key row.0 ≡ b → is_one_of (freed_by ((key, now) ∷ edits) (row ∷ labels)) label ≡ (is_one_of (values_of (filter named_later (cond (not b) (row ∷ but key labels) (but key labels)))) label || is_one_of (option_map_or (λ held. held ∷ []) (cond b (Some row.1) (find key_cmp key labels)) []) label)) [
        | true ↦ λ tie.
            let absent : find key_cmp key labels ≡ None = find-behind key_cmp key_total key row labels sorted (ties (key_cmp key row.0) tie) in
            let left : but key labels ≡ labels = where_key-absent key_cmp key labels absent in
            ap (λ b. is_one_of (values_of (cond (is_some (cond b (Some now) (find key_cmp row.0 edits))) (row ∷ filter named labels) (filter named labels))) label) (symm ∙ tie)
            ∙ ap (λ freed. eq_by_cmp nat_cmp label row.1 || is_one_of freed label) (freed-absent labels absent ∙ ap (freed_by edits) (sym left))
            ∙ or_swapped (eq_by_cmp nat_cmp label row.1) (is_one_of (freed_by edits (but key labels)) label)
        | false ↦ λ apart.
            ap (λ b. is_one_of (values_of (cond (is_some (cond b (Some now) (find key_cmp row.0 edits))) (row ∷ filter named labels) (filter named labels))) label) (symm ∙ apart)
            ∙ either_kept (named_later row) row (filter named labels) (filter named_later (but key labels)) label (is_one_of (held_by key labels) label) rest
      ] refl

-- no edits free nothing
pub freed_none : (X : Type 0) (labels : List (Key × ℕ)) → freed_by {X = X} [] labels ≡ []
freed_none X [] = refl
freed_none X (row ∷ labels) = freed_none X labels

-- Where labels rest that edits free, one after the other.
pub rested_next : {X : Type 0} (moment until : ℕ) (key : Key) (now : X) (edits : List (Key × X)) (labels : List (Key × ℕ)) (resting : List (ℕ × ℕ)) → T (is_sorted key_cmp labels) → T (is_sorted nat_cmp resting) → rested moment until (freed_by edits (but key labels)) (rested moment until (held_by key labels) resting) ≡ rested moment until (freed_by ((key, now) ∷ edits) labels) resting
rested_next moment until key now edits labels resting sorted in_order =
    rested_in_turn moment until (freed_by ((key, now) ∷ edits) labels) (freed_by edits (but key labels)) (held_by key labels) resting in_order (freed_first key now edits labels sorted)

-- Where no row is for a label, none is found for it.
pub find-absent : (label : ℕ) (rows : List (ℕ × ℕ)) → ¬ Contains (keys_of rows) label → find nat_cmp label rows ≡ None
find-absent label [] absent = refl
find-absent label (row ∷ rows) absent =
    elim (eq_by_cmp nat_cmp label row.0) as (λ b. eq_by_cmp nat_cmp label row.0 ≡ b → cond b (Some row.1) (find nat_cmp label rows) ≡ None) [
      | true ↦ λ tie. absurd (absent (Contains-first row.0 (keys_of rows) label (sym (exact_unsigned label row.0 (ties (nat_cmp label row.0) tie)))))
      | false ↦ λ apart. find-absent label rows (λ later. absent (Contains-later row.0 (keys_of rows) label later))
    ] refl

-- and the other way round
pub absent-found : (label : ℕ) (rows : List (ℕ × ℕ)) → find nat_cmp label rows ≡ None → ¬ Contains (keys_of rows) label
absent-found label [] none among = none_contained label among
absent-found label (row ∷ rows) none among =
    elim (Contains-cons_cases row.0 (keys_of rows) label among) [
      | inl same ↦ absurd (let e = ap is_eq (tied_itself nat_cmp_total label) in let tie = subst (λ k. eq_by_cmp nat_cmp label k ≡ true) (sym same) e in let at = subst (λ b. cond b (Some row.1) (find nat_cmp label rows) ≡ None) tie none in cc)
      | inr later ↦ absent-found label rows (behind none) later
    ]
  where
    behind : find nat_cmp label (row ∷ rows) ≡ None → find nat_cmp label rows ≡ None
    behind = elim (eq_by_cmp nat_cmp label row.0) as (λ b. cond b (Some row.1) (find nat_cmp label rows) ≡ None → find nat_cmp label rows ≡ None) [
      | true ↦ λ some. absurd (let e = some in cc)
      | false ↦ λ later. later
    ]

-- rows by their labels are in order, and have the same rows
pub is_sorted-by_label : (rows : List (ℕ × ℕ)) → T (is_sorted nat_cmp (by_label rows))
is_sorted-by_label [] = tt
is_sorted-by_label (row ∷ rows) = is_sorted-put nat_cmp nat_cmp_total row.0 row.1 (by_label rows) (is_sorted-by_label rows)

pub find-by_label : (label : ℕ) (rows : List (ℕ × ℕ)) → find nat_cmp label (by_label rows) ≡ find nat_cmp label rows
find-by_label label [] = refl
find-by_label label (row ∷ rows) =
    find-put nat_cmp nat_cmp_total label row.0 row.1 (by_label rows) ∙ ap (cond (eq_by_cmp nat_cmp label row.0) (Some row.1)) (find-by_label label rows)

pub all-by_label : (P : ℕ × ℕ → Type 0) (rows : List (ℕ × ℕ)) → AllByRecursion P rows → AllByRecursion P (by_label rows)
all-by_label P [] each = tt
all-by_label P (row ∷ rows) each =
    all-put_row nat_cmp P row.0 row.1 (λ x tie. subst (λ k. P (k, row.1)) (exact_unsigned row.0 x tie) each.0) each.0 (by_label rows) (all-by_label P rows each.1)

-- A row joins those that rest.
find-rests_with : (label : ℕ) (row : ℕ × ℕ) (rows : List (ℕ × ℕ)) → Differs row.0 (keys_of rows) → find nat_cmp label (rests_with row rows) ≡ cond (eq_by_cmp nat_cmp label row.0) (Some row.1) (find nat_cmp label rows)
find-rests_with label row [] away = refl
find-rests_with label row (first ∷ rows) away =
    let rest = find-rests_with label row rows away.1 in
    elim (nat_lt row.1 first.1) as (λ b. find nat_cmp label (cond b (row ∷ first ∷ rows) (first ∷ rests_with row rows)) ≡ cond (eq_by_cmp nat_cmp label row.0) (Some row.1) (find nat_cmp label (first ∷ rows))) [
      | true ↦ refl
      | false ↦ ap (cond (eq_by_cmp nat_cmp label first.0) (Some first.1)) rest ∙ turned (eq_by_cmp nat_cmp label first.0) (eq_by_cmp nat_cmp label row.0) refl refl
    ]
  where
    turned : (a b : Bool) → eq_by_cmp nat_cmp label first.0 ≡ a → eq_by_cmp nat_cmp label row.0 ≡ b → cond a (Some first.1) (cond b (Some row.1) (find nat_cmp label rows)) ≡ cond b (Some row.1) (cond a (Some first.1) (find nat_cmp label rows))
    turned true true is_first is_row =
        absurd (eqb-false row.0 first.0 away.0 (sym (exact_unsigned label row.0 (ties (nat_cmp label row.0) is_row)) ∙ exact_unsigned label first.0 (ties (nat_cmp label first.0) is_first)))
    turned true false is_first is_row = refl
    turned false true is_first is_row = refl
    turned false false is_first is_row = refl

pub by_label-rests_with : (row : ℕ × ℕ) (rows : List (ℕ × ℕ)) → Differs row.0 (keys_of rows) → by_label (rests_with row rows) ≡ put nat_cmp row.0 row.1 (by_label rows)
by_label-rests_with row rows away =
    same_entries nat_cmp nat_cmp_total exact_unsigned (by_label (rests_with row rows)) (put nat_cmp row.0 row.1 (by_label rows)) (is_sorted-by_label (rests_with row rows)) (is_sorted-put nat_cmp nat_cmp_total row.0 row.1 (by_label rows) (is_sorted-by_label rows)) (λ label.
    find-by_label label (rests_with row rows)
    ∙ find-rests_with label row rows away
    ∙ ap (cond (eq_by_cmp nat_cmp label row.0) (Some row.1)) (sym (find-by_label label rows))
    ∙ sym (find-put nat_cmp nat_cmp_total label row.0 row.1 (by_label rows)))

-- Some rests are over.
find-resting_past : (label now : ℕ) (rows : List (ℕ × ℕ)) → IsDistinct nat_eq (keys_of rows) → find nat_cmp label (resting_past now rows) ≡ option_and_then (λ until. then_some (nat_lt now until) until) (find nat_cmp label rows)
find-resting_past label now [] distinct = refl
find-resting_past label now (row ∷ rows) distinct =
    by (find-resting_past label now rows (IsDistinct-tail nat_eq row.0 (keys_of rows) distinct)) (nat_lt now row.1) (eq_by_cmp nat_cmp label row.0) refl refl
  where
    absent : eq_by_cmp nat_cmp label row.0 ≡ true → find nat_cmp label rows ≡ None
    absent tie = find-absent label rows (absent_from (keys_of rows) label (subst (λ k. Differs k (keys_of rows)) (sym (exact_unsigned label row.0 (ties (nat_cmp label row.0) tie))) (IsDistinct-head nat_eq row.0 (keys_of rows) distinct)))

    by : find nat_cmp label (resting_past now rows) ≡ option_and_then (λ until. then_some (nat_lt now until) until) (find nat_cmp label rows) → (later same : Bool) → nat_lt now row.1 ≡ later → eq_by_cmp nat_cmp label row.0 ≡ same → find nat_cmp label (cond later (row ∷ resting_past now rows) (resting_past now rows)) ≡ option_and_then (λ until. then_some (nat_lt now until) until) (cond same (Some row.1) (find nat_cmp label rows))
    by rest true true more tie = ap (λ b. cond b (Some row.1) (find nat_cmp label (resting_past now rows))) tie ∙ sym (ap (λ b. then_some b row.1) more)
    by rest true false more apart = ap (λ b. cond b (Some row.1) (find nat_cmp label (resting_past now rows))) apart ∙ rest
    by rest false true less tie = rest ∙ ap (option_and_then (λ until. then_some (nat_lt now until) until)) (absent tie) ∙ sym (ap (λ b. then_some b row.1) less)
    by rest false false less apart = rest

pub by_label-resting_past : (now : ℕ) (rows : List (ℕ × ℕ)) → IsDistinct nat_eq (keys_of rows) → by_label (resting_past now rows) ≡ resting_past now (by_label rows)
by_label-resting_past now rows distinct =
    let still = λ (row : ℕ × ℕ). nat_lt now row.1 in
    same_entries nat_cmp nat_cmp_total exact_unsigned (by_label (resting_past now rows)) (resting_past now (by_label rows)) (is_sorted-by_label (resting_past now rows)) (is_sorted-filter nat_cmp still (by_label rows) (is_sorted-by_label rows)) (λ label.
    find-by_label label (resting_past now rows)
    ∙ find-resting_past label now rows distinct
    ∙ ap (option_and_then (λ until. then_some (nat_lt now until) until)) (sym (find-by_label label rows))
    ∙ sym (find-filter nat_cmp nat_cmp_total still label (λ x until tie. refl) (by_label rows) (is_sorted-by_label rows)))
