-- The labels that are held stay those that LSPs hold, when an LSP takes a label and when it gives one back, and whatever
-- moments come.
use Rattle.std.proofs.Common.{◌≡◌, ◌≢◌, ◌⊎◌, ℕ, ◌≤◌, ◌==◌, ◌+◌, ◌<◌, length, drop, get_or, nat_eq, nat_lt, Bool, true, false, cond, not, List, [], ◌∷◌, ◌++◌, Some, None, IfSome, refl, sym, ap, subst, ◌∙◌, inl, inr}
use Rattle.std.specs.FinMap.Entries.{find, find-put, is_sorted-put, is_sorted-where_key, put, where_key}
use Rattle.std.specs.Cmp.{nat_eq_equiv}
use Rattle.std.specs.List.{AllByRecursion, Contains, IsDistinct}
use Rattle.std.specs.Option.{option_map_or}
use Rattle.std.specs.Ordering.{eq_by_cmp, is_eq, nat_cmp}
use Rattle.std.proofs.lemmas.Bool.{both_ways, false_from_ne_true}
use Rattle.std.proofs.lemmas.Cmp.{tied_itself}
use Rattle.std.proofs.lemmas.List.{drop_more}
use Rattle.std.proofs.lemmas.Map.Keys.{IsDistinct-tail}
use Rattle.std.proofs.lemmas.Option.{same_Some}
use Rattle.sorted_rows.specs.ListLaws.{all-both, all-filter, all-from_map, all-weaker, distinct-filter}
use Rattle.sorted_rows.specs.Rows.{keys_of}
use Rattle.sorted_rows.specs.RowsLaws.{all-put, distinct-put, find-all, find-behind, find-first, find-put_apart, find-put_same, find-removed_apart, find-removed_same, where_key-absent}
use Rattle.lsr_facts.specs.OrderLaws.{key_exact, key_total}
use Rattle.lsr_facts.specs.Orders.{key_cmp}
use Rattle.lsr_facts.specs.declared.key.Key.{Key}
use Rattle.lsr_facts.specs.declared.router.LabelRange.{LabelRange}
use Rattle.label_space.specs.LabelLaws.{IsHeld-end_rests, IsHeld-hold, IsHeld-release, IsHeld-wake, IsLabelSpace-end_rests, IsLabelSpace-hold, IsLabelSpace-release, IsLabelSpace-wake, free_awake, free_own}
use Rattle.label_space.specs.Labels.{IsFree, IsHeld, IsOf, IsResting, Labels, end_rests, hold, release, rests_with, wake}
use Rattle.label_space.specs.LineLaws.{Contains-first, Contains-later, Differs, all-parts, cases_contained, differs_from}
use Rattle.label_space.specs.FreeLabels.{is_free, is_held}
use Rattle.label_space.specs.BindingLaws.{free-awake, free-from, free-unheld, held-found, held-key, one_key, unheld_differs}
use Rattle.label_space.specs.Bindings.{AreBound, AreHeldOf, by_label}
use Rattle.label_space.specs.RestLaws.{absent-found, all-by_label, by_label-resting_past, by_label-rests_with, find-absent, find-by_label, is_sorted-by_label}
use Rattle.label_space.specs.Rests.{AreRestingOf, held_by, rested, resting_past, with_rest}

-- nothing is twice in the other part of a line in which nothing is
distinct_last : (before behind : List ℕ) → IsDistinct nat_eq (before ++ behind) → IsDistinct nat_eq behind
distinct_last [] behind distinct = distinct
distinct_last (x ∷ before) behind distinct = distinct_last before behind (IsDistinct-tail nat_eq x (before ++ behind) distinct)

-- the rows without those of a key
abbrev pub but : Key → List (Key × ℕ) → List (Key × ℕ)
but key labels = where_key key_cmp (λ q. not (is_eq (key_cmp key q))) labels

-- what is found after a label was put was found before, or is that label
cases_put : (key : Key) (label : ℕ) (labels : List (Key × ℕ)) (q : Key) (v : ℕ) → find key_cmp q (put key_cmp key label labels) ≡ Some v → (label ≡ v) ⊎ (find key_cmp q labels ≡ Some v)
cases_put key label labels q v found = by (eq_by_cmp key_cmp q key) (sym (find-put key_cmp key_total q key label labels) ∙ found)
  where
    by : (b : Bool) → cond b (Some label) (find key_cmp q labels) ≡ Some v → (label ≡ v) ⊎ (find key_cmp q labels ≡ Some v)
    by true here = inl (same_Some label v here)
    by false before = inr before

-- and what was found is, where the key was new
put_after : (key : Key) (label : ℕ) (labels : List (Key × ℕ)) → find key_cmp key labels ≡ None → (q : Key) (v : ℕ) → find key_cmp q labels ≡ Some v → find key_cmp q (put key_cmp key label labels) ≡ Some v
put_after key label labels new q v found =
    find-put_apart key_cmp key_total key_exact q key label labels (λ same. absurd (let at = subst (λ k. find key_cmp k labels ≡ Some v) same found in cc)) ∙ found

-- what is found without a key is found under another one
but_apart : (key : Key) (labels : List (Key × ℕ)) (q : Key) (v : ℕ) → find key_cmp q (but key labels) ≡ Some v → q ≢ key
but_apart key labels q v found same =
    absurd (let at = subst (λ k. find key_cmp k (but key labels) ≡ Some v) same found in let none = find-removed_same key_cmp key_total key labels in cc)

but_before : (key : Key) (labels : List (Key × ℕ)) (q : Key) (v : ℕ) → find key_cmp q (but key labels) ≡ Some v → find key_cmp q labels ≡ Some v
but_before key labels q v found =
    sym (find-removed_apart key_cmp key_total key_exact q key labels (but_apart key labels q v found)) ∙ found

-- what an LSP holds is one of the range
pub held_own : (range : LabelRange) (labels : List (Key × ℕ)) → AreHeldOf range labels → (key : Key) (label : ℕ) → find key_cmp key labels ≡ Some label → IsOf range label
held_own range labels held key label found = record {
  from = subst (λ o. IfSome o (λ v. range.first ≤ v)) found (find-all key_cmp (λ v. range.first ≤ v) key labels held.from_first);
  to = subst (λ o. IfSome o (λ v. v ≤ range.last)) found (find-all key_cmp (λ v. v ≤ range.last) key labels held.to_last);
}

module _ (space : Labels) (labels : List (Key × ℕ)) (are : AreBound space labels) where
  -- what an LSP holds is held in the space
  pub found_held : (key : Key) (label : ℕ) → find key_cmp key labels ≡ Some label → IsHeld space label
  found_held key label found = (are.taken label).1 (held-found labels label key found)

  -- what rests is found
  rest_where : (label : ℕ) → find nat_cmp label (by_label space.resting) ≡ find nat_cmp label space.resting
  rest_where label = find-by_label label space.resting

  -- a label is free in the space exactly where it is one of the range, no LSP holds it and it doesn't rest
  pub free_by : (label : ℕ) → IsFree space label → IsOf space.range label × (is_free labels (by_label space.resting) label ≡ true)
  free_by label free = (
    free_own space label are.known free,
    free-from labels (by_label space.resting) label (false_from_ne_true (is_held labels label) (λ held. ((are.taken label).1 held).taken free)) (rest_where label ∙ find-absent label space.resting (free_awake space label are.known free)),
  )

  pub free_to : (label : ℕ) → IsOf space.range label → is_free labels (by_label space.resting) label ≡ true → IsFree space label
  free_to label own is =
      elim (cases_contained space.free label) [
        | inl free ↦ free
        | inr taken ↦
            let awake : ¬ Contains (keys_of space.resting) label = absent-found label space.resting (sym (rest_where label) ∙ free-awake labels (by_label space.resting) label is) in
            let held = (are.taken label).0 (record { own = own; taken = taken; awake = awake }) in
            absurd (both_ways (is_held labels label) (free-unheld labels (by_label space.resting) label is) held)
      ]

  -- Labels that rest are of the range, each until a later moment, and no LSP holds them.
  pub are_resting : AreRestingOf space.range space.moment labels (by_label space.resting)
  are_resting =
      let own = all-from_map (IsOf space.range) (λ (row : ℕ × ℕ). row.0) space.resting (all-parts (IsOf space.range) space.free (keys_of space.resting) are.known.own).1 in
      record {
        in_order = is_sorted-by_label space.resting;
        each = all-by_label (λ row. (space.range.first ≤ row.0) × (row.0 ≤ space.range.last) × (space.moment < row.1)) space.resting (all-both (λ (row : ℕ × ℕ). IsOf space.range row.0) (λ (row : ℕ × ℕ). space.moment < row.1) (λ row. (space.range.first ≤ row.0) × (row.0 ≤ space.range.last) × (space.moment < row.1)) (λ row is later. (is.from, is.to, later)) space.resting own are.known.later);
        apart = all-by_label (λ row. is_held labels row.0 ≡ false) space.resting (all_apart space.resting (λ label among. among));
      }
    where
      all_apart : (rows : List (ℕ × ℕ)) → ((label : ℕ) → Contains (keys_of rows) label → IsResting space label) → AllByRecursion (λ row. is_held labels row.0 ≡ false) rows
      all_apart [] rest = tt
      all_apart (row ∷ rows) rest = (
        false_from_ne_true (is_held labels row.0) (λ held. ((are.taken row.0).1 held).awake (rest row.0 (Contains-first row.0 (keys_of rows) row.0 refl))),
        all_apart rows (λ label among. rest label (Contains-later row.0 (keys_of rows) label among)),
      )

  -- An LSP that holds none takes a free label.
  pub bound-hold : (key : Key) (label : ℕ) → find key_cmp key labels ≡ None → IsOf space.range label → is_free labels (by_label space.resting) label ≡ true → AreBound (hold space label) (put key_cmp key label labels)
  bound-hold key label new own free =
      let now = put key_cmp key label labels in
      let sorted = is_sorted-put key_cmp key_total key label labels are.in_order in
      let unheld = free-unheld labels (by_label space.resting) label free in
      let is_held_now = λ (other : ℕ). IsHeld-hold space label other are.known (free_to label own free) in
      record {
        known = IsLabelSpace-hold space label are.known;
        in_order = sorted;
        held = record {
          from_first = all-put key_cmp (λ v. space.range.first ≤ v) key label own.from labels are.held.from_first;
          to_last = all-put key_cmp (λ v. v ≤ space.range.last) key label own.to labels are.held.to_last;
          apart = distinct-put key_cmp nat_eq nat_eq_equiv key label labels (all-weaker (λ (row : Key × ℕ). (row.1 == label) ≡ false) (λ (row : Key × ℕ). (label == row.1) ≡ false) (λ row apart. nat_eq_equiv.symm label row.1 ∙ apart) labels (unheld_differs labels label unheld)) are.held.apart;
        };
        taken = λ other. (
          λ is. elim ((is_held_now other).0 is) [
            | inl before ↦ let at = held-key labels other are.in_order ((are.taken other).0 before) in held-found now other at.0 (put_after key label labels new at.0 other at.1)
            | inr same ↦ held-found now other key (find-put_same key_cmp key_total key label labels ∙ ap Some (sym same))
          ],
          λ is.
              let at = held-key now other sorted is in
              (is_held_now other).1 (elim (cases_put key label labels at.0 other at.1) [ inl same ↦ inr (sym same) | inr before ↦ inl (found_held at.0 other before) ]),
        );
      }

  -- An LSP gives its label back, which rests until a moment.
  pub bound-release : (key : Key) (label until : ℕ) → find key_cmp key labels ≡ Some label → AreBound (release space label until) (but key labels)
  bound-release key label until found =
      let now = but key labels in
      let sorted = is_sorted-where_key key_cmp (λ q. not (is_eq (key_cmp key q))) labels are.in_order in
      let stays = λ (row : Key × ℕ). not (is_eq (key_cmp key row.0)) in
      let is_held_now = λ (other : ℕ). IsHeld-release space label until other in
      record {
        known = IsLabelSpace-release space label until are.known (found_held key label found);
        in_order = sorted;
        held = record {
          from_first = all-filter (λ (row : Key × ℕ). space.range.first ≤ row.1) stays labels are.held.from_first;
          to_last = all-filter (λ (row : Key × ℕ). row.1 ≤ space.range.last) stays labels are.held.to_last;
          apart = distinct-filter nat_eq (λ (row : Key × ℕ). row.1) stays labels are.held.apart;
        };
        taken = λ other. (
          λ is.
              let was = (is_held_now other).0 is in
              let at = held-key labels other are.in_order ((are.taken other).0 was.0) in
              held-found now other at.0 (find-removed_apart key_cmp key_total key_exact at.0 key labels (λ same. was.1 (same_Some other label (sym at.1 ∙ ap (λ k. find key_cmp k labels) same ∙ found))) ∙ at.1),
          λ is.
              let at = held-key now other sorted is in
              let before = but_before key labels at.0 other at.1 in
              (is_held_now other).1 (found_held at.0 other before, λ same. but_apart key labels at.0 other at.1 (one_key labels are.held.apart at.0 key other before (found ∙ ap Some (sym same)))),
        );
      }

  -- A moment comes.
  pub bound-wake : (now : ℕ) → AreBound (wake space now) labels
  bound-wake now = record {
    known = IsLabelSpace-wake space now are.known;
    in_order = are.in_order;
    held = are.held;
    taken = λ label. (λ is. (are.taken label).0 ((IsHeld-wake space now label).0 is), λ is. (IsHeld-wake space now label).1 ((are.taken label).1 is));
  }

  pub resting-wake : (now : ℕ) → by_label (wake space now).resting ≡ resting_past now (by_label space.resting)
  resting-wake now = by_label-resting_past now space.resting (distinct_last space.free (keys_of space.resting) are.known.apart)

  -- No label rests any more.
  pub bound-end_rests : AreBound (end_rests space) labels
  bound-end_rests = record {
    known = IsLabelSpace-end_rests space are.known;
    in_order = are.in_order;
    held = are.held;
    taken = λ label. (λ is. (are.taken label).0 ((IsHeld-end_rests space label).0 is), λ is. (IsHeld-end_rests space label).1 ((are.taken label).1 is));
  }

  -- the labels that rest once an LSP gave its label back
  pub resting-release : (key : Key) (label until : ℕ) → find key_cmp key labels ≡ Some label → by_label (release space label until).resting ≡ rested space.moment until (held_by key labels) (by_label space.resting)
  resting-release key label until found =
      let away : Differs label (keys_of space.resting) = differs_from (keys_of space.resting) label (found_held key label found).awake in
      let held : held_by key labels ≡ label ∷ [] = ap (λ o. option_map_or (λ (l : ℕ). l ∷ []) o []) found in
      elim (nat_lt space.moment until) as (λ b. by_label (cond b (rests_with (label, until) space.resting) space.resting) ≡ cond b (with_rest until (label ∷ []) (by_label space.resting)) (by_label space.resting)) [
        | true ↦ by_label-rests_with (label, until) space.resting away
        | false ↦ refl
      ]
      ∙ ap (λ freed. rested space.moment until freed (by_label space.resting)) (sym held)

  -- An LSP that holds none gives nothing back.
  pub but-absent : (key : Key) → find key_cmp key labels ≡ None → but key labels ≡ labels
  but-absent key none = where_key-absent key_cmp key labels none

-- The first of the LSPs gives its label back, and the others are left.
module _ (space : Labels) (row : Key × ℕ) (rows : List (Key × ℕ)) (are : AreBound space (row ∷ rows)) where
  but-first : but row.0 (row ∷ rows) ≡ rows
  but-first =
      ap (λ r. cond (not (is_eq r)) (row ∷ but row.0 rows) (but row.0 rows)) (tied_itself key_total row.0)
      ∙ where_key-absent key_cmp row.0 rows (find-behind key_cmp key_total row.0 row rows are.in_order (tied_itself key_total row.0))

  pub first_held : IsHeld space row.1
  first_held = found_held space (row ∷ rows) are row.0 row.1 (find-first key_cmp key_total row rows)

  pub bound-release_first : (until : ℕ) → AreBound (release space row.1 until) rows
  bound-release_first until =
      subst (AreBound (release space row.1 until)) but-first (bound-release space (row ∷ rows) are row.0 row.1 until (find-first key_cmp key_total row rows))

-- one LSP after the other gives its label back
module _ (space : Labels) (rows : List (Key × ℕ)) (i : ℕ) (d : Key × ℕ) (within : i < length rows) (are : AreBound space (drop i rows)) where
  pub next_held : IsHeld space (get_or rows i d).1
  next_held = first_held space (get_or rows i d) (drop (i + 1) rows) (subst (AreBound space) (drop_more rows i d within) are)

  pub bound-release_next : (until : ℕ) → AreBound (release space (get_or rows i d).1 until) (drop (i + 1) rows)
  bound-release_next until = bound-release_first space (get_or rows i d) (drop (i + 1) rows) (subst (AreBound space) (drop_more rows i d within) are) until
