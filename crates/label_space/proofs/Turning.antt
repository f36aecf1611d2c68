-- Both passes together make the edits, and each LSP may hold what it is given when its turn comes.
use Rattle.std.proofs.Common.{◌≡◌, ℕ, ◌+◌, ◌<◌, ◌≤◌, drop, get_or, T, nat_eq, Bool, true, false, cond, List, [], ◌∷◌, length, Option, Some, None, IfSome, is_some, refl, sym, ap, subst, ◌∙◌, arith}
use Rattle.std.specs.FinMap.Entries.{find, is_sorted, put, same_entries}
use Rattle.std.specs.List.{IsDistinct}
use Rattle.std.specs.Ordering.{eq_by_cmp, is_eq, nat_cmp}
use Rattle.std.proofs.lemmas.Option.{none-some}
use Rattle.sorted_rows.specs.Rows.{values_of}
use Rattle.std.proofs.lemmas.Cmp.{tied_itself}
use Rattle.std.proofs.lemmas.List.{drop_more}
use Rattle.sorted_rows.specs.RowsLaws.{find-all_row, find-behind, find-first, find-put_apart, find-put_same, second, ties}
use Rattle.sorted_rows.proofs.Passes.{length_in_turn}
use Rattle.sorted_rows.specs.EditLaws.{find-at_key, find-edited, is_sorted-at_key, is_sorted-edited}
use Rattle.sorted_rows.specs.Edits.{at_key, edited, over}
use Rattle.sorted_rows.specs.InTurn.{given, in_turn}
use Rattle.lsr_facts.specs.OrderLaws.{key_exact, key_total}
use Rattle.lsr_facts.specs.Orders.{key_cmp}
use Rattle.lsr_facts.specs.declared.key.Key.{Key}
use Rattle.lsr_facts.specs.declared.router.LabelRange.{LabelRange}
use Rattle.std.proofs.lemmas.Map.Lookups.{exact_unsigned}
use Rattle.label_space.specs.FreeLabels.{is_held}
use Rattle.label_space.specs.RestLaws.{is_sorted-rested, rested_next}
use Rattle.label_space.specs.Rests.{AreApart, freed_by, held_by, rested}
use Rattle.label_space.specs.BindingLaws.{free-from, one_key, unheld-from_not_found, unheld-not_found}
use Rattle.label_space.specs.Bindings.{AreHeldOf}
use Rattle.label_space.proofs.Binding.{held_own}
use Rattle.label_space.specs.Turns.{CanHold, MayHoldNow, emptied}

-- nothing, whichever way
no_other : {X : Type 0} (o : Option X) (b : Bool) → cond b o o ≡ o
no_other o true = refl
no_other o false = refl

-- one key that is emptied more
emptied_more : {X : Type 0} (b : Bool) (now : Option X) (later : Option (Option X)) (was : Option X) → cond (is_some later) None (cond b None was) ≡ cond (is_some (cond b (Some now) later)) None was
emptied_more true now later was = no_other None (is_some later)
emptied_more false now later was = refl

-- After the first pass nothing is found under a key that is edited, and all else is found as before.
find_emptied : (q : Key) (edits : List (Key × Option ℕ)) (labels : List (Key × ℕ)) → find key_cmp q (in_turn (emptied key_cmp) edits labels) ≡ cond (is_some (find key_cmp q edits)) None (find key_cmp q labels)
find_emptied q [] labels = refl
find_emptied q (edit ∷ edits) labels =
    find_emptied q edits (at_key key_cmp edit.0 None labels)
    ∙ ap (cond (is_some (find key_cmp q edits)) None) (find-at_key key_cmp key_total q edit.0 None labels)
    ∙ emptied_more (eq_by_cmp key_cmp q edit.0) edit.1 (find key_cmp q edits) (find key_cmp q labels)

sorted_emptied : (edits : List (Key × Option ℕ)) (labels : List (Key × ℕ)) → T (is_sorted key_cmp labels) → T (is_sorted key_cmp (in_turn (emptied key_cmp) edits labels))
sorted_emptied [] labels h = h
sorted_emptied (edit ∷ edits) labels h = sorted_emptied edits (at_key key_cmp edit.0 None labels) (is_sorted-at_key key_cmp key_total edit.0 None labels h)

-- none of the keys that are edited holds a label
abbrev AreNew : List (Key × Option ℕ) → List (Key × ℕ) → Type 0
AreNew edits labels = (q : Key) (now : Option ℕ) → find key_cmp q edits ≡ Some now → find key_cmp q labels ≡ None

new_emptied : (edits : List (Key × Option ℕ)) (labels : List (Key × ℕ)) → AreNew edits (in_turn (emptied key_cmp) edits labels)
new_emptied edits labels q now found = find_emptied q edits labels ∙ ap (λ o. cond (is_some o) None (find key_cmp q labels)) found

-- one edit of the second pass
sorted_given : (key : Key) (now : Option ℕ) (labels : List (Key × ℕ)) → T (is_sorted key_cmp labels) → T (is_sorted key_cmp (given key_cmp key now labels))
sorted_given key None labels h = h
sorted_given key (Some label) labels h = is_sorted-at_key key_cmp key_total key (Some label) labels h

given_here : (key : Key) (now : Option ℕ) (labels : List (Key × ℕ)) → find key_cmp key labels ≡ None → find key_cmp key (given key_cmp key now labels) ≡ now
given_here key None labels new = new
given_here key (Some label) labels new = find-put_same key_cmp key_total key label labels

given_apart : (q key : Key) (now : Option ℕ) (labels : List (Key × ℕ)) → (q ≡ key → ⊥) → find key_cmp q (given key_cmp key now labels) ≡ find key_cmp q labels
given_apart q key None labels apart = refl
given_apart q key (Some label) labels apart = find-put_apart key_cmp key_total key_exact q key label labels apart

-- a key is tied to itself
not_itself : (q key : Key) → eq_by_cmp key_cmp q key ≡ false → q ≡ key → ⊥
not_itself q key apart same =
    absurd (let at = subst (λ k. eq_by_cmp key_cmp k key ≡ false) same apart in let tie = ap is_eq (tied_itself key_total key) in cc)

module _ (edit : Key × Option ℕ) (edits : List (Key × Option ℕ)) (h : T (is_sorted key_cmp (edit ∷ edits))) where
  -- the first key isn't edited again
  not_again : find key_cmp edit.0 edits ≡ None
  not_again = find-behind key_cmp key_total edit.0 edit edits h (tied_itself key_total edit.0)

  -- and the others are others
  others_apart : (q : Key) (now : Option ℕ) → find key_cmp q edits ≡ Some now → q ≡ edit.0 → ⊥
  others_apart q now found same = absurd (let at = subst (λ k. find key_cmp k edits ≡ Some now) same found in let none = not_again in cc)

  find_others : (q : Key) → (q ≡ edit.0 → ⊥) → find key_cmp q (edit ∷ edits) ≡ find key_cmp q edits
  find_others q apart = by (eq_by_cmp key_cmp q edit.0) refl
    where
      by : (b : Bool) → eq_by_cmp key_cmp q edit.0 ≡ b → cond b (Some edit.1) (find key_cmp q edits) ≡ find key_cmp q edits
      by true tie = absurd (apart (key_exact q edit.0 (ties _ tie)))
      by false other = refl

  module _ (labels : List (Key × ℕ)) (new : AreNew (edit ∷ edits) labels) where
    new_here : find key_cmp edit.0 labels ≡ None
    new_here = new edit.0 edit.1 (find-first key_cmp key_total edit edits)

    new_others : AreNew edits (given key_cmp edit.0 edit.1 labels)
    new_others q now found =
        let apart = others_apart q now found in
        given_apart q edit.0 edit.1 labels apart ∙ new q now (find_others q apart ∙ found)

    -- what the first edit leaves to the others
    first_given : (q : Key) → over (find key_cmp q edits) (find key_cmp q (given key_cmp edit.0 edit.1 labels)) ≡ over (find key_cmp q (edit ∷ edits)) (find key_cmp q labels)
    first_given q = by (eq_by_cmp key_cmp q edit.0) refl
      where
        by : (b : Bool) → eq_by_cmp key_cmp q edit.0 ≡ b → over (find key_cmp q edits) (find key_cmp q (given key_cmp edit.0 edit.1 labels)) ≡ over (cond b (Some edit.1) (find key_cmp q edits)) (find key_cmp q labels)
        by true tie =
            let same : q ≡ edit.0 = key_exact q edit.0 (ties _ tie) in
            ap (λ k. over (find key_cmp k edits) (find key_cmp k (given key_cmp edit.0 edit.1 labels))) same
            ∙ ap (λ later. over later (find key_cmp edit.0 (given key_cmp edit.0 edit.1 labels))) not_again
            ∙ given_here edit.0 edit.1 labels new_here
        by false apart = ap (over (find key_cmp q edits)) (given_apart q edit.0 edit.1 labels (not_itself q edit.0 apart))

-- After the second pass each key has what it is given, where it had nothing before.
find_given : (q : Key) (edits : List (Key × Option ℕ)) (labels : List (Key × ℕ)) → T (is_sorted key_cmp edits) → AreNew edits labels → find key_cmp q (in_turn (given key_cmp) edits labels) ≡ over (find key_cmp q edits) (find key_cmp q labels)
find_given q [] labels h new = refl
find_given q (edit ∷ edits) labels h new =
    find_given q edits (given key_cmp edit.0 edit.1 labels) (second _ _ h) (new_others edit edits h labels new) ∙ first_given edit edits h labels new q

sorted_all_given : (edits : List (Key × Option ℕ)) (labels : List (Key × ℕ)) → T (is_sorted key_cmp labels) → T (is_sorted key_cmp (in_turn (given key_cmp) edits labels))
sorted_all_given [] labels h = h
sorted_all_given (edit ∷ edits) labels h = sorted_all_given edits (given key_cmp edit.0 edit.1 labels) (sorted_given edit.0 edit.1 labels h)

over_emptied : {X : Type 0} (edit : Option (Option X)) (was : Option X) → over edit (cond (is_some edit) None was) ≡ over edit was
over_emptied None was = refl
over_emptied (Some now) was = refl

-- The two passes together make the edits.
pub passes_made : (edits : List (Key × Option ℕ)) (labels : List (Key × ℕ)) → T (is_sorted key_cmp edits) → T (is_sorted key_cmp labels) → in_turn (given key_cmp) edits (in_turn (emptied key_cmp) edits labels) ≡ edited key_cmp edits labels
passes_made edits labels g h =
    let left = in_turn (emptied key_cmp) edits labels in
    same_entries key_cmp key_total key_exact (in_turn (given key_cmp) edits left) (edited key_cmp edits labels) (sorted_all_given edits left (sorted_emptied edits labels h)) (is_sorted-edited key_cmp key_total edits labels h) (λ q.
    find_given q edits left g (new_emptied edits labels)
    ∙ ap (over (find key_cmp q edits)) (find_emptied q edits labels)
    ∙ over_emptied (find key_cmp q edits) (find key_cmp q labels)
    ∙ sym (find-edited key_cmp key_total q edits labels))

-- what holds a label already isn't edited
not_edited : (q : Key) (label : ℕ) (edits : List (Key × Option ℕ)) (labels : List (Key × ℕ)) → AreNew edits labels → find key_cmp q labels ≡ Some label → find key_cmp q edits ≡ None
not_edited q label edits labels new found = by (find key_cmp q edits) refl
  where
    by : (o : Option (Option ℕ)) → find key_cmp q edits ≡ o → o ≡ None
    by None none = refl
    by (Some now) some = absurd (let none = new q now some in cc)

-- what an LSP is given it holds in the end
given_last : (key : Key) (label : ℕ) (edits : List (Key × Option ℕ)) (labels : List (Key × ℕ)) → T (is_sorted key_cmp ((key, Some label) ∷ edits)) → AreNew ((key, Some label) ∷ edits) labels → find key_cmp key (in_turn (given key_cmp) edits (put key_cmp key label labels)) ≡ Some label
given_last key label edits labels g new =
    find_given key edits (put key_cmp key label labels) (second _ _ g) (new_others (key, Some label) edits g labels new)
    ∙ ap (λ later. over later (find key_cmp key (put key_cmp key label labels))) (not_again (key, Some label) edits g)
    ∙ find-put_same key_cmp key_total key label labels

-- and what others hold already, they hold in the end: so no other LSP holds that label
no_other_holds : (key : Key) (label : ℕ) (edits : List (Key × Option ℕ)) (labels : List (Key × ℕ)) → T (is_sorted key_cmp ((key, Some label) ∷ edits)) → AreNew ((key, Some label) ∷ edits) labels → IsDistinct nat_eq (values_of (in_turn (given key_cmp) edits (put key_cmp key label labels))) → (q : Key) → find key_cmp q labels ≡ Some label → ⊥
no_other_holds key label edits labels g new apart q found =
    let all : List (Key × Option ℕ) = (key, Some label) ∷ edits in
    let last = in_turn (given key_cmp) edits (put key_cmp key label labels) in
    let at_q : find key_cmp q last ≡ Some label = find_given q all labels g new ∙ ap (λ now. over now (find key_cmp q labels)) (not_edited q label all labels new found) ∙ found in
    let at : find key_cmp key labels ≡ Some label = subst (λ k. find key_cmp k labels ≡ Some label) (one_key last apart q key label at_q (given_last key label edits labels g new)) found in
    none-some label (sym (new_here (key, Some label) edits g labels new) ∙ at)

-- a label that rests is held by no LSP
awake_where : (labels : List (Key × ℕ)) (resting : List (ℕ × ℕ)) → AreApart labels resting → (key : Key) (label : ℕ) → find key_cmp key labels ≡ Some label → find nat_cmp label resting ≡ None
awake_where labels resting apart key label found =
    by (find nat_cmp label resting) (find-all_row nat_cmp exact_unsigned (λ row. is_held labels row.0 ≡ false) label resting apart)
  where
    by : (o : Option ℕ) → IfSome o (λ until. is_held labels label ≡ false) → o ≡ None
    by None is = refl
    by (Some until) is = absurd (unheld-not_found labels label is key found)

-- an LSP may hold what it is given, where all are as they should be in the end
may_hold : (range : LabelRange) (key : Key) (now : Option ℕ) (edits : List (Key × Option ℕ)) (labels : List (Key × ℕ)) (resting : List (ℕ × ℕ)) → T (is_sorted key_cmp ((key, now) ∷ edits)) → T (is_sorted key_cmp labels) → AreNew ((key, now) ∷ edits) labels → length (in_turn (given key_cmp) edits (given key_cmp key now labels)) ≤ 1024 → AreHeldOf range (in_turn (given key_cmp) edits (given key_cmp key now labels)) → AreApart (in_turn (given key_cmp) edits (given key_cmp key now labels)) resting → MayHoldNow range key now labels resting
may_hold range key None edits labels resting g h new few held apart = tt
may_hold range key (Some label) edits labels resting g h new few held apart =
    let last = in_turn (given key_cmp) edits (put key_cmp key label labels) in
    let at = given_last key label edits labels g new in
    record {
      room = omega (arith, few, length_in_turn key_cmp edits (put key_cmp key label labels));
      new = new_here (key, Some label) edits g labels new;
      own = held_own range last held key label at;
      free = free-from labels resting label (unheld-from_not_found labels label h (no_other_holds key label edits labels g new held.apart)) (awake_where last resting apart key label at);
    }

can_hold : (range : LabelRange) (edits : List (Key × Option ℕ)) (labels : List (Key × ℕ)) (resting : List (ℕ × ℕ)) → T (is_sorted key_cmp edits) → T (is_sorted key_cmp labels) → AreNew edits labels → length (in_turn (given key_cmp) edits labels) ≤ 1024 → AreHeldOf range (in_turn (given key_cmp) edits labels) → AreApart (in_turn (given key_cmp) edits labels) resting → CanHold range edits labels resting
can_hold range [] labels resting g h new few held apart = tt
can_hold range (edit ∷ edits) labels resting g h new few held apart = (
  may_hold range edit.0 edit.1 edits labels resting g h new few held apart,
  can_hold range edits (given key_cmp edit.0 edit.1 labels) resting (second _ _ g) (sorted_given edit.0 edit.1 labels h) (new_others edit edits g labels new) few held apart,
)

-- After the first pass each LSP may hold what it is given, in turn.
pub can_hold_then : (range : LabelRange) (edits : List (Key × Option ℕ)) (labels : List (Key × ℕ)) (resting : List (ℕ × ℕ)) → T (is_sorted key_cmp edits) → T (is_sorted key_cmp labels) → length (edited key_cmp edits labels) ≤ 1024 → AreHeldOf range (edited key_cmp edits labels) → AreApart (edited key_cmp edits labels) resting → CanHold range edits (in_turn (emptied key_cmp) edits labels) resting
can_hold_then range edits labels resting g h few held apart =
    let left = in_turn (emptied key_cmp) edits labels in
    let made = passes_made edits labels g h in
    can_hold range edits left resting g (sorted_emptied edits labels h) (new_emptied edits labels)
    (subst (λ rows. length rows ≤ 1024) (sym made) few)
    (subst (AreHeldOf range) (sym made) held)
    (subst (λ rows. AreApart rows resting) (sym made) apart)

-- The next edit of the first pass, and those behind it.
pub emptied_next : (edits : List (Key × Option ℕ)) (i : ℕ) (d : Key × Option ℕ) (key : Key) (labels now all : List (Key × ℕ)) → i < length edits → key ≡ (get_or edits i d).0 → now ≡ at_key key_cmp key None labels → in_turn (emptied key_cmp) (drop i edits) labels ≡ all → in_turn (emptied key_cmp) (drop (i + 1) edits) now ≡ all
emptied_next edits i d key labels now all within is made before =
    ap (in_turn (emptied key_cmp) (drop (i + 1) edits)) (made ∙ ap (λ k. at_key key_cmp k None labels) is)
    ∙ sym (ap (λ es. in_turn (emptied key_cmp) es labels) (drop_more edits i d within))
    ∙ before

-- The labels are in order still, and those that rest.
pub sorted_next : (key : Key) (labels now : List (Key × ℕ)) → now ≡ at_key key_cmp key None labels → T (is_sorted key_cmp labels) → T (is_sorted key_cmp now)
sorted_next key labels now made sorted =
    subst (λ rows. T (is_sorted key_cmp rows)) (sym made) (is_sorted-at_key key_cmp key_total key None labels sorted)

pub in_order_next : (moment until : ℕ) (key : Key) (labels : List (Key × ℕ)) (resting then : List (ℕ × ℕ)) → then ≡ rested moment until (held_by key labels) resting → T (is_sorted nat_cmp resting) → T (is_sorted nat_cmp then)
in_order_next moment until key labels resting then rests in_order =
    subst (λ rows. T (is_sorted nat_cmp rows)) (sym rests) (is_sorted-rested moment until (held_by key labels) resting in_order)

-- And so it is with the labels that rest.
pub rested_turn : (edits : List (Key × Option ℕ)) (i : ℕ) (d : Key × Option ℕ) (key : Key) (moment now_at until : ℕ) (labels now : List (Key × ℕ)) (resting then all : List (ℕ × ℕ)) → T (is_sorted key_cmp labels) → T (is_sorted nat_cmp resting) → i < length edits → key ≡ (get_or edits i d).0 → now_at ≡ moment → now ≡ at_key key_cmp key None labels → then ≡ rested now_at until (held_by key labels) resting → rested moment until (freed_by (drop i edits) labels) resting ≡ all → rested moment until (freed_by (drop (i + 1) edits) now) then ≡ all
rested_turn edits i d key moment now_at until labels now resting then all sorted in_order within is at made rests before =
    let edit = get_or edits i d in
    (λ j. rested moment until (freed_by (drop (i + 1) edits) (made j)) (rests j))
    ∙ ap (λ m. rested moment until (freed_by (drop (i + 1) edits) (at_key key_cmp key None labels)) (rested m until (held_by key labels) resting)) at
    ∙ ap (λ k. rested moment until (freed_by (drop (i + 1) edits) (at_key key_cmp k None labels)) (rested moment until (held_by k labels) resting)) is
    ∙ rested_next moment until edit.0 edit.1 (drop (i + 1) edits) labels resting sorted in_order
    ∙ sym (ap (λ es. rested moment until (freed_by es labels) resting) (drop_more edits i d within))
    ∙ before
