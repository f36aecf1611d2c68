-- Edits of the reservations and of the claims beside them, one after the other.
use Rattle.std.proofs.Common.{◌≡◌, ℕ, ◌+◌, ◌<◌, T, true, false, not, List, [], ◌∷◌, ◌++◌, length, get_or, drop, map, reverse, Option, Some, None, refl, sym, ap, subst, ◌∙◌}
use Rattle.std.specs.FinMap.Entries.{is_sorted, where_key}
use Rattle.std.specs.Ordering.{is_eq}
use Rattle.std.specs.Option.{is_none, option_map}
use Rattle.std.proofs.lemmas.List.{drop_more, map-append, reverse-append, reverse-reverse}
use Rattle.sorted_rows.specs.Rows.{keys_of}
use Rattle.sorted_rows.specs.RowsLaws.{is_sorted-both}
use Rattle.sorted_rows.proofs.Passes.{both_passes, taken_back}
use Rattle.sorted_rows.specs.Edits.{edited}
use Rattle.sorted_rows.specs.InTurn.{given, in_turn, taken}
use Rattle.lsr_facts.specs.Orders.{key_cmp}
use Rattle.lsr_facts.specs.OrderLaws.{key_exact, key_total}
use Rattle.lsr_facts.specs.declared.key.Key.{Key}
use Rattle.lsr_facts.specs.declared.resv_fact.ResvFact.{ResvFact}
use Rattle.admission.specs.Bandwidths.{Edit}

-- an edit that takes something away, and one that doesn't
takes : {X : Type 0} (o : Option X) (key : Key) (rows : List (Key × X)) → is_none o ≡ true → taken key_cmp key o rows ≡ where_key key_cmp (λ other. not (is_eq (key_cmp key other))) rows
takes None key rows is = refl
takes (Some value) key rows is = absurd cc

gives : {X : Type 0} (o : Option X) (key : Key) (rows : List (Key × X)) → is_none o ≡ false → taken key_cmp key o rows ≡ rows
gives None key rows is = absurd cc
gives (Some value) key rows is = refl

-- what becomes of what an edit gives takes no more away
pub none_alike : {X : Type 0} (f : ResvFact × ℕ → X) (edit : Edit) → is_none (option_map f edit) ≡ is_none edit
none_alike f None = refl
none_alike f (Some now) = refl

module _ {X : Type 0} (f : Edit → Option X) where
  -- what the edits make of one of the tables
  abbrev pub edits_by : List (Key × Edit) → List (Key × Option X)
  edits_by edits = map (λ edit. (edit.0, f edit.1)) edits

  module _ (alike : (edit : Edit) → is_none (f edit) ≡ is_none edit) (edits : List (Key × Edit)) (i : ℕ) (edit : Key × Edit) (within : i < length edits) (is : edit ≡ get_or edits i edit) where
    -- the next edit of a list is made, and then the others
    turn_at : (rows : List (Key × X)) → in_turn (taken key_cmp) (edits_by (drop (i + 1) edits)) (taken key_cmp edit.0 (f edit.1) rows) ≡ in_turn (taken key_cmp) (edits_by (drop i edits)) rows
    turn_at rows = sym (ap (λ es. in_turn (taken key_cmp) (edits_by es) rows) (drop_more edits i edit within ∙ ap (λ e. e ∷ drop (i + 1) edits) (sym is)))

    -- where it takes something away, and where it doesn't
    pub takes_next : (rows now all : List (Key × X)) → is_none edit.1 ≡ true → now ≡ where_key key_cmp (λ other. not (is_eq (key_cmp edit.0 other))) rows → in_turn (taken key_cmp) (edits_by (drop i edits)) rows ≡ all → in_turn (taken key_cmp) (edits_by (drop (i + 1) edits)) now ≡ all
    takes_next rows now all none made before =
        ap (in_turn (taken key_cmp) (edits_by (drop (i + 1) edits))) (made ∙ sym (takes (f edit.1) edit.0 rows (alike edit.1 ∙ none))) ∙ turn_at rows ∙ before

    pub gives_next : (rows now all : List (Key × X)) → is_none edit.1 ≡ false → now ≡ rows → in_turn (taken key_cmp) (edits_by (drop i edits)) rows ≡ all → in_turn (taken key_cmp) (edits_by (drop (i + 1) edits)) now ≡ all
    gives_next rows now all some made before =
        ap (in_turn (taken key_cmp) (edits_by (drop (i + 1) edits))) (made ∙ sym (gives (f edit.1) edit.0 rows (alike edit.1 ∙ some))) ∙ turn_at rows ∙ before

  -- backwards, they make the same backwards
  by_back : (edits : List (Key × Edit)) → edits_by (reverse edits) ≡ reverse (edits_by edits)
  by_back [] = refl
  by_back (edit ∷ edits) =
      ap edits_by (reverse-append (edit ∷ []) edits)
      ∙ map-append (λ edit. (edit.0, f edit.1)) (reverse edits) (edit ∷ [])
      ∙ ap (λ es. es ++ (edit.0, f edit.1) ∷ []) (by_back edits)
      ∙ sym (reverse-append ((edit.0, f edit.1) ∷ []) (edits_by edits))

  keys_by : (edits : List (Key × Edit)) → keys_of (edits_by edits) ≡ keys_of edits
  keys_by [] = refl
  keys_by (edit ∷ edits) = ap (λ keys. edit.0 ∷ keys) (keys_by edits)

  sorted_by : (edits : List (Key × Edit)) → T (is_sorted key_cmp edits) → T (is_sorted key_cmp (edits_by edits))
  sorted_by edits h = subst T (sym (is_sorted-both key_cmp (edits_by edits) edits (keys_by edits))) h

  -- Both passes together make the edits, where the first went over a slice of them, from the last one on, and the second takes them.
  pub passes_by : (edits rows_of items seen : List (Key × Edit)) (rows left : List (Key × X)) → rows_of ≡ edits → items ≡ reverse rows_of → seen ≡ items → left ≡ in_turn (taken key_cmp) (edits_by seen) rows → T (is_sorted key_cmp edits) → T (is_sorted key_cmp rows) → in_turn (given key_cmp) (edits_by (reverse items)) left ≡ edited key_cmp (edits_by edits) rows
  passes_by edits rows_of items seen rows left is_edits is_back is_seen made g h =
      let back = is_back ∙ ap reverse is_edits in
      let first = made ∙ ap (λ es. in_turn (taken key_cmp) (edits_by es) rows) (is_seen ∙ back) ∙ ap (λ es. in_turn (taken key_cmp) es rows) (by_back edits) ∙ taken_back key_cmp (edits_by edits) rows in
      let second = ap reverse back ∙ reverse-reverse edits in
      (λ j. in_turn (given key_cmp) (edits_by (second j)) (first j)) ∙ both_passes key_cmp key_total key_exact (edits_by edits) rows (sorted_by edits g) h
