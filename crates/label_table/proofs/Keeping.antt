-- The edits of the LSPs that changed make of one state's label table the other's.
use Rattle.std.proofs.Common.{◌≡◌, ◌≢◌, ◌⊎◌, ◌≤◌, ℕ, T, Bool, true, false, List, [], ◌∷◌, length, not, Option, Some, None, IfSome, is_some, refl, sym, ap, subst, ◌∙◌, inl, inr, arith}
use Rattle.std.specs.FinMap.Entries.{find, is_sorted}
use Rattle.std.specs.Bool.{then_some}
use Rattle.std.specs.List.{AllByRecursion, filter}
use Rattle.std.specs.Option.{option_and_then, option_map}
use Rattle.std.specs.Ordering.{nat_cmp}
use Rattle.std.proofs.lemmas.Cmp.{nat_cmp_total}
use Rattle.std.proofs.lemmas.List.Elements.{All-from_recursion}
use Rattle.sorted_rows.specs.EditLaws.{find-edited, is_sorted-edited}
use Rattle.sorted_rows.specs.Edits.{edited, over}
use Rattle.sorted_rows.specs.RowsLaws.{all-from_find, find-all, find-filter, is_some-find_both}
use Rattle.lsr_facts.specs.Lifetimes.{begins_here}
use Rattle.lsr_facts.specs.Limits.{max_lsps}
use Rattle.lsr_facts.specs.OrderLaws.{key_total}
use Rattle.lsr_facts.specs.Orders.{key_cmp}
use Rattle.lsr_facts.specs.declared.key.Key.{Key}
use Rattle.lsr_facts.specs.declared.path_fact.PathFact.{PathFact}
use Rattle.lsr_facts.specs.declared.router.Router.{Router}
use Rattle.forwarding_table.specs.Actions.{WritesLabels}
use Rattle.forwarding_table.specs.declared.action.Action.{Action}
use Rattle.lsr_facts.specs.declared.repair.Repair.{Repair}
use Rattle.abstract_paths.specs.StampLaws.{none-is}
use Rattle.abstract_paths.specs.Touched.{is_among}
use Rattle.abstract_router.specs.Soundness.{AreLabelled, IsResv}
use Rattle.abstract_router.specs.Lsps.{Lsp, around_of, lsp_at, lsp_of}
use Rattle.abstract_router.specs.States.{State}
use Rattle.abstract_router.specs.Tables.{action_of, look}
use Rattle.abstract_router.specs.Touched.{LeavesOtherLsps}
use Rattle.state_views.specs.EditLaws.{labels_in_order}
use Rattle.label_space.specs.BindingLaws.{cases_held, one_key, unheld-not_found}
use Rattle.label_table.proofs.Acting.{action_writes, kept_action}
use Rattle.label_table.proofs.Changing.{changes_something, found_changes, over_change}
use Rattle.label_table.proofs.Rooms.{table_few}
use Rattle.label_table.proofs.Setting.{each_apart, each_holds, each_said, each_sorted}
use Rattle.label_table.specs.Bypassed.{AreBypassed}
use Rattle.label_table.specs.RowLaws.{look-held, look-unheld}
use Rattle.label_table.specs.Rows.{AreTableEdits, IsTableOf, action_at}
use Rattle.label_table.specs.Turns.{Edit, change, change_at, put_each, row_at, rows_of}

-- a test answers yes or no
cases_bool : (b : Bool) → (b ≡ true) ⊎ (b ≡ false)
cases_bool true = inl refl
cases_bool false = inr refl

-- an LSP that holds a label is known, with that label
label_at : (r : Router) (s : State) → T (is_sorted key_cmp s.facts.paths) → AreLabelled r s → (key : Key) → find key_cmp key s.labels ≡ option_and_then (λ (lsp : Lsp). lsp.label) (lsp_at s key)
label_at r s sorted held key = by (find key_cmp key s.facts.paths) refl
  where
    ours : Key × PathFact → Bool
    ours path = not (begins_here path.1.role)

    by : (o : Option PathFact) → find key_cmp key s.facts.paths ≡ o → find key_cmp key s.labels ≡ option_and_then (λ (lsp : Lsp). lsp.label) (option_map (lsp_of s key) o)
    by None none =
        none-is (find key_cmp key s.labels) (
        is_some-find_both key_cmp key s.labels (filter ours s.facts.paths) held.of_lsps
        ∙ ap is_some (find-filter key_cmp key_total ours key (λ k v tied. refl) s.facts.paths sorted ∙ ap (option_and_then (λ (path : PathFact). then_some (ours (key, path)) path)) none))
    by (Some path) some = refl

-- a row of an LSP is one of the label that it holds, and says the LSP's action
of_row : (held : Option ℕ) (acts : Option Action) (label : ℕ) (now : Action) → option_and_then (λ (l : ℕ). option_map {U = ℕ × Action} (λ (a : Action). (l, a)) acts) held ≡ Some (label, now) → (held ≡ Some label) × (acts ≡ Some now)
of_row None acts label now e = absurd (let h = e in cc)
of_row (Some l) None label now e = absurd (let h = e in cc)
of_row (Some l) (Some a) label now e =
    let same : ◌≡◌ {A = ℕ × Action} (l, a) (label, now) = let h = e in cc in
    (λ i. Some (same i).0, λ i. Some (same i).1)

module _ {E : Type 0} (touched : List (Key × E)) (r : Router) (s : State) (sorted : T (is_sorted key_cmp s.facts.paths)) (held : AreLabelled r s) (label : ℕ) where
  -- where none of these LSPs holds the label, it has no row
  none_of_them : ((key : Key) → is_among key_cmp touched key ≡ true → find key_cmp key s.labels ≡ Some label → ⊥) → find nat_cmp label (rows_of r s touched) ≡ None
  none_of_them absent =
      each_apart (row_at r s) label touched [] (λ key among now is. absent key among (of_row (find key_cmp key s.labels) (action_at r s key) label now is).0)

  -- where one of them holds it, it has that one's action
  one_of_them : (key : Key) → is_among key_cmp touched key ≡ true → find key_cmp key s.labels ≡ Some label → find nat_cmp label (rows_of r s touched) ≡ action_at r s key
  one_of_them key among at = by (action_at r s key) refl
    where
      alike : (other : Key) → find key_cmp other s.labels ≡ Some label → action_at r s other ≡ action_at r s key
      alike other is = ap (action_at r s) (one_key s.labels held.apart other key label is at)

      by : (o : Option Action) → action_at r s key ≡ o → find nat_cmp label (rows_of r s touched) ≡ o
      by None acts =
          each_apart (row_at r s) label touched [] (λ other _ now is.
          let of = of_row (find key_cmp other s.labels) (action_at r s other) label now is in
          absurd (let e = sym of.1 ∙ alike other of.0 ∙ acts in cc))
      by (Some action) acts =
          each_said (row_at r s) label action (λ other now is.
          let of = of_row (find key_cmp other s.labels) (action_at r s other) label now is in
          let e : Some now ≡ Some action = sym of.1 ∙ alike other of.0 ∙ acts in
          cc) key
          ((λ i. option_and_then (λ (l : ℕ). option_map {U = ℕ × Action} (λ (a : Action). (l, a)) (acts i)) (at i))) touched [] among

  -- So a label has the state's action among their rows; or another LSP holds it, and it has none there.
  abbrev IsElsewhere : Type 0
  IsElsewhere = (key : Key) × (is_among key_cmp touched key ≡ false) × (find key_cmp key s.labels ≡ Some label)

  sides : (find nat_cmp label (rows_of r s touched) ≡ look r s label) ⊎ IsElsewhere
  sides = elim (cases_held s.labels label (labels_in_order s.labels s.facts.paths sorted held.of_lsps)) [
    | inl unheld ↦ inl (none_of_them (λ key among is. unheld-not_found s.labels label unheld key is) ∙ sym (look-unheld r s label unheld))
    | inr holder ↦ elim (cases_bool (is_among key_cmp touched holder.0)) [
      | inl among ↦ inl (one_of_them holder.0 among holder.1 ∙ sym (look-held r s sorted held.apart holder.0 label holder.1))
      | inr apart ↦ inr (holder.0, apart, holder.1)
    ]
  ]

  -- an LSP that isn't one of them holds the label
  none_there : IsElsewhere → find nat_cmp label (rows_of r s touched) ≡ None
  none_there at = none_of_them (λ other among is. absurd (let e = ap (is_among key_cmp touched) (one_key s.labels held.apart other at.0 label is at.2) in let no = at.1 in let yes = among in cc))

module _ (r : Router) (before after : State) (keys touched : List (Key × Unit {0})) (sorted_before : T (is_sorted key_cmp before.facts.paths)) (sorted_after : T (is_sorted key_cmp after.facts.paths)) (held_before : AreLabelled r before) (held_after : AreLabelled r after)
    (elsewhere : LeavesOtherLsps (is_among key_cmp keys) before after) (bypassed : AreBypassed r before after keys touched) where
  -- the rows of these LSPs before and after, and the edits between them
  abbrev was : List (ℕ × Action)
  was = rows_of r before touched

  abbrev now : List (ℕ × Action)
  now = rows_of r after touched

  abbrev all : List Edit
  all = put_each (change_at was now) now (put_each (change_at was now) was [])

  -- of an LSP that isn't touched the same is known
  same_lsp : (key : Key) → is_among key_cmp touched key ≡ false → lsp_at before key ≡ lsp_at after key
  same_lsp key apart = elsewhere key (bypassed.kept key apart)

  -- so it has the same action, and the same label
  same_action : (key : Key) → is_among key_cmp touched key ≡ false → action_at r before key ≡ action_at r after key
  same_action key apart =
      kept_action r before after key (bypassed.others key apart)
      ∙ ap (option_and_then (action_of (around_of r after))) (same_lsp key apart)

  same_label : (key : Key) → is_among key_cmp touched key ≡ false → find key_cmp key before.labels ≡ find key_cmp key after.labels
  same_label key apart =
      label_at r before sorted_before held_before key
      ∙ ap (option_and_then (λ (lsp : Lsp). lsp.label)) (same_lsp key apart)
      ∙ sym (label_at r after sorted_after held_after key)

  -- of each label: it has among these rows the actions that it has; or it has none among them, and keeps its action
  abbrev IsPlaced : ℕ → Type 0
  IsPlaced label =
      ((find nat_cmp label was ≡ look r before label) × (find nat_cmp label now ≡ look r after label))
      ⊎ ((find nat_cmp label was ≡ None) × (find nat_cmp label now ≡ None) × (look r before label ≡ look r after label))

  kept : (label : ℕ) (key : Key) → is_among key_cmp touched key ≡ false → find key_cmp key before.labels ≡ Some label → find key_cmp key after.labels ≡ Some label → IsPlaced label
  kept label key apart at_before at_after = inr (
    none_there touched r before sorted_before held_before label (key, apart, at_before),
    none_there touched r after sorted_after held_after label (key, apart, at_after),
    look-held r before sorted_before held_before.apart key label at_before ∙ same_action key apart ∙ sym (look-held r after sorted_after held_after.apart key label at_after),
  )

  placed : (label : ℕ) → IsPlaced label
  placed label = elim (sides touched r before sorted_before held_before label) [
    | inl is_was ↦ elim (sides touched r after sorted_after held_after label) [
      | inl is_now ↦ inl (is_was, is_now)
      | inr at ↦ kept label at.0 at.1 (same_label at.0 at.1 ∙ at.2) at.2
    ]
    | inr at ↦ kept label at.0 at.1 at.2 (sym (same_label at.0 at.1) ∙ at.2)
  ]

  -- what there is of a label once its edit, if it has one, is made
  made : (label : ℕ) → over (find nat_cmp label all) (look r before label) ≡ look r after label
  made label =
      ap (λ o. over o (look r before label)) (found_changes was now label)
      ∙ elim (placed label) [
        | inl at ↦ ap (over (change (find nat_cmp label was) (find nat_cmp label now))) (sym at.0) ∙ over_change (find nat_cmp label was) (find nat_cmp label now) ∙ at.1
        | inr at ↦ (λ i. over (change (at.0 i) (at.1 i)) (look r before label)) ∙ at.2
      ]

  -- The edits make the one table of the other.
  table_made : (rows : List (ℕ × Action)) → IsTableOf r before rows → IsTableOf r after (edited nat_cmp all rows)
  table_made rows is label = find-edited nat_cmp nat_cmp_total label all rows ∙ ap (over (find nat_cmp label all)) (is label) ∙ made label

  -- an edit changes the action of its label, and says the one that is to be
  changing : (label : ℕ) (edit : Option Action) → find nat_cmp label all ≡ Some edit → (look r before label ≢ look r after label) × (edit ≡ find nat_cmp label now)
  changing label edit found =
      let of = changes_something (find nat_cmp label was) (find nat_cmp label now) edit (sym (found_changes was now label) ∙ found) in
      elim (placed label) [
        | inl at ↦ (λ same. of.0 (at.0 ∙ same ∙ sym at.1), of.1)
        | inr at ↦ absurd (of.0 (at.0 ∙ sym at.1))
      ]

  all_sorted : T (is_sorted nat_cmp all)
  all_sorted = each_sorted (change_at was now) now (put_each (change_at was now) was []) (each_sorted (change_at was now) was [] tt)

  now_writes : AllByRecursion (IsResv after.facts.moment) after.resvs → AllByRecursion (λ (repair : Key × Repair). IsResv after.facts.moment (repair.0, repair.1.resv)) after.repairs → AllByRecursion (λ (row : ℕ × Action). WritesLabels row.1) now
  now_writes resvs repairs = each_holds (row_at r after) WritesLabels (λ key. by (action_at r after key) (action_writes r after resvs repairs key) (find key_cmp key after.labels)) touched [] tt
    where
      by : (acts : Option Action) → IfSome acts WritesLabels → (o : Option ℕ) → IfSome (option_and_then (λ (l : ℕ). option_map {U = ℕ × Action} (λ (a : Action). (l, a)) acts) o) (λ (row : ℕ × Action). WritesLabels row.1)
      by acts writes None = tt
      by None writes (Some label) = tt
      by (Some action) writes (Some label) = writes

  all_change : AllByRecursion (λ (edit : Edit). look r before edit.0 ≢ look r after edit.0) all
  all_change = all-from_find nat_cmp nat_cmp_total (λ (edit : Edit). look r before edit.0 ≢ look r after edit.0) all all_sorted (λ label edit found. (changing label edit found).0)

  -- where no label's action changes there is none
  none_changes : (edits : List Edit) → AllByRecursion (λ (edit : Edit). look r before edit.0 ≢ look r after edit.0) edits → ((label : ℕ) → look r before label ≡ look r after label) → edits ≡ []
  none_changes [] change same = refl
  none_changes (edit ∷ edits) change same = absurd (change.0 (same edit.0))

  module _ (resvs : AllByRecursion (IsResv after.facts.moment) after.resvs) (repairs : AllByRecursion (λ (repair : Key × Repair). IsResv after.facts.moment (repair.0, repair.1.resv)) after.repairs) where
    -- So they are edits of the table.
    are_edits : length after.facts.paths ≤ max_lsps → AreTableEdits r before after all
    are_edits few = record {
      table = table_made;
      room = λ rows h is. omega (arith, table_few r after (edited nat_cmp all rows) (is_sorted-edited nat_cmp nat_cmp_total all rows h) (table_made rows is), few);
      labels = All-from_recursion (λ (edit : Edit). IfSome edit.1 WritesLabels) all
          (all-from_find nat_cmp nat_cmp_total (λ (edit : Edit). IfSome edit.1 WritesLabels) all all_sorted (λ label edit found.
          subst (λ o. IfSome o WritesLabels) (sym (changing label edit found).1) (find-all nat_cmp WritesLabels label now (now_writes resvs repairs))));
      changes = All-from_recursion (λ (edit : Edit). look r before edit.0 ≢ look r after edit.0) all all_change;
      none = none_changes all all_change;
    }

    -- They are where they were made of the rows before and after.
    pub changes_edit : length after.facts.paths ≤ max_lsps → (before_lsps after_lsps : List (Key × Unit {0})) → before_lsps ≡ touched → after_lsps ≡ touched → (before_rows after_rows : List (ℕ × Action)) → before_rows ≡ rows_of r before before_lsps → after_rows ≡ rows_of r after after_lsps
        → (asked more : List (ℕ × Action)) → asked ≡ before_rows → more ≡ after_rows → (none first edits : List Edit) → none ≡ [] → first ≡ put_each (change_at before_rows after_rows) asked none → edits ≡ put_each (change_at before_rows after_rows) more first → AreTableEdits r before after edits
    changes_edit few before_lsps after_lsps of_before of_after before_rows after_rows made_before made_after asked more is_asked is_more none first edits is_none is_first is_edits =
        let is_was = made_before ∙ ap (λ (lsps : List (Key × Unit {0})). rows_of r before lsps) of_before in
        let is_now = made_after ∙ ap (λ (lsps : List (Key × Unit {0})). rows_of r after lsps) of_after in
        subst (AreTableEdits r before after) (sym (
        is_edits
        ∙ (λ i. put_each (change_at (is_was i) (is_now i)) ((is_more ∙ is_now) i) ((is_first ∙ (λ j. put_each (change_at (is_was j) (is_now j)) ((is_asked ∙ is_was) j) (is_none j))) i)))) (are_edits few)
