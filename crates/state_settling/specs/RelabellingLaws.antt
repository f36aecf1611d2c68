-- By these edits each LSP has the label that it is to have, those that are freed rest, and the chosen labels are those of the
-- LSPs that are new.
use Rattle.std.specs.Prelude.{◌≡◌, ◌⊎◌, ◌&&◌, ◌+◌, ◌==◌, ℕ, not, Bool, true, false, cond, if◌then◌else◌, T, List, [], ◌∷◌, filter, filter_map, find as find_first, Option, Some, None, is_none, is_some}
use Rattle.std.specs.Bool.{then_some}
use Rattle.std.specs.FinMap.Entries.{find, is_sorted, same_entries}
use Rattle.std.specs.List.{IsDistinct, cons_option}
use Rattle.std.specs.Option.{option_and_then, option_map, option_map_or, option_or, unwrap_or}
use Rattle.std.proofs.Common.{refl, sym, ap, arith, subst, ◌∙◌, inl, inr}
use Rattle.std.proofs.lemmas.Bool.{eqb-true, le-ltb}
use Rattle.sorted_rows.specs.ListLaws.{all-weaker, filter_agree_within}
use Rattle.sorted_rows.specs.Rows.{keys_of, values_of}
use Rattle.sorted_rows.specs.RowsLaws.{all_found, find-filter, is_some-find_both, is_sorted-filter}
use Rattle.sorted_rows.specs.EditLaws.{find-edited, is_sorted-edited}
use Rattle.sorted_rows.specs.Edits.{edited, over}
use Rattle.lsr_facts.specs.Lifetimes.{begins_here}
use Rattle.lsr_facts.specs.OrderLaws.{key_exact, key_total}
use Rattle.lsr_facts.specs.Orders.{key_cmp}
use Rattle.lsr_facts.specs.declared.key.Key.{Key}
use Rattle.lsr_facts.specs.declared.path_fact.PathFact.{PathFact}
use Rattle.lsr_facts.specs.declared.router.Router.{Router}
use Rattle.abstract_paths.specs.TouchedLaws.{find-made, is_sorted-made}
use Rattle.abstract_router.specs.Choosing.{CanLabel}
use Rattle.abstract_router.specs.ChoosingLaws.{new_keys-few}
use Rattle.label_space.specs.Rests.{freed_by, rested, resting_past, with_rest}
use Rattle.abstract_router.specs.Labels.{IsLabelling, MayBeGiven, freed, has_free_label, is_labelled, labelled_keys, labels_after, new_keys}
use Rattle.abstract_router.specs.States.{State}
use Rattle.abstract_router.specs.Steps.{labelled}
use Rattle.state_views.specs.EditLaws.{labels_in_order}
use Rattle.state_views.specs.Edits as views
use Rattle.state_views.specs.declared.edits.Edits.{Edits}
use Rattle.state_settling.specs.Relabelling.{is_new, label_becomes, label_edit, label_edits, needs_label, rest_until}

-- the path doesn't begin here
abbrev ours : Key × PathFact → Bool
ours path = not (begins_here path.1.role)

-- what g gives of the keys of rows
of_keys : {X Y : Type 0} (g : Key → Option Y) (rows : List (Key × X)) → filter_map {Y = Key × Y} (λ key. option_map (λ y. (key, y)) (g key)) (keys_of rows) ≡ filter_map {Y = Key × Y} (λ row. option_map (λ y. (row.0, y)) (g row.0)) rows
of_keys g [] = refl
of_keys {X} {Y} g (row ∷ rows) = ap (cons_option (option_map {U = Key × Y} (λ y. (row.0, y)) (g row.0))) (of_keys g rows)

module _ (labels chosen : List (Key × ℕ)) (es : List (Key × Option PathFact)) (paths : List (Key × PathFact)) (g : T (is_sorted key_cmp es)) (h : T (is_sorted key_cmp paths)) (held : keys_of labels ≡ labelled_keys paths) where
  abbrev after : List (Key × PathFact)
  after = edited key_cmp es paths

  sorted_after : T (is_sorted key_cmp after)
  sorted_after = is_sorted-edited key_cmp key_total es paths h

  -- what is found of the paths that don't begin here
  find-ours : (q : Key) (rows : List (Key × PathFact)) → T (is_sorted key_cmp rows) → find key_cmp q (filter ours rows) ≡ option_and_then (λ path. then_some (ours (q, path)) path) (find key_cmp q rows)
  find-ours q rows sorted = find-filter key_cmp key_total ours q (λ k v tied. ap (λ k. ours (k, v)) (sym (key_exact q k tied))) rows sorted

  -- a label is held just where a path is known that doesn't begin here
  held-where : (q : Key) → is_some (find key_cmp q labels) ≡ needs_label (find key_cmp q paths)
  held-where q =
      is_some-find_both key_cmp q labels (filter ours paths) held ∙ ap is_some (find-ours q paths h) ∙ kept (find key_cmp q paths)
    where
      kept : (o : Option PathFact) → is_some (option_and_then (λ path. then_some (ours (q, path)) path) o) ≡ needs_label o
      kept None = refl
      kept (Some path) = elim (ours (q, path)) as (λ b. is_some (then_some b path) ≡ b) [ true ↦ refl | false ↦ refl ]

  -- the label that an LSP is to have, by what is known of its path
  abbrev label_for : Key → Option PathFact → Option ℕ
  label_for q known = cond (needs_label known) (option_or (find key_cmp q labels) (find key_cmp q chosen)) None

  -- what is found of labels after a step
  find-after : (q : Key) → find key_cmp q (labels_after labels chosen after) ≡ label_for q (find key_cmp q after)
  unfolding labels_after
  find-after q =
      ap (find key_cmp q) (of_keys (λ key. option_or (find key_cmp key labels) (find key_cmp key chosen)) (filter ours after))
      ∙ find-made key_cmp key_total key_exact (λ row. option_or (find key_cmp row.0 labels) (find key_cmp row.0 chosen)) q (filter ours after) (is_sorted-filter key_cmp ours after sorted_after)
      ∙ ap (option_and_then (λ path. option_or (find key_cmp q labels) (find key_cmp q chosen))) (find-ours q after sorted_after)
      ∙ given (find key_cmp q after)
    where
      given : (o : Option PathFact) → option_and_then (λ path. option_or (find key_cmp q labels) (find key_cmp q chosen)) (option_and_then (λ path. then_some (ours (q, path)) path) o) ≡ label_for q o
      given None = refl
      given (Some path) = elim (ours (q, path)) as (λ b. option_and_then (λ (path : PathFact). option_or (find key_cmp q labels) (find key_cmp q chosen)) (then_some b path) ≡ cond b (option_or (find key_cmp q labels) (find key_cmp q chosen)) None) [ true ↦ refl | false ↦ refl ]

  sorted-labels_after : T (is_sorted key_cmp (labels_after labels chosen after))
  unfolding labels_after
  sorted-labels_after =
      subst (λ rows. T (is_sorted key_cmp rows)) (sym (of_keys (λ key. option_or (find key_cmp key labels) (find key_cmp key chosen)) (filter ours after)))
      (is_sorted-made key_cmp key_total key_exact (λ row. option_or (find key_cmp row.0 labels) (find key_cmp row.0 chosen)) (filter ours after) (is_sorted-filter key_cmp ours after sorted_after))

  -- an edit of a label makes of it the one that its LSP is to have
  becomes : (needed : Bool) (given was : Option ℕ) → over (label_becomes needed given was) was ≡ cond needed (option_or was given) None
  becomes true None None = refl
  becomes true (Some label) None = refl
  becomes true given (Some label) = refl
  becomes false given None = refl
  becomes false given (Some label) = refl

  -- and where there is none, it has that one already
  stays : (needed : Bool) (given was : Option ℕ) → is_some was ≡ needed → was ≡ cond needed (option_or was given) None
  stays true given None is = absurd (let e = is in cc)
  stays true given (Some label) is = refl
  stays false given None is = refl
  stays false given (Some label) is = absurd (let e = is in cc)

  -- The edits of labels lead to the labels after a step.
  pub relabelled : edited key_cmp (label_edits labels chosen es) labels ≡ labels_after labels chosen after
  relabelled =
      same_entries key_cmp key_total key_exact _ _ (is_sorted-edited key_cmp key_total (label_edits labels chosen es) labels (labels_in_order labels paths h held)) sorted-labels_after (λ q.
      find-edited key_cmp key_total q (label_edits labels chosen es) labels
      ∙ ap (λ edit. over edit (find key_cmp q labels)) (find-made key_cmp key_total key_exact (label_edit labels chosen) q es g)
      ∙ by q (find key_cmp q es)
      ∙ ap (label_for q) (sym (find-edited key_cmp key_total q es paths))
      ∙ sym (find-after q))
    where
      by : (q : Key) (o : Option (Option PathFact)) → over (option_and_then (λ now. label_edit labels chosen (q, now)) o) (find key_cmp q labels) ≡ label_for q (over o (find key_cmp q paths))
      by q None = stays (needs_label (find key_cmp q paths)) (find key_cmp q chosen) (find key_cmp q labels) (held-where q)
      by q (Some now) = becomes (needs_label now) (find key_cmp q chosen) (find key_cmp q labels)

  -- a label that is held is edited just where its LSP is to have none
  edited-where : (q : Key) (label : ℕ) → find key_cmp q labels ≡ Some label → is_some (find key_cmp q (label_edits labels chosen es)) ≡ not (needs_label (find key_cmp q after))
  edited-where q label has =
      ap is_some (find-made key_cmp key_total key_exact (label_edit labels chosen) q es g)
      ∙ by (find key_cmp q es)
      ∙ ap (λ known. not (needs_label known)) (sym (find-edited key_cmp key_total q es paths))
    where
      given : (needed : Bool) (chosen was : Option ℕ) → was ≡ Some label → is_some (label_becomes needed chosen was) ≡ not needed
      given true chosen None is = absurd (let e = is in cc)
      given false chosen None is = absurd (let e = is in cc)
      given true chosen (Some held) is = refl
      given false chosen (Some held) is = refl

      by : (o : Option (Option PathFact)) → is_some (option_and_then (λ now. label_edit labels chosen (q, now)) o) ≡ not (needs_label (over o (find key_cmp q paths)))
      by None = ap not (sym (ap is_some has) ∙ held-where q)
      by (Some now) = given (needs_label now) (find key_cmp q chosen) (find key_cmp q labels) has

  -- So the edits of labels free those of the LSPs that went.
  pub freed_as : freed_by (label_edits labels chosen es) labels ≡ freed labels after
  freed_as =
      ap values_of (filter_agree_within (λ row. is_some (find key_cmp row.0 (label_edits labels chosen es))) (λ row. not (is_labelled after row.0)) labels
      (all-weaker (λ (row : Key × ℕ). find key_cmp row.0 labels ≡ Some row.1) (λ row. is_some (find key_cmp row.0 (label_edits labels chosen es)) ≡ not (is_labelled after row.0))
      (λ row has. edited-where row.0 row.1 has) labels (all_found key_cmp key_total labels (labels_in_order labels paths h held))))

  -- rows that pass a test, by their keys alone
  abbrev marked : {X : Type 0} → (Key × X → Bool) → List (Key × X) → List (Key × Unit {0})
  marked p rows = filter_map (λ row. option_map (λ u. (row.0, u)) (then_some (p row) (tt {0}))) rows

  keys-marked : {X : Type 0} (p : Key × X → Bool) (rows : List (Key × X)) → keys_of (marked p rows) ≡ keys_of (filter p rows)
  keys-marked p [] = refl
  keys-marked p (row ∷ rows) =
      let rest = keys-marked p rows in
      elim (p row) as (λ b. keys_of (cons_option (option_map (λ u. (row.0, u)) (then_some b (tt {0}))) (marked p rows)) ≡ keys_of (cond b (row ∷ filter p rows) (filter p rows))) [
        | true ↦ ap (λ ks. row.0 ∷ ks) rest
        | false ↦ rest
      ]

  -- a path that doesn't begin here, and has no label yet
  abbrev unlabelled : Key × PathFact → Bool
  unlabelled path = ours path && is_none (find key_cmp path.0 labels)

  keys-unlabelled : (rows : List (Key × PathFact)) → keys_of (filter unlabelled rows) ≡ new_keys labels rows
  keys-unlabelled [] = refl
  keys-unlabelled (row ∷ rows) =
      let rest = keys-unlabelled rows in
      let none = is_none (find key_cmp row.0 labels) in
      elim (ours row) as (λ b. keys_of (cond (b && none) (row ∷ filter unlabelled rows) (filter unlabelled rows)) ≡ filter (λ key. is_none (find key_cmp key labels)) (keys_of (cond b (row ∷ filter ours rows) (filter ours rows)))) [
        | true ↦ elim none as (λ b. keys_of (cond b (row ∷ filter unlabelled rows) (filter unlabelled rows)) ≡ cond b (row.0 ∷ new_keys labels rows) (new_keys labels rows)) [
          | true ↦ ap (λ ks. row.0 ∷ ks) rest
          | false ↦ rest
        ]
        | false ↦ rest
      ]

  -- The LSPs that are new are those of edits that have no label yet.
  pub new-edited : keys_of (filter (is_new labels) es) ≡ new_keys labels after
  new-edited =
      sym (keys-marked (is_new labels) es)
      ∙ ap keys_of (same_entries key_cmp key_total key_exact _ _
      (is_sorted-made key_cmp key_total key_exact (λ e. then_some (is_new labels e) (tt {0})) es g)
      (is_sorted-made key_cmp key_total key_exact (λ e. then_some (unlabelled e) (tt {0})) after sorted_after) (λ q.
      find-made key_cmp key_total key_exact (λ e. then_some (is_new labels e) (tt {0})) q es g
      ∙ by q (find key_cmp q es)
      ∙ ap (option_and_then (λ path. then_some (unlabelled (q, path)) (tt {0}))) (sym (find-edited key_cmp key_total q es paths))
      ∙ sym (find-made key_cmp key_total key_exact (λ e. then_some (unlabelled e) (tt {0})) q after sorted_after)))
      ∙ keys-marked unlabelled after ∙ keys-unlabelled after
    where
      -- a path that stays is not new
      old : (q : Key) (o : Option PathFact) → is_some (find key_cmp q labels) ≡ needs_label o → None ≡ option_and_then (λ path. then_some (unlabelled (q, path)) (tt {0})) o
      old q None is = refl
      old q (Some path) is = has (ours (q, path)) (find key_cmp q labels) is
        where
          has : (b : Bool) (label : Option ℕ) → is_some label ≡ b → None ≡ then_some (b && is_none label) (tt {0})
          has true None is = absurd (let e = is in cc)
          has true (Some label) is = refl
          has false label is = refl

      by : (q : Key) (o : Option (Option PathFact)) → option_and_then (λ now. then_some (is_new labels (q, now)) (tt {0})) o ≡ option_and_then (λ path. then_some (unlabelled (q, path)) (tt {0})) (over o (find key_cmp q paths))
      by q None = old q (find key_cmp q paths) (held-where q)
      by q (Some None) = refl
      by q (Some (Some path)) = refl

-- The labels that are freed rest for as long as the router has them rest.
rests : (moment time : ℕ) (gone : List ℕ) (resting : List (ℕ × ℕ)) → option_map_or (λ until. rested moment until gone resting) (rest_until moment time) resting ≡ rested moment (moment + time) gone resting
rests moment time gone resting = by (time == 0) refl
  where
    by : (none : Bool) → (time == 0) ≡ none → option_map_or (λ until. rested moment until gone resting) (if none then None else Some (moment + time)) resting ≡ rested moment (moment + time) gone resting
    by true none = sym (ap (λ b. cond b (with_rest (moment + time) gone resting) resting) (le-ltb moment (moment + time) (omega (arith, eqb-true time 0 none))))
    by false some = refl

-- Those that rest past the moment rest still, where before all rested past theirs.
rests_still : (s : State) (e : Edits) → resting_past s.facts.moment s.resting ≡ s.resting → resting_past (views.edited e s).facts.moment s.resting ≡ views.resting_still e s
rests_still s e past = by e.moment
  where
    by : (moment : Option ℕ) → resting_past (unwrap_or moment s.facts.moment) s.resting ≡ option_map_or (λ moment. resting_past moment s.resting) moment s.resting
    by None = past
    by (Some moment) = refl

-- Edits that leave labels as they are, and those that rest past the moment, with those of labels that they call for, lead where
-- the labels are given.
pub labels_given : (r : Router) (s : State) (e : Edits) (chosen : List (Key × ℕ)) → T (is_sorted key_cmp e.paths) → T (is_sorted key_cmp s.facts.paths) → keys_of s.labels ≡ labelled_keys s.facts.paths
    → (views.edited e s).labels ≡ s.labels → resting_past s.facts.moment s.resting ≡ s.resting → (views.edited e s).resting ≡ resting_past (views.edited e s).facts.moment s.resting
    → views.edited (record e { labels = label_edits s.labels chosen e.paths; rest_until = rest_until (views.edited e s).facts.moment r.label_rest_ms }) s ≡ labelled r chosen (views.edited e s)
labels_given r s e chosen g h held same past resting =
    let after = views.edited e s in
    let still : after.resting ≡ views.resting_still e s = resting ∙ rests_still s e past in
    λ i. record after {
      labels = (relabelled s.labels chosen e.paths s.facts.paths g h held ∙ ap (λ labels. labels_after labels chosen after.facts.paths) (sym same)) i;
      resting =
          (rests after.facts.moment r.label_rest_ms (freed_by (label_edits s.labels chosen e.paths) s.labels) (views.resting_still e s)
          ∙ (λ j. rested after.facts.moment (after.facts.moment + r.label_rest_ms) (freed_as s.labels chosen e.paths s.facts.paths g h held j) (sym still j))
          ∙ ap (λ labels. rested after.facts.moment (after.facts.moment + r.label_rest_ms) (freed labels after.facts.paths) after.resting) (sym same)) i;
    }

-- none passes a test where the first that does is none
none-passes : {X : Type 0} (p : X → Bool) (xs : List X) → find_first p xs ≡ None → filter p xs ≡ []
none-passes p [] = λ none. refl
none-passes p (x ∷ xs) = elim (p x) as (λ b. cond b (Some x) (find_first p xs) ≡ None → cond b (x ∷ filter p xs) (filter p xs) ≡ []) [ true ↦ λ none. absurd (let e = none in cc) | false ↦ λ none. none-passes p xs none ]

-- else that is the first that passes
first-passes : {X : Type 0} (p : X → Bool) (xs : List X) (y : X) → find_first p xs ≡ Some y → (rest : List X) × (filter p xs ≡ y ∷ rest)
first-passes p [] y = λ found. absurd (let e = found in cc)
first-passes p (x ∷ xs) y = elim (p x) as (λ b. cond b (Some x) (find_first p xs) ≡ Some y → (rest : _) × (cond b (x ∷ filter p xs) (filter p xs) ≡ y ∷ rest)) [ true ↦ λ found. (filter p xs, let same : x ≡ y = let e = found in cc in ap (λ z. z ∷ filter p xs) same) | false ↦ λ found. first-passes p xs y found ]

module _ (r : Router) (before : State) (es : List (Key × Option PathFact)) (g : T (is_sorted key_cmp es)) (h : T (is_sorted key_cmp before.facts.paths)) (held : keys_of before.labels ≡ labelled_keys before.facts.paths) where
  abbrev labels : List (Key × ℕ)
  labels = before.labels

  abbrev paths : List (Key × PathFact)
  paths = before.facts.paths

  -- Where no LSP is new, no label is chosen.
  pub none_chosen : option_map (λ edit. edit.0) (find_first (is_new labels) es) ≡ None → IsLabelling r before (edited key_cmp es paths) []
  unfolding IsDistinct
  none_chosen none = record { of_new = sym (ap keys_of (none-passes (is_new labels) es (unfound (find_first (is_new labels) es) none))) ∙ new-edited labels [] es paths g h held; given = tt; apart = tt }
    where
      unfound : (o : Option (Key × Option PathFact)) → option_map (λ edit. edit.0) o ≡ None → o ≡ None
      unfound None is = refl
      unfound (Some edit) is = absurd (let e = is in cc)

  -- Where one is, a label is free for it, which may be chosen.
  pub one_chosen : (key : Key) → CanLabel r before (edited key_cmp es paths) → option_map (λ edit. edit.0) (find_first (is_new labels) es) ≡ Some key
      → (has_free_label r labels before.resting ≡ true) × ((label : ℕ) → MayBeGiven r labels before.resting label → IsLabelling r before (edited key_cmp es paths) ((key, label) ∷ []))
  unfolding IsDistinct
  one_chosen key can found = by (find_first (is_new labels) es) refl found
    where
      after : List (Key × PathFact)
      after = edited key_cmp es paths

      given : (rest : List Key) → new_keys labels after ≡ key ∷ rest → (new_keys labels after ≡ []) ⊎ ((new : Key) × (new_keys labels after ≡ new ∷ []) × (has_free_label r labels before.resting ≡ true))
          → (has_free_label r labels before.resting ≡ true) × ((label : ℕ) → MayBeGiven r labels before.resting label → IsLabelling r before after ((key, label) ∷ []))
      given rest some (inl none) = absurd (let e = sym some ∙ none in cc)
      given rest some (inr one) =
          let same : key ≡ one.0 = let e = sym some ∙ one.1 in cc in
          (one.2, λ label may. record { of_new = ap (λ k. k ∷ []) same ∙ sym one.1; given = (may, tt); apart = (tt, tt) })

      by : (o : Option (Key × Option PathFact)) → find_first (is_new labels) es ≡ o → option_map (λ edit. edit.0) o ≡ Some key
          → (has_free_label r labels before.resting ≡ true) × ((label : ℕ) → MayBeGiven r labels before.resting label → IsLabelling r before after ((key, label) ∷ []))
      by None is found = absurd (let e = found in cc)
      by (Some edit) is found =
          let passing = first-passes (is_new labels) es edit is in
          let same : edit.0 ≡ key = let e = found in cc in
          given (keys_of passing.0) (sym (new-edited labels [] es paths g h held) ∙ ap keys_of passing.1 ∙ ap (λ k. k ∷ keys_of passing.0) same)
          (new_keys-few r before after (is_sorted-edited key_cmp key_total es paths h) can)
