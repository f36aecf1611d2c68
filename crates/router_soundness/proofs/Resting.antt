-- Labels that rest after a step: in order, each of the range, until a later moment, and held by no LSP.
use Rattle.std.specs.Prelude.{◌≡◌, ◌⊎◌, ℕ, ◌+◌, ◌≤◌, ◌<◌, ◌&&◌, ◌||◌, nat_lt, Bool, true, false, cond, not, T, List, [], ◌∷◌, filter, Option, Some, None, IfSome}
use Rattle.std.specs.Bool.{then_some}
use Rattle.std.specs.FinMap.Entries.{find, is_sorted}
use Rattle.std.specs.List.{AllByRecursion}
use Rattle.std.specs.Option.{option_and_then, option_or}
use Rattle.std.specs.Ordering.{eq_by_cmp, is_eq, nat_cmp}
use Rattle.std.proofs.Common.{refl, sym, ap, subst, ◌∙◌, inl, inr}
use Rattle.std.proofs.lemmas.Bool.{both_ways, ltb-true}
use Rattle.std.proofs.lemmas.Cmp.{nat_cmp_total, tied_itself}
use Rattle.std.proofs.lemmas.Map.Lookups.{exact_unsigned}
use Rattle.std.proofs.lemmas.Option.{same_Some}
use Rattle.sorted_rows.specs.Rows.{values_of}
use Rattle.sorted_rows.specs.RowsLaws.{all-from_find, all_found, find-all, find-all_row, find-filter, is_sorted-both, is_sorted-filter, ties}
use Rattle.lsr_facts.specs.Lifetimes.{begins_here}
use Rattle.lsr_facts.specs.OrderLaws.{key_exact, key_total}
use Rattle.lsr_facts.specs.Orders.{key_cmp}
use Rattle.lsr_facts.specs.declared.key.Key.{Key}
use Rattle.lsr_facts.specs.declared.path_fact.PathFact.{PathFact}
use Rattle.lsr_facts.specs.declared.router.Router.{Router}
use Rattle.label_space.specs.BindingLaws.{free-awake, free-unheld, one_key, unheld-from_not_found, unheld-not_found}
use Rattle.label_space.specs.FreeLabels.{is_held}
use Rattle.label_space.specs.RestLaws.{find-with_rest, is_one_of, is_sorted-rested}
use Rattle.label_space.specs.Rests.{AreRestingOf, rested, resting_past, with_rest}
use Rattle.router_soundness.proofs.Labelling.{find-labels_after, given_at, is_sorted-labels_after, label_of}
use Rattle.abstract_router.specs.Labels.{IsLabelling, MayBeGiven, freed, is_labelled, labels_after}
use Rattle.abstract_router.specs.Soundness.{AreLabelled}
use Rattle.abstract_router.specs.States.{State}
use Rattle.abstract_router.specs.Steps.{labelled}

-- labels that are held as they should be stand in the order of keys
pub labels_in_order : (r : Router) (s : State) → AreLabelled r s → T (is_sorted key_cmp s.facts.paths) → T (is_sorted key_cmp s.labels)
labels_in_order r s are sorted =
    let ours = λ (path : Key × PathFact). not (begins_here path.1.role) in
    subst T (sym (is_sorted-both key_cmp s.labels (filter ours s.facts.paths) are.of_lsps)) (is_sorted-filter key_cmp ours s.facts.paths sorted)

-- what is found among rows is one of their values
one_of_found : (key : Key) (label : ℕ) (rows : List (Key × ℕ)) → find key_cmp key rows ≡ Some label → is_one_of (values_of rows) label ≡ true
one_of_found key label [] = λ found. absurd (let e = found in cc)
one_of_found key label (row ∷ rows) =
    elim (eq_by_cmp key_cmp key row.0) as (λ b. cond b (Some row.1) (find key_cmp key rows) ≡ Some label → (eq_by_cmp nat_cmp label row.1 || is_one_of (values_of rows) label) ≡ true) [
      | true ↦ λ found. ap (λ v. eq_by_cmp nat_cmp label v || is_one_of (values_of rows) label) (same_Some row.1 label found) ∙ ap (λ o. is_eq o || is_one_of (values_of rows) label) (tied_itself nat_cmp_total label)
      | false ↦ λ found. later (eq_by_cmp nat_cmp label row.1) (one_of_found key label rows found)
    ]
  where
    later : (b : Bool) → is_one_of (values_of rows) label ≡ true → (b || is_one_of (values_of rows) label) ≡ true
    later true h = refl
    later false h = h

-- The label was held before by an LSP that went, or that begins here now.
pub record IsFreed (labels : List (Key × ℕ)) (paths : List (Key × PathFact)) (label : ℕ) : Type 0 where
  pub key : Key
  pub held : find key_cmp key labels ≡ Some label
  pub goes : is_labelled paths key ≡ false

module _ (labels : List (Key × ℕ)) (paths : List (Key × PathFact)) (label : ℕ) where
  -- a label that is freed was held so
  freed_among : (rows : List (Key × ℕ)) → AllByRecursion (λ row. find key_cmp row.0 labels ≡ Some row.1) rows → is_one_of (freed rows paths) label ≡ true → IsFreed labels paths label
  freed_among [] found = λ is. absurd (let e = is in cc)
  freed_among (row ∷ rows) found =
      elim (is_labelled paths row.0) as (λ b. is_labelled paths row.0 ≡ b → is_one_of (values_of (cond (not b) (row ∷ filter (λ row. not (is_labelled paths row.0)) rows) (filter (λ row. not (is_labelled paths row.0)) rows))) label ≡ true → IsFreed labels paths label) [
        | true ↦ λ stays. freed_among rows found.1
        | false ↦ λ goes. elim (eq_by_cmp nat_cmp label row.1) as (λ b. eq_by_cmp nat_cmp label row.1 ≡ b → (b || is_one_of (freed rows paths) label) ≡ true → IsFreed labels paths label) [
          | true ↦ λ tie is. record { key = row.0; held = found.0 ∙ ap Some (sym (exact_unsigned label row.1 (ties (nat_cmp label row.1) tie))); goes = goes }
          | false ↦ λ apart. freed_among rows found.1
        ] refl
      ] refl

  pub freed_is : T (is_sorted key_cmp labels) → is_one_of (freed labels paths) label ≡ true → IsFreed labels paths label
  freed_is sorted = freed_among labels (all_found key_cmp key_total labels sorted)

  -- And the other way round.
  pub is_freed : T (is_sorted key_cmp labels) → IsFreed labels paths label → is_one_of (freed labels paths) label ≡ true
  is_freed sorted is =
      let goes = λ (row : Key × ℕ). not (is_labelled paths row.0) in
      one_of_found is.key label (filter goes labels)
      (find-filter key_cmp key_total goes is.key (λ k v tied. ap (λ k. not (is_labelled paths k)) (sym (key_exact is.key k tied))) labels sorted
      ∙ ap (option_and_then (λ v. then_some (not (is_labelled paths is.key)) v)) is.held
      ∙ ap (λ b. then_some (not b) label) is.goes)

module _ (r : Router) (before : State) (chosen : List (Key × ℕ)) (paths : List (Key × PathFact)) (sorted : T (is_sorted key_cmp paths)) (may : AllByRecursion (λ row. MayBeGiven r before.labels before.resting row.1) chosen) where
  abbrev held_after : List (Key × ℕ)
  held_after = labels_after before.labels chosen paths

  -- A label that an LSP holds after the step is the one that it held before, or one that may be given.
  pub record IsHeldBy (key : Key) (label : ℕ) : Type 0 where
    pub stays : is_labelled paths key ≡ true
    pub is : (find key_cmp key before.labels ≡ Some label) ⊎ MayBeGiven r before.labels before.resting label

  pub held_is : (key : Key) (label : ℕ) → find key_cmp key held_after ≡ Some label → IsHeldBy key label
  held_is key label found = by (is_labelled paths key) refl (sym (find-labels_after before.labels chosen paths sorted key) ∙ found)
    where
      old_or_new : (o : Option ℕ) → find key_cmp key before.labels ≡ o → option_or o (find key_cmp key chosen) ≡ Some label → (find key_cmp key before.labels ≡ Some label) ⊎ MayBeGiven r before.labels before.resting label
      old_or_new (Some v) at is = inl (at ∙ is)
      old_or_new None at is = inr (given_at r before chosen may key label is)

      by : (b : Bool) → is_labelled paths key ≡ b → cond b (label_of before.labels chosen key) None ≡ Some label → IsHeldBy key label
      by true stays is = record { stays = stays; is = old_or_new (find key_cmp key before.labels) refl is }
      by false goes is = absurd (let e = is in cc)

  -- An LSP that doesn't go holds its label on.
  pub holds_on : (key : Key) (label : ℕ) → find key_cmp key before.labels ≡ Some label → is_labelled paths key ≡ true → find key_cmp key held_after ≡ Some label
  holds_on key label held stays =
      find-labels_after before.labels chosen paths sorted key ∙ ap (λ b. cond b (label_of before.labels chosen key) None) stays ∙ ap (λ o. option_or o (find key_cmp key chosen)) held

  -- A label that rests before and that nobody holds isn't held after,
  pub rests_unheld : (label until : ℕ) → find nat_cmp label before.resting ≡ Some until → is_held before.labels label ≡ false → is_held held_after label ≡ false
  rests_unheld label until rests unheld =
      unheld-from_not_found held_after label (is_sorted-labels_after before.labels chosen paths sorted) (λ key found. by key (held_is key label found).is)
    where
      by : (key : Key) → (find key_cmp key before.labels ≡ Some label) ⊎ MayBeGiven r before.labels before.resting label → ⊥
      by key (inl held) = unheld-not_found before.labels label unheld key held
      by key (inr given) = absurd (let e = sym (free-awake before.labels before.resting label given.free) ∙ rests in cc)

  -- and one that is freed isn't, where each is held by one LSP.
  pub freed_unheld : AreLabelled r before → (label : ℕ) → IsFreed before.labels paths label → is_held held_after label ≡ false
  freed_unheld are label gone =
      unheld-from_not_found held_after label (is_sorted-labels_after before.labels chosen paths sorted) (λ key found. let after = held_is key label found in by key after.stays after.is)
    where
      by : (key : Key) → is_labelled paths key ≡ true → (find key_cmp key before.labels ≡ Some label) ⊎ MayBeGiven r before.labels before.resting label → ⊥
      by key stays (inl held) = both_ways (is_labelled paths key) (subst (λ k. is_labelled paths k ≡ false) (one_key before.labels are.apart gone.key key label gone.held held) gone.goes) stays
      by key stays (inr given) = unheld-not_found before.labels label (free-unheld before.labels before.resting label given.free) gone.key gone.held

-- Until when labels rest after a step.
module _ (rest moment : ℕ) (before : State) (paths : List (Key × PathFact)) where
  abbrev pub rests_after : List (ℕ × ℕ)
  rests_after = rested moment (moment + rest) (freed before.labels paths) (resting_past moment before.resting)

  -- one that is freed until the rest is over, any other as before, past that moment
  pub find-rested : (label : ℕ) → find nat_cmp label rests_after ≡ cond (nat_lt moment (moment + rest) && is_one_of (freed before.labels paths) label) (Some (moment + rest)) (find nat_cmp label (resting_past moment before.resting))
  find-rested label =
      let past = resting_past moment before.resting in
      elim (nat_lt moment (moment + rest)) as (λ b. find nat_cmp label (cond b (with_rest (moment + rest) (freed before.labels paths) past) past) ≡ cond (b && is_one_of (freed before.labels paths) label) (Some (moment + rest)) (find nat_cmp label past)) [
        | true ↦ find-with_rest label (moment + rest) (freed before.labels paths) past
        | false ↦ refl
      ]

  module _ (in_order : T (is_sorted nat_cmp before.resting)) where
    pub find-past : (label : ℕ) → find nat_cmp label (resting_past moment before.resting) ≡ option_and_then (λ until. then_some (nat_lt moment until) until) (find nat_cmp label before.resting)
    find-past label = find-filter nat_cmp nat_cmp_total (λ row. nat_lt moment row.1) label (λ x until tie. refl) before.resting in_order

    -- A label that rests after a step was freed in it, or rested before.
    pub record IsResting (label until : ℕ) : Type 0 where
      pub later : moment < until
      pub is : (is_one_of (freed before.labels paths) label ≡ true) ⊎ (find nat_cmp label before.resting ≡ Some until)

    pub resting_is : (label until : ℕ) → find nat_cmp label rests_after ≡ Some until → IsResting label until
    resting_is label until found = by (nat_lt moment (moment + rest)) (is_one_of (freed before.labels paths) label) refl refl (sym (find-rested label) ∙ found)
      where
        past : (o : Option ℕ) → find nat_cmp label before.resting ≡ o → option_and_then (λ until. then_some (nat_lt moment until) until) o ≡ Some until → IsResting label until
        past None at = λ is. absurd (let e = is in cc)
        past (Some v) at = elim (nat_lt moment v) as (λ b. nat_lt moment v ≡ b → then_some b v ≡ Some until → IsResting label until) [
          | true ↦ λ later is. let same = same_Some v until is in record { later = subst (λ u. moment < u) same (ltb-true moment v later); is = inr (at ∙ ap Some same) }
          | false ↦ λ over is. absurd (let e = is in cc)
        ] refl

        before_it : find nat_cmp label (resting_past moment before.resting) ≡ Some until → IsResting label until
        before_it found = past (find nat_cmp label before.resting) refl (sym (find-past label) ∙ found)

        by : (rests goes : Bool) → nat_lt moment (moment + rest) ≡ rests → is_one_of (freed before.labels paths) label ≡ goes → cond (rests && goes) (Some (moment + rest)) (find nat_cmp label (resting_past moment before.resting)) ≡ Some until → IsResting label until
        by true true rests gone is = record { later = subst (λ u. moment < u) (same_Some (moment + rest) until is) (ltb-true moment (moment + rest) rests); is = inl gone }
        by true false rests kept is = before_it is
        by false goes rests either is = before_it is

-- Labels rest as they should after a step, where they did before.
pub resting_after : (r : Router) (before after : State) (chosen : List (Key × ℕ)) → AreLabelled r before → AreRestingOf r.labels before.facts.moment before.labels before.resting → after.labels ≡ before.labels → after.resting ≡ resting_past after.facts.moment before.resting
    → T (is_sorted key_cmp before.facts.paths) → T (is_sorted key_cmp after.facts.paths) → IsLabelling r before after.facts.paths chosen → AreRestingOf r.labels after.facts.moment (labelled r chosen after).labels (labelled r chosen after).resting
resting_after r before after chosen are were same past sorted_before sorted may =
    subst (λ old. AreRestingOf r.labels moment (labels_after old chosen paths) (rested moment (moment + r.label_rest_ms) (freed old paths) after.resting)) (sym same)
    (subst (λ rests. AreRestingOf r.labels moment held (rested moment (moment + r.label_rest_ms) (freed before.labels paths) rests)) (sym past)
    (record {
      in_order = in_order;
      each = all-from_find nat_cmp nat_cmp_total (λ row. (r.labels.first ≤ row.0) × (row.0 ≤ r.labels.last) × (moment < row.1)) rests in_order (λ label until found. let is = resting_is r.label_rest_ms moment before paths were.in_order label until found in in_range label until is.later is.is);
      apart = all-from_find nat_cmp nat_cmp_total (λ row. is_held held row.0 ≡ false) rests in_order (λ label until found. unheld label until (resting_is r.label_rest_ms moment before paths were.in_order label until found).is);
    }))
  where
    paths : List (Key × PathFact)
    paths = after.facts.paths

    moment : ℕ
    moment = after.facts.moment

    held : List (Key × ℕ)
    held = labels_after before.labels chosen paths

    rests : List (ℕ × ℕ)
    rests = rests_after r.label_rest_ms moment before paths

    labels_sorted : T (is_sorted key_cmp before.labels)
    labels_sorted = labels_in_order r before are sorted_before

    in_order : T (is_sorted nat_cmp rests)
    in_order = is_sorted-rested moment (moment + r.label_rest_ms) (freed before.labels paths) (resting_past moment before.resting) (is_sorted-filter nat_cmp (λ row. nat_lt moment row.1) before.resting were.in_order)

    in_range : (label until : ℕ) → moment < until → (is_one_of (freed before.labels paths) label ≡ true) ⊎ (find nat_cmp label before.resting ≡ Some until) → (r.labels.first ≤ label) × (label ≤ r.labels.last) × (moment < until)
    in_range label until later (inl goes) =
        let gone = freed_is before.labels paths label labels_sorted goes in (
          subst (λ o. IfSome o (λ v. r.labels.first ≤ v)) gone.held (find-all key_cmp (λ v. r.labels.first ≤ v) gone.key before.labels are.from_first),
          subst (λ o. IfSome o (λ v. v ≤ r.labels.last)) gone.held (find-all key_cmp (λ v. v ≤ r.labels.last) gone.key before.labels are.to_last),
          later,
        )
    in_range label until later (inr rested) =
        let was = subst (λ o. IfSome o (λ u. (r.labels.first ≤ label) × (label ≤ r.labels.last) × (before.facts.moment < u))) rested (find-all_row nat_cmp exact_unsigned (λ row. (r.labels.first ≤ row.0) × (row.0 ≤ r.labels.last) × (before.facts.moment < row.1)) label before.resting were.each) in
        (was.0, was.1, later)

    unheld : (label until : ℕ) → (is_one_of (freed before.labels paths) label ≡ true) ⊎ (find nat_cmp label before.resting ≡ Some until) → is_held held label ≡ false
    unheld label until (inl goes) = freed_unheld r before chosen paths sorted may.given are label (freed_is before.labels paths label labels_sorted goes)
    unheld label until (inr rested) =
        rests_unheld r before chosen paths sorted may.given label until rested (subst (λ o. IfSome o (λ u. is_held before.labels label ≡ false)) rested (find-all_row nat_cmp exact_unsigned (λ row. is_held before.labels row.0 ≡ false) label before.resting were.apart))
