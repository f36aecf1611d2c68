-- The labels after a step are held by exactly the LSPs that don't begin here, each by one.
use Rattle.std.specs.Prelude.{◌≡◌, ℕ, ◌≤◌, ◌==◌, Bool, true, false, cond, not, nat_eq, T, List, [], ◌∷◌, filter, filter_map, Option, Some, None, is_none, is_some, IfSome}
use Rattle.std.specs.FinMap.Entries.{find, is_sorted}
use Rattle.std.specs.List.{AllByRecursion, IsDistinct, cons_option}
use Rattle.std.specs.Bool.{then_some}
use Rattle.std.specs.Option.{option_and_then, option_map, option_map_or, option_or}
use Rattle.std.specs.Ordering.{eq_by_cmp, is_eq}
use Rattle.std.specs.declared.cmp.Ordering.TheVariants.{Less}
use Rattle.std.proofs.Common.{refl, sym, ap, subst, ◌∙◌}
use Rattle.std.proofs.lemmas.Bool.{eqb-false, ne_eqb}
use Rattle.std.proofs.lemmas.Cmp.{tied_itself}
use Rattle.std.proofs.lemmas.Map.Keys.{IsDistinct-cons}
use Rattle.sorted_rows.specs.Rows.{keys_of, values_of}
use Rattle.sorted_rows.specs.RowsLaws.{all-below, find-all, find-filter, first, is_some-find_both, is_sorted-filter, second}
use Rattle.sorted_rows.specs.ListLaws.{all-weaker}
use Rattle.lsr_facts.specs.Lifetimes.{begins_here}
use Rattle.lsr_facts.specs.OrderLaws.{key_exact, key_total}
use Rattle.lsr_facts.specs.Orders.{key_cmp}
use Rattle.lsr_facts.specs.declared.key.Key.{Key}
use Rattle.lsr_facts.specs.declared.path_fact.PathFact.{PathFact}
use Rattle.lsr_facts.specs.declared.router.Router.{Router}
use Rattle.label_space.specs.BindingLaws.{free-unheld, one_key, unheld-not_found}
use Rattle.abstract_paths.specs.TouchedLaws.{find-made, is_sorted-made}
use Rattle.abstract_router.specs.Soundness.{AreLabelled}
use Rattle.abstract_router.specs.States.{State}
use Rattle.abstract_router.specs.Labels.{IsLabelling, MayBeGiven, is_labelled, labelled_keys, labels_after, new_keys}
use Rattle.abstract_router.specs.Steps.{labelled}

-- a number is itself
pub eqb-same : (n : ℕ) → (n == n) ≡ true
eqb-same n = by (n == n) refl
  where
    by : (b : Bool) → (n == n) ≡ b → b ≡ true
    by true is = refl
    by false is = absurd (eqb-false n n is refl)

-- a key isn't below itself
not_less : (a b : Key) → key_cmp a b ≡ Less → a ≡ b → ⊥
not_less a b less same = absurd (let e = subst (λ k. key_cmp a k ≡ Less) (sym same) less in let t = tied_itself key_total a in cc)

-- keys as a table of nothing
abbrev marked : List Key → List (Key × Unit {0})
marked [] = []
marked (k ∷ ks) = (k, tt {0}) ∷ marked ks

-- what a key has of two tables, the first before the second
abbrev pub label_of : List (Key × ℕ) → List (Key × ℕ) → Key → Option ℕ
label_of labels chosen key = option_or (find key_cmp key labels) (find key_cmp key chosen)

-- a key in front of others doesn't hide what is found of these
found-behind : (q : Key) (k : Key) (ks : List Key) → is_some (find key_cmp q (marked ks)) ≡ true → is_some (find key_cmp q (marked (k ∷ ks))) ≡ true
found-behind q k ks h = elim (eq_by_cmp key_cmp q k) as (λ b. is_some (cond b (Some (tt {0})) (find key_cmp q (marked ks))) ≡ true) [ true ↦ refl | false ↦ h ]

-- each key that passes a test is found among those that do
found-filter : (p : Key → Bool) (ks : List Key) → AllByRecursion (λ k. p k ≡ true → is_some (find key_cmp k (marked (filter p ks))) ≡ true) ks
found-filter p [] = tt
found-filter p (k ∷ ks) = (first, behind ks (found-filter p ks))
  where
    first : p k ≡ true → is_some (find key_cmp k (marked (cond (p k) (k ∷ filter p ks) (filter p ks)))) ≡ true
    first passes = subst (λ b. is_some (find key_cmp k (marked (cond b (k ∷ filter p ks) (filter p ks)))) ≡ true) (sym passes)
        (subst (λ o. is_some (cond (is_eq o) (Some (tt {0})) (find key_cmp k (marked (filter p ks)))) ≡ true) (sym (tied_itself key_total k)) refl)

    behind : (qs : List Key) → AllByRecursion (λ q. p q ≡ true → is_some (find key_cmp q (marked (filter p ks))) ≡ true) qs
        → AllByRecursion (λ q. p q ≡ true → is_some (find key_cmp q (marked (cond (p k) (k ∷ filter p ks) (filter p ks)))) ≡ true) qs
    behind [] h = tt
    behind (q ∷ qs) h =
        (λ passes. elim (p k) as (λ b. is_some (find key_cmp q (marked (cond b (k ∷ filter p ks) (filter p ks)))) ≡ true) [ true ↦ found-behind q k (filter p ks) (h.0 passes) | false ↦ h.0 passes ], behind qs h.1)

-- keys that each have a value keep their order in the table of these
keys-given : (f : Key → Option ℕ) (ks : List Key) → AllByRecursion (λ k. is_some (f k) ≡ true) ks → keys_of (filter_map (λ k. option_map (λ v. (k, v)) (f k)) ks) ≡ ks
keys-given f [] h = refl
keys-given f (k ∷ ks) h =
    let rest = keys-given f ks h.1 in
    elim (f k) as (λ o. is_some o ≡ true → keys_of (cons_option (option_map (λ v. (k, v)) o) (filter_map (λ k. option_map (λ v. (k, v)) (f k)) ks)) ≡ k ∷ ks) [
      | Some v ↦ λ is. ap (λ l. k ∷ l) rest
      | None ↦ λ is. absurd (let e = is in cc)
    ] h.0

-- what holds of each value that f gives holds in the table
all-given : (P : ℕ → Type 0) (f : Key → Option ℕ) → ((k : Key) → IfSome (f k) P) → (ks : List Key) → AllByRecursion (λ (row : Key × ℕ). P row.1) (filter_map (λ k. option_map (λ v. (k, v)) (f k)) ks)
all-given P f holds [] = tt
all-given P f holds (k ∷ ks) =
    let rest = all-given P f holds ks in
    elim (f k) as (λ o. IfSome o P → AllByRecursion (λ (row : Key × ℕ). P row.1) (cons_option (option_map (λ v. (k, v)) o) (filter_map (λ k. option_map (λ v. (k, v)) (f k)) ks))) [
      | Some v ↦ λ p. (p, rest)
      | None ↦ λ p. rest
    ] (holds k)

-- a fact of each of two
if-or : {A : Type 0} (P : A → Type 0) (a b : Option A) → IfSome a P → IfSome b P → IfSome (option_or a b) P
if-or P None b p q = q
if-or P (Some x) b p q = p

-- what is chosen for a key may be given
pub given_at : (r : Router) (before : State) (chosen : List (Key × ℕ)) → AllByRecursion (λ row. MayBeGiven r before.labels before.resting row.1) chosen → (key : Key) (v : ℕ) → find key_cmp key chosen ≡ Some v → MayBeGiven r before.labels before.resting v
given_at r before chosen given key v found =
    subst (λ o. IfSome o (MayBeGiven r before.labels before.resting)) found (find-all key_cmp (MayBeGiven r before.labels before.resting) key chosen given)

-- a label that is given is held by no LSP
given-free : (r : Router) (before : State) (chosen : List (Key × ℕ)) → AllByRecursion (λ row. MayBeGiven r before.labels before.resting row.1) chosen → (a b : Key) (v : ℕ) → find key_cmp a before.labels ≡ Some v → find key_cmp b chosen ≡ Some v → ⊥
given-free r before chosen given a b v at_a at_b =
    unheld-not_found before.labels v (free-unheld before.labels before.resting v (given_at r before chosen given b v at_b).free) a at_a

-- one label, one LSP
one_lsp : (r : Router) (before : State) (chosen : List (Key × ℕ)) → IsDistinct nat_eq (values_of before.labels) → IsDistinct nat_eq (values_of chosen) → AllByRecursion (λ row. MayBeGiven r before.labels before.resting row.1) chosen
    → (a b : Key) (v : ℕ) → label_of before.labels chosen a ≡ Some v → label_of before.labels chosen b ≡ Some v → a ≡ b
one_lsp r before chosen apart new given a b v =
    elim (find key_cmp a before.labels) as (λ o. find key_cmp a before.labels ≡ o → option_or o (find key_cmp a chosen) ≡ Some v → option_or (find key_cmp b before.labels) (find key_cmp b chosen) ≡ Some v → a ≡ b) [
      | Some x ↦ λ at_a. λ is_a. elim (find key_cmp b before.labels) as (λ o. find key_cmp b before.labels ≡ o → option_or o (find key_cmp b chosen) ≡ Some v → a ≡ b) [
        | Some y ↦ λ at_b. λ is_b. one_key before.labels apart a b v (at_a ∙ is_a) (at_b ∙ is_b)
        | None ↦ λ at_b. λ is_b. absurd (given-free r before chosen given a b v (at_a ∙ is_a) is_b)
      ] refl
      | None ↦ λ at_a. λ is_a. elim (find key_cmp b before.labels) as (λ o. find key_cmp b before.labels ≡ o → option_or o (find key_cmp b chosen) ≡ Some v → a ≡ b) [
        | Some y ↦ λ at_b. λ is_b. absurd (given-free r before chosen given b a v (at_b ∙ is_b) is_a)
        | None ↦ λ at_b. λ is_b. one_key chosen new a b v is_a is_b
      ] refl
    ] refl

-- what f gives of different keys differs, where it gives no value to two
apart-given : {X : Type 0} (f : Key → Option ℕ) → ((a b : Key) (v : ℕ) → f a ≡ Some v → f b ≡ Some v → a ≡ b) → (rows : List (Key × X)) → T (is_sorted key_cmp rows)
    → IsDistinct nat_eq (values_of (filter_map (λ k. option_map (λ v. (k, v)) (f k)) (keys_of rows)))
unfolding IsDistinct
apart-given {X} f one [] h = tt
apart-given {X} f one (row ∷ rows) h =
    let rest = apart-given f one rows (second _ _ h) in
    elim (f row.0) as (λ o. f row.0 ≡ o → IsDistinct nat_eq (values_of (cons_option (option_map (λ v. (row.0, v)) o) (filter_map (λ k. option_map (λ v. (k, v)) (f k)) (keys_of rows))))) [
      | Some v ↦ λ at. IsDistinct-cons nat_eq v _ (far v at rows (all-below key_cmp row.0 rows (first _ _ h))) rest
      | None ↦ λ at. rest
    ] refl
  where
    -- the values of keys behind this one are others
    far : (v : ℕ) → f row.0 ≡ Some v → (behind : List (Key × X)) → AllByRecursion (λ e. key_cmp row.0 e.0 ≡ Less) behind
        → AllByRecursion (λ y. nat_eq v y ≡ false) (values_of (filter_map (λ k. option_map (λ v. (k, v)) (f k)) (keys_of behind)))
    far v at [] below = tt
    far v at (e ∷ es) below =
        let more = far v at es below.1 in
        elim (f e.0) as (λ o. f e.0 ≡ o → AllByRecursion (λ y. nat_eq v y ≡ false) (values_of (cons_option (option_map (λ v. (e.0, v)) o) (filter_map (λ k. option_map (λ v. (k, v)) (f k)) (keys_of es))))) [
          | Some w ↦ λ at_e. (ne_eqb v w (λ same. not_less row.0 e.0 below.0 (one row.0 e.0 w (at ∙ ap Some same) at_e)), more)
          | None ↦ λ at_e. more
        ] refl

-- the keys of the LSPs that don't begin here are in order
sorted_keys : (paths : List (Key × PathFact)) → T (is_sorted key_cmp paths) → T (is_sorted key_cmp (filter (λ path. not (begins_here path.1.role)) paths))
sorted_keys paths h = is_sorted-filter key_cmp (λ path. not (begins_here path.1.role)) paths h

-- each of them has a label: it has one already, or it is new and one was chosen for it
each_labelled : (labels chosen : List (Key × ℕ)) (paths : List (Key × PathFact)) → keys_of chosen ≡ new_keys labels paths → AllByRecursion (λ k. is_some (label_of labels chosen k) ≡ true) (labelled_keys paths)
each_labelled labels chosen paths of_new = by (labelled_keys paths) (found-filter (λ k. is_none (find key_cmp k labels)) (labelled_keys paths))
  where
    keys-marked : (ks : List Key) → keys_of (marked ks) ≡ ks
    keys-marked [] = refl
    keys-marked (k ∷ ks) = ap (λ l. k ∷ l) (keys-marked ks)

    has : (k : Key) (o : Option ℕ) → (is_none o ≡ true → is_some (find key_cmp k (marked (new_keys labels paths))) ≡ true) → is_some (option_or o (find key_cmp k chosen)) ≡ true
    has k (Some v) new = refl
    has k None new = is_some-find_both key_cmp k chosen (marked (new_keys labels paths)) (of_new ∙ sym (keys-marked (new_keys labels paths))) ∙ new refl

    by : (ks : List Key) → AllByRecursion (λ k. is_none (find key_cmp k labels) ≡ true → is_some (find key_cmp k (marked (new_keys labels paths))) ≡ true) ks → AllByRecursion (λ k. is_some (label_of labels chosen k) ≡ true) ks
    by [] h = tt
    by (k ∷ ks) h = (has k (find key_cmp k labels) h.0, by ks h.1)

-- what g gives of the keys of rows
of_keys : {X : Type 0} (g : Key → Option ℕ) (rows : List (Key × X)) → filter_map {Y = Key × ℕ} (λ key. option_map (λ label. (key, label)) (g key)) (keys_of rows) ≡ filter_map {Y = Key × ℕ} (λ row. option_map (λ label. (row.0, label)) (g row.0)) rows
of_keys g [] = refl
of_keys {X} g (row ∷ rows) = ap (cons_option (option_map {U = Key × ℕ} (λ label. (row.0, label)) (g row.0))) (of_keys g rows)

module _ (labels chosen : List (Key × ℕ)) (paths : List (Key × PathFact)) (sorted : T (is_sorted key_cmp paths)) where
  abbrev ours : Key × PathFact → Bool
  ours path = not (begins_here path.1.role)

  -- An LSP that doesn't begin here has the label that it had, or the one that was chosen for it.
  pub find-labels_after : (key : Key) → find key_cmp key (labels_after labels chosen paths) ≡ cond (is_labelled paths key) (label_of labels chosen key) None
  unfolding labels_after
  find-labels_after key =
      ap (find key_cmp key) (of_keys (label_of labels chosen) (filter ours paths))
      ∙ find-made key_cmp key_total key_exact (λ row. label_of labels chosen row.0) key (filter ours paths) (sorted_keys paths sorted)
      ∙ ap (option_and_then (λ path. label_of labels chosen key)) (find-filter key_cmp key_total ours key (λ k v tied. refl) paths sorted)
      ∙ given (find key_cmp key paths)
    where
      given : (o : Option PathFact) → option_and_then (λ path. label_of labels chosen key) (option_and_then (λ path. then_some (ours (key, path)) path) o) ≡ cond (option_map_or (λ path. not (begins_here path.role)) o false) (label_of labels chosen key) None
      given None = refl
      given (Some path) = elim (ours (key, path)) as (λ b. option_and_then (λ (path : PathFact). label_of labels chosen key) (then_some b path) ≡ cond b (label_of labels chosen key) None) [ true ↦ refl | false ↦ refl ]

  -- And so labels stand in the order of keys.
  pub is_sorted-labels_after : T (is_sorted key_cmp (labels_after labels chosen paths))
  unfolding labels_after
  is_sorted-labels_after =
      subst (λ rows. T (is_sorted key_cmp rows)) (sym (of_keys (label_of labels chosen) (filter ours paths)))
      (is_sorted-made key_cmp key_total key_exact (λ row. label_of labels chosen row.0) (filter ours paths) (sorted_keys paths sorted))

-- The labels after a step, where those before it were as they should be.
pub labelled_after : (r : Router) (before after : State) (chosen : List (Key × ℕ)) → AreLabelled r before → after.labels ≡ before.labels → T (is_sorted key_cmp after.facts.paths) → IsLabelling r before after.facts.paths chosen
    → AreLabelled r (labelled r chosen after)
unfolding labels_after
labelled_after r before after chosen are same sorted may =
    let paths = after.facts.paths in
    let f = label_of before.labels chosen in
    let in_range = subst (λ old. AreLabelled r (record after { labels = labels_after old chosen paths })) (sym same) (record {
      of_lsps = keys-given f (labelled_keys paths) (each_labelled before.labels chosen paths may.of_new);
      from_first = all-given (λ v. r.labels.first ≤ v) f (λ k. if-or (λ v. r.labels.first ≤ v) (find key_cmp k before.labels) (find key_cmp k chosen)
          (find-all key_cmp (λ v. r.labels.first ≤ v) k before.labels are.from_first)
          (find-all key_cmp (λ v. r.labels.first ≤ v) k chosen (all-weaker (λ row. MayBeGiven r before.labels before.resting row.1) (λ row. r.labels.first ≤ row.1) (λ row given. given.from_first) chosen may.given))) (labelled_keys paths);
      to_last = all-given (λ v. v ≤ r.labels.last) f (λ k. if-or (λ v. v ≤ r.labels.last) (find key_cmp k before.labels) (find key_cmp k chosen)
          (find-all key_cmp (λ v. v ≤ r.labels.last) k before.labels are.to_last)
          (find-all key_cmp (λ v. v ≤ r.labels.last) k chosen (all-weaker (λ row. MayBeGiven r before.labels before.resting row.1) (λ row. row.1 ≤ r.labels.last) (λ row given. given.to_last) chosen may.given))) (labelled_keys paths);
      apart = apart-given f (one_lsp r before chosen are.apart may.apart may.given) (filter (λ path. not (begins_here path.1.role)) paths) (sorted_keys paths sorted);
    }) in
    record { of_lsps = in_range.of_lsps; from_first = in_range.from_first; to_last = in_range.to_last; apart = in_range.apart }
