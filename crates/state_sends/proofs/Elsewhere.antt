-- The LSPs that a step touches are all that what it sends comes of.
use Rattle.std.specs.Prelude.{◌≡◌, ◌||◌, ◌<◌, ◌⊎◌, ℕ, ◌+◌, not, Bool, true, false, cond, T, List, [], ◌∷◌, filter, length, Option, Some, None}
use Rattle.std.specs.Cmp.{IsTotalOrder}
use Rattle.std.specs.FinMap.Entries.{find, is_sorted, where_key}
use Rattle.std.specs.List.{AllByRecursion}
use Rattle.std.specs.List.Sorted.{IsSorted}
use Rattle.std.specs.Option.{option_map}
use Rattle.std.specs.Ordering.{eq_by_cmp, is_eq, is_lt}
use Rattle.std.specs.declared.cmp.Ordering.{Ordering}
use Rattle.std.specs.declared.cmp.Ordering.TheVariants.{Equal}
use Rattle.std.proofs.Common.{refl, sym, ap, subst, ◌∙◌, get_or, inl, inr, arith}
use Rattle.std.proofs.lemmas.Cmp.{tied_itself}
use Rattle.std.proofs.lemmas.List.{get_or-map, length-map}
use Rattle.sorted_rows.proofs.Places.{sorted_by}
use Rattle.sorted_rows.specs.ListLaws.{all-weaker}
use Rattle.sorted_rows.specs.Rows.{keys_of}
use Rattle.sorted_rows.specs.RowsLaws.{all_found, find-map, is_sorted-both, is_sorted-filter}
use Rattle.sorted_rows.specs.EditLaws.{is_sorted-edited}
use Rattle.lsr_facts.specs.Lifetimes.{has_waited}
use Rattle.lsr_facts.specs.OrderLaws.{item_total, key_exact, key_total}
use Rattle.lsr_facts.specs.Orders.{item_cmp, key_cmp}
use Rattle.lsr_facts.specs.declared.key.Key.{Key}
use Rattle.lsr_facts.specs.declared.router.Router.{Router}
use Rattle.lsr_facts.specs.SumLaws.{filter-map}
use Rattle.lsr_facts.specs.UpstreamOrder.{upstream_total}
use Rattle.lsr_facts.specs.Upstreams.{upstream_cmp}
use Rattle.abstract_paths.specs.declared.events.Output.{Output}
use Rattle.abstract_paths.specs.Outputs.{is_due}
use Rattle.abstract_paths.specs.RowLaws.{keys-map}
use Rattle.abstract_paths.specs.StampLaws.{ties}
use Rattle.abstract_paths.specs.Touched.{is_among}
use Rattle.abstract_paths.specs.TouchedLaws.{same_elsewhere}
use Rattle.abstract_router.specs.LspLaws.{find-lsps, is_sorted-lsps}
use Rattle.abstract_router.specs.Lsps.{Around, Lsp, around_of, lsp_at, lsp_of, lsps_of}
use Rattle.abstract_router.specs.States.{State}
use Rattle.state_views.specs.Drafts.{due_by, upstream_due_by}
use Rattle.state_views.specs.Edits.{edited}
use Rattle.state_views.specs.declared.edits.Edits.{Edits}
use Rattle.state_sends.specs.KeptAlive.{all_said}
use Rattle.state_sends.specs.Touching.{AreAllLsps, AreAllTouched, LeavesOthersSaid, is_lsp_of}

-- true isn't false
true_apart : true ≡ false → ⊥
true_apart e = cc

-- An item isn't due where none that is due is its LSP's.
pub not_due : {I : Type 0} (cmp : I → I → Ordering) → ((a b : I) → cmp a b ≡ Equal → a ≡ b) → (of : I → Key) (due : List I) (item : I) → is_lsp_of of due (of item) ≡ false → is_due cmp due item ≡ false
not_due cmp exact of [] item none = refl
not_due {I} cmp exact of (x ∷ due) item none = by (eq_by_cmp key_cmp (of item) (of x)) (eq_by_cmp cmp item x) refl refl none (λ e. not_due cmp exact of due item e)
  where
    by : (k b : Bool) → eq_by_cmp key_cmp (of item) (of x) ≡ k → eq_by_cmp cmp item x ≡ b → (k || is_lsp_of of due (of item)) ≡ false → (is_lsp_of of due (of item) ≡ false → is_due cmp due item ≡ false) → (b || is_due cmp due item) ≡ false
    by true b own tie e rest = absurd (let f = e in cc)
    by false true own tie e rest =
        let same = exact item x (ties (cmp item x) tie) in
        absurd (true_apart (ap is_eq (sym (tied_itself key_total (of item))) ∙ ap (λ (y : I). eq_by_cmp key_cmp (of item) (of y)) same ∙ own))
    by false false own tie e rest = rest e

-- a filter that nothing passes
none_pass : {A : Type 0} (p : A → Bool) (xs : List A) → AllByRecursion (λ x. p x ≡ true) xs → filter (λ x. not (p x)) xs ≡ []
none_pass p [] h = refl
none_pass p (x ∷ xs) h = ap (λ b. cond (not b) (x ∷ filter (λ y. not (p y)) xs) (filter (λ y. not (p y)) xs)) h.0 ∙ none_pass p xs h.1

-- what is said of LSPs stands in their order
sorted_said : (said : Lsp → Lsp) (s : State) → T (is_sorted key_cmp s.facts.paths) → T (is_sorted key_cmp (all_said said (lsps_of s)))
sorted_said said s h = subst T (sym (is_sorted-both key_cmp (all_said said (lsps_of s)) (lsps_of s) (keys-map (λ (lsp : Key × Lsp). said lsp.1) (lsps_of s)))) (is_sorted-lsps s h)

-- and is found as it is said of the LSP
find-said : (said : Lsp → Lsp) (key : Key) (s : State) → find key_cmp key (all_said said (lsps_of s)) ≡ option_map said (lsp_at s key)
find-said said key s = find-map key_cmp said key (lsps_of s) ∙ ap (option_map said) (find-lsps key s)

-- The same is said of LSPs that aren't touched.
pub said_elsewhere : (said : Lsp → Lsp) (touched : Key → Bool) (s t : State) → T (is_sorted key_cmp s.facts.paths) → T (is_sorted key_cmp t.facts.paths) → LeavesOthersSaid said touched s t
    → where_key key_cmp (λ key. not (touched key)) (all_said said (lsps_of s)) ≡ where_key key_cmp (λ key. not (touched key)) (all_said said (lsps_of t))
said_elsewhere said touched s t g h same =
    same_elsewhere key_cmp key_total key_exact touched (all_said said (lsps_of s)) (all_said said (lsps_of t)) (sorted_said said s g) (sorted_said said t h)
    (λ key apart. find-said said key s ∙ same key apart ∙ sym (find-said said key t))

-- What some LSPs want comes of what is said of these.
pub said_some : {I : Type 0} (said : Lsp → Lsp) (rows : Around → List (Key × Lsp) → List (I × Output)) → ((a : Around) (lsps : List (Key × Lsp)) → rows a (all_said said lsps) ≡ rows a lsps) → (a : Around) (touched : Key → Bool) (lsps : List (Key × Lsp))
    → rows a (where_key key_cmp touched lsps) ≡ rows a (where_key key_cmp touched (all_said said lsps))
said_some said rows told a touched lsps =
    sym (told a (where_key key_cmp touched lsps)) ∙ ap (rows a) (sym (filter-map (λ (lsp : Key × Lsp). touched lsp.0) (λ (lsp : Key × Lsp). (lsp.0, said lsp.1)) lsps))

-- what is said of nothing
none_said : (said : Lsp → Lsp) (o : Option Lsp) → option_map said o ≡ None → o ≡ None
none_said said None none = refl
none_said said (Some lsp) none = absurd (let f = none in cc)

-- where nothing is known of an LSP that isn't touched, there is none
none_left : (touched : Key → Bool) (s : State) → T (is_sorted key_cmp s.facts.paths) → ((key : Key) → touched key ≡ false → lsp_at s key ≡ None) → where_key key_cmp (λ key. not (touched key)) (lsps_of s) ≡ []
none_left touched s h gone =
    none_pass (λ (p : Key × Lsp). touched p.0) (lsps_of s)
    (all-weaker (λ (p : Key × Lsp). find key_cmp p.0 (lsps_of s) ≡ Some p.1) (λ (p : Key × Lsp). touched p.0 ≡ true)
    (λ p found. by p.0 p.1 (touched p.0) refl (sym (find-lsps p.0 s) ∙ found)) (lsps_of s) (all_found key_cmp key_total (lsps_of s) (is_sorted-lsps s h)))
  where
    by : (key : Key) (lsp : Lsp) (b : Bool) → touched key ≡ b → lsp_at s key ≡ Some lsp → b ≡ true
    by key lsp true is known = refl
    by key lsp false is known = absurd (let f = sym (gone key is) ∙ known in cc)

module _ {I : Type 0} (cmp : I → I → Ordering) (of : I → Key) (said : Lsp → Lsp) (rows : Around → List (Key × Lsp) → List (I × Output)) (told : (a : Around) (lsps : List (Key × Lsp)) → rows a (all_said said lsps) ≡ rows a lsps) (none : (a : Around) → rows a [] ≡ [])
    (parts : (r : Router) (s : State) (touched : Key → Bool) → where_key cmp (λ item. touched (of item)) (rows (around_of r s) (lsps_of s)) ≡ rows (around_of r s) (where_key key_cmp touched (lsps_of s))) where
  -- Of LSPs that aren't touched the same is wanted before and after.
  pub same_wanted : (r : Router) (s : State) (e : Edits) (lsps : List (Key × Unit {0})) → AreAllTouched r said s e lsps → T (is_sorted key_cmp s.facts.paths)
      → where_key cmp (λ item. not (is_among key_cmp lsps (of item))) (rows (around_of r s) (lsps_of s)) ≡ where_key cmp (λ item. not (is_among key_cmp lsps (of item))) (rows (around_of r (edited e s)) (lsps_of (edited e s)))
  same_wanted r s e lsps are h = by are.around
    where
      touched : Key → Bool
      touched key = is_among key_cmp lsps key

      after : T (is_sorted key_cmp (edited e s).facts.paths)
      after = is_sorted-edited key_cmp key_total e.paths s.facts.paths h

      left : (t : State) → T (is_sorted key_cmp t.facts.paths) → ((key : Key) → touched key ≡ false → lsp_at t key ≡ None) → where_key cmp (λ item. not (touched (of item))) (rows (around_of r t) (lsps_of t)) ≡ []
      left t sorted gone = parts r t (λ key. not (touched key)) ∙ ap (rows (around_of r t)) (none_left touched t sorted gone) ∙ none (around_of r t)

      apart_said : (t : State) → where_key cmp (λ item. not (touched (of item))) (rows (around_of r t) (lsps_of t)) ≡ rows (around_of r t) (where_key key_cmp (λ key. not (touched key)) (all_said said (lsps_of t)))
      apart_said t = parts r t (λ key. not (touched key)) ∙ said_some said rows told (around_of r t) (λ key. not (touched key)) (lsps_of t)

      by : (around_of r s ≡ around_of r (edited e s)) ⊎ AreAllLsps s lsps
          → where_key cmp (λ item. not (touched (of item))) (rows (around_of r s) (lsps_of s)) ≡ where_key cmp (λ item. not (touched (of item))) (rows (around_of r (edited e s)) (lsps_of (edited e s)))
      by (inl around) = apart_said s ∙ (λ i. rows (around i) (said_elsewhere said touched s (edited e s) h after are.same i)) ∙ sym (apart_said (edited e s))
      by (inr known) =
          let gone : (key : Key) → touched key ≡ false → lsp_at s key ≡ None = λ key apart. ap (λ o. option_map (lsp_of s key) o) (known key apart) in
          left s h gone ∙ sym (left (edited e s) after (λ key apart. none_said said (lsp_at (edited e s) key) (sym (are.same key apart) ∙ ap (option_map said) (gone key apart))))

-- keys of rows in order are in order
sorted_keys : {K X : Type 0} (cmp : K → K → Ordering) → IsTotalOrder cmp → (es : List (K × X)) → T (is_sorted cmp es) → IsSorted cmp (keys_of es)
sorted_keys cmp total [] h k d from within = absurd (omega (arith, within))
sorted_keys {K} {X} cmp total (e ∷ es) h k d from within =
    let as_many = length-map (e ∷ es) (λ (row : K × X). row.0) in
    let low : k + 1 < length (e ∷ es) = omega (arith, as_many, within) in
    (λ i. is_lt (cmp (read (k + 1) low i) (read k (omega (arith, low)) i))) ∙ sorted_by cmp total (e ∷ es) h k e from low
  where
    read : (n : ℕ) → n < length (e ∷ es) → get_or (keys_of (e ∷ es)) n d ≡ (get_or (e ∷ es) n e).0
    read n inside = get_or-map (λ (row : K × X). row.0) (e ∷ es) n e d inside

-- So are the items that are due.
pub sorted_due : (r : Router) (s : State) (due : Option ℕ) → T (is_sorted item_cmp s.facts.sent) → IsSorted item_cmp (due_by due r s)
sorted_due r s None h = λ k d from within. absurd (omega (arith, within))
sorted_due r s (Some moment) h = sorted_keys item_cmp item_total (filter (λ row. has_waited r.refresh_ms row.1 moment) s.facts.sent) (is_sorted-filter item_cmp (λ row. has_waited r.refresh_ms row.1 moment) s.facts.sent h)

pub sorted_upstream_due : (r : Router) (s : State) (due : Option ℕ) → T (is_sorted upstream_cmp s.sent_upstream) → IsSorted upstream_cmp (upstream_due_by due r s)
sorted_upstream_due r s None h = λ k d from within. absurd (omega (arith, within))
sorted_upstream_due r s (Some moment) h = sorted_keys upstream_cmp upstream_total (filter (λ row. has_waited r.refresh_ms row.1 moment) s.sent_upstream) (is_sorted-filter upstream_cmp (λ row. has_waited r.refresh_ms row.1 moment) s.sent_upstream h)

-- Moments of the items of rows in order stand in order.
pub sorted_moments : {I X : Type 0} (cmp : I → I → Ordering) (sent : List (I × ℕ)) (wants : List (I × X)) → keys_of sent ≡ keys_of wants → T (is_sorted cmp wants) → T (is_sorted cmp sent)
sorted_moments cmp sent wants known h = subst T (sym (is_sorted-both cmp sent wants known)) h
