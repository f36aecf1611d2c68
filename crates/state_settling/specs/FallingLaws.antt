-- By these edits exactly those reservations, repairs and promises of bandwidth go that stand no more.
use Rattle.std.specs.Prelude.{◌≡◌, ◌++◌, ◌&&◌, ◌||◌, not, Bool, true, false, cond, if◌then◌else◌, T, List, [], ◌∷◌, filter, filter_map, Option, Some, None, IfSome, is_some}
use Rattle.std.specs.Cmp.{both_ways}
use Rattle.std.specs.FinMap.Entries.{find, is_sorted}
use Rattle.std.specs.List.{AllByRecursion, cons_option}
use Rattle.std.specs.Option.{option_map_or, unwrap_or}
use Rattle.std.specs.Ordering.{eq_by_cmp, is_eq}
use Rattle.std.proofs.Common.{refl, sym, ap, subst, ◌∙◌}
use Rattle.std.proofs.lemmas.Cmp.{tied_itself}
use Rattle.std.proofs.lemmas.List.Folds.{list_any-append}
use Rattle.sorted_rows.specs.ListLaws.{all-weaker, filter_agree_within}
use Rattle.sorted_rows.specs.RowsLaws.{all_found, find-all_row, ties}
use Rattle.sorted_rows.specs.EditLaws.{is_sorted-edited}
use Rattle.sorted_rows.specs.Edits as rows
use Rattle.lsr_facts.specs.OrderLaws.{key_exact, key_total}
use Rattle.lsr_facts.specs.Orders.{key_cmp}
use Rattle.lsr_facts.specs.declared.assignment.Assignment.{Assignment}
use Rattle.lsr_facts.specs.declared.key.Key.{Key}
use Rattle.lsr_facts.specs.declared.repair.Repair.{Repair}
use Rattle.lsr_facts.specs.declared.resv_fact.ResvFact.{ResvFact}
use Rattle.lsr_facts.specs.declared.router.Router.{Router}
use Rattle.abstract_paths.specs.Places.{is_up}
use Rattle.abstract_paths.specs.Tears.{leaves_by}
use Rattle.abstract_router.specs.BypassTunnels.{over_at}
use Rattle.abstract_router.specs.Lsps.{around_of}
use Rattle.abstract_router.specs.Repairing.{repair_stands, repairs_left}
use Rattle.abstract_router.specs.Assigning.{assignments_left}
use Rattle.abstract_router.specs.States.{State, is_held, is_one_of}
use Rattle.abstract_router.specs.Steps.{resvs_left, stands}
use Rattle.state_views.specs.EditLaws.{row_edited, rows_without}
use Rattle.state_views.specs.Edits.{edited, without_rows}
use Rattle.state_views.specs.declared.edits.Edits.{Edits}
use Rattle.state_settling.specs.Falling.{failing_key, fails_at}

-- keys tie one way round as they do the other
tie-turned : (a b : Key) → is_eq (key_cmp a b) ≡ is_eq (key_cmp b a)
tie-turned a b = both_ways (is_eq (key_cmp a b)) (is_eq (key_cmp b a)) (turned a b) (turned b a)
  where
    turned : (x y : Key) → is_eq (key_cmp x y) ≡ true → is_eq (key_cmp y x) ≡ true
    turned x y tie = subst (λ k. is_eq (key_cmp k x) ≡ true) (key_exact x y (ties _ tie)) (ap is_eq (tied_itself key_total x))

-- one of two tests, and another
both-either : (a b c : Bool) → ((a && c) || (b && c)) ≡ ((a || b) && c)
both-either true b c = by c b
  where
    by : (c b : Bool) → (c || (b && c)) ≡ c
    by true b = refl
    by false true = refl
    by false false = refl
both-either false b c = refl

-- Of rows a key is among those that pass a test where it has a row and passes.
pub among-passing : {E : Type 0} (p : Key → Bool) (q : Key) (es : List (Key × E)) → is_one_of (filter_map (λ e. if p e.0 then Some e.0 else None) es) q ≡ (is_some (find key_cmp q es) && p q)
among-passing p q [] = refl
among-passing {E} p q (e ∷ es) = by (p e.0) (eq_by_cmp key_cmp q e.0) refl refl (among-passing p q es)
  where
    rest : List Key
    rest = filter_map (λ (e : Key × E). if p e.0 then Some e.0 else None) es

    same : eq_by_cmp key_cmp q e.0 ≡ true → p q ≡ p e.0
    same tie = ap p (key_exact q e.0 (ties _ tie))

    neither : (b : Bool) → (b && false) ≡ false
    neither true = refl
    neither false = refl

    by : (passes tie : Bool) → p e.0 ≡ passes → eq_by_cmp key_cmp q e.0 ≡ tie → is_one_of rest q ≡ (is_some (find key_cmp q es) && p q) → is_one_of (cons_option (if passes then Some e.0 else None) rest) q ≡ (is_some (cond tie (Some e.1) (find key_cmp q es)) && p q)
    by true true is tie more = ap (λ b. b || is_one_of rest q) (tie-turned e.0 q ∙ tie) ∙ sym (same tie ∙ is)
    by true false is tie more = ap (λ b. b || is_one_of rest q) (tie-turned e.0 q ∙ tie) ∙ more
    by false true is tie more = more ∙ ap (λ b. is_some (find key_cmp q es) && b) (same tie ∙ is) ∙ neither (is_some (find key_cmp q es)) ∙ sym (same tie ∙ is)
    by false false is tie more = more

-- and so of two tables' rows
pub among-both : {E F : Type 0} (p : Key → Bool) (q : Key) (es : List (Key × E)) (fs : List (Key × F)) → (p q ≡ true → (is_some (find key_cmp q es) || is_some (find key_cmp q fs)) ≡ true)
    → is_one_of (filter_map (λ e. if p e.0 then Some e.0 else None) es ++ filter_map (λ f. if p f.0 then Some f.0 else None) fs) q ≡ p q
among-both p q es fs known =
    list_any-append (λ k. is_eq (key_cmp k q)) (filter_map (λ e. if p e.0 then Some e.0 else None) es) (filter_map (λ f. if p f.0 then Some f.0 else None) fs)
    ∙ (λ i. among-passing p q es i || among-passing p q fs i)
    ∙ both-either (is_some (find key_cmp q es)) (is_some (find key_cmp q fs)) (p q)
    ∙ by (is_some (find key_cmp q es) || is_some (find key_cmp q fs)) (p q) known
  where
    by : (has passes : Bool) → (passes ≡ true → has ≡ true) → (has && passes) ≡ passes
    by true passes h = refl
    by false true h = h refl
    by false false h = refl

-- one of three tests, and another
any-either : (a b c d : Bool) → (((a && d) || (b && d)) || (c && d)) ≡ ((a || (b || c)) && d)
any-either true true true true = refl
any-either true true true false = refl
any-either true true false true = refl
any-either true true false false = refl
any-either true false true true = refl
any-either true false true false = refl
any-either true false false true = refl
any-either true false false false = refl
any-either false true true true = refl
any-either false true true false = refl
any-either false true false true = refl
any-either false true false false = refl
any-either false false true true = refl
any-either false false true false = refl
any-either false false false d = refl

-- and so of three tables' rows
pub among-all : {E F G : Type 0} (p : Key → Bool) (q : Key) (es : List (Key × E)) (fs : List (Key × F)) (gs : List (Key × G))
    → (p q ≡ true → (is_some (find key_cmp q es) || (is_some (find key_cmp q fs) || is_some (find key_cmp q gs))) ≡ true)
    → is_one_of ((filter_map (λ e. if p e.0 then Some e.0 else None) es ++ filter_map (λ f. if p f.0 then Some f.0 else None) fs) ++ filter_map (λ g. if p g.0 then Some g.0 else None) gs) q ≡ p q
among-all p q es fs gs known =
    let e_keys = filter_map (λ e. if p e.0 then Some e.0 else None) es in
    let f_keys = filter_map (λ f. if p f.0 then Some f.0 else None) fs in
    let g_keys = filter_map (λ g. if p g.0 then Some g.0 else None) gs in
    list_any-append (λ k. is_eq (key_cmp k q)) (e_keys ++ f_keys) g_keys
    ∙ ap (λ b. b || is_one_of g_keys q) (list_any-append (λ k. is_eq (key_cmp k q)) e_keys f_keys)
    ∙ (λ i. (among-passing p q es i || among-passing p q fs i) || among-passing p q gs i)
    ∙ any-either (is_some (find key_cmp q es)) (is_some (find key_cmp q fs)) (is_some (find key_cmp q gs)) (p q)
    ∙ by (is_some (find key_cmp q es) || (is_some (find key_cmp q fs) || is_some (find key_cmp q gs))) (p q) known
  where
    by : (has passes : Bool) → (passes ≡ true → has ≡ true) → (has && passes) ≡ passes
    by true passes h = refl
    by false true h = h refl
    by false false h = refl

-- what fails to fail
not_not : (b : Bool) → not (not b) ≡ b
not_not true = refl
not_not false = refl

-- what there is after edits was edited, or there before
known-over : {X : Type 0} (p : X → Bool) (edit : Option (Option X)) (was : Option X) → option_map_or p (rows.over edit was) false ≡ true → (is_some edit || is_some was) ≡ true
known-over p (Some now) was h = refl
known-over p None None h = h
known-over p None (Some x) h = refl

-- what a fact leads to of what there may be
some-weaker : {X : Type 0} (P Q : X → Type 0) → ((x : X) → P x → Q x) → (o : Option X) → IfSome o P → IfSome o Q
some-weaker P Q step None p = tt
some-weaker P Q step (Some x) p = step x p

-- Where these are the LSPs whose rows fail the test after edits, those rows are left that pass it.
pub rows_left : {X : Type 0} (test : Key × X → Bool) (es : List (Key × Option X)) (before : List (Key × X)) (gone : List Key) → T (is_sorted key_cmp before)
    → ((q : Key) → is_one_of gone q ≡ fails_at test (rows.edited key_cmp es before) q) → rows.edited key_cmp (without_rows es gone) before ≡ filter test (rows.edited key_cmp es before)
rows_left {X} test es before gone sorted exactly =
    let after = rows.edited key_cmp es before in
    rows_without es gone before sorted
    ∙ filter_agree_within (λ row. not (is_one_of gone row.0)) test after
    (all-weaker (λ (row : Key × X). find key_cmp row.0 after ≡ Some row.1) (λ row. not (is_one_of gone row.0) ≡ test row)
    (λ row found. ap not (exactly row.0 ∙ ap (λ o. option_map_or (λ x. not (test (row.0, x))) o false) found) ∙ not_not (test row))
    after (all_found key_cmp key_total after (is_sorted-edited key_cmp key_total es before sorted)))

-- The rows after edits, and what of them fails a test.
module _ {X : Type 0} (test : Key × X → Bool) (es : List (Key × Option X)) (before after : List (Key × X)) (are : after ≡ rows.edited key_cmp es before) where
  -- whether an LSP's row fails, by its edit and by what it had
  fails_over : (q : Key) → fails_at test after q ≡ option_map_or (λ x. not (test (q, x))) (rows.over (find key_cmp q es) (find key_cmp q before)) false
  fails_over q = ap (λ o. option_map_or (λ x. not (test (q, x))) o false) (ap (find key_cmp q) are ∙ row_edited q es before)

  -- What fails among all rows before, and among the edits, is all that fails.
  pub failing_of_all : (keys : List Key) → keys ≡ filter_map (λ row. failing_key test after row.0) es ++ filter_map (λ row. failing_key test after row.0) before
      → (q : Key) → is_one_of keys q ≡ fails_at test after q
  failing_of_all keys all q =
      ap (λ ks. is_one_of ks q) all
      ∙ among-both (fails_at test after) q es before (λ fails. known-over (λ x. not (test (q, x))) (find key_cmp q es) (find key_cmp q before) (sym (fails_over q) ∙ fails))

  -- Where the rows before passed another test, and so pass this one, but maybe those of other edits, what fails is among
  -- these and among the edits.
  pub failing_of_edits : {E : Type 0} (was : Key × X → Bool) (others : List (Key × E)) (keys : List Key) → AllByRecursion (λ row. was row ≡ true) before
      → ((q : Key) (x : X) → find key_cmp q others ≡ None → was (q, x) ≡ true → test (q, x) ≡ true)
      → keys ≡ filter_map (λ row. failing_key test after row.0) es ++ filter_map (λ row. failing_key test after row.0) others
      → (q : Key) → is_one_of keys q ≡ fails_at test after q
  failing_of_edits {E} was others keys stood still all q =
      ap (λ ks. is_one_of ks q) all ∙ among-both (fails_at test after) q es others (λ fails. by (find key_cmp q es) (find key_cmp q others) refl refl (sym (fails_over q) ∙ fails))
    where
      passed : (o : Option X) → IfSome o (λ x. test (q, x) ≡ true) → option_map_or (λ x. not (test (q, x))) o false ≡ true → false ≡ true
      passed None so fails = fails
      passed (Some x) so fails = ap not (sym so) ∙ fails

      passes : find key_cmp q others ≡ None → IfSome (find key_cmp q before) (λ x. test (q, x) ≡ true)
      passes none =
          some-weaker (λ x. was (q, x) ≡ true) (λ x. test (q, x) ≡ true) (λ x so. still q x none so) (find key_cmp q before)
          (find-all_row key_cmp key_exact (λ row. was row ≡ true) q before stood)

      by : (edit : Option (Option X)) (other : Option E) → find key_cmp q es ≡ edit → find key_cmp q others ≡ other
          → option_map_or (λ x. not (test (q, x))) (rows.over (find key_cmp q es) (find key_cmp q before)) false ≡ true → (is_some edit || is_some other) ≡ true
      by (Some now) other is_edit is_other fails = refl
      by None (Some e) is_edit is_other fails = refl
      by None None is_edit is_other fails =
          passed (find key_cmp q before) (passes is_other) (ap (λ edit. option_map_or (λ x. not (test (q, x))) (rows.over edit (find key_cmp q before)) false) (sym is_edit) ∙ fails)

-- a path that isn't edited is as it was
same_path : (s : State) (e : Edits) (q : Key) → find key_cmp q e.paths ≡ None → find key_cmp q (edited e s).facts.paths ≡ find key_cmp q s.facts.paths
same_path s e q none = row_edited q e.paths s.facts.paths ∙ ap (λ edit. rows.over edit (find key_cmp q s.facts.paths)) none

-- Where no link changed, a reservation stands as before whose path isn't edited.
pub resvs_stand_still : (s : State) (e : Edits) → e.up ≡ None → (q : Key) (resv : ResvFact) → find key_cmp q e.paths ≡ None → stands s.facts (q, resv) ≡ true → stands (edited e s).facts (q, resv) ≡ true
resvs_stand_still s e same q resv none so =
    (λ i. is_up (ap (λ up. unwrap_or up s.facts.up) same i) resv.link && option_map_or (leaves_by resv.link) (same_path s e q none i) false) ∙ so

-- Where all bypasses are as they were, a repair stands as before whose path isn't edited.
pub repairs_stand_still : (r : Router) (s : State) (e : Edits) → around_of r s ≡ around_of r (edited e s) → (q : Key) (repair : Repair) → find key_cmp q e.paths ≡ None → repair_stands r s (q, repair) ≡ true → repair_stands r (edited e s) (q, repair) ≡ true
repairs_stand_still r s e same q repair none so =
    (λ i. is_some (over_at (sym same i).bypass_tunnels repair.bypass) && option_map_or (leaves_by repair.resv.link) (same_path s e q none i) false) ∙ so

-- Where these are the LSPs whose reservations stand no more after edits, those are left that stand.
pub standing_left : (s : State) (e : Edits) (gone : List Key) → T (is_sorted key_cmp s.resvs) → ((q : Key) → is_one_of gone q ≡ fails_at (stands (edited e s).facts) (edited e s).resvs q)
    → edited (record e { resvs = without_rows e.resvs gone }) s ≡ resvs_left (edited e s)
standing_left s e gone sorted exactly =
    λ i. record (edited e s) { resvs = rows_left (stands (edited e s).facts) e.resvs s.resvs gone sorted exactly i }

-- And so of repairs.
pub repairs_standing_left : (r : Router) (s : State) (e : Edits) (gone : List Key) → T (is_sorted key_cmp s.repairs) → ((q : Key) → is_one_of gone q ≡ fails_at (repair_stands r (edited e s)) (edited e s).repairs q)
    → edited (record e { repairs = without_rows e.repairs gone }) s ≡ repairs_left r (edited e s)
unfolding repairs_left
repairs_standing_left r s e gone sorted exactly =
    λ i. record (edited e s) { repairs = rows_left (repair_stands r (edited e s)) e.repairs s.repairs gone sorted exactly i }

-- Of the edits of promises, of reservations and of repairs, and of what was held before, what is held by nobody.
module _ (s : State) (e : Edits) (held : AllByRecursion (λ given. is_held s given.0 ≡ true) s.assignments) where
  -- what of an LSP isn't edited is as it was
  kept_row : {X : Type 0} (q : Key) (es : List (Key × Option X)) (before : List (Key × X)) → find key_cmp q es ≡ None → find key_cmp q (rows.edited key_cmp es before) ≡ find key_cmp q before
  kept_row q es before none = row_edited q es before ∙ ap (λ edit. rows.over edit (find key_cmp q before)) none

  -- a promise that is held by nobody is edited, or its reservation or its repair is
  one_edited : (q : Key) → fails_at (λ given. is_held (edited e s) given.0) (edited e s).assignments q ≡ true
      → (is_some (find key_cmp q e.assignments) || (is_some (find key_cmp q e.resvs) || is_some (find key_cmp q e.repairs))) ≡ true
  one_edited q = by (find key_cmp q e.assignments) (find key_cmp q e.resvs) (find key_cmp q e.repairs) refl refl refl
    where
      contradiction : (o : Option Assignment) → IfSome o (λ given. is_held s q ≡ true) → is_held (edited e s) q ≡ is_held s q → option_map_or (λ given. not (is_held (edited e s) q)) o false ≡ true → false ≡ true
      contradiction None so same fails = fails
      contradiction (Some given) so same fails = sym (ap not (same ∙ so)) ∙ fails

      by : (promise : Option (Option Assignment)) (resv : Option (Option ResvFact)) (repair : Option (Option Repair)) → find key_cmp q e.assignments ≡ promise → find key_cmp q e.resvs ≡ resv → find key_cmp q e.repairs ≡ repair
          → fails_at (λ given. is_held (edited e s) given.0) (edited e s).assignments q ≡ true → (is_some promise || (is_some resv || is_some repair)) ≡ true
      by (Some now) resv repair is_promise is_resv is_repair fails = refl
      by None (Some now) repair is_promise is_resv is_repair fails = refl
      by None None (Some now) is_promise is_resv is_repair fails = refl
      by None None None is_promise is_resv is_repair fails =
          contradiction (find key_cmp q s.assignments)
          (find-all_row key_cmp key_exact (λ given. is_held s given.0 ≡ true) q s.assignments held)
          (λ i. is_some (kept_row q e.resvs s.resvs is_resv i) || is_some (kept_row q e.repairs s.repairs is_repair i))
          (ap (λ o. option_map_or (λ given. not (is_held (edited e s) q)) o false) (sym (kept_row q e.assignments s.assignments is_promise)) ∙ fails)

  -- All of them are found.
  pub unheld_all : (keys : List Key)
      → keys ≡ (filter_map (λ row. failing_key (λ given. is_held (edited e s) given.0) (edited e s).assignments row.0) e.assignments ++ filter_map (λ row. failing_key (λ given. is_held (edited e s) given.0) (edited e s).assignments row.0) e.resvs)
      ++ filter_map (λ row. failing_key (λ given. is_held (edited e s) given.0) (edited e s).assignments row.0) e.repairs
      → (q : Key) → is_one_of keys q ≡ fails_at (λ given. is_held (edited e s) given.0) (edited e s).assignments q
  unheld_all keys all q =
      ap (λ ks. is_one_of ks q) all
      ∙ among-all (fails_at (λ given. is_held (edited e s) given.0) (edited e s).assignments) q e.assignments e.resvs e.repairs (one_edited q)

-- So exactly those promises go whose LSP is neither reserved nor repaired.
pub assignments_held : (s : State) (e : Edits) (gone : List Key) → T (is_sorted key_cmp s.assignments) → ((q : Key) → is_one_of gone q ≡ fails_at (λ given. is_held (edited e s) given.0) (edited e s).assignments q)
    → edited (record e { assignments = without_rows e.assignments gone }) s ≡ assignments_left (edited e s)
assignments_held s e gone sorted exactly =
    λ i. record (edited e s) { assignments = rows_left (λ given. is_held (edited e s) given.0) e.assignments s.assignments gone sorted exactly i }
