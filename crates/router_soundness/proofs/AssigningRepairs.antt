-- Which repairs and which assignments are found after each stage that follows an event's own change.
use Rattle.std.specs.Prelude.{◌≡◌, ◌⊎◌, ℕ, ◌&&◌, not, Bool, true, false, cond, if◌then◌else◌, T, List, filter, map, Option, Some, None, IfSome}
use Rattle.std.specs.Bool.{then_some}
use Rattle.std.specs.FinMap.Entries.{find, find-where_key, is_sorted, where_key}
use Rattle.std.specs.List.{AllByRecursion}
use Rattle.std.specs.Option.{option_and_then, option_map, option_map_or}
use Rattle.std.proofs.Common.{refl, ap, sym, ◌∙◌, subst, inl, inr}
use Rattle.std.proofs.lemmas.Bool.{and_parts}
use Rattle.std.proofs.lemmas.Option.{same_Some}
use Rattle.sorted_rows.specs.EditLaws.{find-edited}
use Rattle.sorted_rows.specs.Edits.{over}
use Rattle.sorted_rows.specs.RowsLaws.{find-all_row, find-filter, find-map}
use Rattle.lsr_facts.specs.OrderLaws.{key_exact, key_total}
use Rattle.lsr_facts.specs.Orders.{key_cmp}
use Rattle.lsr_facts.specs.declared.key.Key.{Key}
use Rattle.lsr_facts.specs.declared.path_fact.PathFact.{PathFact}
use Rattle.lsr_facts.specs.declared.repair.Repair.{Repair}
use Rattle.lsr_facts.specs.declared.repair.Selected.{Selected}
use Rattle.lsr_facts.specs.declared.resv_fact.ResvFact.{ResvFact}
use Rattle.lsr_facts.specs.declared.router.Router.{Router}
use Rattle.abstract_paths.specs.Places.{is_up}
use Rattle.abstract_paths.specs.Tears.{leaves_by}
use Rattle.abstract_paths.specs.TouchedLaws.{find-made}
use Rattle.abstract_router.specs.Lsps.{around_of}
use Rattle.abstract_router.specs.Protecting.{repair_with, selected}
use Rattle.abstract_router.specs.Repairing.{new_repairs, put_repair, repair_of, repaired}
use Rattle.abstract_router.specs.States.{State}

-- ---- parts of what is found

-- a choice that is made passes its test
pub chosen : {A : Type 0} (b : Bool) (o : Option A) (x : A) → cond b o None ≡ Some x → (b ≡ true) × (o ≡ Some x)
chosen true o x is = (refl, is)
chosen false o x is = absurd (let e = is in cc)

-- what is made of something that may be there is made of something that is there
pub made_of : {A B : Type 0} (f : A → Option B) (o : Option A) (y : B) → option_and_then f o ≡ Some y → (x : A) × (o ≡ Some x) × (f x ≡ Some y)
made_of f None y is = absurd (let e = is in cc)
made_of f (Some x) y is = (x, refl, is)

pub mapped_of : {A B : Type 0} (f : A → B) (o : Option A) (y : B) → option_map f o ≡ Some y → (x : A) × (o ≡ Some x) × (f x ≡ y)
mapped_of f None y is = absurd (let e = is in cc)
mapped_of f (Some x) y is = (x, refl, same_Some (f x) y is)

-- a test that is passed is passed by something that is there
pub passed_by : {A : Type 0} (test : A → Bool) (o : Option A) → option_map_or test o false ≡ true → (x : A) × (o ≡ Some x) × (test x ≡ true)
passed_by test None is = absurd (let e = is in cc)
passed_by test (Some x) is = (x, refl, is)

-- what holds of each row holds of the one that is found
pub of_found : {V : Type 0} (P : Key × V → Type 0) (key : Key) (value : V) (rows : List (Key × V)) → AllByRecursion P rows → find key_cmp key rows ≡ Some value → P (key, value)
of_found {V} P key value rows all found = subst (λ (o : Option V). IfSome o (λ v. P (key, v))) found (find-all_row key_cmp key_exact P key rows all)

-- what is found where keys pass a test
pub found_where : {V : Type 0} (test : Key → Bool) (key : Key) (value : V) (rows : List (Key × V)) → find key_cmp key (where_key key_cmp test rows) ≡ Some value → (test key ≡ true) × (find key_cmp key rows ≡ Some value)
found_where test key value rows found =
    chosen (test key) (find key_cmp key rows) value (sym (find-where_key key_cmp test key (λ k tied. ap test (sym (key_exact key k tied))) rows) ∙ found)

-- what is found where rows pass a test
pub found_filter : {V : Type 0} (test : Key × V → Bool) (key : Key) (value : V) (rows : List (Key × V)) → T (is_sorted key_cmp rows) → find key_cmp key (filter test rows) ≡ Some value → (test (key, value) ≡ true) × (find key_cmp key rows ≡ Some value)
found_filter {V} test key value rows in_order found =
    let made = made_of (λ v. then_some (test (key, v)) v) (find key_cmp key rows) value (sym (find-filter key_cmp key_total test key (λ k v tied. ap (λ (k : Key). test (k, v)) (sym (key_exact key k tied))) rows in_order) ∙ found) in
    by made.0 made.1 (test (key, made.0)) refl made.2
  where
    by : (v : V) → find key_cmp key rows ≡ Some v → (b : Bool) → test (key, v) ≡ b → then_some b v ≡ Some value → (test (key, value) ≡ true) × (find key_cmp key rows ≡ Some value)
    by v at true passes is = let same = same_Some v value is in (ap (λ (v : V). test (key, v)) (sym same) ∙ passes, at ∙ is)
    by v at false fails is = absurd (let e = is in cc)

-- and a row that passes it
pub passes_filter : {V : Type 0} (test : Key × V → Bool) (key : Key) (value : V) (rows : List (Key × V)) → T (is_sorted key_cmp rows) → find key_cmp key rows ≡ Some value → test (key, value) ≡ true → find key_cmp key (filter test rows) ≡ Some value
passes_filter {V} test key value rows in_order found passes =
    find-filter key_cmp key_total test key (λ k v tied. ap (λ (k : Key). test (k, v)) (sym (key_exact key k tied))) rows in_order
    ∙ ap (option_and_then (λ (v : V). then_some (test (key, v)) v)) found
    ∙ ap (λ (b : Bool). then_some b value) passes

-- ---- repairs

-- the path of an LSP leaves by a link
abbrev pub leaves : State → Key → ℕ → Bool
leaves s key link = option_map_or (leaves_by link) (find key_cmp key s.facts.paths) false

module _ (r : Router) (s : State) (in_order : T (is_sorted key_cmp s.resvs)) where
  -- The repair of an LSP once what a lost link took away is repaired: a new one, or its own.
  found_repaired : (key : Key) → find key_cmp key (repaired r s).repairs ≡ over (option_map (λ repair. Some repair) (option_and_then (λ resv. repair_of r s (key, resv)) (find key_cmp key s.resvs))) (find key_cmp key s.repairs)
  unfolding repaired new_repairs
  found_repaired key =
      find-edited key_cmp key_total key (map put_repair (new_repairs r s)) s.repairs
      ∙ ap (λ (o : Option (Option Repair)). over o (find key_cmp key s.repairs))
      (find-map key_cmp (λ repair. Some repair) key (new_repairs r s) ∙ ap (option_map (λ (repair : Repair). Some repair)) (find-made key_cmp key_total key_exact (λ resv. repair_of r s resv) key s.resvs in_order))

  -- an LSP that isn't reserved keeps its own
  pub old_repair : (key : Key) (repair : Repair) → find key_cmp key s.resvs ≡ None → find key_cmp key s.repairs ≡ Some repair → find key_cmp key (repaired r s).repairs ≡ Some repair
  old_repair key repair free found =
      found_repaired key
      ∙ ap (λ (o : Option ResvFact). over (option_map (λ (repair : Repair). Some repair) (option_and_then (λ (resv : ResvFact). repair_of r s (key, resv)) o)) (find key_cmp key s.repairs)) free
      ∙ found

  -- an LSP that is reserved has the one that is made for it
  pub new_repair : (key : Key) (resv : ResvFact) (repair : Repair) → find key_cmp key s.resvs ≡ Some resv → repair_of r s (key, resv) ≡ Some repair → find key_cmp key (repaired r s).repairs ≡ Some repair
  new_repair key resv repair found made =
      found_repaired key
      ∙ ap (λ (o : Option ResvFact). over (option_map (λ (repair : Repair). Some repair) (option_and_then (λ (resv : ResvFact). repair_of r s (key, resv)) o)) (find key_cmp key s.repairs)) found
      ∙ ap (λ (o : Option Repair). over (option_map (λ (repair : Repair). Some repair) o) (find key_cmp key s.repairs)) made

  -- A repair that is new is of an LSP that is reserved.
  pub record IsNewRepair (key : Key) (repair : Repair) : Type 0 where
    pub resv : ResvFact
    pub reserved : find key_cmp key s.resvs ≡ Some resv
    pub made : repair_of r s (key, resv) ≡ Some repair

  -- A repair is one of before, or is new.
  pub old_or_new : (key : Key) (repair : Repair) → find key_cmp key (repaired r s).repairs ≡ Some repair → (find key_cmp key s.repairs ≡ Some repair) ⊎ IsNewRepair key repair
  old_or_new key repair found = by_resv (find key_cmp key s.resvs) refl (sym (found_repaired key) ∙ found)
    where
      by_repair : (resv : ResvFact) → find key_cmp key s.resvs ≡ Some resv → (o : Option Repair) → repair_of r s (key, resv) ≡ o → over (option_map (λ (repair : Repair). Some repair) o) (find key_cmp key s.repairs) ≡ Some repair
          → (find key_cmp key s.repairs ≡ Some repair) ⊎ IsNewRepair key repair
      by_repair resv reserved None none is = inl is
      by_repair resv reserved (Some made) some is = inr (record { resv = resv; reserved = reserved; made = some ∙ is })

      by_resv : (o : Option ResvFact) → find key_cmp key s.resvs ≡ o → over (option_map (λ (repair : Repair). Some repair) (option_and_then (λ (resv : ResvFact). repair_of r s (key, resv)) o)) (find key_cmp key s.repairs) ≡ Some repair
          → (find key_cmp key s.repairs ≡ Some repair) ⊎ IsNewRepair key repair
      by_resv None free is = inl is
      by_resv (Some resv) reserved is = by_repair resv reserved (repair_of r s (key, resv)) refl is

-- What is repaired is lost: the path of the LSP leaves by the link of its reservation, which is down. And it is repaired over
-- the bypass that is selected.
pub record IsLost (r : Router) (s : State) (key : Key) (resv : ResvFact) (repair : Repair) : Type 0 where
  pub path : PathFact
  pub known : find key_cmp key s.facts.paths ≡ Some path
  pub leaving : leaves_by resv.link path ≡ true
  pub down : is_up s.facts.up resv.link ≡ false
  pub choice : Selected
  pub selects : selected (around_of r s) key path (find key_cmp key s.assignments) resv ≡ Some choice
  pub made_with : repair ≡ repair_with resv choice

pub lost : (r : Router) (s : State) (key : Key) (resv : ResvFact) (repair : Repair) → repair_of r s (key, resv) ≡ Some repair → IsLost r s key resv repair
lost r s key resv repair made =
    let path = made_of (λ (path : PathFact). if leaves_by resv.link path && not (is_up s.facts.up resv.link) then option_map (repair_with resv) (selected (around_of r s) key path (find key_cmp key s.assignments) resv) else None) (find key_cmp key s.facts.paths) repair made in
    let test = chosen (leaves_by resv.link path.0 && not (is_up s.facts.up resv.link)) (option_map (repair_with resv) (selected (around_of r s) key path.0 (find key_cmp key s.assignments) resv)) repair path.2 in
    let both = and_parts (leaves_by resv.link path.0) (not (is_up s.facts.up resv.link)) test.0 in
    let choice = mapped_of (repair_with resv) (selected (around_of r s) key path.0 (find key_cmp key s.assignments) resv) repair test.1 in
    record { path = path.0; known = path.1; leaving = both.0; down = is_down (is_up s.facts.up resv.link) both.1; choice = choice.0; selects = choice.1; made_with = sym choice.2 }
  where
    is_down : (b : Bool) → not b ≡ true → b ≡ false
    is_down true e = absurd (let f = e in cc)
    is_down false e = refl

-- And what is lost is repaired, where a bypass is selected.
pub repaired_lost : (r : Router) (s : State) (key : Key) (resv : ResvFact) (path : PathFact) (choice : Selected) → find key_cmp key s.facts.paths ≡ Some path → leaves_by resv.link path ≡ true → is_up s.facts.up resv.link ≡ false
    → selected (around_of r s) key path (find key_cmp key s.assignments) resv ≡ Some choice → repair_of r s (key, resv) ≡ Some (repair_with resv choice)
repaired_lost r s key resv path choice known leaving down selects =
    ap (option_and_then (λ (path : PathFact). if leaves_by resv.link path && not (is_up s.facts.up resv.link) then option_map (repair_with resv) (selected (around_of r s) key path (find key_cmp key s.assignments) resv) else None)) known
    ∙ ap (λ (b : Bool). cond {A = Option Repair} b (option_map (repair_with resv) (selected (around_of r s) key path (find key_cmp key s.assignments) resv)) None) (ap (λ (b : Bool). b && not (is_up s.facts.up resv.link)) leaving ∙ ap not down)
    ∙ ap (option_map (repair_with resv)) selects
