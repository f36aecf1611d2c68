-- What is promised is what it was, where nothing changes of any LSP that bears on it.
use Rattle.std.specs.Prelude.{◌≡◌, ◌&&◌, not, Bool, true, false, cond, T, List, [], ◌∷◌, filter, Option, Some, None, IfSome, is_none, is_some}
use Rattle.std.specs.FinMap.Entries.{find, is_sorted, same_entries, where_key}
use Rattle.std.specs.List.{AllByRecursion}
use Rattle.std.specs.Option.{option_map, option_map_or, unwrap_or}
use Rattle.std.proofs.Common.{refl, sym, ap, ◌∙◌}
use Rattle.std.proofs.lemmas.Bool.{and_parts}
use Rattle.sorted_rows.specs.EditLaws.{is_sorted-edited}
use Rattle.sorted_rows.specs.Edits as rows
use Rattle.sorted_rows.specs.ListLaws.{all-weaker}
use Rattle.sorted_rows.specs.RowsLaws.{all_found, find-all_row}
use Rattle.lsr_facts.specs.OrderLaws.{key_exact, key_total}
use Rattle.lsr_facts.specs.Orders.{key_cmp}
use Rattle.lsr_facts.specs.Reservations.{timeless_repair, timeless_resv}
use Rattle.lsr_facts.specs.Timeless.{timeless_path}
use Rattle.lsr_facts.specs.declared.assignment.Assignment.{Assignment}
use Rattle.lsr_facts.specs.declared.key.Key.{Key}
use Rattle.lsr_facts.specs.declared.path_fact.PathFact.{PathFact}
use Rattle.lsr_facts.specs.declared.repair.Repair.{Repair}
use Rattle.lsr_facts.specs.declared.resv_fact.ResvFact.{ResvFact}
use Rattle.lsr_facts.specs.declared.router.Router.{Router}
use Rattle.bypass_shares.specs.Shares.{assigned}
use Rattle.abstract_paths.specs.Tears.{leaves_by}
use Rattle.abstract_router.specs.Assigning.{assignments_of, capacity_in, in_use_of, is_in_use, wants_bandwidth, wishes_of}
use Rattle.abstract_router.specs.Lsps.{Around, around_of}
use Rattle.abstract_router.specs.Protecting.{candidates_of, ways_around}
use Rattle.abstract_router.specs.States.{State}
use Rattle.state_views.specs.EditLaws.{row_edited}
use Rattle.state_views.specs.Edits.{edited}
use Rattle.state_views.specs.declared.edits.Edits.{Edits}
use Rattle.bandwidth_protection.specs.Resting.{IsAtRest, is_asking, is_unconcerned}
use Rattle.bandwidth_protection.specs.WishLaws.{found_wish, unwanted, wishes_sorted}
use Rattle.bandwidth_protection.specs.Wishing.{wish_by}

-- ---- one LSP

-- it asks for nothing whose head doesn't want that, or that isn't reserved
silent : (a : Around) (key : Key) (path : Option PathFact) (resv : Option ResvFact) → (option_map_or wants_bandwidth path false && is_some resv) ≡ false → wish_by a key path resv ≡ None
silent a key path None isnt = refl
silent a key None (Some resv) isnt = refl
silent a key (Some path) (Some resv) isnt = unwanted a key path (Some resv) (wanted_alone (wants_bandwidth path) isnt)
  where
    wanted_alone : (b : Bool) → (b && true) ≡ false → b ≡ false
    wanted_alone true isnt = isnt
    wanted_alone false isnt = refl

not_so : (b : Bool) → not b ≡ true → b ≡ false
not_so true so = absurd (let f = so in cc)
not_so false so = refl

none_there : {X : Type 0} (o : Option X) → is_none o ≡ true → is_some o ≡ true → false ≡ true
none_there None none some = some
none_there (Some x) none some = none

-- An LSP that asks for nothing before and after, and was promised nothing, is at rest.
pub unconcerned : (s t : State) (key : Key) → is_unconcerned s t key ≡ true → IsAtRest s t key
unconcerned s t key is =
    let parts = and_parts (not (is_asking t key)) (not (is_asking s key) && is_none (find key_cmp key s.assignments)) is in
    let more = and_parts (not (is_asking s key)) (is_none (find key_cmp key s.assignments)) parts.1 in
    record {
      asks = λ a. silent a key (find key_cmp key s.facts.paths) (find key_cmp key s.resvs) (not_so (is_asking s key) more.0)
          ∙ sym (silent a key (find key_cmp key t.facts.paths) (find key_cmp key t.resvs) (not_so (is_asking t key) parts.0));
      uses = λ known. absurd (let f = none_there (find key_cmp key s.assignments) more.1 known in cc);
    }

-- when a path and a reservation expire is nothing to what it asks for,
wish_timeless : (a : Around) (key : Key) (path : Option PathFact) (resv : Option ResvFact) → wish_by a key (option_map timeless_path path) (option_map timeless_resv resv) ≡ wish_by a key path resv
unfolding candidates_of leaves_by ways_around
wish_timeless a key None None = refl
wish_timeless a key None (Some resv) = refl
wish_timeless a key (Some path) None = refl
wish_timeless a key (Some path) (Some resv) = refl

-- nor when its repair expires to what it uses
abbrev used_by : Option PathFact → Option Repair → Bool
used_by path repair = option_map_or (λ repair. option_map_or (leaves_by repair.resv.link) path false) repair false

used_timeless : (path : Option PathFact) (repair : Option Repair) → used_by (option_map timeless_path path) (option_map timeless_repair repair) ≡ used_by path repair
unfolding leaves_by
used_timeless None None = refl
used_timeless None (Some repair) = refl
used_timeless (Some path) None = refl
used_timeless (Some path) (Some repair) = refl

-- So an LSP is at rest that is the same but for when that expires.
pub same_but_expiry : (s t : State) (key : Key) → option_map timeless_repair (find key_cmp key s.repairs) ≡ option_map timeless_repair (find key_cmp key t.repairs)
    → option_map timeless_resv (find key_cmp key s.resvs) ≡ option_map timeless_resv (find key_cmp key t.resvs)
    → option_map timeless_path (find key_cmp key s.facts.paths) ≡ option_map timeless_path (find key_cmp key t.facts.paths) → IsAtRest s t key
same_but_expiry s t key repair resv path = record {
  asks = λ a. sym (wish_timeless a key (find key_cmp key s.facts.paths) (find key_cmp key s.resvs)) ∙ (λ i. wish_by a key (path i) (resv i)) ∙ wish_timeless a key (find key_cmp key t.facts.paths) (find key_cmp key t.resvs);
  uses = λ known. sym (used_timeless (find key_cmp key s.facts.paths) (find key_cmp key s.repairs)) ∙ (λ i. used_by (path i) (repair i)) ∙ used_timeless (find key_cmp key t.facts.paths) (find key_cmp key t.repairs);
}

-- ---- all

-- tests that agree on rows keep the same of them
filter_alike : {X : Type 0} (p q : X → Bool) (xs : List X) → AllByRecursion (λ x. p x ≡ q x) xs → filter p xs ≡ filter q xs
filter_alike p q [] alike = refl
filter_alike p q (x ∷ xs) alike =
    ap (λ b. cond b (x ∷ filter p xs) (filter p xs)) alike.0 ∙ ap (λ l. cond (q x) (x ∷ l) l) (filter_alike p q xs alike.1)

module _ (r : Router) (s : State) (e : Edits) where
  abbrev IsStill : Key → Type 0
  IsStill key = IsAtRest s (edited e s) key

  -- An LSP that isn't edited is at rest.
  unedited : (key : Key) → find key_cmp key e.paths ≡ None → find key_cmp key e.resvs ≡ None → find key_cmp key e.repairs ≡ None → IsStill key
  unedited key no_path no_resv no_repair =
      let path = sym (row_edited key e.paths s.facts.paths ∙ ap (λ edit. rows.over edit (find key_cmp key s.facts.paths)) no_path) in
      let resv = sym (row_edited key e.resvs s.resvs ∙ ap (λ edit. rows.over edit (find key_cmp key s.resvs)) no_resv) in
      let repair = sym (row_edited key e.repairs s.repairs ∙ ap (λ edit. rows.over edit (find key_cmp key s.repairs)) no_repair) in
      record { asks = λ a i. wish_by a key (path i) (resv i); uses = λ known i. used_by (path i) (repair i) }

  -- So all are, where those are that are edited.
  still : AllByRecursion (λ row. IsStill row.0) e.paths → AllByRecursion (λ row. IsStill row.0) e.resvs → AllByRecursion (λ row. IsStill row.0) e.repairs → (key : Key) → IsStill key
  still paths resvs repairs key =
      by (find key_cmp key e.paths) (find key_cmp key e.resvs) (find key_cmp key e.repairs) refl refl refl
      (find-all_row key_cmp key_exact (λ (row : Key × Option PathFact). IsStill row.0) key e.paths paths)
      (find-all_row key_cmp key_exact (λ (row : Key × Option ResvFact). IsStill row.0) key e.resvs resvs)
      (find-all_row key_cmp key_exact (λ (row : Key × Option Repair). IsStill row.0) key e.repairs repairs)
    where
      by : (path : Option (Option PathFact)) (resv : Option (Option ResvFact)) (repair : Option (Option Repair))
          → find key_cmp key e.paths ≡ path → find key_cmp key e.resvs ≡ resv → find key_cmp key e.repairs ≡ repair
          → IfSome path (λ row. IsStill key) → IfSome resv (λ row. IsStill key) → IfSome repair (λ row. IsStill key) → IsStill key
      by (Some row) resv repair is_path is_resv is_repair so more most = so
      by None (Some row) repair is_path is_resv is_repair more so most = so
      by None None (Some row) is_path is_resv is_repair more most so = so
      by None None None is_path is_resv is_repair more most least = unedited key is_path is_resv is_repair

  module _ (kept : (edited e s).assignments ≡ s.assignments) (each : (key : Key) → IsStill key) where
    -- the same is in use,
    same_in_use : T (is_sorted key_cmp s.assignments) → in_use_of (edited e s) ≡ in_use_of s
    same_in_use in_order =
        ap (where_key key_cmp (is_in_use (edited e s))) kept
        ∙ filter_alike (λ (row : Key × Assignment). is_in_use (edited e s) row.0) (λ (row : Key × Assignment). is_in_use s row.0) s.assignments
        (all-weaker (λ (row : Key × Assignment). find key_cmp row.0 s.assignments ≡ Some row.1) (λ (row : Key × Assignment). is_in_use (edited e s) row.0 ≡ is_in_use s row.0)
        (λ row found. sym ((each row.0).uses (ap is_some found))) s.assignments (all_found key_cmp key_total s.assignments in_order))

    -- and the same is asked for, where LSPs share the same
    same_wishes : T (is_sorted key_cmp s.resvs) → around_of r s ≡ around_of r (edited e s) → wishes_of r (edited e s) ≡ wishes_of r s
    same_wishes in_order around =
        let t = edited e s in
        let then : T (is_sorted key_cmp t.resvs) = is_sorted-edited key_cmp key_total e.resvs s.resvs in_order in
        same_entries key_cmp key_total key_exact (wishes_of r t) (wishes_of r s) (wishes_sorted r t then) (wishes_sorted r s in_order) (λ key.
        found_wish r t key then
        ∙ ap (λ a. wish_by a key (find key_cmp key t.facts.paths) (find key_cmp key t.resvs)) (sym around)
        ∙ sym ((each key).asks (around_of r s))
        ∙ sym (found_wish r s key in_order))

-- So what is promised, made anew, is what it was, where that stood.
pub all_rest : (r : Router) (s : State) (e : Edits) → T (is_sorted key_cmp s.resvs) → T (is_sorted key_cmp s.assignments) → (edited e s).assignments ≡ s.assignments
    → e.bypasses ≡ None → around_of r s ≡ around_of r (edited e s)
    → AllByRecursion (λ row. IsAtRest s (edited e s) row.0) e.paths → AllByRecursion (λ row. IsAtRest s (edited e s) row.0) e.resvs → AllByRecursion (λ row. IsAtRest s (edited e s) row.0) e.repairs
    → assignments_of r (edited e s) ≡ assignments_of r s
unfolding assignments_of
all_rest r s e resvs assignments kept bypasses around at_paths at_resvs at_repairs =
    let each = still r s e at_paths at_resvs at_repairs in
    let used = same_in_use r s e kept each assignments in
    let wished = same_wishes r s e kept each resvs around in
    λ i. assigned key_cmp (capacity_in (unwrap_or (bypasses i) s.facts.bypasses)) (kept i) (used i) (wished i)
