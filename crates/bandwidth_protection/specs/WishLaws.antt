-- All wishes, as they are asked for one by one.
use Rattle.std.specs.Prelude.{◌≡◌, ℕ, ◌&&◌, Bool, true, false, if◌then◌else◌, T, List, [], filter, filter_map, is_some, map, Option, Some, None, IfSome}
use Rattle.std.specs.FinMap.Entries.{find, is_sorted}
use Rattle.std.specs.Option.{option_and_then, option_map, option_or}
use Rattle.std.proofs.Common.{refl, sym, ap, ◌∙◌}
use Rattle.sorted_rows.specs.Edits as rows
use Rattle.lsr_facts.specs.OrderLaws.{key_exact, key_total}
use Rattle.lsr_facts.specs.Orders.{key_cmp}
use Rattle.lsr_facts.specs.declared.assignment.Assignment.{Assignment}
use Rattle.lsr_facts.specs.declared.key.Key.{Key}
use Rattle.lsr_facts.specs.declared.path_fact.PathFact.{PathFact}
use Rattle.lsr_facts.specs.declared.repair.Selected.{Selected}
use Rattle.lsr_facts.specs.declared.resv_fact.ResvFact.{ResvFact}
use Rattle.lsr_facts.specs.declared.router.Router.{Router}
use Rattle.bypass_shares.specs.ShareLaws.{no_capacity_no_change}
use Rattle.bypass_shares.specs.declared.wish.Wish.{Wish}
use Rattle.abstract_paths.specs.Tears.{leaves_by}
use Rattle.abstract_paths.specs.TouchedLaws.{find-made, is_sorted-made}
use Rattle.abstract_router.specs.Assigning.{assignments_of, capacity_in, has_capacity, in_use_of, rate_in, wants_bandwidth, wish_of, wish_on, wishes_of}
use Rattle.abstract_router.specs.Lsps.{Around, around_of}
use Rattle.abstract_router.specs.Protecting.{candidates_of, is_protected, selected_by}
use Rattle.abstract_router.specs.States.{State}
use Rattle.abstract_router.specs.UpstreamLaws.{all-filter_map}
use Rattle.state_views.specs.EditLaws.{row_edited}
use Rattle.state_views.specs.Edits.{edited}
use Rattle.state_views.specs.declared.edits.Edits.{Edits}
use Rattle.bandwidth_protection.specs.CandidateLaws.{best_of, no_candidates, numbers, protected_candidates}
use Rattle.bandwidth_protection.specs.Candidates.{promising_of}
use Rattle.bandwidth_protection.specs.Narrowing.{of_open, open_by, open_wish}
use Rattle.bandwidth_protection.specs.Wishing.{wish_at, wish_by}

-- What is found of an LSP is what it asks for.
pub found_wish : (r : Router) (s : State) (key : Key) → T (is_sorted key_cmp s.resvs) → find key_cmp key (wishes_of r s) ≡ wish_at r s key
unfolding wishes_of
found_wish r s key in_order = find-made key_cmp key_total key_exact (wish_of r s) key s.resvs in_order

pub wishes_sorted : (r : Router) (s : State) → T (is_sorted key_cmp s.resvs) → T (is_sorted key_cmp (wishes_of r s))
unfolding wishes_of
wishes_sorted r s in_order = is_sorted-made key_cmp key_total key_exact (wish_of r s) s.resvs in_order

-- an LSP asks for nothing that has no path,
unknown : (a : Around) (key : Key) (resv : Option ResvFact) → wish_by a key None resv ≡ None
unknown a key None = refl
unknown a key (Some resv) = refl

-- or whose head doesn't want its bandwidth protected
pub unwanted : (a : Around) (key : Key) (path : PathFact) (resv : Option ResvFact) → wants_bandwidth path ≡ false → wish_by a key (Some path) resv ≡ None
unwanted a key path None isnt = refl
unwanted a key path (Some resv) isnt =
    ap (λ b. if b && leaves_by resv.link path then Some (record { rate = rate_in resv; bypasses = map (λ (choice : Selected). choice.bypass) (filter has_capacity (candidates_of a key path resv)) }) else None) isnt

module _ (r : Router) (s : State) (e : Edits) where
  -- what an LSP asks for after edits, by the edit of its path and the path of before
  asks : (key : Key) → wish_at r (edited e s) key ≡ wish_by (around_of r (edited e s)) key (rows.over (find key_cmp key e.paths) (find key_cmp key s.facts.paths)) (find key_cmp key (edited e s).resvs)
  asks key = ap (λ path. wish_by (around_of r (edited e s)) key path (find key_cmp key (edited e s).resvs)) (row_edited key e.paths s.facts.paths)

  -- nothing, where its path isn't edited and its head doesn't want its bandwidth protected
  unasked : (key : Key) (path : PathFact) → find key_cmp key s.facts.paths ≡ Some path → find key_cmp key e.paths ≡ None → wants_bandwidth path ≡ false → wish_at r (edited e s) key ≡ None
  unasked key path known none isnt =
      asks key
      ∙ (λ i. wish_by (around_of r (edited e s)) key (rows.over (none i) (known i)) (find key_cmp key (edited e s).resvs))
      ∙ unwanted (around_of r (edited e s)) key path (find key_cmp key (edited e s).resvs) isnt

  -- who is asked, whether its path was known before, or is edited, is asked once
  asked_all : (edit : Option (Option PathFact)) (was : Option PathFact) (ask : Option Wish) → (rows.over edit was ≡ None → ask ≡ None)
      → option_or (option_and_then (λ row. ask) edit) (option_or (option_and_then (λ row. ask) was) None) ≡ ask
  asked_all None None ask none = sym (none refl)
  asked_all None (Some path) ask none = one ask
    where
      one : (o : Option Wish) → option_or o None ≡ o
      one None = refl
      one (Some wish) = refl
  asked_all (Some now) was ask none = twice ask was
    where
      twice : (o : Option Wish) (was : Option PathFact) → option_or o (option_or (option_and_then (λ row. o) was) None) ≡ o
      twice None None = refl
      twice None (Some path) = refl
      twice (Some wish) was = refl

  module _ (kept : List (Key × Assignment)) (left : List (ℕ × ℕ)) where
    -- nothing is asked for in the second round, where nothing is
    none_open : (key : Key) (wish : Option Wish) → wish ≡ None → open_by kept left key wish ≡ None
    none_open key wish is =
        ap (open_by kept left key) is
        ∙ elim (is_some (find key_cmp key kept)) as (λ b. (if b then None else option_and_then (of_open left) None) ≡ None) [ true ↦ refl | false ↦ refl ]

    pub unopened : (key : Key) (path : PathFact) → find key_cmp key s.facts.paths ≡ Some path → find key_cmp key e.paths ≡ None → wants_bandwidth path ≡ false → open_wish r (edited e s) kept left key ≡ None
    unopened key path known none isnt = none_open key (wish_at r (edited e s) key) (unasked key path known none isnt)

    -- So all are asked, where those are whose paths were known before, and those whose paths are edited.
    pub wishes_all : (known all : List (Key × Wish))
        → ((key : Key) → find key_cmp key known ≡ option_or (option_and_then (λ path. open_wish r (edited e s) kept left key) (find key_cmp key s.facts.paths)) None)
        → ((key : Key) → find key_cmp key all ≡ option_or (option_and_then (λ row. open_wish r (edited e s) kept left key) (find key_cmp key e.paths)) (find key_cmp key known))
        → (key : Key) → find key_cmp key all ≡ open_wish r (edited e s) kept left key
    wishes_all known all before after key =
        after key
        ∙ ap (option_or (option_and_then (λ (row : Option PathFact). open_wish r (edited e s) kept left key) (find key_cmp key e.paths))) (before key)
        ∙ asked_all (find key_cmp key e.paths) (find key_cmp key s.facts.paths) (open_wish r (edited e s) kept left key)
        (λ none. none_open key (wish_at r (edited e s) key)
        (asks key ∙ ap (λ path. wish_by (around_of r (edited e s)) key path (find key_cmp key (edited e s).resvs)) none ∙ unknown (around_of r (edited e s)) key (find key_cmp key (edited e s).resvs)))

-- ---- where no bypass has bandwidth to promise

module _ (r : Router) (s : State) (none : promising_of r s ≡ []) where
  -- no LSP has a candidate that has,
  none_for : (key : Key) (path : PathFact) (resv : ResvFact) → map (λ (choice : Selected). choice.bypass) (filter has_capacity (candidates_of (around_of r s) key path resv)) ≡ []
  none_for key path resv =
      elim (is_protected (around_of r s) key path) as (λ b. is_protected (around_of r s) key path ≡ b → map (λ (choice : Selected). choice.bypass) (filter has_capacity (candidates_of (around_of r s) key path resv)) ≡ []) [
        | true ↦ λ is. protected_candidates r s key path resv is ∙ ap (λ bypasses. numbers (best_of path (filter_map (selected_by r resv) bypasses))) none
        | false ↦ λ isnt. no_candidates (around_of r s) key path resv isnt
      ] refl

  -- so none asks for any,
  none_asked : (resv : Key × ResvFact) → IfSome {T = Key × Wish} (option_map (λ (wish : Wish). (resv.0, wish)) (wish_of r s resv)) (λ row. row.1.bypasses ≡ [])
  none_asked resv = by (find key_cmp resv.0 s.facts.paths)
    where
      by : (path : Option PathFact) → IfSome {T = Key × Wish} (option_map (λ (wish : Wish). (resv.0, wish)) (option_and_then (wish_on (around_of r s) resv.0 resv.1) path)) (λ row. row.1.bypasses ≡ [])
      by None = tt
      by (Some path) = ends (wants_bandwidth path && leaves_by resv.1.link path)
        where
          ends : (b : Bool) → IfSome {T = Key × Wish} (option_map (λ (wish : Wish). (resv.0, wish)) (if b
              then Some (record { rate = rate_in resv.1; bypasses = map (λ (choice : Selected). choice.bypass) (filter has_capacity (candidates_of (around_of r s) resv.0 path resv.1)) })
              else None)) (λ row. row.1.bypasses ≡ [])
          ends true = none_for resv.0 path resv.1
          ends false = tt

  -- and only what is in use is promised.
  pub none_promised : in_use_of s ≡ assignments_of r s
  unfolding assignments_of wishes_of
  none_promised = sym (no_capacity_no_change key_cmp (capacity_in s.facts.bypasses) s.assignments (in_use_of s) (wishes_of r s)
      (all-filter_map (λ (row : Key × Wish). row.1.bypasses ≡ []) (λ resv. option_map (λ (wish : Wish). (resv.0, wish)) (wish_of r s resv)) none_asked s.resvs))
