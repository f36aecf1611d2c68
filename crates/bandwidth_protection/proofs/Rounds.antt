-- What is asked for in each round, as it is made; and the bypasses that it is asked of.
use Rattle.std.specs.Prelude.{◌≡◌, ℕ, ◌==◌, ◌&&◌, ◌||◌, ◌++◌, Bool, true, false, cond, if◌then◌else◌, T, List, [], ◌∷◌, filter, filter_map, is_some, length, map, Option, Some, None, IfSome}
use Rattle.std.specs.FinMap.Entries.{find, is_sorted, same_entries}
use Rattle.std.specs.List.{cons_option, list_any}
use Rattle.std.specs.Option.{option_and_then, option_map, option_to_list}
use Rattle.std.specs.Ordering.{eq_by_cmp, is_eq, nat_cmp}
use Rattle.std.proofs.Common.{refl, sym, ap, ◌∙◌}
use Rattle.std.proofs.lemmas.Bool.{eq-eqb, eqb-true}
use Rattle.std.proofs.lemmas.Cmp.{nat_cmp_total, tied_itself}
use Rattle.std.proofs.lemmas.Map.Lookups.{exact_unsigned}
use Rattle.sorted_rows.specs.RowsLaws.{find-behind, second, ties}
use Rattle.lsr_facts.specs.OrderLaws.{key_exact, key_total}
use Rattle.lsr_facts.specs.Orders.{key_cmp}
use Rattle.lsr_facts.specs.declared.assignment.Assignment.{Assignment}
use Rattle.lsr_facts.specs.declared.key.Key.{Key}
use Rattle.lsr_facts.specs.declared.path_fact.PathFact.{PathFact}
use Rattle.lsr_facts.specs.declared.repair.BypassTunnel.{BypassTunnel}
use Rattle.lsr_facts.specs.declared.repair.Selected.{Selected}
use Rattle.lsr_facts.specs.declared.resv_fact.ResvFact.{ResvFact}
use Rattle.lsr_facts.specs.declared.router.Router.{Router}
use Rattle.bypass_shares.specs.declared.wish.Wish.{Wish}
use Rattle.abstract_paths.specs.TouchedLaws.{find-made, is_sorted-made}
use Rattle.abstract_router.specs.Assigning.{has_capacity, wishes_of}
use Rattle.abstract_router.specs.Lsps.{around_of}
use Rattle.abstract_router.specs.Protecting.{candidates_of, is_preferred, is_protected, selected_by}
use Rattle.abstract_router.specs.States.{State}
use Rattle.facility_backup.specs.Serving.{IsOf, selected_of}
use Rattle.bandwidth_protection.proofs.Turns.{any_narrowed}
use Rattle.bandwidth_protection.specs.CandidateLaws.{no_candidates, open_candidates}
use Rattle.bandwidth_protection.specs.Candidates.{AreOpen, in_turn, offered, placed, promising_of}
use Rattle.bandwidth_protection.specs.Keeping.{known_wishes}
use Rattle.bandwidth_protection.specs.Narrowing.{has_left, of_open, open_wish, room_of, unless_none}
use Rattle.bandwidth_protection.specs.WishLaws.{found_wish, wishes_sorted}
use Rattle.bandwidth_protection.specs.Wishing.{wish_at}

-- ---- bypasses

-- no other row has this number
other_number : (n m : ℕ) → eq_by_cmp nat_cmp n m ≡ false → (m == n) ≡ false
other_number n m apart =
    elim (m == n) as (λ b. (m == n) ≡ b → b ≡ false) [
      | true ↦ λ is.
          let same = eqb-true m n is in
          let tied : eq_by_cmp nat_cmp n m ≡ true = ap (λ k. eq_by_cmp nat_cmp n k) same ∙ ap is_eq (tied_itself nat_cmp_total n) in
          absurd cc
      | false ↦ λ is. refl
    ] refl

-- The one of this number is found.
pub only_one : {X : Type 0} (n : ℕ) (rows : List (ℕ × X)) → T (is_sorted nat_cmp rows) → filter (λ row. row.0 == n) rows ≡ option_to_list (option_map (λ x. (n, x)) (find nat_cmp n rows))
only_one n [] in_order = refl
only_one {X} n (row ∷ rows) in_order = by (eq_by_cmp nat_cmp n row.0) refl (only_one n rows (second _ _ in_order))
  where
    rest : List (ℕ × X)
    rest = filter (λ row. row.0 == n) rows

    by : (b : Bool) → eq_by_cmp nat_cmp n row.0 ≡ b → rest ≡ option_to_list (option_map (λ x. (n, x)) (find nat_cmp n rows))
        → cond (row.0 == n) (row ∷ rest) rest ≡ option_to_list (option_map (λ x. (n, x)) (cond b (Some row.1) (find nat_cmp n rows)))
    by true is so =
        let same : n ≡ row.0 = exact_unsigned n row.0 (ties _ is) in
        let none : rest ≡ [] = so ∙ ap (λ o. option_to_list (option_map (λ (x : X). (n, x)) o)) (find-behind nat_cmp nat_cmp_total n row rows in_order (ties _ is)) in
        ap (λ b. cond b (row ∷ rest) rest) (eq-eqb row.0 n (sym same)) ∙ (λ i. (sym same i, row.1) ∷ none i)
    by false is so = ap (λ b. cond b (row ∷ rest) rest) (other_number n row.0 is) ∙ so

module _ (r : Router) (s : State) where
  -- it alone may serve who had some of it,
  pub one_open : (n : ℕ) (bypass_tunnel : BypassTunnel) → T (is_sorted nat_cmp (promising_of r s)) → find nat_cmp n (promising_of r s) ≡ Some bypass_tunnel → AreOpen r s 0 (((n, bypass_tunnel), 0) ∷ []) (λ number. number == n)
  one_open n bypass_tunnel in_order found = λ resv.
      ap (filter_map (selected_by r resv)) (sym (only_one n (promising_of r s) in_order ∙ ap (λ o. option_to_list (option_map (λ (x : BypassTunnel). (n, x)) o)) found))

  pub no_open : (n : ℕ) → T (is_sorted nat_cmp (promising_of r s)) → find nat_cmp n (promising_of r s) ≡ None → AreOpen r s 0 [] (λ number. number == n)
  no_open n in_order none = λ resv.
      ap (filter_map (selected_by r resv)) (sym (only_one n (promising_of r s) in_order ∙ ap (λ o. option_to_list (option_map (λ (x : BypassTunnel). (n, x)) o)) none))

  -- So an LSP may have some of it, where it is protected, and may be repaired over it:
  of_one : (n : ℕ) (path : PathFact) (resv : ResvFact) (bypass_tunnel : BypassTunnel)
      → is_some (selected_by r resv (n, bypass_tunnel)) ≡ list_any (λ candidate. candidate == n) (in_turn r path resv 0 (((n, bypass_tunnel), 0) ∷ []) [] [])
  of_one n path resv bypass_tunnel = by (selected_by r resv (n, bypass_tunnel)) (selected_of r resv (n, bypass_tunnel))
    where
      by : (o : Option Selected) → IfSome o (IsOf n bypass_tunnel.capacity) → is_some o ≡ list_any (λ candidate. candidate == n) (placed path o [] [] (λ first others. first ++ others))
      by None of = refl
      by (Some choice) of =
          elim (is_preferred path choice) as (λ b. true ≡ list_any (λ candidate. candidate == n) (if b then (choice.bypass ∷ []) ++ [] else [] ++ choice.bypass ∷ [])) [
            | true ↦ sym (ap (λ b. b || false) (eq-eqb choice.bypass n of.0))
            | false ↦ sym (ap (λ b. b || false) (eq-eqb choice.bypass n of.0))
          ]

  pub may_have : (n : ℕ) (key : Key) (path : PathFact) (resv : ResvFact) → T (is_sorted nat_cmp (promising_of r s)) → (found : Option BypassTunnel) → find nat_cmp n (promising_of r s) ≡ found
      → (is_protected (around_of r s) key path && is_some (option_and_then (λ bypass_tunnel. selected_by r resv (n, bypass_tunnel)) found))
      ≡ list_any (λ candidate. candidate == n) (map (λ choice. choice.bypass) (filter has_capacity (candidates_of (around_of r s) key path resv)))
  may_have n key path resv in_order found is_found = by (is_protected (around_of r s) key path) refl found is_found
    where
      all : List ℕ
      all = map (λ (choice : Selected). choice.bypass) (filter has_capacity (candidates_of (around_of r s) key path resv))

      by : (b : Bool) → is_protected (around_of r s) key path ≡ b → (o : Option BypassTunnel) → find nat_cmp n (promising_of r s) ≡ o
          → (b && is_some (option_and_then (λ bypass_tunnel. selected_by r resv (n, bypass_tunnel)) o)) ≡ list_any (λ candidate. candidate == n) all
      by false is o at = sym (ap (list_any (λ candidate. candidate == n)) (no_candidates (around_of r s) key path resv is))
      by true is None at =
          ap (list_any (λ candidate. candidate == n)) (open_candidates r s 0 [] (λ number. number == n) (no_open n in_order at) key path resv is)
          ∙ any_narrowed (λ number. number == n) all
      by true is (Some bypass_tunnel) at =
          of_one n path resv bypass_tunnel
          ∙ ap (list_any (λ candidate. candidate == n)) (open_candidates r s 0 (((n, bypass_tunnel), 0) ∷ []) (λ number. number == n) (one_open n bypass_tunnel in_order at) key path resv is)
          ∙ any_narrowed (λ number. number == n) all

  -- and of none, where there is no such bypass;
  pub may_have_none : (n : ℕ) (key : Key) (path : PathFact) (resv : ResvFact) → T (is_sorted nat_cmp (promising_of r s)) → find nat_cmp n (promising_of r s) ≡ None
      → false ≡ list_any (λ candidate. candidate == n) (map (λ choice. choice.bypass) (filter has_capacity (candidates_of (around_of r s) key path resv)))
  may_have_none n key path resv in_order none = neither (is_protected (around_of r s) key path) ∙ may_have n key path resv in_order None none
    where
      neither : (b : Bool) → false ≡ (b && false)
      neither true = refl
      neither false = refl

  -- and of all those of which so much is left.
  left_open_of : (left : List (ℕ × ℕ)) (rate : ℕ) (resv : ResvFact) (bypasses : List (ℕ × BypassTunnel)) → filter_map (offered r resv rate) (map (room_of left) bypasses) ≡ filter_map (selected_by r resv) (filter (λ bypass. has_left left rate bypass.0) bypasses)
  left_open_of left rate resv [] = refl
  left_open_of left rate resv (bypass ∷ more) =
      elim (has_left left rate bypass.0) as (λ b. cons_option (if b then selected_by r resv bypass else None) (filter_map (offered r resv rate) (map (room_of left) more)) ≡ filter_map (selected_by r resv) (cond b (bypass ∷ filter (λ bypass. has_left left rate bypass.0) more) (filter (λ bypass. has_left left rate bypass.0) more))) [
        | true ↦ ap (cons_option (selected_by r resv bypass)) (left_open_of left rate resv more)
        | false ↦ left_open_of left rate resv more
      ]

  pub left_open : (left : List (ℕ × ℕ)) (rate : ℕ) → AreOpen r s rate (map (room_of left) (promising_of r s)) (has_left left rate)
  left_open left rate = λ resv. left_open_of left rate resv (promising_of r s)

  -- ---- wishes

  -- a wish of what is left, by the rate that is asked for
  pub open_asked : (asks : Bool) (rate : ℕ) (bypasses : List ℕ) (left : List (ℕ × ℕ)) → option_and_then (of_open left) (if asks then Some (record { rate = rate; bypasses = bypasses }) else None)
      ≡ option_and_then (λ rate. unless_none (record { rate = rate; bypasses = filter (has_left left rate) bypasses })) (if asks then Some rate else None)
  open_asked true rate bypasses left = refl
  open_asked false rate bypasses left = refl

  -- what comes of it, by what is found
  pub open_as : (asks : Bool) (rate : ℕ) (bypasses : List ℕ) (left : List (ℕ × ℕ)) (asked : ℕ) (found : List ℕ) (none : Bool) → Some asked ≡ (if asks then Some rate else None) → found ≡ filter (has_left left asked) bypasses → (length found == 0) ≡ none
      → (if none then None else Some (record { rate = asked; bypasses = found })) ≡ option_and_then (of_open left) (if asks then Some (record { rate = rate; bypasses = bypasses }) else None)
  open_as asks rate bypasses left asked found none is_asked is_found is_none =
      let of_rate : ℕ → Option Wish = λ rate. unless_none (record { rate = rate; bypasses = filter (has_left left rate) bypasses }) in
      let given : Bool → Option Wish = λ b. if b then None else Some (record { rate = asked; bypasses = found }) in
      let named : List ℕ → Option Wish = λ numbers. unless_none (record { rate = asked; bypasses = numbers }) in
      ap given (sym is_none) ∙ ap named is_found ∙ ap (option_and_then of_rate) is_asked ∙ sym (open_asked asks rate bypasses left)

  module _ (in_order : T (is_sorted key_cmp s.resvs)) where
    -- what LSPs ask for that had some is what all ask for, where each had some
    both_ways : (had : Option Assignment) (wish : Option Wish) → option_and_then (λ given. wish) had ≡ option_and_then (λ w. option_map (λ given. w) had) wish
    both_ways None None = refl
    both_ways None (Some wish) = refl
    both_ways (Some had) None = refl
    both_ways (Some had) (Some wish) = refl

    pub kept_rows : (old : List (Key × Assignment)) → T (is_sorted key_cmp old)
        → known_wishes r s old ≡ filter_map {Y = Key × Wish} (λ wish. option_map (λ w. (wish.0, w)) (option_map (λ had. wish.1) (find key_cmp wish.0 old))) (wishes_of r s)
    kept_rows old sorted =
        let kept = λ (row : Key × Assignment). wish_at r s row.0 in
        let narrow = λ (wish : Key × Wish). option_map (λ (had : Assignment). wish.1) (find key_cmp wish.0 old) in
        let wished = wishes_sorted r s in_order in
        same_entries key_cmp key_total key_exact (filter_map {Y = Key × Wish} (λ row. option_map (λ w. (row.0, w)) (kept row)) old) (filter_map {Y = Key × Wish} (λ wish. option_map (λ w. (wish.0, w)) (narrow wish)) (wishes_of r s))
        (is_sorted-made key_cmp key_total key_exact kept old sorted)
        (is_sorted-made key_cmp key_total key_exact narrow (wishes_of r s) wished)
        (λ q.
        find-made key_cmp key_total key_exact kept q old sorted
        ∙ both_ways (find key_cmp q old) (wish_at r s q)
        ∙ ap (option_and_then (λ w. narrow (q, w))) (sym (found_wish r s q in_order))
        ∙ sym (find-made key_cmp key_total key_exact narrow q (wishes_of r s) wished))

    -- who has some asks for nothing in the second round
    opened : (has : Bool) (left : List (ℕ × ℕ)) (wish : Option Wish) → (if has then None else option_and_then (of_open left) wish) ≡ option_and_then (λ w. if has then None else of_open left w) wish
    opened true left None = refl
    opened true left (Some wish) = refl
    opened false left None = refl
    opened false left (Some wish) = refl

    pub open_rows : (kept : List (Key × Assignment)) (left : List (ℕ × ℕ)) (all : List (Key × Wish)) → T (is_sorted key_cmp all) → ((key : Key) → find key_cmp key all ≡ open_wish r s kept left key)
        → all ≡ filter_map {Y = Key × Wish} (λ wish. option_map (λ w. (wish.0, w)) (if is_some (find key_cmp wish.0 kept) then None else of_open left wish.1)) (wishes_of r s)
    open_rows kept left all sorted found =
        let narrow = λ (wish : Key × Wish). if is_some (find key_cmp wish.0 kept) then None else of_open left wish.1 in
        let wished = wishes_sorted r s in_order in
        same_entries key_cmp key_total key_exact all (filter_map {Y = Key × Wish} (λ wish. option_map (λ w. (wish.0, w)) (narrow wish)) (wishes_of r s)) sorted
        (is_sorted-made key_cmp key_total key_exact narrow (wishes_of r s) wished)
        (λ q.
        found q
        ∙ opened (is_some (find key_cmp q kept)) left (wish_at r s q)
        ∙ ap (option_and_then (λ w. narrow (q, w))) (sym (found_wish r s q in_order))
        ∙ sym (find-made key_cmp key_total key_exact narrow q (wishes_of r s) wished))
