-- The bypass that is chosen is the first of the best.
use Rattle.std.specs.Prelude.{◌≡◌, ◌≤◌, ◌⊎◌, ◌&&◌, ◌++◌, ℕ, not, Bool, true, false, cond, if◌then◌else◌, T, List, [], ◌∷◌, filter, filter_map, find as find_first, Option, Some, None, IfSome}
use Rattle.std.specs.FinMap.Entries.{find, is_sorted}
use Rattle.std.specs.List.{AllByRecursion, cons_option}
use Rattle.std.specs.Option.{option_or, unwrap_or}
use Rattle.std.specs.Ordering.{eq_by_cmp, nat_cmp}
use Rattle.std.specs.declared.cmp.Ordering.TheVariants.{Less}
use Rattle.std.proofs.Common.{refl, sym, ap, subst, ◌∙◌, inl, inr, arith}
use Rattle.std.proofs.lemmas.Bool.{and_from, and_parts, cond_both}
use Rattle.std.proofs.lemmas.Cmp.{nat_cmp_total, ranked}
use Rattle.std.proofs.lemmas.Map.Lookups.{exact_unsigned}
use Rattle.std.proofs.lemmas.Option.{same_Some}
use Rattle.sorted_rows.specs.RowsLaws.{all-below, all_found, find-all_row, first, second, ties}
use Rattle.lsr_facts.specs.Orders.{key_cmp}
use Rattle.lsr_facts.specs.declared.assignment.Assignment.{Assignment}
use Rattle.lsr_facts.specs.declared.key.Key.{Key}
use Rattle.lsr_facts.specs.declared.path_fact.PathFact.{PathFact}
use Rattle.lsr_facts.specs.declared.repair.BypassTunnel.{BypassTunnel}
use Rattle.lsr_facts.specs.declared.repair.Selected.{Selected}
use Rattle.lsr_facts.specs.declared.resv_fact.ResvFact.{ResvFact}
use Rattle.lsr_facts.specs.declared.router.Router.{Router}
use Rattle.abstract_paths.specs.RowLaws.{option_map-holds}
use Rattle.abstract_paths.specs.TouchedLaws.{is_sorted-made}
use Rattle.abstract_router.specs.BypassTunnels.{bypass_tunnel_by, bypass_tunnels_of}
use Rattle.abstract_router.specs.Lsps.{around_of}
use Rattle.abstract_router.specs.Protecting.{candidates_of, ends_at_peer, is_preferred, is_protected, label_after, leads_around, may_serve, selected, selected_by, wants_node_protection, ways_around}
use Rattle.abstract_router.specs.Soundness.{IsSound}
use Rattle.abstract_router.specs.States.{State}
use Rattle.router_laws.specs.Serving.{IsProtected, MayServe, chosen_for}

-- ---- the first of a list

-- the first of two lists that passes is of the first one, or else of the second
first_of_both : {A : Type 0} (p : A → Bool) (xs ys : List A) → find_first p (xs ++ ys) ≡ option_or (find_first p xs) (find_first p ys)
first_of_both p [] ys = refl
first_of_both {A} p (x ∷ xs) ys =
    elim (p x) as (λ b. cond b (Some x) (find_first p (xs ++ ys)) ≡ option_or (cond b (Some x) (find_first p xs)) (find_first p ys)) [ true ↦ refl | false ↦ first_of_both p xs ys ]

-- the first of those that pass one test that passes another, too
first_of_those : {A : Type 0} (p q : A → Bool) (xs : List A) → find_first p (filter q xs) ≡ find_first (λ x. q x && p x) xs
first_of_those p q [] = refl
first_of_those {A} p q (x ∷ xs) =
    let rest = first_of_those p q xs in
    elim (q x) as (λ b. find_first p (cond b (x ∷ filter q xs) (filter q xs)) ≡ cond (b && p x) (Some x) (find_first (λ x. q x && p x) xs)) [
      | true ↦ elim (p x) as (λ b. cond b (Some x) (find_first p (filter q xs)) ≡ cond b (Some x) (find_first (λ x. q x && p x) xs)) [ true ↦ refl | false ↦ rest ]
      | false ↦ rest
    ]

-- ---- the ways around a link

-- what is selected by a bypass has its number
pub number_of : (r : Router) (resv : ResvFact) (row : ℕ × BypassTunnel) → IfSome (selected_by r resv row) (λ choice. choice.bypass ≡ row.0)
number_of r resv row =
    cond_both (not (leads_around resv row.1)) _ _ (λ (o : Option Selected). IfSome o (λ choice. choice.bypass ≡ row.0)) (λ other. tt)
    (λ around.
    cond_both (ends_at_peer r resv row.1) _ _ (λ (o : Option Selected). IfSome o (λ choice. choice.bypass ≡ row.0)) (λ next. refl)
    (λ later.
    option_map-holds (λ (choice : Selected). choice.bypass ≡ row.0) (λ label. record { bypass = row.0; is_nnhop = true; label = label; capacity = row.1.capacity }) (label_after row.1.ends_at (unwrap_or resv.recorded []))
    (any (label_after row.1.ends_at (unwrap_or resv.recorded [])))))
  where
    any : (o : Option ℕ) → IfSome o (λ label. row.0 ≡ row.0)
    any None = tt
    any (Some label) = refl

module _ (r : Router) (resv : ResvFact) (test : Selected → Bool) where
  abbrev first_way : List (ℕ × BypassTunnel) → Option Selected
  first_way rows = find_first test (filter_map (selected_by r resv) rows)

  -- the first of a way and others
  abbrev first_with : Option Selected → List (ℕ × BypassTunnel) → Option Selected
  first_with way rows = find_first test (cons_option way (filter_map (selected_by r resv) rows))

  numbered : (row : ℕ × BypassTunnel) (choice : Selected) → selected_by r resv row ≡ Some choice → choice.bypass ≡ row.0
  numbered row choice at = subst (λ o. IfSome o (λ choice. choice.bypass ≡ row.0)) at (number_of r resv row)

  -- a bypass of these is a way that passes
  pub record IsPassing (all : List (ℕ × BypassTunnel)) (choice : Selected) : Type 0 where
    pub bypass_tunnel : BypassTunnel
    pub known : find nat_cmp choice.bypass all ≡ Some bypass_tunnel
    pub leads : selected_by r resv (choice.bypass, bypass_tunnel) ≡ Some choice
    pub passes : test choice ≡ true

  -- The first one is a way that passes.
  first-passes : (all rows : List (ℕ × BypassTunnel)) → AllByRecursion (λ row. find nat_cmp row.0 all ≡ Some row.1) rows → (choice : Selected) → first_way rows ≡ Some choice → IsPassing all choice
  first-passes all [] found choice = λ is. absurd (let e = is in cc)
  first-passes all (row ∷ rows) found choice =
      elim (selected_by r resv row) as (λ o. selected_by r resv row ≡ o → first_with o rows ≡ Some choice → IsPassing all choice) [
        | None ↦ λ at is. first-passes all rows found.1 choice is
        | Some way ↦ λ at. elim (test way) as (λ b. test way ≡ b → cond b (Some way) (first_way rows) ≡ Some choice → IsPassing all choice) [
          | true ↦ λ passes is.
              let same : way ≡ choice = same_Some way choice is in
              let own : choice.bypass ≡ row.0 = ap (λ (c : Selected). c.bypass) (sym same) ∙ numbered row way at in
              record {
                bypass_tunnel = row.1;
                known = ap (λ n. find nat_cmp n all) own ∙ found.0;
                leads = ap (λ n. selected_by r resv (n, row.1)) own ∙ at ∙ ap Some same;
                passes = ap test (sym same) ∙ passes;
              }
          | false ↦ λ fails is. first-passes all rows found.1 choice is
        ] refl
      ] refl

  -- Where one passes, there is a first, and none that passes has a lesser number.
  abbrev IsFirstBefore : ℕ → Option Selected → Type 0
  IsFirstBefore number first = (choice : Selected) × (first ≡ Some choice) × (choice.bypass ≤ number)

  first-least : (rows : List (ℕ × BypassTunnel)) → T (is_sorted nat_cmp rows) → (other : Selected) → IsPassing rows other → IsFirstBefore other.bypass (first_way rows)
  first-least [] sorted other is = absurd (let e = is.known in cc)
  first-least (row ∷ rows) sorted other is =
      let later = first-least rows (second _ _ sorted) other in
      elim (eq_by_cmp nat_cmp other.bypass row.0) as (λ b. eq_by_cmp nat_cmp other.bypass row.0 ≡ b → cond b (Some row.1) (find nat_cmp other.bypass rows) ≡ Some is.bypass_tunnel → IsFirstBefore other.bypass (first_way (row ∷ rows))) [
        | true ↦ λ tie at. own (exact_unsigned other.bypass row.0 (ties (nat_cmp other.bypass row.0) tie)) (same_Some row.1 is.bypass_tunnel at)
        | false ↦ λ apart at. behind at (later (record { bypass_tunnel = is.bypass_tunnel; known = at; leads = is.leads; passes = is.passes }))
      ] refl is.known
    where
      own : other.bypass ≡ row.0 → row.1 ≡ is.bypass_tunnel → IsFirstBefore other.bypass (first_way (row ∷ rows))
      own number same =
          let at : selected_by r resv row ≡ Some other = (λ i. selected_by r resv (sym number i, same i)) ∙ is.leads in
          (other, ap (λ way. first_with way rows) at ∙ ap (λ b. cond b (Some other) (first_way rows)) is.passes, omega arith)

      behind : find nat_cmp other.bypass rows ≡ Some is.bypass_tunnel → IsFirstBefore other.bypass (first_way rows) → IsFirstBefore other.bypass (first_way (row ∷ rows))
      behind at least =
          let less : nat_cmp row.0 other.bypass ≡ Less = subst (λ o. IfSome o (λ v. nat_cmp row.0 other.bypass ≡ Less)) at (find-all_row nat_cmp exact_unsigned (λ (e : ℕ × BypassTunnel). nat_cmp row.0 e.0 ≡ Less) other.bypass rows (all-below nat_cmp row.0 rows (first _ _ sorted))) in
          let lower = ranked row.0 other.bypass Less (sym less) in
          elim (selected_by r resv row) as (λ o. selected_by r resv row ≡ o → IsFirstBefore other.bypass (first_with o rows)) [
            | None ↦ λ at. least
            | Some way ↦ λ at. elim (test way) as (λ b. IsFirstBefore other.bypass (cond b (Some way) (first_way rows))) [
              | true ↦ (way, refl, let same = numbered row way at in omega (arith, same, lower))
              | false ↦ least
            ]
          ] refl

-- ---- the one that is chosen

-- a bypass is preferred exactly where it ends as the head would have it
module _ (path : PathFact) (choice : Selected) where
  liked-where : choice.is_nnhop ≡ wants_node_protection path → is_preferred path choice ≡ true
  liked-where = by (wants_node_protection path) choice.is_nnhop
    where
      by : (wants ends : Bool) → ends ≡ wants → (if wants then ends else not ends) ≡ true
      by true ends same = same
      by false ends same = ap not same

  where-liked : is_preferred path choice ≡ true → choice.is_nnhop ≡ wants_node_protection path
  where-liked = by (wants_node_protection path) choice.is_nnhop
    where
      by : (wants ends : Bool) → (if wants then ends else not ends) ≡ true → ends ≡ wants
      by true ends like = like
      by false true like = absurd (let e = like in cc)
      by false false like = refl

module _ (r : Router) (s : State) (is : IsSound r s) (key : Key) (path : PathFact) (resv : ResvFact) where
  abbrev given : Option Assignment
  given = find key_cmp key s.assignments

  abbrev liked : Selected → Bool
  liked choice = is_preferred path choice && may_serve given choice

  abbrev others : Selected → Bool
  others choice = not (is_preferred path choice) && may_serve given choice

  abbrev first_by : (Selected → Bool) → Option Selected
  first_by test = first_way r resv test (bypass_tunnels_of r s)

  -- it is the first of those that end where the head would have it, or else of the others
  chosen-is : chosen_for r s key path resv ≡ cond (is_protected (around_of r s) key path) (option_or (first_by liked) (first_by others)) None
  unfolding selected candidates_of ways_around
  chosen-is =
      let ways = ways_around (around_of r s) resv in
      elim (is_protected (around_of r s) key path) as (λ b. find_first (may_serve given) (cond b (filter (is_preferred path) ways ++ filter (λ choice. not (is_preferred path choice)) ways) []) ≡ cond b (option_or (first_by liked) (first_by others)) None) [
        | true ↦ first_of_both (may_serve given) (filter (is_preferred path) ways) (filter (λ choice. not (is_preferred path choice)) ways)
            ∙ (λ i. option_or (first_of_those (may_serve given) (is_preferred path) ways i) (first_of_those (may_serve given) (λ choice. not (is_preferred path choice)) ways i))
        | false ↦ refl
      ]

  in_order : T (is_sorted nat_cmp (bypass_tunnels_of r s))
  unfolding bypass_tunnels_of
  in_order = is_sorted-made nat_cmp nat_cmp_total exact_unsigned (bypass_tunnel_by r s) s.facts.bypasses is.paths.bypasses.in_order

  passes-first : (test : Selected → Bool) (choice : Selected) → first_by test ≡ Some choice → IsPassing r resv test (bypass_tunnels_of r s) choice
  passes-first test choice = first-passes r resv test (bypass_tunnels_of r s) (bypass_tunnels_of r s) (all_found nat_cmp nat_cmp_total (bypass_tunnels_of r s) in_order) choice

  serves-first : (test : Selected → Bool) (other : Selected) → MayServe r s key resv other → test other ≡ true → IsFirstBefore r resv test other.bypass (first_by test)
  serves-first test other may passes =
      first-least r resv test (bypass_tunnels_of r s) in_order other (record { bypass_tunnel = may.bypass_tunnel; known = may.known; leads = may.leads; passes = passes })

  -- where it is taken from
  abbrev IsFirstOf : Selected → Type 0
  IsFirstOf choice = (first_by liked ≡ Some choice) ⊎ ((first_by liked ≡ None) × (first_by others ≡ Some choice))

  chosen-from : (choice : Selected) → chosen_for r s key path resv ≡ Some choice → IsProtected r s key path × IsFirstOf choice
  chosen-from choice chosen = by (is_protected (around_of r s) key path) refl (sym chosen-is ∙ chosen)
    where
      either : (a b : Option Selected) → option_or a b ≡ Some choice → (a ≡ Some choice) ⊎ ((a ≡ None) × (b ≡ Some choice))
      either None b at = inr (refl, at)
      either (Some x) b at = inl at

      by : (b : Bool) → is_protected (around_of r s) key path ≡ b → cond b (option_or (first_by liked) (first_by others)) None ≡ Some choice → IsProtected r s key path × IsFirstOf choice
      by true protected at = (protected, either (first_by liked) (first_by others) at)
      by false other at = absurd (let e = at in cc)

  -- one that passes a test and may serve
  may-by : (like : Bool) (test : Selected → Bool) (choice : Selected) → IsPassing r resv test (bypass_tunnels_of r s) choice → (like && may_serve given choice) ≡ true → MayServe r s key resv choice
  may-by like test choice passing both =
      record { bypass_tunnel = passing.bypass_tunnel; known = passing.known; leads = passing.leads; serves = (and_parts like (may_serve given choice) both).1 }

  -- What is chosen may serve an LSP that is protected.
  pub chosen_may : (choice : Selected) → chosen_for r s key path resv ≡ Some choice → IsProtected r s key path × MayServe r s key resv choice
  chosen_may choice chosen = let from = chosen-from choice chosen in (from.0, by from.1)
    where
      by : IsFirstOf choice → MayServe r s key resv choice
      by (inl at) = let passing = passes-first liked choice at in may-by (is_preferred path choice) liked choice passing passing.passes
      by (inr at) = let passing = passes-first others choice at.1 in may-by (not (is_preferred path choice)) others choice passing passing.passes

  -- Where one may, one is chosen.
  pub chosen_some : (other : Selected) → IsProtected r s key path → MayServe r s key resv other → (choice : Selected) × (chosen_for r s key path resv ≡ Some choice)
  chosen_some other protected may = let some = by (is_preferred path other) refl in (some.0, chosen-is ∙ ap (λ b. cond b (option_or (first_by liked) (first_by others)) None) protected ∙ some.1)
    where
      either : (a b : Option Selected) (c : Selected) → b ≡ Some c → (choice : Selected) × (option_or a b ≡ Some choice)
      either None b c at = (c, at)
      either (Some x) b c at = (x, refl)

      by : (b : Bool) → is_preferred path other ≡ b → (choice : Selected) × (option_or (first_by liked) (first_by others) ≡ Some choice)
      by true like = let first = serves-first liked other may (and_from (is_preferred path other) (may_serve given other) like may.serves) in (first.0, ap (λ o. option_or o (first_by others)) first.1)
      by false other_way = let first = serves-first others other may (and_from (not (is_preferred path other)) (may_serve given other) (ap not other_way) may.serves) in either (first_by liked) (first_by others) first.0 first.1

  -- One of those that end where the head would have it is taken first.
  pub chosen_preferred : (choice other : Selected) → chosen_for r s key path resv ≡ Some choice → MayServe r s key resv other → other.is_nnhop ≡ wants_node_protection path → choice.is_nnhop ≡ wants_node_protection path
  chosen_preferred choice other chosen may ends = where-liked path choice (by (chosen-from choice chosen).1)
    where
      by : IsFirstOf choice → is_preferred path choice ≡ true
      by (inl at) = (and_parts (is_preferred path choice) (may_serve given choice) (passes-first liked choice at).passes).0
      by (inr at) =
          let first = serves-first liked other may (and_from (is_preferred path other) (may_serve given other) (liked-where path other ends) may.serves) in
          absurd (let e = sym at.0 ∙ first.1 in cc)

  -- And of those that are alike in this the one of the least number.
  pub chosen_least : (choice other : Selected) → chosen_for r s key path resv ≡ Some choice → MayServe r s key resv other → other.is_nnhop ≡ choice.is_nnhop → choice.bypass ≤ other.bypass
  chosen_least choice other chosen may same_end = by (chosen-from choice chosen).1
    where
      alike : is_preferred path other ≡ is_preferred path choice
      alike = ap (λ ends. if wants_node_protection path then ends else not ends) same_end

      from_first : (test : Selected → Bool) → first_by test ≡ Some choice → test other ≡ true → choice.bypass ≤ other.bypass
      from_first test at passes =
          let first = serves-first test other may passes in
          let same = same_Some first.0 choice (sym first.1 ∙ at) in
          subst (λ (c : Selected). c.bypass ≤ other.bypass) same first.2

      by : IsFirstOf choice → choice.bypass ≤ other.bypass
      by (inl at) =
          let like = (and_parts (is_preferred path choice) (may_serve given choice) (passes-first liked choice at).passes).0 in
          from_first liked at (and_from (is_preferred path other) (may_serve given other) (alike ∙ like) may.serves)
      by (inr at) =
          let unlike = (and_parts (not (is_preferred path choice)) (may_serve given choice) (passes-first others choice at.1).passes).0 in
          from_first others at.1 (and_from (not (is_preferred path other)) (may_serve given other) (ap not alike ∙ unlike) may.serves)
