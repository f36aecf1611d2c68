-- So they are the candidates that have bandwidth to promise.
use Rattle.std.specs.Prelude.{◌≡◌, ℕ, suc, ◌≤◌, ◌==◌, ◌++◌, nat_le, not, T, Bool, true, false, cond, if◌then◌else◌, List, [], ◌∷◌, filter, filter_map, length, map, Option, Some, None, IfSome}
use Rattle.std.specs.List.{AllByRecursion, cons_option, list_any}
use Rattle.std.specs.Option.{option_map}
use Rattle.std.proofs.Common.{refl, sym, ap, subst, arith, ◌∙◌}
use Rattle.std.proofs.lemmas.Bool.{or_parts}
use Rattle.std.proofs.lemmas.List.{append_assoc, append-nil, map-append}
use Rattle.std.proofs.lemmas.List.Elements.{filter-append}
use Rattle.lsr_facts.specs.declared.bypass.Bypass.{Bypass}
use Rattle.lsr_facts.specs.declared.key.Key.{Key}
use Rattle.lsr_facts.specs.declared.path_fact.PathFact.{PathFact}
use Rattle.lsr_facts.specs.declared.repair.BypassTunnel.{BypassTunnel}
use Rattle.lsr_facts.specs.declared.repair.Selected.{Selected}
use Rattle.lsr_facts.specs.declared.resv_fact.ResvFact.{ResvFact}
use Rattle.lsr_facts.specs.declared.router.Router.{Router}
use Rattle.lsr_facts.specs.declared.tunnel.Tunnel.{Tunnel}
use Rattle.std.specs.FinMap.Entries.{find, is_sorted}
use Rattle.std.specs.Ordering.{nat_cmp}
use Rattle.sorted_rows.specs.RowsLaws.{is_sorted-filter}
use Rattle.abstract_paths.specs.TouchedLaws.{is_sorted-made}
use Rattle.std.proofs.lemmas.Cmp.{nat_cmp_total}
use Rattle.std.proofs.lemmas.Map.Lookups.{exact_unsigned}
use Rattle.abstract_router.specs.Assigning.{has_capacity}
use Rattle.abstract_router.specs.BypassTunnels.{bypass_tunnel_by, bypass_tunnel_of, bypass_tunnels_of}
use Rattle.abstract_router.specs.Lsps.{Around, around_of}
use Rattle.abstract_router.specs.Protecting.{candidates_of, is_preferred, is_protected, selected_by, ways_around}
use Rattle.abstract_router.specs.States.{State}
use Rattle.facility_backup.specs.Asking.{row_by}
use Rattle.facility_backup.specs.Serving.{IsOf, selected_of}
use Rattle.bandwidth_protection.specs.Candidates.{AreOpen, in_turn, offered, placed, promises, promising_by, promising_of}

-- ---- of lists

-- two tests of a list, in either order
filter-both : {X : Type 0} (p q : X → Bool) (xs : List X) → filter p (filter q xs) ≡ filter q (filter p xs)
filter-both p q [] = refl
filter-both {X} p q (x ∷ xs) = by (p x) (q x) refl refl (filter-both p q xs)
  where
    passes_p : (b : Bool) → p x ≡ b → filter p (x ∷ filter q xs) ≡ cond b (x ∷ filter p (filter q xs)) (filter p (filter q xs))
    passes_p b is = ap (λ c. cond c (x ∷ filter p (filter q xs)) (filter p (filter q xs))) is

    passes_q : (b : Bool) → q x ≡ b → filter q (x ∷ filter p xs) ≡ cond b (x ∷ filter q (filter p xs)) (filter q (filter p xs))
    passes_q b is = ap (λ c. cond c (x ∷ filter q (filter p xs)) (filter q (filter p xs))) is

    by : (a b : Bool) → p x ≡ a → q x ≡ b → filter p (filter q xs) ≡ filter q (filter p xs) → filter p (cond b (x ∷ filter q xs) (filter q xs)) ≡ filter q (cond a (x ∷ filter p xs) (filter p xs))
    by true true is_p is_q rest = passes_p true is_p ∙ ap (λ l. x ∷ l) rest ∙ sym (passes_q true is_q)
    by true false is_p is_q rest = rest ∙ sym (passes_q false is_q)
    by false true is_p is_q rest = passes_p false is_p ∙ rest
    by false false is_p is_q rest = rest

-- no more is picked than there is
length-filter_map : {A B : Type 0} (f : A → Option B) (xs : List A) → length (filter_map f xs) ≤ length xs
length-filter_map f [] = omega arith
length-filter_map {A} {B} f (x ∷ xs) = by (f x) (length-filter_map f xs)
  where
    by : (o : Option B) → length (filter_map f xs) ≤ length xs → length (cons_option o (filter_map f xs)) ≤ suc (length xs)
    by None fewer = omega (arith, fewer)
    by (Some y) fewer = omega (arith, fewer)

-- ---- the pass over the bypasses of a reservation

-- the numbers of choices
abbrev pub numbers : List Selected → List ℕ
numbers choices = map (λ choice. choice.bypass) choices

-- those that the head prefers, and the others
abbrev preferred : PathFact → List Selected → List Selected
preferred path choices = filter (is_preferred path) choices

abbrev rest_of : PathFact → List Selected → List Selected
rest_of path choices = filter (λ choice. not (is_preferred path choice)) choices

-- those that the head prefers first, then the others
abbrev pub best_of : PathFact → List Selected → List Selected
best_of path choices = preferred path choices ++ rest_of path choices

-- a test of all is one of all in that order
best-filter : (path : PathFact) (test : Selected → Bool) (choices : List Selected) → best_of path (filter test choices) ≡ filter test (best_of path choices)
best-filter path test choices =
    (λ i. filter-both (is_preferred path) test choices i ++ filter-both (λ (choice : Selected). not (is_preferred path choice)) test choices i)
    ∙ sym (filter-append test (preferred path choices) (rest_of path choices))

-- a test of numbers is one of the choices
numbers-filter : (may : ℕ → Bool) (choices : List Selected) → numbers (filter (λ choice. may choice.bypass) choices) ≡ filter may (numbers choices)
numbers-filter may [] = refl
numbers-filter may (choice ∷ choices) =
    elim (may choice.bypass) as (λ b. numbers (cond b (choice ∷ filter (λ c. may c.bypass) choices) (filter (λ c. may c.bypass) choices)) ≡ cond b (choice.bypass ∷ filter may (numbers choices)) (filter may (numbers choices))) [
      | true ↦ ap (λ l. choice.bypass ∷ l) (numbers-filter may choices)
      | false ↦ numbers-filter may choices
    ]

module _ (r : Router) (path : PathFact) (resv : ResvFact) (rate : ℕ) where
  -- Each goes behind those that it belongs to.
  placed_all : (rooms : List ((ℕ × BypassTunnel) × ℕ)) (first others : List ℕ)
      → in_turn r path resv rate rooms first others ≡ (first ++ numbers (preferred path (filter_map (offered r resv rate) rooms))) ++ (others ++ numbers (rest_of path (filter_map (offered r resv rate) rooms)))
  placed_all [] first others = λ i. sym (append-nil first) i ++ sym (append-nil others) i
  placed_all (room ∷ more) first others = by (offered r resv rate room) (placed_all more)
    where
      ways : List Selected
      ways = filter_map (offered r resv rate) more

      by : (o : Option Selected) → ((first others : List ℕ) → in_turn r path resv rate more first others ≡ (first ++ numbers (preferred path ways)) ++ (others ++ numbers (rest_of path ways)))
          → placed path o first others (in_turn r path resv rate more) ≡ (first ++ numbers (preferred path (cons_option o ways))) ++ (others ++ numbers (rest_of path (cons_option o ways)))
      by None so = so first others
      by (Some choice) so =
          elim (is_preferred path choice) as (λ b. cond b (in_turn r path resv rate more (first ++ choice.bypass ∷ []) others) (in_turn r path resv rate more first (others ++ choice.bypass ∷ []))
          ≡ (first ++ numbers (cond b (choice ∷ preferred path ways) (preferred path ways))) ++ (others ++ numbers (cond (not b) (choice ∷ rest_of path ways) (rest_of path ways)))) [
            | true ↦ so (first ++ choice.bypass ∷ []) others ∙ ap (λ l. l ++ (others ++ numbers (rest_of path ways))) (append_assoc first (choice.bypass ∷ []) (numbers (preferred path ways)))
            | false ↦ so first (others ++ choice.bypass ∷ []) ∙ ap (λ l. (first ++ numbers (preferred path ways)) ++ l) (append_assoc others (choice.bypass ∷ []) (numbers (rest_of path ways)))
          ]

  -- So they come out best first.
  best_placed : (rooms : List ((ℕ × BypassTunnel) × ℕ)) → in_turn r path resv rate rooms [] [] ≡ numbers (best_of path (filter_map (offered r resv rate) rooms))
  best_placed rooms =
      placed_all rooms [] []
      ∙ sym (map-append (λ (choice : Selected). choice.bypass) (preferred path (filter_map (offered r resv rate) rooms)) (rest_of path (filter_map (offered r resv rate) rooms)))

-- The choices that pass a test are those of the bypasses that pass it.
tested_choices : (r : Router) (resv : ResvFact) (of_choice : Selected → Bool) (of_bypass : ℕ × BypassTunnel → Bool)
    → ((bypass : ℕ × BypassTunnel) (choice : Selected) → IsOf bypass.0 bypass.1.capacity choice → of_choice choice ≡ of_bypass bypass)
    → (bypasses : List (ℕ × BypassTunnel)) → filter of_choice (filter_map (selected_by r resv) bypasses) ≡ filter_map (selected_by r resv) (filter of_bypass bypasses)
tested_choices r resv of_choice of_bypass same [] = refl
tested_choices r resv of_choice of_bypass same (bypass ∷ more) = by (selected_by r resv bypass) refl (selected_of r resv bypass) (tested_choices r resv of_choice of_bypass same more)
  where
    choices : List Selected
    choices = filter_map (selected_by r resv) more

    left : List (ℕ × BypassTunnel)
    left = filter of_bypass more

    by : (o : Option Selected) → selected_by r resv bypass ≡ o → IfSome o (IsOf bypass.0 bypass.1.capacity) → filter of_choice choices ≡ filter_map (selected_by r resv) left
        → filter of_choice (cons_option o choices) ≡ filter_map (selected_by r resv) (cond (of_bypass bypass) (bypass ∷ left) left)
    by None is of so =
        so
        ∙ (elim (of_bypass bypass) as (λ b. filter_map (selected_by r resv) left ≡ filter_map (selected_by r resv) (cond b (bypass ∷ left) left)) [
          | true ↦ ap (λ o. cons_option o (filter_map (selected_by r resv) left)) (sym is)
          | false ↦ refl
        ])
    by (Some choice) is of so =
        ap (λ b. cond b (choice ∷ filter of_choice choices) (filter of_choice choices)) (same bypass choice of)
        ∙ (elim (of_bypass bypass) as (λ b. cond b (choice ∷ filter of_choice choices) (filter of_choice choices) ≡ filter_map (selected_by r resv) (cond b (bypass ∷ left) left)) [
          | true ↦ ap (λ l. choice ∷ l) so ∙ ap (λ o. cons_option o (filter_map (selected_by r resv) left)) (sym is)
          | false ↦ so
        ])

-- So the candidates of a protected LSP are the choices of all bypasses that have bandwidth to promise,
pub protected_candidates : (r : Router) (s : State) (key : Key) (path : PathFact) (resv : ResvFact) → is_protected (around_of r s) key path ≡ true
    → map (λ choice. choice.bypass) (filter has_capacity (candidates_of (around_of r s) key path resv)) ≡ numbers (best_of path (filter_map (selected_by r resv) (promising_of r s)))
unfolding candidates_of ways_around
protected_candidates r s key path resv is =
    let ways = filter_map (selected_by r resv) (bypass_tunnels_of r s) in
    ap (λ b. numbers (filter has_capacity (cond b (best_of path ways) []))) is
    ∙ ap numbers (sym (best-filter path has_capacity ways))
    ∙ ap (λ choices. numbers (best_of path choices)) (tested_choices r resv has_capacity promises (λ bypass choice of. ap (λ n. not (n == 0)) of.1) (bypass_tunnels_of r s))

-- and one that isn't protected has none.
pub no_candidates : (a : Around) (key : Key) (path : PathFact) (resv : ResvFact) → is_protected a key path ≡ false → map (λ (choice : Selected). choice.bypass) (filter has_capacity (candidates_of a key path resv)) ≡ []
unfolding candidates_of
no_candidates a key path resv isnt =
    let ways = ways_around a resv in
    ap (λ b. numbers (filter has_capacity (cond b (filter (is_preferred path) ways ++ filter (λ choice. not (is_preferred path choice)) ways) []))) isnt

-- nothing is offered where so much is left of none
none_offered : (r : Router) (resv : ResvFact) (rate : ℕ) (rooms : List ((ℕ × BypassTunnel) × ℕ)) → list_any (λ room. nat_le rate room.1) rooms ≡ false → filter_map (offered r resv rate) rooms ≡ []
none_offered r resv rate [] none = refl
none_offered r resv rate (room ∷ more) none =
    let parts = or_parts (nat_le rate room.1) (list_any (λ room. nat_le rate room.1) more) none in
    ap (λ b. cons_option (if b then selected_by r resv room.0 else None) (filter_map (offered r resv rate) more)) parts.0 ∙ none_offered r resv rate more parts.1

module _ (r : Router) (s : State) (rate : ℕ) (rooms : List ((ℕ × BypassTunnel) × ℕ)) (may : ℕ → Bool) (are_open : AreOpen r s rate rooms may) (key : Key) (path : PathFact) (resv : ResvFact) where
  -- Of the candidates of a protected LSP those pass a test of which so much is left.
  open_choices : is_protected (around_of r s) key path ≡ true → numbers (best_of path (filter_map (offered r resv rate) rooms)) ≡ filter may (map (λ choice. choice.bypass) (filter has_capacity (candidates_of (around_of r s) key path resv)))
  open_choices is =
      let all = filter_map (selected_by r resv) (promising_of r s) in
      ap (λ choices. numbers (best_of path choices)) (are_open resv ∙ sym (tested_choices r resv (λ choice. may choice.bypass) (λ bypass. may bypass.0) (λ bypass choice of. ap may of.0) (promising_of r s)))
      ∙ ap numbers (best-filter path (λ choice. may choice.bypass) all)
      ∙ numbers-filter may (best_of path all)
      ∙ ap (filter may) (sym (protected_candidates r s key path resv is))

  -- So the pass gives them,
  pub open_candidates : is_protected (around_of r s) key path ≡ true → in_turn r path resv rate rooms [] [] ≡ filter may (map (λ choice. choice.bypass) (filter has_capacity (candidates_of (around_of r s) key path resv)))
  open_candidates is = best_placed r path resv rate rooms ∙ open_choices is

  -- and there are none where so much is left of none.
  pub none_open : list_any (λ room. nat_le rate room.1) rooms ≡ false → [] ≡ filter may (map (λ choice. choice.bypass) (filter has_capacity (candidates_of (around_of r s) key path resv)))
  none_open none =
      elim (is_protected (around_of r s) key path) as (λ b. is_protected (around_of r s) key path ≡ b → [] ≡ filter may (map (λ choice. choice.bypass) (filter has_capacity (candidates_of (around_of r s) key path resv)))) [
        | true ↦ λ is. ap (λ choices. numbers (best_of path choices)) (sym (none_offered r resv rate rooms none)) ∙ open_choices is
        | false ↦ λ isnt. ap (filter may) (sym (no_candidates (around_of r s) key path resv isnt))
      ] refl

-- ---- all that have bandwidth to promise

-- They are asked for one by one.
promising_rows : (r : Router) (s : State) (bypasses : List (ℕ × Bypass)) → filter promises (filter_map (row_by r s) bypasses) ≡ filter_map (promising_by r s) bypasses
promising_rows r s [] = refl
promising_rows r s (bypass ∷ more) = by (find nat_cmp bypass.1.tunnel s.facts.tunnels) (promising_rows r s more)
  where
    row : Tunnel → ℕ × BypassTunnel
    row tunnel = (bypass.0, bypass_tunnel_of r s bypass.1 tunnel)

    by : (tunnel : Option Tunnel) → filter promises (filter_map (row_by r s) more) ≡ filter_map (promising_by r s) more
        → filter promises (cons_option (option_map (λ (bypass_tunnel : BypassTunnel). (bypass.0, bypass_tunnel)) (option_map (bypass_tunnel_of r s bypass.1) tunnel)) (filter_map (row_by r s) more))
        ≡ cons_option (if bypass.1.capacity == 0 then None else option_map (λ (bypass_tunnel : BypassTunnel). (bypass.0, bypass_tunnel)) (option_map (bypass_tunnel_of r s bypass.1) tunnel)) (filter_map (promising_by r s) more)
    by None so =
        elim (bypass.1.capacity == 0) as (λ b. filter promises (filter_map (row_by r s) more) ≡ cons_option {X = ℕ × BypassTunnel} (if b then None else None) (filter_map (promising_by r s) more)) [
          | true ↦ so
          | false ↦ so
        ]
    by (Some tunnel) so =
        let kept = filter promises (filter_map (row_by r s) more) in
        elim (bypass.1.capacity == 0) as (λ b. cond (not b) (row tunnel ∷ kept) kept ≡ cons_option (if b then None else Some (row tunnel)) (filter_map (promising_by r s) more)) [
          | true ↦ so
          | false ↦ ap (λ l. row tunnel ∷ l) so
        ]

pub all_promising : (r : Router) (s : State) → filter_map (promising_by r s) s.facts.bypasses ≡ promising_of r s
unfolding bypass_tunnels_of
all_promising r s = sym (promising_rows r s s.facts.bypasses)

-- They stand in the order of their numbers.
pub promising_sorted : (r : Router) (s : State) → T (is_sorted nat_cmp s.facts.bypasses) → T (is_sorted nat_cmp (promising_of r s))
unfolding bypass_tunnels_of
promising_sorted r s in_order =
    is_sorted-filter nat_cmp promises (filter_map (row_by r s) s.facts.bypasses)
    (is_sorted-made nat_cmp nat_cmp_total exact_unsigned (bypass_tunnel_by r s) s.facts.bypasses in_order)

-- And they are no more than all bypasses.
pub few_promising : (r : Router) (s : State) → length (promising_of r s) ≤ length s.facts.bypasses
few_promising r s = subst (λ all. length all ≤ length s.facts.bypasses) (all_promising r s) (length-filter_map (promising_by r s) s.facts.bypasses)

-- There are none where no bypass has any capacity.
none_by : (r : Router) (s : State) (bypasses : List (ℕ × Bypass)) → AllByRecursion (λ bypass. bypass.1.capacity ≡ 0) bypasses → filter_map (promising_by r s) bypasses ≡ []
none_by r s [] none = refl
none_by r s (bypass ∷ more) none =
    ap (λ capacity. cons_option (if capacity == 0 then None else row_by r s bypass) (filter_map (promising_by r s) more)) none.0 ∙ none_by r s more none.1

pub none_promising : (r : Router) (s : State) → AllByRecursion (λ bypass. bypass.1.capacity ≡ 0) s.facts.bypasses → promising_of r s ≡ []
none_promising r s none = sym (all_promising r s) ∙ none_by r s s.facts.bypasses none
