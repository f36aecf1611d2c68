-- By these edits exactly those tunnels go over to their new LSPs for which these are reserved.
use Rattle.std.specs.Prelude.{◌≡◌, ◌||◌, ℕ, not, Bool, true, false, cond, if◌then◌else◌, T, List, [], ◌∷◌, ◌++◌, filter, map, is_some, Option, Some, None}
use Rattle.std.specs.Bool.{then_some}
use Rattle.std.specs.FinMap.Entries.{find, find-put, is_sorted, same_entries, where_key}
use Rattle.std.specs.List.{list_any}
use Rattle.std.specs.Option.{IfSome, option_and_then, option_map, option_map_or, option_or}
use Rattle.std.specs.Ordering.{eq_by_cmp, is_eq, nat_cmp}
use Rattle.std.proofs.Common.{refl, sym, ap, subst, ◌∙◌}
use Rattle.std.proofs.lemmas.Bool.{or_parts}
use Rattle.std.proofs.lemmas.Cmp.{nat_cmp_total}
use Rattle.std.proofs.lemmas.Map.Lookups.{exact_unsigned}
use Rattle.sorted_rows.specs.RowsLaws.{find-filter, is_sorted-both, is_sorted-filter}
use Rattle.sorted_rows.specs.EditLaws.{edited-put, find-edited, is_sorted-edited}
use Rattle.sorted_rows.specs.Edits as rows
use Rattle.lsr_facts.specs.OrderLaws.{key_exact, key_total}
use Rattle.lsr_facts.specs.Orders.{is_one_of, key_cmp}
use Rattle.lsr_facts.specs.Tunnels.{current_key, head_key}
use Rattle.lsr_facts.specs.declared.key.Key.{Key}
use Rattle.lsr_facts.specs.declared.router.Router.{Router}
use Rattle.lsr_facts.specs.declared.tunnel.Tunnel.{Tunnel}
use Rattle.lsr_facts.specs.Changes.{switched}
use Rattle.abstract_paths.specs.RowLaws.{keys-map}
use Rattle.abstract_paths.specs.StampLaws.{find-map_row}
use Rattle.abstract_router.specs.States.{State, is_reserved}
use Rattle.abstract_router.specs.Steps.{is_ready, switched_where, taken_over}
use Rattle.state_views.specs.Edits.{edited}
use Rattle.state_views.specs.declared.edits.Edits.{Edits}
use Rattle.make_before_break.specs.Switching.{ready_at, with_all_switched, with_switched}

-- The last of the tunnels goes over first.
pub switched_last : (r : Router) (e : Edits) (tunnels : List (ℕ × Tunnel)) (last : ℕ × Tunnel) → with_all_switched r e (tunnels ++ last ∷ []) ≡ with_all_switched r (with_switched r last e) tunnels
switched_last r e [] last = refl
switched_last r e (tunnel ∷ tunnels) last = ap (with_switched r tunnel) (switched_last r e tunnels last)

-- what is there, or nothing
pub or_none : {A : Type 0} (o : Option A) → option_or o None ≡ o
or_none None = refl
or_none (Some x) = refl

-- rows without those of no LSP
without_none : {X : Type 0} (paths : List (Key × X)) → paths ≡ where_key key_cmp (λ k. not (is_one_of [] k)) paths
without_none [] = refl
without_none (path ∷ paths) = ap (λ ps. path ∷ ps) (without_none paths)

-- rows without those of some LSPs, and then without one more's
without_more : {X : Type 0} (key : Key) (keys : List Key) (paths : List (Key × X)) → where_key key_cmp (λ k. not (is_eq (key_cmp key k))) (where_key key_cmp (λ k. not (is_one_of keys k)) paths) ≡ where_key key_cmp (λ k. not (is_one_of (key ∷ keys) k)) paths
without_more key keys [] = refl
without_more {X} key keys (path ∷ paths) =
    let left = where_key key_cmp (λ k. not (is_one_of keys k)) paths in
    let less = where_key key_cmp (λ k. not (is_one_of (key ∷ keys) k)) paths in
    let one = λ (k : Key). not (is_eq (key_cmp key k)) in
    let rest = without_more key keys paths in
    elim (is_one_of keys path.0) as (λ b. where_key key_cmp (λ k. not (is_eq (key_cmp key k))) (cond (not b) (path ∷ left) left) ≡ cond (not (is_eq (key_cmp key path.0) || b)) (path ∷ less) less) [
      | true ↦ rest ∙ elim (is_eq (key_cmp key path.0)) as (λ b. less ≡ cond (not (b || true)) (path ∷ less) less) [ true ↦ refl | false ↦ refl ]
      | false ↦ elim (is_eq (key_cmp key path.0)) as (λ b. cond (not b) (path ∷ where_key key_cmp one left) (where_key key_cmp one left) ≡ cond (not (b || false)) (path ∷ less) less) [
        | true ↦ rest
        | false ↦ ap (λ ps. path ∷ ps) rest
      ]
    ]

module _ (r : Router) (s : State) (e : Edits) where
  -- the paths of the LSPs go that carried the tunnels' traffic
  paths_after : (tunnels : List (ℕ × Tunnel)) → T (is_sorted key_cmp s.facts.paths) → rows.edited key_cmp (with_all_switched r e tunnels).paths s.facts.paths ≡ where_key key_cmp (λ k. not (is_one_of (map (current_key r) tunnels) k)) (edited e s).facts.paths
  paths_after [] h = without_none (edited e s).facts.paths
  paths_after (tunnel ∷ tunnels) h =
      edited-put key_cmp key_total key_exact (current_key r tunnel) None (with_all_switched r e tunnels).paths s.facts.paths h
      ∙ ap (where_key key_cmp (λ k. not (is_eq (key_cmp (current_key r tunnel) k)))) (paths_after tunnels h)
      ∙ without_more (current_key r tunnel) (map (current_key r) tunnels) (edited e s).facts.paths

  -- the edit of a tunnel
  find-switched : (tunnels : List (ℕ × Tunnel)) (q : ℕ) → find nat_cmp q (with_all_switched r e tunnels).tunnels ≡ option_or (option_map (λ tunnel. Some (switched tunnel)) (find nat_cmp q tunnels)) (find nat_cmp q e.tunnels)
  find-switched [] q = refl
  find-switched (tunnel ∷ tunnels) q =
      let others = with_all_switched r e tunnels in
      find-put nat_cmp nat_cmp_total q tunnel.0 (Some (switched tunnel.1)) others.tunnels
      ∙ elim (eq_by_cmp nat_cmp q tunnel.0) as (λ b. cond b (Some (Some (switched tunnel.1))) (find nat_cmp q others.tunnels) ≡ option_or (option_map (λ tunnel. Some (switched tunnel)) (cond b (Some tunnel.1) (find nat_cmp q tunnels))) (find nat_cmp q e.tunnels)) [
        | true ↦ refl
        | false ↦ find-switched tunnels q
      ]

  -- the tunnel's new LSP is reserved
  abbrev test : ℕ × Tunnel → Bool
  test = is_ready r (edited e s)

  -- the tunnels before
  abbrev known : List (ℕ × Tunnel)
  known = (edited e s).facts.tunnels

  -- the tunnel after, by what it is before
  abbrev goes_on : ℕ × Tunnel → Tunnel
  goes_on tunnel = if test tunnel then switched tunnel.1 else tunnel.1

  -- and so each of them
  each_goes_on : (tunnels : List (ℕ × Tunnel)) → map (switched_where (is_ready r (edited e s))) tunnels ≡ map (λ tunnel. (tunnel.0, goes_on tunnel)) tunnels
  each_goes_on [] = refl
  each_goes_on (tunnel ∷ tunnels) =
      let rest = each_goes_on tunnels in
      elim (test tunnel) as (λ b. (if b then (tunnel.0, switched tunnel.1) else tunnel) ∷ map (switched_where (is_ready r (edited e s))) tunnels ≡ (tunnel.0, if b then switched tunnel.1 else tunnel.1) ∷ map (λ t. (t.0, goes_on t)) tunnels) [
        | true ↦ ap (λ ts. (tunnel.0, switched tunnel.1) ∷ ts) rest
        | false ↦ ap (λ ts. tunnel ∷ ts) rest
      ]

  -- the tunnel of a number, where its new LSP is reserved
  find-ready : (q : ℕ) → T (is_sorted nat_cmp known) → find nat_cmp q (filter (is_ready r (edited e s)) known) ≡ ready_at r (edited e s) q
  find-ready q h = find-filter nat_cmp nat_cmp_total (is_ready r (edited e s)) q (λ k v tied. ap (λ k. test (k, v)) (sym (exact_unsigned q k tied))) known h

  -- the tunnels after
  tunnels_after : (tunnels : List (ℕ × Tunnel)) → tunnels ≡ filter (is_ready r (edited e s)) known → T (is_sorted nat_cmp s.facts.tunnels) → rows.edited nat_cmp (with_all_switched r e tunnels).tunnels s.facts.tunnels ≡ map (switched_where (is_ready r (edited e s))) known
  tunnels_after tunnels are h =
      same_entries nat_cmp nat_cmp_total exact_unsigned _ _ (is_sorted-edited nat_cmp nat_cmp_total (with_all_switched r e tunnels).tunnels s.facts.tunnels h)
      (subst (λ rows. T (is_sorted nat_cmp rows)) (sym (each_goes_on known)) (subst T (sym (is_sorted-both nat_cmp (map (λ t. (t.0, goes_on t)) known) known (keys-map goes_on known))) sorted))
      (λ q.
      find-edited nat_cmp nat_cmp_total q (with_all_switched r e tunnels).tunnels s.facts.tunnels
      ∙ ap (λ edit. rows.over edit (find nat_cmp q s.facts.tunnels)) (find-switched tunnels q)
      ∙ ap (λ ready. rows.over (option_or (option_map (λ tunnel. Some (switched tunnel)) ready) (find nat_cmp q e.tunnels)) (find nat_cmp q s.facts.tunnels)) (ap (find nat_cmp q) are ∙ find-ready q sorted ∙ ap (of q) (find-edited nat_cmp nat_cmp_total q e.tunnels s.facts.tunnels))
      ∙ by q (find nat_cmp q e.tunnels) (find nat_cmp q s.facts.tunnels)
      ∙ ap (option_map (λ tunnel. goes_on (q, tunnel))) (sym (find-edited nat_cmp nat_cmp_total q e.tunnels s.facts.tunnels))
      ∙ sym (ap (find nat_cmp q) (each_goes_on known) ∙ find-map_row nat_cmp exact_unsigned goes_on q known))
    where
      sorted : T (is_sorted nat_cmp known)
      sorted = is_sorted-edited nat_cmp nat_cmp_total e.tunnels s.facts.tunnels h

      of : ℕ → Option Tunnel → Option Tunnel
      of q known = option_and_then (λ tunnel. then_some (test (q, tunnel)) tunnel) known

      one : (q : ℕ) (tunnel : Tunnel) (edit : Option (Option Tunnel)) (was : Option Tunnel) → rows.over edit was ≡ Some tunnel → rows.over (option_or (option_map (λ tunnel. Some (switched tunnel)) (then_some (test (q, tunnel)) tunnel)) edit) was ≡ Some (goes_on (q, tunnel))
      one q tunnel edit was is =
          elim (test (q, tunnel)) as (λ b. rows.over (option_or (option_map (λ tunnel. Some (switched tunnel)) (then_some b tunnel)) edit) was ≡ Some (if b then switched tunnel else tunnel)) [ true ↦ refl | false ↦ is ]

      by : (q : ℕ) (edit : Option (Option Tunnel)) (was : Option Tunnel) → rows.over (option_or (option_map (λ tunnel. Some (switched tunnel)) (of q (rows.over edit was))) edit) was ≡ option_map (λ tunnel. goes_on (q, tunnel)) (rows.over edit was)
      by q None None = refl
      by q None (Some tunnel) = one q tunnel None (Some tunnel) refl
      by q (Some None) was = refl
      by q (Some (Some tunnel)) was = one q tunnel (Some (Some tunnel)) was refl

-- Edits by which the tunnels go over whose new LSPs are reserved lead where these are taken over.
pub switched_over : (r : Router) (s : State) (e : Edits) (tunnels : List (ℕ × Tunnel)) → T (is_sorted nat_cmp s.facts.tunnels) → T (is_sorted key_cmp s.facts.paths) → tunnels ≡ filter (is_ready r (edited e s)) (edited e s).facts.tunnels
    → edited (with_all_switched r e tunnels) s ≡ taken_over r (edited e s)
unfolding taken_over
switched_over r s e tunnels h g are = λ i. record (edited e s) {
  facts = record (edited e s).facts {
    tunnels = tunnels_after r s e tunnels are h i;
    paths = (paths_after r s e tunnels g ∙ ap (λ ready. where_key key_cmp (λ k. not (is_one_of (map (current_key r) ready) k)) (edited e s).facts.paths) are) i;
  };
}

-- Labels stay as they are.
pub labels-taken_over : (r : Router) (s : State) → (taken_over r s).labels ≡ s.labels
unfolding taken_over
labels-taken_over r s = refl

-- The tunnels whose new LSPs are reserved are found among those that there were, and among the edits.
pub all_ready : (r : Router) (s : State) (e : Edits) (ready : List (ℕ × Tunnel)) → T (is_sorted nat_cmp s.facts.tunnels) → T (is_sorted nat_cmp ready)
    → ((q : ℕ) → find nat_cmp q ready ≡ option_or (option_and_then (λ row. ready_at r (edited e s) q) (find nat_cmp q e.tunnels)) (option_or (option_and_then (λ row. ready_at r (edited e s) q) (find nat_cmp q s.facts.tunnels)) None))
    → ready ≡ filter (is_ready r (edited e s)) (edited e s).facts.tunnels
all_ready r s e ready h g are =
    same_entries nat_cmp nat_cmp_total exact_unsigned ready (filter (is_ready r (edited e s)) known_after) g (is_sorted-filter nat_cmp (is_ready r (edited e s)) known_after sorted)
    (λ q. are q ∙ by q (find nat_cmp q e.tunnels) (find nat_cmp q s.facts.tunnels) (find-edited nat_cmp nat_cmp_total q e.tunnels s.facts.tunnels) ∙ sym (find-ready r s e q sorted))
  where
    known_after : List (ℕ × Tunnel)
    known_after = (edited e s).facts.tunnels

    sorted : T (is_sorted nat_cmp known_after)
    sorted = is_sorted-edited nat_cmp nat_cmp_total e.tunnels s.facts.tunnels h

    or_same : (o : Option Tunnel) → option_or o (option_or o None) ≡ o
    or_same None = refl
    or_same (Some x) = refl

    by : (q : ℕ) (edit : Option (Option Tunnel)) (was : Option Tunnel) → find nat_cmp q known_after ≡ rows.over edit was
        → option_or (option_and_then (λ row. ready_at r (edited e s) q) edit) (option_or (option_and_then (λ row. ready_at r (edited e s) q) was) None) ≡ ready_at r (edited e s) q
    by q None None is = sym (ap (λ known. option_and_then (λ tunnel. then_some (is_ready r (edited e s) (q, tunnel)) tunnel) known) is)
    by q None (Some tunnel) is = or_none (ready_at r (edited e s) q)
    by q (Some now) None is = or_none (ready_at r (edited e s) q)
    by q (Some now) (Some tunnel) is = or_same (ready_at r (edited e s) q)

-- where no tunnel has a new LSP, the one that is found has none
unpending : (q : ℕ) (rows : List (ℕ × Tunnel)) → list_any (λ row. is_some row.1.pending) rows ≡ false → IfSome (find nat_cmp q rows) (λ tunnel. is_some tunnel.pending ≡ false)
unpending q [] none = tt
unpending q (row ∷ rows) none =
    let parts = or_parts (is_some row.1.pending) (list_any (λ (row : ℕ × Tunnel). is_some row.1.pending) rows) none in
    elim (eq_by_cmp nat_cmp q row.0) as (λ b. IfSome (cond b (Some row.1) (find nat_cmp q rows)) (λ tunnel. is_some tunnel.pending ≡ false)) [
      | true ↦ parts.0
      | false ↦ unpending q rows parts.1
    ]

-- and isn't ready
unready : (r : Router) (s : State) (q : ℕ) (tunnel : Tunnel) → is_some tunnel.pending ≡ false → then_some (is_ready r s (q, tunnel)) tunnel ≡ None
unready r s q tunnel =
    elim tunnel.pending as (λ o. is_some o ≡ false → then_some (option_map_or (is_reserved s) (option_map (λ lsp. head_key r q tunnel.endpoint lsp.id) o) false) tunnel ≡ None) [
      | None ↦ λ none. refl
      | Some lsp ↦ λ none. absurd (let e = none in cc)
    ]

-- Where no tunnel had a new LSP before edits, those that are ready are among the tunnels that are edited.
pub edited_ready : (r : Router) (s : State) (e : Edits) (ready : List (ℕ × Tunnel)) → T (is_sorted nat_cmp s.facts.tunnels) → T (is_sorted nat_cmp ready)
    → list_any (λ row. is_some row.1.pending) s.facts.tunnels ≡ false
    → ((q : ℕ) → find nat_cmp q ready ≡ option_or (option_and_then (λ row. ready_at r (edited e s) q) (find nat_cmp q e.tunnels)) None)
    → ready ≡ filter (is_ready r (edited e s)) (edited e s).facts.tunnels
edited_ready r s e ready h g none are =
    same_entries nat_cmp nat_cmp_total exact_unsigned ready (filter (is_ready r (edited e s)) known_after) g (is_sorted-filter nat_cmp (is_ready r (edited e s)) known_after sorted)
    (λ q. are q ∙ by q (find nat_cmp q e.tunnels) (find nat_cmp q s.facts.tunnels) (find-edited nat_cmp nat_cmp_total q e.tunnels s.facts.tunnels) (unpending q s.facts.tunnels none) ∙ sym (find-ready r s e q sorted))
  where
    known_after : List (ℕ × Tunnel)
    known_after = (edited e s).facts.tunnels

    sorted : T (is_sorted nat_cmp known_after)
    sorted = is_sorted-edited nat_cmp nat_cmp_total e.tunnels s.facts.tunnels h

    by : (q : ℕ) (edit : Option (Option Tunnel)) (was : Option Tunnel) → find nat_cmp q known_after ≡ rows.over edit was
        → IfSome was (λ tunnel. is_some tunnel.pending ≡ false)
        → option_or (option_and_then (λ row. ready_at r (edited e s) q) edit) None ≡ ready_at r (edited e s) q
    by q None None is p = sym (ap (λ known. option_and_then (λ tunnel. then_some (is_ready r (edited e s) (q, tunnel)) tunnel) known) is)
    by q None (Some tunnel) is p =
        sym (ap (λ known. option_and_then (λ tunnel. then_some (is_ready r (edited e s) (q, tunnel)) tunnel) known) is ∙ unready r (edited e s) q tunnel p)
    by q (Some now) was is p = or_none (ready_at r (edited e s) q)
