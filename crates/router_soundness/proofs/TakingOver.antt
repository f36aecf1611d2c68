-- A tunnel whose new LSP is reserved goes over to it: paths, links, tunnels and time stay as they should be, and no LSP that
-- has a label loses it by that.
use Rattle.std.specs.Prelude.{◌≡◌, ◌≢◌, ◌≤◌, ◌||◌, ℕ, Bool, true, false, cond, not, if◌then◌else◌, T, List, [], ◌∷◌, filter, length, map, Option, Some, None, IfSome, option_map, option_to_list}
use Rattle.std.specs.FinMap.Entries.{find, find-where_key, where_key}
use Rattle.std.specs.List.{AllByRecursion}
use Rattle.std.specs.Option.{option_map_or}
use Rattle.std.specs.Ordering.{eq_by_cmp, is_eq, nat_cmp}
use Rattle.std.proofs.Common.{refl, sym, ap, subst, ◌∙◌, arith}
use Rattle.std.proofs.lemmas.Bool.{false_from_ne_true, not-false}
use Rattle.std.proofs.lemmas.Cmp.{nat_cmp_total, tied_itself}
use Rattle.std.proofs.lemmas.Map.Lookups.{exact_unsigned}
use Rattle.std.proofs.lemmas.Option.{same_Some}
use Rattle.sorted_rows.specs.ListLaws.{all-always, all-both, all-filter, all-filter_passes, all-map, all-weaker}
use Rattle.sorted_rows.specs.Rows.{keys_of}
use Rattle.sorted_rows.specs.RowsLaws.{all_found, find-all_row, is_sorted-both, ties}
use Rattle.lsr_facts.specs.Bypasses.{carries}
use Rattle.lsr_facts.specs.Lifetimes.{begins_here}
use Rattle.lsr_facts.specs.OrderLaws.{key_exact, key_total}
use Rattle.lsr_facts.specs.Orders.{is_one_of, key_cmp}
use Rattle.lsr_facts.specs.Tunnels.{AreTunnels, IsPendingAs, IsTunnel, current_key, head_key, heads_of, is_head, pending_key}
use Rattle.lsr_facts.specs.declared.key.Key.{Key}
use Rattle.lsr_facts.specs.declared.path_fact.PathFact.{PathFact}
use Rattle.lsr_facts.specs.declared.router.Router.{Router}
use Rattle.lsr_facts.specs.declared.tunnel.Tunnel.{Tunnel}
use Rattle.lsr_facts.specs.declared.tunnel.TunnelLsp.{TunnelLsp}
use Rattle.lsr_facts.specs.Changes.{switched, switched_to}
use Rattle.abstract_paths.proofs.Bypasses.{bypasses_mapped, switched_carries}
use Rattle.abstract_paths.proofs.Heads.{same_keys}
use Rattle.abstract_paths.proofs.PathTable.{paths_where}
use Rattle.abstract_paths.proofs.Pending.{IsPendingBy, pending_all, pending_known}
use Rattle.abstract_paths.proofs.TunnelTable.{switched_stands, tunnel_known}
use Rattle.abstract_paths.specs.Soundness.{IsHeadOf, IsPendingSignalled, IsSignalled, IsStanding, asked_of}
use Rattle.abstract_router.specs.Labels.{labelled_keys}
use Rattle.abstract_router.specs.States.{State, is_reserved}
use Rattle.abstract_router.specs.Steps.{given_up, is_ready, switched_where, taken_over}

-- ---- tunnels

-- tunnels that switch keep their numbers
switched-number : (test : ℕ × Tunnel → Bool) (tunnel : ℕ × Tunnel) → (switched_where test tunnel).0 ≡ tunnel.0
switched-number test tunnel = elim (test tunnel) as (λ b. (if b then (tunnel.0, switched tunnel.1) else tunnel).0 ≡ tunnel.0) [ true ↦ refl | false ↦ refl ]

switched-numbers : (test : ℕ × Tunnel → Bool) (tunnels : List (ℕ × Tunnel)) → keys_of (map (switched_where test) tunnels) ≡ keys_of tunnels
switched-numbers test [] = refl
switched-numbers test (tunnel ∷ tunnels) = λ i. switched-number test tunnel i ∷ switched-numbers test tunnels i

switched-count : (test : ℕ × Tunnel → Bool) (tunnels : List (ℕ × Tunnel)) → length (map (switched_where test) tunnels) ≡ length tunnels
switched-count test [] = refl
switched-count test (tunnel ∷ tunnels) = omega (arith, switched-count test tunnels)

-- what switches is a tunnel still
switched-is : (r : Router) (test : ℕ × Tunnel → Bool) (tunnel : ℕ × Tunnel) → IsTunnel r tunnel → IsTunnel r (switched_where test tunnel)
switched-is r test tunnel is =
    elim (test tunnel) as (λ b. IsTunnel r (if b then (tunnel.0, switched tunnel.1) else tunnel)) [ true ↦ switched_stands r tunnel is | false ↦ is ]

switched-all : (r : Router) (test : ℕ × Tunnel → Bool) (tunnels : List (ℕ × Tunnel)) → AreTunnels r tunnels → AreTunnels r (map (switched_where test) tunnels)
switched-all r test tunnels are = record {
  in_order = subst T (sym (is_sorted-both nat_cmp (map (switched_where test) tunnels) tunnels (switched-numbers test tunnels))) are.in_order;
  few = subst (λ n. n ≤ 256) (sym (switched-count test tunnels)) are.few;
  each = all-map (IsTunnel r) (switched_where test) tunnels (all-weaker (IsTunnel r) (λ tunnel. IsTunnel r (switched_where test tunnel)) (switched-is r test) tunnels are.each);
}

-- ---- heads

-- The tunnel that is found of a number once tunnels have gone over.
pub found_switched : (test : ℕ × Tunnel → Bool) (number : ℕ) (tunnels : List (ℕ × Tunnel)) → find nat_cmp number (map (switched_where test) tunnels) ≡ option_map (λ tunnel. (switched_where test (number, tunnel)).1) (find nat_cmp number tunnels)
found_switched test number [] = refl
found_switched test number (tunnel ∷ tunnels) =
    let rest = found_switched test number tunnels in
    subst (λ n. cond (eq_by_cmp nat_cmp number n) (Some (switched_where test tunnel).1) (find nat_cmp number (map (switched_where test) tunnels)) ≡ option_map (λ t. (switched_where test (number, t)).1) (cond (eq_by_cmp nat_cmp number tunnel.0) (Some tunnel.1) (find nat_cmp number tunnels)))
    (sym (switched-number test tunnel))
    (elim (eq_by_cmp nat_cmp number tunnel.0) as (λ b. eq_by_cmp nat_cmp number tunnel.0 ≡ b → cond b (Some (switched_where test tunnel).1) (find nat_cmp number (map (switched_where test) tunnels)) ≡ option_map (λ t. (switched_where test (number, t)).1) (cond b (Some tunnel.1) (find nat_cmp number tunnels))) [
      | true ↦ λ own. ap (λ n. Some (switched_where test (n, tunnel.1)).1) (sym (exact_unsigned number tunnel.0 (ties _ own)))
      | false ↦ λ other. rest
    ] refl)

-- a tunnel carries what it did once it has gone over
carries_still : (test : ℕ × Tunnel → Bool) (number capacity : ℕ) (tunnel : Tunnel) → carries capacity tunnel ≡ true → carries capacity (switched_where test (number, tunnel)).1 ≡ true
carries_still test number capacity tunnel is =
    elim (test (number, tunnel)) as (λ b. carries capacity (cond {A = ℕ × Tunnel} b (number, switched tunnel) (number, tunnel)).1 ≡ true) [ true ↦ switched_carries capacity tunnel is | false ↦ is ]

-- one of two is true, or both are false
neither : (a b : Bool) → (a || b) ≡ false → (a ≡ false) × (b ≡ false)
neither true b e = absurd (let f = e in cc)
neither false b e = (refl, e)

not-true : (b : Bool) → not b ≡ true → b ≡ false
not-true true e = absurd (let f = e in cc)
not-true false e = refl

-- a tunnel that passes the test has an LSP that is to take its current one's place
abbrev HasPending : (ℕ × Tunnel → Bool) → ℕ × Tunnel → Type 0
HasPending test tunnel = test tunnel ≡ true → (lsp : TunnelLsp) × (tunnel.1.pending ≡ Some lsp)

module _ (r : Router) (test : ℕ × Tunnel → Bool) where
  -- the LSPs that tunnels give up that pass the test
  abbrev gone : List (ℕ × Tunnel) → List Key
  gone tunnels = map (current_key r) (filter test tunnels)

  -- a head that isn't given up by its tunnel is its head still
  of_tunnel : (number : ℕ) (tunnel : Tunnel) (key : Key) → (test (number, tunnel) ≡ true → is_eq (key_cmp (current_key r (number, tunnel)) key) ≡ false) → (test (number, tunnel) ≡ true → (lsp : TunnelLsp) × (tunnel.pending ≡ Some lsp))
      → is_one_of (heads_of r (number, (switched_where test (number, tunnel)).1)) key ≡ is_one_of (heads_of r (number, tunnel)) key
  of_tunnel number tunnel key kept has =
      elim (test (number, tunnel)) as (λ b. (b ≡ true → is_eq (key_cmp (current_key r (number, tunnel)) key) ≡ false) → (b ≡ true → (lsp : TunnelLsp) × (tunnel.pending ≡ Some lsp)) → is_one_of (heads_of r (number, (cond {A = ℕ × Tunnel} b (number, switched tunnel) (number, tunnel)).1)) key ≡ is_one_of (heads_of r (number, tunnel)) key) [
        | true ↦ λ kept. λ has. over tunnel.pending (has refl).0 (has refl).1 (kept refl)
        | false ↦ λ kept. λ has. refl
      ] kept has
    where
      over : (pending : Option TunnelLsp) (lsp : TunnelLsp) → pending ≡ Some lsp → is_eq (key_cmp (current_key r (number, tunnel)) key) ≡ false
          → is_one_of (heads_of r (number, switched_to pending tunnel)) key ≡ is_one_of (current_key r (number, tunnel) ∷ option_to_list (pending_key r (number, record tunnel { pending = pending }))) key
      over None lsp is other = absurd (let e = is in cc)
      over (Some p) lsp is other = ap (λ b. b || is_one_of (option_to_list (pending_key r (number, record tunnel { pending = Some p }))) key) (sym other)

  -- an LSP that isn't among those that are given up isn't its tunnel's that is
  kept_by : (key : Key) (tunnels : List (ℕ × Tunnel)) → is_one_of (gone tunnels) key ≡ false
      → AllByRecursion (λ tunnel. test tunnel ≡ true → is_eq (key_cmp (current_key r tunnel) key) ≡ false) tunnels
  kept_by key [] = λ none. tt
  kept_by key (tunnel ∷ tunnels) =
      elim (test tunnel) as (λ b. is_one_of (map (current_key r) (cond b (tunnel ∷ filter test tunnels) (filter test tunnels))) key ≡ false
      → (b ≡ true → is_eq (key_cmp (current_key r tunnel) key) ≡ false) × AllByRecursion (λ tunnel. test tunnel ≡ true → is_eq (key_cmp (current_key r tunnel) key) ≡ false) tunnels) [
        | true ↦ λ none. let parts = neither (is_eq (key_cmp (current_key r tunnel) key)) (is_one_of (gone tunnels) key) none in ((λ is. parts.0), kept_by key tunnels parts.1)
        | false ↦ λ none. ((λ is. absurd (let e = is in cc)), kept_by key tunnels none)
      ]

  -- so the same LSPs are heads, but for those that are given up
  heads_kept : (key : Key) (tunnels : List (ℕ × Tunnel)) → AllByRecursion (HasPending test) tunnels → is_one_of (gone tunnels) key ≡ false → is_head r (map (switched_where test) tunnels) key ≡ is_head r tunnels key
  unfolding is_head
  heads_kept key tunnels pending none =
      ap (λ found. option_map_or (λ tunnel. is_one_of (heads_of r (key.session.tunnel, tunnel)) key) found false) (found_switched test key.session.tunnel tunnels)
      ∙ by (find nat_cmp key.session.tunnel tunnels)
      (find-all_row nat_cmp exact_unsigned (λ tunnel. test tunnel ≡ true → is_eq (key_cmp (current_key r tunnel) key) ≡ false) key.session.tunnel tunnels (kept_by key tunnels none))
      (find-all_row nat_cmp exact_unsigned (HasPending test) key.session.tunnel tunnels pending)
    where
      by : (found : Option Tunnel) → IfSome found (λ tunnel. test (key.session.tunnel, tunnel) ≡ true → is_eq (key_cmp (current_key r (key.session.tunnel, tunnel)) key) ≡ false) → IfSome found (λ tunnel. HasPending test (key.session.tunnel, tunnel))
          → option_map_or (λ tunnel. is_one_of (heads_of r (key.session.tunnel, tunnel)) key) (option_map (λ tunnel. (switched_where test (key.session.tunnel, tunnel)).1) found) false ≡ option_map_or (λ tunnel. is_one_of (heads_of r (key.session.tunnel, tunnel)) key) found false
      by None kept has = refl
      by (Some tunnel) kept has = of_tunnel key.session.tunnel tunnel key kept has

  -- an LSP that is given up is its tunnel's head
  gone_heads : (all : List (ℕ × Tunnel)) (key : Key) (tunnels : List (ℕ × Tunnel)) → AllByRecursion (λ tunnel. find nat_cmp tunnel.0 all ≡ Some tunnel.1) tunnels → is_one_of (gone tunnels) key ≡ true → is_head r all key ≡ true
  unfolding is_head
  gone_heads all key [] found = λ is. absurd (let e = is in cc)
  gone_heads all key (tunnel ∷ tunnels) found =
      elim (test tunnel) as (λ b. is_one_of (map (current_key r) (cond b (tunnel ∷ filter test tunnels) (filter test tunnels))) key ≡ true → is_head r all key ≡ true) [
        | true ↦ λ is. elim (is_eq (key_cmp (current_key r tunnel) key)) as (λ b. is_eq (key_cmp (current_key r tunnel) key) ≡ b → (b || is_one_of (gone tunnels) key) ≡ true → is_head r all key ≡ true) [
          | true ↦ λ same. λ or. this (key_exact (current_key r tunnel) key (ties _ same)) same
          | false ↦ λ other. λ or. gone_heads all key tunnels found.1 or
        ] refl is
        | false ↦ λ is. gone_heads all key tunnels found.1 is
      ]
    where
      this : current_key r tunnel ≡ key → is_eq (key_cmp (current_key r tunnel) key) ≡ true → is_head r all key ≡ true
      this same eq =
          subst (λ (k : Key). is_head r all k ≡ true) same
          (ap (λ (o : Option Tunnel). option_map_or (λ t. is_one_of (heads_of r (tunnel.0, t)) (current_key r tunnel)) o false) found.0
          ∙ ap (λ b. b || is_one_of (option_to_list (pending_key r tunnel)) (current_key r tunnel)) (ap is_eq (tied_itself key_total (current_key r tunnel))))

-- a tunnel that is ready has an LSP that is to take its current one's place
ready_pending : (r : Router) (s : State) (tunnel : ℕ × Tunnel) → HasPending (is_ready r s) tunnel
ready_pending r s tunnel = by tunnel.1.pending
  where
    by : (pending : Option TunnelLsp) → option_map_or (is_reserved s) (option_map (λ lsp. head_key r tunnel.0 tunnel.1.endpoint lsp.id) pending) false ≡ true → (lsp : TunnelLsp) × (pending ≡ Some lsp)
    by None is = absurd (let e = is in cc)
    by (Some lsp) is = (lsp, refl)

-- an element that passes the first test passes the second too, so that the second takes nothing from the first
filter_skips : {A : Type 0} (p q : A → Bool) (xs : List A) → AllByRecursion (λ x. q x ≡ false → p x ≡ false) xs → filter p (filter q xs) ≡ filter p xs
filter_skips p q [] h = refl
filter_skips p q (x ∷ xs) h =
    let rest = filter_skips p q xs h.1 in
    elim (q x) as (λ b. (b ≡ false → p x ≡ false) → filter p (cond b (x ∷ filter q xs) (filter q xs)) ≡ cond (p x) (x ∷ filter p xs) (filter p xs)) [
      | true ↦ λ skips. ap (λ l. cond (p x) (x ∷ l) l) rest
      | false ↦ λ skips. rest ∙ sym (ap (λ b. cond b (x ∷ filter p xs) (filter p xs)) (skips refl))
    ] h.0

-- ---- new LSPs

-- no key of these is the one, of tunnels of which none that is ready has it
none_given_up : (r : Router) (ready : ℕ × Tunnel → Bool) (key : Key) (tunnels : List (ℕ × Tunnel)) → AllByRecursion (λ tunnel. current_key r tunnel ≢ key) tunnels → is_one_of (map (current_key r) (filter ready tunnels)) key ≡ false
none_given_up r ready key [] apart = refl
none_given_up r ready key (tunnel ∷ tunnels) apart =
    let rest = none_given_up r ready key tunnels apart.1 in
    elim (ready tunnel) as (λ b. is_one_of (map (current_key r) (cond b (tunnel ∷ filter ready tunnels) (filter ready tunnels))) key ≡ false) [
      | true ↦ ap (λ b. b || is_one_of (map (current_key r) (filter ready tunnels)) key) (false_from_ne_true (is_eq (key_cmp (current_key r tunnel) key)) (λ tie. apart.0 (same_keys (current_key r tunnel) key tie))) ∙ rest
      | false ↦ rest
    ]

-- a tunnel and the LSP that is to take its current one's place
module _ (r : Router) (s : State) (are : AreTunnels r s.facts.tunnels) (number : ℕ) (old : Tunnel) (lsp : TunnelLsp) (found : find nat_cmp number s.facts.tunnels ≡ Some old) (pending : old.pending ≡ Some lsp) where
  abbrev new_key : Key
  new_key = head_key r number old.endpoint lsp.id

  -- That isn't the current one.
  pub new_id : lsp.id ≢ old.current.id
  new_id = (subst (IsPendingAs r old) pending (tunnel_known r number old s.facts.tunnels are found).pending).1

  -- so no tunnel gives it up
  pub new_kept : is_one_of (given_up r s) new_key ≡ false
  new_kept =
      none_given_up r (is_ready r s) new_key s.facts.tunnels
      (all-weaker (λ tunnel. find nat_cmp tunnel.0 s.facts.tunnels ≡ Some tunnel.1) (λ tunnel. current_key r tunnel ≢ new_key) apart s.facts.tunnels (all_found nat_cmp nat_cmp_total s.facts.tunnels are.in_order))
    where
      apart : (tunnel : ℕ × Tunnel) → find nat_cmp tunnel.0 s.facts.tunnels ≡ Some tunnel.1 → current_key r tunnel ≢ new_key
      apart tunnel its same =
          let own : tunnel.1 ≡ old = same_Some tunnel.1 old (sym its ∙ ap (λ (k : Key). find nat_cmp k.session.tunnel s.facts.tunnels) same ∙ found) in
          new_id (sym (ap (λ (k : Key). k.sender.lsp) same) ∙ ap (λ (t : Tunnel). t.current.id) own)

-- ---- all

module _ (r : Router) (s : State) (is : IsStanding r s.facts) where
  -- an LSP that is given up begins here
  given_up-heads : AllByRecursion (λ (path : Key × PathFact). not (is_one_of (given_up r s) path.0) ≡ false → not (begins_here path.1.role) ≡ false) s.facts.paths
  given_up-heads =
      all-weaker (IsHeadOf r s.facts.tunnels) (λ path. not (is_one_of (given_up r s) path.0) ≡ false → not (begins_here path.1.role) ≡ false)
      (λ path head is_gone. ap not (head ∙ gone_heads r (is_ready r s) s.facts.tunnels path.0 s.facts.tunnels (all_found nat_cmp nat_cmp_total s.facts.tunnels is.tunnels.in_order) (not-false _ is_gone)))
      s.facts.paths is.heads

  -- a tunnel that waits has its new LSP signalled as before
  pending_taken : AllByRecursion (IsPendingSignalled r (taken_over r s).facts.paths) (map (switched_where (is_ready r s)) s.facts.tunnels)
  unfolding taken_over
  pending_taken =
      pending_all r (map (switched_where (is_ready r s)) s.facts.tunnels) (taken_over r s).facts.paths (switched-all r (is_ready r s) s.facts.tunnels is.tunnels).in_order
      (λ number t lsp by. of_known number t lsp by (find nat_cmp number s.facts.tunnels) refl (sym (found_switched (is_ready r s) number s.facts.tunnels) ∙ by.found))
    where
      left : Key → Bool
      left key = not (is_one_of (given_up r s) key)

      -- one that went over is pending no more
      over : (old t : Tunnel) (lsp new : TunnelLsp) → old.pending ≡ Some new → switched old ≡ t → t.pending ≡ Some lsp → ⊥
      over old t lsp new was same pending = let e = ap (λ p. (switched_to p old).pending) (sym was) ∙ ap (λ (u : Tunnel). u.pending) same ∙ pending in cc

      waits : (number : ℕ) (t : Tunnel) (lsp : TunnelLsp) → find nat_cmp number s.facts.tunnels ≡ Some t → t.pending ≡ Some lsp → IsSignalled (where_key key_cmp left s.facts.paths) (head_key r number t.endpoint lsp.id) lsp
      waits number t lsp found pending =
          let key = head_key r number t.endpoint lsp.id in
          ap (option_map asked_of) (find-where_key key_cmp left key (λ k tie. ap left (sym (key_exact key k tie))) s.facts.paths ∙ ap (λ b. cond (not b) (find key_cmp key s.facts.paths) None) (new_kept r s is.tunnels number t lsp found pending))
          ∙ pending_known r s.facts.tunnels s.facts.paths number t lsp is.pending (record { found = found; pending = pending })

      of_known : (number : ℕ) (t : Tunnel) (lsp : TunnelLsp) → IsPendingBy (map (switched_where (is_ready r s)) s.facts.tunnels) number t lsp → (known : Option Tunnel) → find nat_cmp number s.facts.tunnels ≡ known
          → option_map (λ old. (switched_where (is_ready r s) (number, old)).1) known ≡ Some t → IsSignalled (where_key key_cmp left s.facts.paths) (head_key r number t.endpoint lsp.id) lsp
      of_known number t lsp by None was goes = absurd (let e = goes in cc)
      of_known number t lsp by (Some old) was goes =
          elim (is_ready r s (number, old)) as (λ b. is_ready r s (number, old) ≡ b → (cond {A = ℕ × Tunnel} b (number, switched old) (number, old)).1 ≡ t → IsSignalled (where_key key_cmp left s.facts.paths) (head_key r number t.endpoint lsp.id) lsp) [
            | true ↦ λ ready same. let new = ready_pending r s (number, old) ready in absurd (over old t lsp new.0 new.1 same by.pending)
            | false ↦ λ waiting same. waits number t lsp (was ∙ ap Some same) by.pending
          ] refl (same_Some (switched_where (is_ready r s) (number, old)).1 t goes)

  -- Paths, links, tunnels and time are as they should be once tunnels have gone over to their new LSPs.
  pub standing_taken : IsStanding r (taken_over r s).facts
  unfolding taken_over
  standing_taken = record {
    moment = is.moment;
    links = is.links;
    routes = is.routes;
    tunnels = switched-all r (is_ready r s) s.facts.tunnels is.tunnels;
    bypasses = bypasses_mapped r s.facts.tunnels (map (switched_where (is_ready r s)) s.facts.tunnels) s.facts.bypasses (λ number tunnel. (switched_where (is_ready r s) (number, tunnel)).1) (λ number. found_switched (is_ready r s) number s.facts.tunnels) (carries_still (is_ready r s)) is.bypasses;
    paths = paths_where r s.facts.moment (λ k. not (is_one_of (given_up r s) k)) s.facts.paths is.paths;
    heads = all-both (IsHeadOf r s.facts.tunnels) (λ path. not (is_one_of (given_up r s) path.0) ≡ true) (IsHeadOf r (map (switched_where (is_ready r s)) s.facts.tunnels))
        (λ path head kept. head ∙ sym (heads_kept r (is_ready r s) path.0 s.facts.tunnels (all-always (HasPending (is_ready r s)) (ready_pending r s) s.facts.tunnels) (not-true _ kept)))
        (where_key key_cmp (λ k. not (is_one_of (given_up r s) k)) s.facts.paths)
        (all-filter (IsHeadOf r s.facts.tunnels) (λ path. not (is_one_of (given_up r s) path.0)) s.facts.paths is.heads)
        (all-filter_passes (λ path. not (is_one_of (given_up r s) path.0) ≡ true) (λ path. not (is_one_of (given_up r s) path.0)) (λ path passes. passes) s.facts.paths);
    pending = pending_taken;
    cold = λ cold. ap (where_key key_cmp (λ k. not (is_one_of (given_up r s) k))) (is.cold cold);
  }

  -- The LSPs that have labels are the same.
  pub labelled_taken : labelled_keys (taken_over r s).facts.paths ≡ labelled_keys s.facts.paths
  unfolding taken_over
  labelled_taken = ap keys_of (filter_skips (λ (path : Key × PathFact). not (begins_here path.1.role)) (λ path. not (is_one_of (given_up r s) path.0)) s.facts.paths given_up-heads)
