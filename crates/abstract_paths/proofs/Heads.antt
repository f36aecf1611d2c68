-- Which LSPs begin here, as tunnels and paths change: a path does exactly where its LSP is a tunnel's.
use Rattle.std.specs.Prelude.{◌≡◌, ℕ, ◌+◌, Bool, true, false, not, ◌||◌, List, [], ◌∷◌, filter, Option, Some, None, option_map, option_to_list, T, IfSome}
use Rattle.std.specs.FinMap.Entries.{find, put, where_key, is_sorted, is_sorted-put}
use Rattle.std.specs.List.{AllByRecursion}
use Rattle.std.specs.Option.{option_map_or}
use Rattle.std.specs.Ordering.{is_eq, nat_cmp}
use Rattle.std.proofs.Common.{refl, sym, ap, subst, ◌∙◌, inl, inr}
use Rattle.std.proofs.lemmas.Bool.{cases_eq}
use Rattle.std.proofs.lemmas.Cmp.{nat_cmp_total, tied_back, tied_itself}
use Rattle.std.proofs.lemmas.Map.Lookups.{exact_unsigned}
use Rattle.std.proofs.lemmas.Option.{same_Some}
use Rattle.rsvp_objects.specs.declared.values.ErrorSpec.{ErrorSpec}
use Rattle.rsvp_bodies.specs.declared.step.Step.{Step}
use Rattle.sorted_rows.specs.ListLaws.{all-both, all-filter, all-filter_passes, all-map, all-weaker}
use Rattle.sorted_rows.specs.RowsLaws.{all-from_find, find-all_row, find-put_apart, find-put_other, find-put_same, find-removed_apart, find-removed_same, ties}
use Rattle.lsr_facts.specs.Lifetimes.{begins_here, expire, lives_on, with_living}
use Rattle.lsr_facts.specs.OrderLaws.{key_exact, key_total}
use Rattle.lsr_facts.specs.Orders.{is_one_of, key_cmp}
use Rattle.lsr_facts.specs.Tunnels.{current_key, head_key, heads_of, is_head, pending_key}
use Rattle.lsr_facts.specs.declared.key.Key.{Key}
use Rattle.lsr_facts.specs.declared.path_fact.PathFact.{PathFact}
use Rattle.lsr_facts.specs.declared.router.Router.{Router}
use Rattle.lsr_facts.specs.declared.tunnel.Tunnel.{Tunnel}
use Rattle.lsr_facts.specs.declared.tunnel.TunnelLsp.{TunnelLsp}
use Rattle.lsr_facts.specs.Changes.{begun, cancelled}
use Rattle.abstract_paths.specs.Heads.{noted}
use Rattle.abstract_paths.specs.Soundness.{IsHeadOf}

-- keys that are the same, and keys that aren't, both ways round
pub same_keys : (a b : Key) → is_eq (key_cmp a b) ≡ true → a ≡ b
same_keys a b tie = key_exact a b (ties _ tie)

pub apart_back : (a b : Key) → is_eq (key_cmp a b) ≡ false → is_eq (key_cmp b a) ≡ false
apart_back a b apart = by (is_eq (key_cmp b a)) refl
  where
    by : (tie : Bool) → is_eq (key_cmp b a) ≡ tie → tie ≡ false
    by true is = absurd (let t = tied_back key_total b a (ties _ is) in let e = sym (ap is_eq t) ∙ apart in cc)
    by false is = refl

-- a key is the first of its own list
pub is_one_of-first : (key : Key) (keys : List Key) → is_one_of (key ∷ keys) key ≡ true
is_one_of-first key keys = ap (λ o. is_eq o || is_one_of keys key) (tied_itself key_total key)

-- and it is of a list where it is of the rest
pub is_one_of-later : (k key : Key) (keys : List Key) → is_one_of keys key ≡ true → is_one_of (k ∷ keys) key ≡ true
is_one_of-later k key keys is = elim (is_eq (key_cmp k key)) as (λ b. (b || is_one_of keys key) ≡ true) [ true ↦ refl | false ↦ is ]

module _ (r : Router) (tunnels : List (ℕ × Tunnel)) where
  -- A key is a head where it is one of the LSPs of the tunnel of its number.
  is_head-number : (number : ℕ) (tunnel : Option Tunnel) (key : Key) → key.session.tunnel ≡ number → find nat_cmp number tunnels ≡ tunnel → is_head r tunnels key ≡ option_map_or (λ t. is_one_of (heads_of r (number, t)) key) tunnel false
  unfolding is_head
  is_head-number number tunnel key same found =
      (λ i. option_map_or (λ t. is_one_of (heads_of r (same i, t)) key) (find nat_cmp (same i) tunnels) false) ∙ ap (λ o. option_map_or (λ t. is_one_of (heads_of r (number, t)) key) o false) found

  -- the LSP that carries a tunnel's traffic is one
  pub is_head-current : (number : ℕ) (t : Tunnel) → find nat_cmp number tunnels ≡ Some t → is_head r tunnels (current_key r (number, t)) ≡ true
  is_head-current number t found = is_head-number number (Some t) (current_key r (number, t)) refl found ∙ is_one_of-first (current_key r (number, t)) (option_to_list (pending_key r (number, t)))

  -- so is the one that is to take its place
  pub is_head-pending : (number : ℕ) (t : Tunnel) (lsp : TunnelLsp) → find nat_cmp number tunnels ≡ Some t → t.pending ≡ Some lsp → is_head r tunnels (head_key r number t.endpoint lsp.id) ≡ true
  is_head-pending number t lsp found pending =
      let key = head_key r number t.endpoint lsp.id in
      is_head-number number (Some t) key refl found
      ∙ ap (λ o. is_one_of (current_key r (number, t) ∷ option_to_list (option_map (λ (l : TunnelLsp). head_key r number t.endpoint l.id) o)) key) pending
      ∙ is_one_of-later (current_key r (number, t)) key (key ∷ []) (is_one_of-first key [])

  -- keys of other numbers are heads as before where tunnels change under one number
  is_head-other : (changed : List (ℕ × Tunnel)) (key : Key) → find nat_cmp key.session.tunnel changed ≡ find nat_cmp key.session.tunnel tunnels → is_head r changed key ≡ is_head r tunnels key
  unfolding is_head
  is_head-other changed key same = ap (λ o. option_map_or (λ t. is_one_of (heads_of r (key.session.tunnel, t)) key) o false) same

module _ (r : Router) (tunnels : List (ℕ × Tunnel)) (number : ℕ) (tunnel : Option Tunnel) (found : find nat_cmp number tunnels ≡ tunnel) where
  -- whether a key of the number was a head
  abbrev was_head : Key → Bool
  was_head key = option_map_or (λ t. is_one_of (heads_of r (number, t)) key) tunnel false

  -- A tunnel is put: a key is a head as before that is one of its LSPs as before.
  is_head-put : (t : Tunnel) (key : Key) → is_one_of (heads_of r (number, t)) key ≡ was_head key → is_head r (put nat_cmp number t tunnels) key ≡ is_head r tunnels key
  is_head-put t key own =
      elim (cases_eq key.session.tunnel number) as (λ c. is_head r (put nat_cmp number t tunnels) key ≡ is_head r tunnels key) [
        | inl same ↦ is_head-number r (put nat_cmp number t tunnels) number (Some t) key same (find-put_same nat_cmp nat_cmp_total number t tunnels) ∙ own ∙ sym (is_head-number r tunnels number tunnel key same found)
        | inr other ↦ is_head-other r tunnels (put nat_cmp number t tunnels) key (find-put_apart nat_cmp nat_cmp_total exact_unsigned key.session.tunnel number t tunnels other)
      ]

  -- The tunnel goes: a key is a head as before that was none of its LSPs.
  is_head-removed : (key : Key) → was_head key ≡ false → is_head r (where_key nat_cmp (λ k. not (is_eq (nat_cmp number k))) tunnels) key ≡ is_head r tunnels key
  is_head-removed key none =
      elim (cases_eq key.session.tunnel number) as (λ c. is_head r (where_key nat_cmp (λ k. not (is_eq (nat_cmp number k))) tunnels) key ≡ is_head r tunnels key) [
        | inl same ↦ is_head-number r (where_key nat_cmp (λ k. not (is_eq (nat_cmp number k))) tunnels) number None key same (find-removed_same nat_cmp nat_cmp_total number tunnels) ∙ sym none ∙ sym (is_head-number r tunnels number tunnel key same found)
        | inr other ↦ is_head-other r tunnels (where_key nat_cmp (λ k. not (is_eq (nat_cmp number k))) tunnels) key (find-removed_apart nat_cmp nat_cmp_total exact_unsigned key.session.tunnel number tunnels other)
      ]

-- an LSP that isn't the first of two is one of both where it is the second
one_of_first : (a b key : Key) → is_eq (key_cmp key b) ≡ false → is_one_of (a ∷ b ∷ []) key ≡ is_one_of (a ∷ []) key
one_of_first a b key apart = ap (λ tie. is_eq (key_cmp a key) || (tie || false)) (apart_back key b apart)

-- without those that a key is none of, it is one of a list as with them
one_of_fewer : (a key : Key) (keys : List Key) → is_one_of keys key ≡ false → is_one_of (a ∷ []) key ≡ is_one_of (a ∷ keys) key
one_of_fewer a key keys none = ap (λ others. is_eq (key_cmp a key) || others) (sym none)

module _ (r : Router) (number : ℕ) (tunnels : List (ℕ × Tunnel)) where
  -- A tunnel begins: its LSP is a head, and no other that was none.
  pub heads_begun : (t : Tunnel) (key : Key) → find nat_cmp number tunnels ≡ None → t.pending ≡ None → is_eq (key_cmp key (current_key r (number, t))) ≡ false → is_head r (put nat_cmp number t tunnels) key ≡ is_head r tunnels key
  heads_begun t key found none apart =
      is_head-put r tunnels number None found t key
      (ap (λ o. is_one_of (current_key r (number, t) ∷ option_to_list (option_map (λ (l : TunnelLsp). head_key r number t.endpoint l.id) o)) key) none ∙ ap (λ tie. tie || false) (apart_back key (current_key r (number, t)) apart))

  module _ (t : Tunnel) (found : find nat_cmp number tunnels ≡ Some t) where
    -- A change of it begins: so is its new LSP.
    pub heads_changed : (route : List Step) (tspec : List ℕ) (key : Key) → t.pending ≡ None → is_eq (key_cmp key (head_key r number t.endpoint (t.last + 1))) ≡ false → is_head r (put nat_cmp number (begun route tspec t) tunnels) key ≡ is_head r tunnels key
    heads_changed route tspec key none apart =
        is_head-put r tunnels number (Some t) found (begun route tspec t) key
        (one_of_first (current_key r (number, t)) (head_key r number t.endpoint (t.last + 1)) key apart
        ∙ ap (λ o. is_one_of (current_key r (number, t) ∷ option_to_list (option_map (λ (l : TunnelLsp). head_key r number t.endpoint l.id) o)) key) (sym none))

    -- The change is given up: all others are heads as before.
    pub heads_cancelled : (key : Key) → is_one_of (option_to_list (pending_key r (number, t))) key ≡ false → is_head r (put nat_cmp number (cancelled t) tunnels) key ≡ is_head r tunnels key
    heads_cancelled key none = is_head-put r tunnels number (Some t) found (cancelled t) key (one_of_fewer (current_key r (number, t)) key (option_to_list (pending_key r (number, t))) none)

    -- An error is noted of it: all are as before.
    pub heads_noted : (e : ErrorSpec) (key : Key) → is_head r (put nat_cmp number (noted e t) tunnels) key ≡ is_head r tunnels key
    heads_noted e key = is_head-put r tunnels number (Some t) found (noted e t) key refl

    -- The tunnel goes: all others are as before.
    pub heads_dropped : (key : Key) → is_one_of (heads_of r (number, t)) key ≡ false → is_head r (where_key nat_cmp (λ k. not (is_eq (nat_cmp number k))) tunnels) key ≡ is_head r tunnels key
    heads_dropped key none = is_head-removed r tunnels number (Some t) found key none

module _ (r : Router) (before after : List (ℕ × Tunnel)) where
  -- Paths that are left begin here as they should, where their keys are heads as before.
  pub heads_where : (p : Key → Bool) (paths : List (Key × PathFact)) → ((key : Key) → p key ≡ true → is_head r after key ≡ is_head r before key) → AllByRecursion (IsHeadOf r before) paths → AllByRecursion (IsHeadOf r after) (where_key key_cmp p paths)
  heads_where p paths same are =
      all-both (IsHeadOf r before) (λ path. p path.0 ≡ true) (IsHeadOf r after) (λ path is kept. is ∙ sym (same path.0 kept)) (where_key key_cmp p paths)
      (all-filter (IsHeadOf r before) (λ path. p path.0) paths are)
      (all-filter_passes (λ path. p path.0 ≡ true) (λ path. p path.0) (λ path passes. passes) paths)

  pub heads_same : (paths : List (Key × PathFact)) → ((key : Key) → is_head r after key ≡ is_head r before key) → AllByRecursion (IsHeadOf r before) paths → AllByRecursion (IsHeadOf r after) paths
  heads_same paths same are = all-weaker (IsHeadOf r before) (IsHeadOf r after) (λ path is. is ∙ sym (same path.0)) paths are

  -- So do they with one put that begins here as it should.
  pub heads_put : (key : Key) (fact : PathFact) (paths : List (Key × PathFact)) → begins_here fact.role ≡ is_head r after key → ((q : Key) → is_eq (key_cmp q key) ≡ false → is_head r after q ≡ is_head r before q)
      → T (is_sorted key_cmp paths) → AllByRecursion (IsHeadOf r before) paths → AllByRecursion (IsHeadOf r after) (put key_cmp key fact paths)
  heads_put key fact paths begins same in_order are =
      all-from_find key_cmp key_total (IsHeadOf r after) (put key_cmp key fact paths) (is_sorted-put key_cmp key_total key fact paths in_order) (λ q v found. by q v found (is_eq (key_cmp q key)) refl)
    where
      by : (q : Key) (v : PathFact) → find key_cmp q (put key_cmp key fact paths) ≡ Some v → (tie : Bool) → is_eq (key_cmp q key) ≡ tie → IsHeadOf r after (q, v)
      by q v found true tied =
          let own : q ≡ key = same_keys q key tied in
          let put_there : fact ≡ v = same_Some fact v (sym (find-put_same key_cmp key_total key fact paths) ∙ ap (λ k. find key_cmp k (put key_cmp key fact paths)) (sym own) ∙ found) in
          ap (λ (f : PathFact). begins_here f.role) (sym put_there) ∙ begins ∙ ap (is_head r after) (sym own)
      by q v found false apart =
          let was : find key_cmp q paths ≡ Some v = sym (find-put_other key_cmp key_total q key fact paths apart) ∙ found in
          subst (λ o. IfSome o (λ f. IsHeadOf r before (q, f))) was (find-all_row key_cmp key_exact (IsHeadOf r before) q paths are) ∙ sym (same q apart)

module _ (r : Router) (tunnels : List (ℕ × Tunnel)) where
  -- a path that is known begins here where its LSP is a tunnel's
  pub head_known : (key : Key) (paths : List (Key × PathFact)) → AllByRecursion (IsHeadOf r tunnels) paths → IfSome (find key_cmp key paths) (λ fact. IsHeadOf r tunnels (key, fact))
  head_known key paths are = find-all_row key_cmp key_exact (IsHeadOf r tunnels) key paths are

  -- Paths expire: those that are left begin where they did.
  pub heads_expire : (moment : ℕ) (paths : List (Key × PathFact)) → AllByRecursion (IsHeadOf r tunnels) paths → AllByRecursion (IsHeadOf r tunnels) (expire moment paths)
  unfolding expire
  heads_expire moment paths are = all-map (IsHeadOf r tunnels) (with_living moment) (filter (lives_on moment) paths) (all-filter (IsHeadOf r tunnels) (lives_on moment) paths are)
