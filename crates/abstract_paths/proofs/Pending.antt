-- The LSP that is to take the place of a tunnel's current one stays signalled, as tunnels and paths change.
use Rattle.std.specs.Prelude.{◌≡◌, ◌≢◌, ◌||◌, ℕ, Bool, true, false, cond, not, T, List, [], ◌∷◌, filter, Option, Some, None, option_map, option_to_list, IfSome}
use Rattle.std.specs.Bool.{then_some}
use Rattle.std.specs.FinMap.Entries.{find, find-where_key, is_sorted, put, where_key}
use Rattle.std.specs.List.{AllByRecursion}
use Rattle.std.specs.Option.{option_and_then}
use Rattle.std.specs.Ordering.{is_eq, nat_cmp}
use Rattle.std.proofs.Common.{refl, sym, ap, subst, ◌∙◌, inl, inr}
use Rattle.std.proofs.lemmas.Bool.{cases_eq, false_from_ne_true}
use Rattle.std.proofs.lemmas.Cmp.{nat_cmp_total}
use Rattle.std.proofs.lemmas.Map.Lookups.{exact_unsigned}
use Rattle.std.proofs.lemmas.Option.{same_Some}
use Rattle.std.specs.declared.net.ipv4_addr.Ipv4Addr.{Ipv4Addr}
use Rattle.sorted_rows.specs.RowsLaws.{all-from_find, find-all_row, find-filter, find-map, find-put_apart, find-put_other, find-put_same, find-removed_apart, find-removed_same}
use Rattle.lsr_facts.specs.Changes.{cancelled}
use Rattle.lsr_facts.specs.Lifetimes.{begins_here, expire, lives_on, living}
use Rattle.lsr_facts.specs.OrderLaws.{key_exact, key_total}
use Rattle.lsr_facts.specs.Orders.{is_one_of, key_cmp}
use Rattle.lsr_facts.specs.Tunnels.{AreTunnels, AreUnchanging, IsPendingAs, current_key, head_key, heads_of, is_head, pending_key}
use Rattle.lsr_facts.specs.declared.choice.Choice.{Choice}
use Rattle.lsr_facts.specs.declared.key.Key.{Key}
use Rattle.lsr_facts.specs.declared.path_fact.PathFact.{PathFact}
use Rattle.lsr_facts.specs.declared.router.Router.{Router}
use Rattle.lsr_facts.specs.declared.tunnel.Tunnel.{Tunnel}
use Rattle.lsr_facts.specs.declared.tunnel.TunnelLsp.{TunnelLsp}
use Rattle.abstract_paths.proofs.Heads.{is_head-pending, head_known, same_keys}
use Rattle.abstract_paths.proofs.TunnelTable.{tunnel_known}
use Rattle.abstract_paths.specs.Heads.{head_path}
use Rattle.abstract_paths.specs.Restarts.{all_cancelled}
use Rattle.abstract_paths.specs.Soundness.{IsHeadOf, IsPendingSignalled, IsSignalled, asked_of}

-- ---- of one tunnel, and of all

-- the tunnel of a number is pending by this LSP
pub record IsPendingBy (tunnels : List (ℕ × Tunnel)) (number : ℕ) (t : Tunnel) (lsp : TunnelLsp) : Type 0 where
  pub found : find nat_cmp number tunnels ≡ Some t
  pub pending : t.pending ≡ Some lsp

module _ (r : Router) (tunnels : List (ℕ × Tunnel)) (paths : List (Key × PathFact)) where
  -- what holds of all tunnels holds of the one that is pending
  pub pending_known : (number : ℕ) (t : Tunnel) (lsp : TunnelLsp) → AllByRecursion (IsPendingSignalled r paths) tunnels → IsPendingBy tunnels number t lsp → IsSignalled paths (head_key r number t.endpoint lsp.id) lsp
  pending_known number t lsp all by =
      let its : IsPendingSignalled r paths (number, t) = subst (λ o. IfSome o (λ u. IsPendingSignalled r paths (number, u))) by.found (find-all_row nat_cmp exact_unsigned (IsPendingSignalled r paths) number tunnels all) in
      subst (λ o. IfSome o (λ l. IsSignalled paths (head_key r number t.endpoint l.id) l)) by.pending its

  -- and what holds of each that is pending holds of all
  pub pending_all : T (is_sorted nat_cmp tunnels) → ((number : ℕ) (t : Tunnel) (lsp : TunnelLsp) → IsPendingBy tunnels number t lsp → IsSignalled paths (head_key r number t.endpoint lsp.id) lsp) → AllByRecursion (IsPendingSignalled r paths) tunnels
  pending_all in_order each =
      all-from_find nat_cmp nat_cmp_total (IsPendingSignalled r paths) tunnels in_order (λ number t found. by number t found t.pending refl)
    where
      by : (number : ℕ) (t : Tunnel) → find nat_cmp number tunnels ≡ Some t → (pending : Option TunnelLsp) → t.pending ≡ pending → IfSome pending (λ lsp. IsSignalled paths (head_key r number t.endpoint lsp.id) lsp)
      by number t found None is = tt
      by number t found (Some lsp) is = each number t lsp (record { found = found; pending = is })

-- ---- paths change

module _ (r : Router) (tunnels : List (ℕ × Tunnel)) (paths : List (Key × PathFact)) (in_order : T (is_sorted nat_cmp tunnels)) (are : AllByRecursion (IsPendingSignalled r paths) tunnels) where
  -- where each pending LSP has the path that it had, as far as what is asked for goes
  pub pending_paths : (after : List (Key × PathFact)) → ((number : ℕ) (t : Tunnel) (lsp : TunnelLsp) → IsPendingBy tunnels number t lsp → let key = head_key r number t.endpoint lsp.id in option_map asked_of (find key_cmp key after) ≡ option_map asked_of (find key_cmp key paths))
      → AllByRecursion (IsPendingSignalled r after) tunnels
  pending_paths after same = pending_all r tunnels after in_order (λ number t lsp by. same number t lsp by ∙ pending_known r tunnels paths number t lsp are by)

  -- A path is put: the LSP isn't pending, or the same is asked for.
  pub pending_put : (key : Key) (fact : PathFact) → ((number : ℕ) (t : Tunnel) (lsp : TunnelLsp) → IsPendingBy tunnels number t lsp → key ≡ head_key r number t.endpoint lsp.id → Some (asked_of fact) ≡ option_map asked_of (find key_cmp key paths))
      → AllByRecursion (IsPendingSignalled r (put key_cmp key fact paths)) tunnels
  pending_put key fact same =
      pending_paths (put key_cmp key fact paths) (λ number t lsp by. by_key number t lsp by (is_eq (key_cmp (head_key r number t.endpoint lsp.id) key)) refl)
    where
      by_key : (number : ℕ) (t : Tunnel) (lsp : TunnelLsp) → IsPendingBy tunnels number t lsp → (tie : Bool) → is_eq (key_cmp (head_key r number t.endpoint lsp.id) key) ≡ tie
          → option_map asked_of (find key_cmp (head_key r number t.endpoint lsp.id) (put key_cmp key fact paths)) ≡ option_map asked_of (find key_cmp (head_key r number t.endpoint lsp.id) paths)
      by_key number t lsp by true tied =
          let own : key ≡ head_key r number t.endpoint lsp.id = sym (same_keys (head_key r number t.endpoint lsp.id) key tied) in
          subst (λ k. option_map asked_of (find key_cmp k (put key_cmp key fact paths)) ≡ option_map asked_of (find key_cmp k paths)) own
          (ap (option_map asked_of) (find-put_same key_cmp key_total key fact paths) ∙ same number t lsp by own)
      by_key number t lsp by false apart = ap (option_map asked_of) (find-put_other key_cmp key_total (head_key r number t.endpoint lsp.id) key fact paths apart)

  -- So it is with one that is a tunnel's LSP only where it was asked for the same.
  pub pending_put_head : (key : Key) (fact : PathFact) → (is_head r tunnels key ≡ true → Some (asked_of fact) ≡ option_map asked_of (find key_cmp key paths)) → AllByRecursion (IsPendingSignalled r (put key_cmp key fact paths)) tunnels
  pending_put_head key fact same =
      pending_put key fact (λ number t lsp by own. same (ap (is_head r tunnels) own ∙ is_head-pending r tunnels number t lsp by.found by.pending))

  -- Paths go, none of a tunnel's LSP.
  pub pending_where : (p : Key → Bool) → ((key : Key) → is_head r tunnels key ≡ true → p key ≡ true) → AllByRecursion (IsPendingSignalled r (where_key key_cmp p paths)) tunnels
  pending_where p keeps =
      pending_paths (where_key key_cmp p paths) (λ number t lsp by.
      let key = head_key r number t.endpoint lsp.id in
      ap (option_map asked_of)
      (find-where_key key_cmp p key (λ k tie. ap p (sym (key_exact key k tie))) paths
      ∙ ap (λ b. cond b (find key_cmp key paths) None) (keeps key (is_head-pending r tunnels number t lsp by.found by.pending))))

  -- Paths expire: one that begins here lives on.
  pub pending_expire : (n : ℕ) → T (is_sorted key_cmp paths) → AllByRecursion (IsHeadOf r tunnels) paths → AllByRecursion (IsPendingSignalled r (expire n paths)) tunnels
  unfolding expire
  pending_expire n sorted heads =
      pending_paths (expire n paths) (λ number t lsp by.
      let key = head_key r number t.endpoint lsp.id in
      ap (option_map asked_of) (find-map key_cmp (living n) key (filter (lives_on n) paths) ∙ ap (option_map (living n)) (find-filter key_cmp key_total (lives_on n) key (λ k v tied. refl) paths sorted))
      ∙ lives key (find key_cmp key paths) (head_known r tunnels key paths heads) (is_head-pending r tunnels number t lsp by.found by.pending))
    where
      by_begins : (begins : Bool) (lasts : Bool) (fact : PathFact) → begins ≡ true → option_map asked_of (option_map (living n) (then_some (begins || lasts) fact)) ≡ Some (asked_of fact)
      by_begins true lasts fact is = refl
      by_begins false lasts fact is = absurd (let e = is in cc)

      lives : (key : Key) (known : Option PathFact) → IfSome known (λ fact. IsHeadOf r tunnels (key, fact)) → is_head r tunnels key ≡ true
          → option_map asked_of (option_map (living n) (option_and_then (λ fact. then_some (lives_on n (key, fact)) fact) known)) ≡ option_map asked_of known
      lives key None heads head = refl
      lives key (Some fact) heads head = by_begins (begins_here fact.role) _ fact (heads ∙ head)

-- ---- tunnels change

module _ (r : Router) (tunnels : List (ℕ × Tunnel)) (paths : List (Key × PathFact)) (are : AllByRecursion (IsPendingSignalled r paths) tunnels) (number : ℕ) where
  -- a tunnel of another number is pending as before once one is put
  still_put : (t : Tunnel) (n : ℕ) (u : Tunnel) (lsp : TunnelLsp) → n ≢ number → IsPendingBy (put nat_cmp number t tunnels) n u lsp → IsPendingBy tunnels n u lsp
  still_put t n u lsp other by = record { found = sym (find-put_apart nat_cmp nat_cmp_total exact_unsigned n number t tunnels other) ∙ by.found; pending = by.pending }

  -- and the one of the number is the one that is put
  own_put : (t : Tunnel) (n : ℕ) (u : Tunnel) (lsp : TunnelLsp) → n ≡ number → IsPendingBy (put nat_cmp number t tunnels) n u lsp → t ≡ u
  own_put t n u lsp own by = same_Some t u (sym (find-put_same nat_cmp nat_cmp_total number t tunnels) ∙ ap (λ k. find nat_cmp k (put nat_cmp number t tunnels)) (sym own) ∙ by.found)

  -- A tunnel is put, and its LSP is signalled: where one is pending, it is this one.
  pub pending_begun : (t : Tunnel) (lsp : TunnelLsp) (way : Choice) → T (is_sorted nat_cmp (put nat_cmp number t tunnels)) → ((pending : TunnelLsp) → t.pending ≡ Some pending → pending ≡ lsp)
      → AllByRecursion (IsPendingSignalled r (put key_cmp (head_key r number t.endpoint lsp.id) (head_path t lsp way) paths)) (put nat_cmp number t tunnels)
  pending_begun t lsp way in_order its =
      let key = head_key r number t.endpoint lsp.id in
      let after = put key_cmp key (head_path t lsp way) paths in
      pending_all r (put nat_cmp number t tunnels) after in_order (λ n u l by.
      elim (cases_eq n number) as (λ c. IsSignalled after (head_key r n u.endpoint l.id) l) [
        | inl own ↦
            let same : t ≡ u = own_put t n u l own by in
            let new : lsp ≡ l = sym (its l (ap (λ (x : Tunnel). x.pending) same ∙ by.pending)) in
            subst (λ (x : ℕ × (Tunnel × TunnelLsp)). IsSignalled after (head_key r x.0 x.1.0.endpoint x.1.1.id) x.1.1) (λ i. (sym own i, (same i, new i)))
            (ap (option_map asked_of) (find-put_same key_cmp key_total key (head_path t lsp way) paths))
        | inr other ↦
            ap (option_map asked_of) (find-put_apart key_cmp key_total key_exact (head_key r n u.endpoint l.id) key (head_path t lsp way) paths (λ e. other (ap (λ (k : Key). k.session.tunnel) e)))
            ∙ pending_known r tunnels paths n u l are (still_put t n u l other by)
      ])

  -- A tunnel is put that is pending as the one of its number was.
  pub pending_same : (old t : Tunnel) → T (is_sorted nat_cmp (put nat_cmp number t tunnels)) → find nat_cmp number tunnels ≡ Some old → t.pending ≡ old.pending → t.endpoint ≡ old.endpoint → AllByRecursion (IsPendingSignalled r paths) (put nat_cmp number t tunnels)
  pending_same old t in_order found pending endpoint =
      pending_all r (put nat_cmp number t tunnels) paths in_order (λ n u l by.
      elim (cases_eq n number) as (λ c. IsSignalled paths (head_key r n u.endpoint l.id) l) [
        | inl own ↦
            let same : t ≡ u = own_put t n u l own by in
            let was : IsPendingBy tunnels number old l = record { found = found; pending = sym pending ∙ ap (λ (x : Tunnel). x.pending) same ∙ by.pending } in
            subst (λ (x : ℕ × Ipv4Addr). IsSignalled paths (head_key r x.0 x.1 l.id) l) (λ i. (sym own i, (sym endpoint ∙ ap (λ (x : Tunnel). x.endpoint) same) i)) (pending_known r tunnels paths number old l are was)
        | inr other ↦ pending_known r tunnels paths n u l are (still_put t n u l other by)
      ])

  -- an LSP of another tunnel is none of these
  none_of_other : (key : Key) (keys : List Key) → AllByRecursion (λ k. k.session.tunnel ≡ number) keys → key.session.tunnel ≢ number → is_one_of keys key ≡ false
  none_of_other key [] of other = refl
  none_of_other key (k ∷ keys) of other =
      ap (λ b. b || is_one_of keys key) (false_from_ne_true (is_eq (key_cmp k key)) (λ tie. other (ap (λ (q : Key). q.session.tunnel) (sym (same_keys k key tie)) ∙ of.0))) ∙ none_of_other key keys of.1 other

  -- those of a tunnel are of its number
  of_pending : (t : Tunnel) → AllByRecursion (λ k. k.session.tunnel ≡ number) (option_to_list (pending_key r (number, t)))
  of_pending t = by t.pending
    where
      by : (pending : Option TunnelLsp) → AllByRecursion (λ (k : Key). k.session.tunnel ≡ number) (option_to_list (option_map (λ lsp. head_key r number t.endpoint lsp.id) pending))
      by None = tt
      by (Some lsp) = (refl, tt)

  -- paths of LSPs of the number go
  gone_other : (keys : List Key) → AllByRecursion (λ k. k.session.tunnel ≡ number) keys → (n : ℕ) (u : Tunnel) (l : TunnelLsp) → n ≢ number
      → option_map asked_of (find key_cmp (head_key r n u.endpoint l.id) (where_key key_cmp (λ k. not (is_one_of keys k)) paths)) ≡ option_map asked_of (find key_cmp (head_key r n u.endpoint l.id) paths)
  gone_other keys of n u l other =
      let key = head_key r n u.endpoint l.id in
      let left : Key → Bool = λ k. not (is_one_of keys k) in
      ap (option_map asked_of)
      (find-where_key key_cmp left key (λ k tie. ap left (sym (key_exact key k tie))) paths ∙ ap (λ b. cond (not b) (find key_cmp key paths) None) (none_of_other key keys of other))

  -- The change of a tunnel is given up, with the LSP that was pending.
  pub pending_cancelled : (t : Tunnel) → T (is_sorted nat_cmp (put nat_cmp number (cancelled t) tunnels))
      → AllByRecursion (IsPendingSignalled r (where_key key_cmp (λ k. not (is_one_of (option_to_list (pending_key r (number, t))) k)) paths)) (put nat_cmp number (cancelled t) tunnels)
  pending_cancelled t in_order =
      let keys = option_to_list (pending_key r (number, t)) in
      let left = where_key key_cmp (λ k. not (is_one_of keys k)) paths in
      pending_all r (put nat_cmp number (cancelled t) tunnels) left in_order (λ n u l by.
      elim (cases_eq n number) as (λ c. IsSignalled left (head_key r n u.endpoint l.id) l) [
        | inl own ↦ absurd (let e = ap (λ (x : Tunnel). x.pending) (own_put (cancelled t) n u l own by) ∙ by.pending in cc)
        | inr other ↦ gone_other keys (of_pending t) n u l other ∙ pending_known r tunnels paths n u l are (still_put (cancelled t) n u l other by)
      ])

  -- A tunnel goes, with its LSPs.
  pub pending_dropped : (t : Tunnel) → T (is_sorted nat_cmp (where_key nat_cmp (λ k. not (is_eq (nat_cmp number k))) tunnels))
      → AllByRecursion (IsPendingSignalled r (where_key key_cmp (λ k. not (is_one_of (heads_of r (number, t)) k)) paths)) (where_key nat_cmp (λ k. not (is_eq (nat_cmp number k))) tunnels)
  pending_dropped t in_order =
      let keys = heads_of r (number, t) in
      let rest = where_key nat_cmp (λ k. not (is_eq (nat_cmp number k))) tunnels in
      let left = where_key key_cmp (λ k. not (is_one_of keys k)) paths in
      pending_all r rest left in_order (λ n u l by.
      elim (cases_eq n number) as (λ c. IsSignalled left (head_key r n u.endpoint l.id) l) [
        | inl own ↦ absurd (let e = sym (find-removed_same nat_cmp nat_cmp_total number tunnels) ∙ ap (λ k. find nat_cmp k rest) (sym own) ∙ by.found in cc)
        | inr other ↦
            gone_other keys (refl, of_pending t) n u l other
            ∙ pending_known r tunnels paths n u l are (record { found = sym (find-removed_apart nat_cmp nat_cmp_total exact_unsigned n number tunnels other) ∙ by.found; pending = by.pending })
      ])

-- where no change is going on, nothing is pending
pub pending_none : (r : Router) (paths : List (Key × PathFact)) (tunnels : List (ℕ × Tunnel)) → AreUnchanging tunnels → AllByRecursion (IsPendingSignalled r paths) tunnels
pending_none r paths [] rest = tt
pending_none r paths (tunnel ∷ tunnels) rest = (subst (λ pending. IfSome pending (λ lsp. IsSignalled paths (head_key r tunnel.0 tunnel.1.endpoint lsp.id) lsp)) (sym rest.0) tt, pending_none r paths tunnels rest.1)

-- All changes are given up.
pub pending_all_cancelled : (r : Router) (paths : List (Key × PathFact)) (tunnels : List (ℕ × Tunnel)) → AllByRecursion (IsPendingSignalled r paths) (all_cancelled tunnels)
pending_all_cancelled r paths [] = tt
pending_all_cancelled r paths (tunnel ∷ tunnels) = (tt, pending_all_cancelled r paths tunnels)

-- A tunnel's current LSP is signalled: that isn't one that is pending.
pub pending_current : (r : Router) (tunnels : List (ℕ × Tunnel)) (paths : List (Key × PathFact)) (tunnel : ℕ × Tunnel) (way : Choice) → AreTunnels r tunnels → find nat_cmp tunnel.0 tunnels ≡ Some tunnel.1 → AllByRecursion (IsPendingSignalled r paths) tunnels
    → AllByRecursion (IsPendingSignalled r (put key_cmp (current_key r tunnel) (head_path tunnel.1 tunnel.1.current way) paths)) tunnels
pending_current r tunnels paths tunnel way stand found are =
    pending_put r tunnels paths stand.in_order are (current_key r tunnel) (head_path tunnel.1 tunnel.1.current way) (λ number t lsp by same.
    let own : tunnel.1 ≡ t = same_Some tunnel.1 t (sym found ∙ ap (λ (k : Key). find nat_cmp k.session.tunnel tunnels) same ∙ by.found) in
    let other : IsPendingAs r t (Some lsp) = subst (IsPendingAs r t) by.pending (tunnel_known r number t tunnels stand by.found).pending in
    absurd (other.1 (sym (ap (λ (k : Key). k.sender.lsp) same) ∙ ap (λ (u : Tunnel). u.current.id) own)))
