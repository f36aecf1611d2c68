-- The LSPs that tunnels give up are heads; all others have the paths that they had.
use Rattle.std.specs.Prelude.{◌≡◌, ℕ, Bool, true, false, cond, not, List, [], ◌∷◌, filter, map, Some, None}
use Rattle.std.specs.FinMap.Entries.{find, find-where_key}
use Rattle.std.specs.List.{AllByRecursion}
use Rattle.std.specs.Ordering.{is_eq, nat_cmp}
use Rattle.std.proofs.Common.{sym, ap, subst, ◌∙◌, inl, inr}
use Rattle.std.proofs.lemmas.Bool.{false_from_ne_true, or_cases}
use Rattle.std.proofs.lemmas.Cmp.{nat_cmp_total}
use Rattle.sorted_rows.specs.RowsLaws.{all_found, ties}
use Rattle.lsr_facts.specs.OrderLaws.{key_exact}
use Rattle.lsr_facts.specs.Orders.{is_one_of, key_cmp}
use Rattle.lsr_facts.specs.Tunnels.{AreTunnels, current_key, is_head}
use Rattle.lsr_facts.specs.declared.key.Key.{Key}
use Rattle.lsr_facts.specs.declared.router.Router.{Router}
use Rattle.lsr_facts.specs.declared.tunnel.Tunnel.{Tunnel}
use Rattle.abstract_paths.proofs.Heads.{is_head-current}
use Rattle.abstract_router.specs.States.{State}
use Rattle.abstract_router.specs.Steps.{given_up, is_ready, taken_over}

module _ (r : Router) (ready : ℕ × Tunnel → Bool) (all : List (ℕ × Tunnel)) (key : Key) where
  -- a key that is one of those that these tunnels give up is a head
  heads_given_up : (tunnels : List (ℕ × Tunnel)) → AllByRecursion (λ tunnel. find nat_cmp tunnel.0 all ≡ Some tunnel.1) tunnels → is_one_of (map (current_key r) (filter ready tunnels)) key ≡ true → is_head r all key ≡ true
  heads_given_up [] found one = absurd (let e = one in cc)
  heads_given_up (tunnel ∷ tunnels) found one =
      elim (ready tunnel) as (λ b. is_one_of (map (current_key r) (cond b (tunnel ∷ filter ready tunnels) (filter ready tunnels))) key ≡ true → is_head r all key ≡ true) [
        | true ↦ λ some. elim (or_cases (is_eq (key_cmp (current_key r tunnel) key)) (is_one_of (map (current_key r) (filter ready tunnels)) key) some) as (λ c. is_head r all key ≡ true) [
          | inl own ↦ subst (λ k. is_head r all k ≡ true) (key_exact (current_key r tunnel) key (ties _ own)) (is_head-current r all tunnel.0 tunnel.1 found.0)
          | inr later ↦ heads_given_up tunnels found.1 later
        ]
        | false ↦ λ some. heads_given_up tunnels found.1 some
      ] one

module _ (r : Router) (s : State) where
  -- A key that is no head isn't given up.
  pub not_given_up : AreTunnels r s.facts.tunnels → (key : Key) → is_head r s.facts.tunnels key ≡ false → is_one_of (given_up r s) key ≡ false
  not_given_up are key none =
      false_from_ne_true (is_one_of (given_up r s) key) (λ one.
      let head = heads_given_up r (is_ready r s) s.facts.tunnels key s.facts.tunnels (all_found nat_cmp nat_cmp_total s.facts.tunnels are.in_order) one in
      absurd (let e = sym none ∙ head in cc))

  -- One that isn't given up has the path that it had.
  pub path_left : (key : Key) → is_one_of (given_up r s) key ≡ false → find key_cmp key (taken_over r s).facts.paths ≡ find key_cmp key s.facts.paths
  unfolding taken_over
  path_left key none =
      let left = λ (k : Key). not (is_one_of (given_up r s) k) in
      find-where_key key_cmp left key (λ x tie. ap left (sym (key_exact key x tie))) s.facts.paths ∙ ap (λ b. cond (not b) (find key_cmp key s.facts.paths) None) none
