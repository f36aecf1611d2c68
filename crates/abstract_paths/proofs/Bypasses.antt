-- The table of bypasses keeps what holds of it, whichever change is made of it or of the tunnels.
use Rattle.std.specs.Prelude.{◌≡◌, ◌≢◌, ℕ, ◌==◌, ◌&&◌, Bool, true, false, cond, not, nat_le, nat_lt, List, [], ◌∷◌, length, Option, Some, None, IfSome, is_some, option_map}
use Rattle.std.specs.FinMap.Entries.{find, put, where_key, find-put, is_sorted-put, is_sorted-where_key, length-put}
use Rattle.std.specs.List.{AllByRecursion}
use Rattle.std.specs.Option.{option_map_or}
use Rattle.std.specs.Ordering.{eq_by_cmp, is_eq, nat_cmp}
use Rattle.std.proofs.Common.{refl, ap, subst, sym, ◌∙◌, arith}
use Rattle.std.proofs.lemmas.Bool.{and_from, and_parts, eq-eqb, le-leb, ltb-false, or_parts}
use Rattle.std.proofs.lemmas.Cmp.{nat_cmp_total}
use Rattle.std.proofs.lemmas.Map.Lookups.{exact_unsigned}
use Rattle.sorted_rows.specs.ListLaws.{all-always, all-both, all-filter}
use Rattle.sorted_rows.specs.RowsLaws.{all-put_row, find-map, find-removed_apart, ties}
use Rattle.rsvp_bodies.specs.declared.step.Step.{Step}
use Rattle.rsvp_bodies.specs.Traffic.{rate_asked}
use Rattle.lsr_facts.specs.Bypasses.{AreBypasses, IsBypass, carries, is_above_rate, is_for_bypass}
use Rattle.lsr_facts.specs.Changes.{begun, cancelled, switched, switched_to}
use Rattle.lsr_facts.specs.declared.bypass.Bypass.{Bypass}
use Rattle.lsr_facts.specs.declared.router.Router.{Router}
use Rattle.lsr_facts.specs.declared.tunnel.Tunnel.{Tunnel}
use Rattle.lsr_facts.specs.declared.tunnel.TunnelLsp.{TunnelLsp}
use Rattle.abstract_paths.proofs.TunnelTable.{room_for_one}
use Rattle.abstract_paths.specs.Restarts.{all_cancelled}
use Rattle.abstract_paths.specs.RowLaws.{length-filter_most}

-- ---- what a tunnel carries, as it changes

-- A change that is given up takes nothing away.
pub cancelled_carries : (capacity : ℕ) (t : Tunnel) → carries capacity t ≡ true → carries capacity (cancelled t) ≡ true
cancelled_carries capacity t is = and_from _ true (and_parts _ _ is).0 refl

-- The LSP that takes the current one's place carries it as well.
pub switched_carries : (capacity : ℕ) (t : Tunnel) → carries capacity t ≡ true → carries capacity (switched t) ≡ true
switched_carries capacity t is = by t.pending is (and_parts _ _ is).1
  where
    by : (lsp : Option TunnelLsp) → carries capacity t ≡ true → option_map_or (λ (new : TunnelLsp). nat_le capacity (rate_asked new.tspec)) lsp true ≡ true → carries capacity (switched_to lsp t) ≡ true
    by None is pending = is
    by (Some lsp) is pending = and_from _ true pending refl

-- What begins carries what the tunnel did, where the new rate isn't below it.
begun_carries : (capacity : ℕ) (route : List Step) (tspec : List ℕ) (t : Tunnel) → nat_lt (rate_asked tspec) capacity ≡ false → carries capacity t ≡ true → carries capacity (begun route tspec t) ≡ true
begun_carries capacity route tspec t most is = and_from _ _ (and_parts _ _ is).0 (le-leb capacity (rate_asked tspec) (ltb-false (rate_asked tspec) capacity most))

-- ---- the bypasses, as tunnels change

-- a bypass of this capacity has its tunnel, which carries it
abbrev Serves : ℕ → Option Tunnel → Type 0
Serves capacity found = (is_some found ≡ true) × (option_map_or (carries capacity) found true ≡ true)

-- it has it still, once tunnels have changed
abbrev ServesStill : List (ℕ × Tunnel) → List (ℕ × Tunnel) → ℕ × Bypass → Type 0
ServesStill before after bypass = Serves bypass.1.capacity (find nat_cmp bypass.1.tunnel before) → Serves bypass.1.capacity (find nat_cmp bypass.1.tunnel after)

-- what is put in the place of a bypass's tunnel carries its capacity, where that tunnel did
abbrev IsReplaced : ℕ → Option Tunnel → Tunnel → ℕ × Bypass → Type 0
IsReplaced number known t bypass = (bypass.1.tunnel == number) ≡ true → IfSome known (λ before. carries bypass.1.capacity before ≡ true → carries bypass.1.capacity t ≡ true)

module _ (r : Router) where
  module _ (before after : List (ℕ × Tunnel)) (bypasses : List (ℕ × Bypass)) where
    kept : AllByRecursion (ServesStill before after) bypasses → AreBypasses r before bypasses → AreBypasses r after bypasses
    kept still are = record {
      in_order = are.in_order;
      few = are.few;
      each = all-both (ServesStill before after) (IsBypass r before) (IsBypass r after) (λ bypass stays is. let then = stays (is.runs, is.carried) in record { protects = is.protects; runs = then.0; carried = then.1 }) bypasses still are.each;
    }

    -- Tunnels change, each under its number, and each carries what it did.
    pub bypasses_mapped : (f : ℕ → Tunnel → Tunnel) → ((q : ℕ) → find nat_cmp q after ≡ option_map (f q) (find nat_cmp q before)) → ((q capacity : ℕ) (t : Tunnel) → carries capacity t ≡ true → carries capacity (f q t) ≡ true)
        → AreBypasses r before bypasses → AreBypasses r after bypasses
    bypasses_mapped f found carry = kept (all-always (ServesStill before after) each bypasses)
      where
        each : (bypass : ℕ × Bypass) → ServesStill before after bypass
        each bypass serves = subst (Serves bypass.1.capacity) (sym (found bypass.1.tunnel)) (by (find nat_cmp bypass.1.tunnel before) serves)
          where
            by : (known : Option Tunnel) → Serves bypass.1.capacity known → Serves bypass.1.capacity (option_map (f bypass.1.tunnel) known)
            by None serves = serves
            by (Some t) serves = (refl, carry bypass.1.tunnel bypass.1.capacity t serves.1)

  module _ (tunnels : List (ℕ × Tunnel)) (bypasses : List (ℕ × Bypass)) where
    put_over : (number : ℕ) (t : Tunnel) → AllByRecursion (IsReplaced number (find nat_cmp number tunnels) t) bypasses → AreBypasses r tunnels bypasses → AreBypasses r (put nat_cmp number t tunnels) bypasses
    put_over number t replaced = kept tunnels (put nat_cmp number t tunnels) bypasses (all-both (IsReplaced number (find nat_cmp number tunnels) t) (λ bypass. Unit {0}) (ServesStill tunnels (put nat_cmp number t tunnels)) each bypasses replaced (all-always (λ bypass. Unit {0}) (λ bypass. tt) bypasses))
      where
        each : (bypass : ℕ × Bypass) → IsReplaced number (find nat_cmp number tunnels) t bypass → Unit {0} → ServesStill tunnels (put nat_cmp number t tunnels) bypass
        each bypass new always serves =
            subst (Serves bypass.1.capacity) (sym (find-put nat_cmp nat_cmp_total bypass.1.tunnel number t tunnels))
            (elim (eq_by_cmp nat_cmp bypass.1.tunnel number) as (λ b. eq_by_cmp nat_cmp bypass.1.tunnel number ≡ b → Serves bypass.1.capacity (cond b (Some t) (find nat_cmp bypass.1.tunnel tunnels))) [
              | true ↦ λ tie.
                  let same : bypass.1.tunnel ≡ number = exact_unsigned bypass.1.tunnel number (ties _ tie) in
                  own (find nat_cmp number tunnels) (new (eq-eqb bypass.1.tunnel number same)) (subst (λ q. Serves bypass.1.capacity (find nat_cmp q tunnels)) same serves)
              | false ↦ λ other. serves
            ] refl)
          where
            own : (known : Option Tunnel) → IfSome known (λ before. carries bypass.1.capacity before ≡ true → carries bypass.1.capacity t ≡ true) → Serves bypass.1.capacity known → Serves bypass.1.capacity (Some t)
            own None new serves = absurd (let e = serves.0 in cc)
            own (Some before) new serves = (refl, new serves.1)

    -- A tunnel begins.
    pub bypasses_tunnel_new : (number : ℕ) (t : Tunnel) → find nat_cmp number tunnels ≡ None → AreBypasses r tunnels bypasses → AreBypasses r (put nat_cmp number t tunnels) bypasses
    bypasses_tunnel_new number t none = put_over number t (all-always (IsReplaced number (find nat_cmp number tunnels) t) (λ bypass own. subst (λ known. IfSome known (λ before. carries bypass.1.capacity before ≡ true → carries bypass.1.capacity t ≡ true)) (sym none) tt) bypasses)

    -- A tunnel changes, and carries what it did.
    pub bypasses_tunnel_put : (number : ℕ) (known t : Tunnel) → find nat_cmp number tunnels ≡ Some known → ((capacity : ℕ) → carries capacity known ≡ true → carries capacity t ≡ true) → AreBypasses r tunnels bypasses → AreBypasses r (put nat_cmp number t tunnels) bypasses
    bypasses_tunnel_put number known t found carry =
        put_over number t (all-always (IsReplaced number (find nat_cmp number tunnels) t) (λ bypass own. subst (λ o. IfSome o (λ before. carries bypass.1.capacity before ≡ true → carries bypass.1.capacity t ≡ true)) (sym found) (carry bypass.1.capacity)) bypasses)

    -- A change of a tunnel begins, to a rate that isn't below the capacity of a bypass in it.
    pub bypasses_tunnel_begun : (number : ℕ) (known : Tunnel) (route : List Step) (tspec : List ℕ) → find nat_cmp number tunnels ≡ Some known → is_above_rate bypasses number (rate_asked tspec) ≡ false → AreBypasses r tunnels bypasses → AreBypasses r (put nat_cmp number (begun route tspec known) tunnels) bypasses
    bypasses_tunnel_begun number known route tspec found most =
        put_over number (begun route tspec known) (subst (λ o. AllByRecursion (IsReplaced number o (begun route tspec known)) bypasses) (sym found) (all_begun bypasses most))
      where
        all_begun : (rows : List (ℕ × Bypass)) → is_above_rate rows number (rate_asked tspec) ≡ false → AllByRecursion (IsReplaced number (Some known) (begun route tspec known)) rows
        all_begun [] most = tt
        all_begun (bypass ∷ rows) most =
            let parts = or_parts _ (is_above_rate rows number (rate_asked tspec)) most in
            (λ own. begun_carries bypass.1.capacity route tspec known (sym (ap (λ b. b && nat_lt (rate_asked tspec) bypass.1.capacity) own) ∙ parts.0), all_begun rows parts.1)

    -- A tunnel goes that no bypass runs in.
    pub bypasses_tunnel_gone : (number : ℕ) → is_for_bypass bypasses number ≡ false → AreBypasses r tunnels bypasses → AreBypasses r (where_key nat_cmp (λ k. not (is_eq (nat_cmp number k))) tunnels) bypasses
    bypasses_tunnel_gone number free = kept tunnels left bypasses (all_other bypasses free)
      where
        left : List (ℕ × Tunnel)
        left = where_key nat_cmp (λ k. not (is_eq (nat_cmp number k))) tunnels

        other : (bypass : ℕ × Bypass) → (bypass.1.tunnel == number) ≡ false → bypass.1.tunnel ≢ number
        other bypass apart same = let e : true ≡ false = sym (eq-eqb bypass.1.tunnel number same) ∙ apart in cc

        all_other : (rows : List (ℕ × Bypass)) → is_for_bypass rows number ≡ false → AllByRecursion (ServesStill tunnels left) rows
        all_other [] free = tt
        all_other (bypass ∷ rows) free =
            let parts = or_parts (bypass.1.tunnel == number) (is_for_bypass rows number) free in
            (subst (Serves bypass.1.capacity) (sym (find-removed_apart nat_cmp nat_cmp_total exact_unsigned bypass.1.tunnel number tunnels (other bypass parts.0))), all_other rows parts.1)

    -- All changes of tunnels are given up.
    pub bypasses_cancelled : AreBypasses r tunnels bypasses → AreBypasses r (all_cancelled tunnels) bypasses
    bypasses_cancelled = bypasses_mapped tunnels (all_cancelled tunnels) bypasses (λ q. cancelled) (λ q. find-map nat_cmp cancelled q tunnels) (λ q capacity t. cancelled_carries capacity t)

    -- A bypass is put, where there is room for it.
    pub bypasses_put : (number : ℕ) (b : Bypass) → AreBypasses r tunnels bypasses → IsBypass r tunnels (number, b) → nat_le 64 (length bypasses) ≡ false → AreBypasses r tunnels (put nat_cmp number b bypasses)
    bypasses_put number b are is room = record {
      in_order = is_sorted-put nat_cmp nat_cmp_total number b bypasses are.in_order;
      few = room_for_one 64 (find nat_cmp number bypasses) (length bypasses) (length (put nat_cmp number b bypasses)) (length-put nat_cmp nat_cmp_total number b bypasses are.in_order) room;
      each = all-put_row nat_cmp (IsBypass r tunnels) number b (λ k tied. record { protects = is.protects; runs = is.runs; carried = is.carried }) is bypasses are.each;
    }

    -- Bypasses go, by a test of their numbers.
    pub bypasses_where : (p : ℕ → Bool) → AreBypasses r tunnels bypasses → AreBypasses r tunnels (where_key nat_cmp p bypasses)
    bypasses_where p are = record {
      in_order = is_sorted-where_key nat_cmp p bypasses are.in_order;
      few = omega (arith, are.few, length-filter_most (λ (bypass : ℕ × Bypass). p bypass.0) bypasses);
      each = all-filter (IsBypass r tunnels) (λ bypass. p bypass.0) bypasses are.each;
    }
