-- A command leaves the bypass of each repair the capacity that it has.
use Rattle.std.specs.Prelude.{◌≡◌, ◌+◌, ◌==◌, not, true, false, Option, Some, None, is_some}
use Rattle.std.specs.FinMap.Entries.{find, put, where_key}
use Rattle.std.specs.List.{AllByRecursion}
use Rattle.std.specs.Option.{option_map_or}
use Rattle.std.specs.Ordering.{is_eq, nat_cmp}
use Rattle.std.proofs.Common.{refl, sym, ap, ◌∙◌}
use Rattle.std.proofs.lemmas.Bool.{and_parts, eq-eqb}
use Rattle.std.proofs.lemmas.Cmp.{nat_cmp_total}
use Rattle.std.proofs.lemmas.Map.Lookups.{exact_unsigned}
use Rattle.sorted_rows.specs.ListLaws.{all-always, all-weaker}
use Rattle.sorted_rows.specs.RowsLaws.{find-put_apart, find-removed_apart}
use Rattle.lsr_facts.specs.Changes.{begun}
use Rattle.lsr_facts.specs.Orders.{key_cmp}
use Rattle.lsr_facts.specs.declared.bypass.Bypass.{Bypass}
use Rattle.lsr_facts.specs.declared.facts.Facts.{Facts}
use Rattle.lsr_facts.specs.declared.key.Key.{Key}
use Rattle.lsr_facts.specs.declared.repair.Repair.{Repair}
use Rattle.lsr_facts.specs.declared.router.Router.{Router}
use Rattle.lsr_facts.specs.declared.tunnel.Tunnel.{Tunnel}
use Rattle.abstract_paths.proofs.Alongside.{with_head-same}
use Rattle.abstract_paths.proofs.Commanding.{all_fail}
use Rattle.abstract_paths.specs.Commands.{bypass_by, commanded, refusal_of, tests_of, tunnel_by, with_cancelled, with_change, with_dropped}
use Rattle.abstract_paths.specs.Tears.{leaves_by}
use Rattle.abstract_paths.specs.declared.commands.Command.{Command}
use Rattle.abstract_paths.specs.declared.commands.Command.TheVariants.{AddBypass, AddRoute, AddTunnel, CancelChange, ChangeTunnel, DropBypass, DropRoute, DropTunnel}
use Rattle.router_soundness.proofs.BypassTunnels.{runs-up}
use Rattle.router_soundness.proofs.Serving.{IsAsBefore, of_none}
use Rattle.abstract_router.specs.Arrivals.{takes_used_bypass}
use Rattle.abstract_router.specs.Assigning.{capacity_in}
use Rattle.abstract_router.specs.BypassTunnels.{bypass_tunnels_of, over_at}
use Rattle.abstract_router.specs.Repairing.{repair_stands}
use Rattle.abstract_router.specs.Soundness.{IsSound}
use Rattle.abstract_router.specs.States.{State}

module _ (r : Router) (s : State) where
  -- each bypass over which an LSP is repaired has the capacity that it has
  abbrev AreAsBefore : Facts → Type 0
  AreAsBefore after = AllByRecursion (λ (repair : Key × Repair). IsAsBefore after.bypasses s.facts.bypasses repair.1.bypass) s.repairs

  same_bypasses : (after : Facts) → after.bypasses ≡ s.facts.bypasses → AreAsBefore after
  same_bypasses after same = all-always (λ (repair : Key × Repair). IsAsBefore after.bypasses s.facts.bypasses repair.1.bypass) (λ repair. ap (λ bypasses. capacity_in bypasses repair.1.bypass) same) s.repairs

  -- a bypass that an LSP is repaired over is known
  known_bypass : IsSound r s → (repair : Key × Repair) → repair_stands r s repair ≡ true → is_some (find nat_cmp repair.1.bypass s.facts.bypasses) ≡ true
  known_bypass is repair stands =
      ap is_some (runs-up r s repair.1.bypass is.paths.bypasses.in_order (and_parts (is_some (over_at (bypass_tunnels_of r s) repair.1.bypass)) (option_map_or (leaves_by repair.1.resv.link) (find key_cmp repair.0 s.facts.paths) false) stands).0).known

  -- A command that isn't refused.
  pub capacities_commanded : (c : Command) → IsSound r s → refusal_of r s.facts c ≡ None → takes_used_bypass s c ≡ false → AreAsBefore (commanded r s.facts c)
  capacities_commanded (AddTunnel t) is none other = same_bypasses (commanded r s.facts (AddTunnel t)) (ap (λ (x : Facts). x.bypasses) (with_head-same r (t.number, tunnel_by t) (tunnel_by t).current s.facts))
  capacities_commanded (ChangeTunnel c) is none other = by (find nat_cmp c.number s.facts.tunnels)
    where
      by : (known : Option Tunnel) → AreAsBefore (option_map_or (λ t. with_change r c.number (begun c.route c.tspec t) s.facts) known s.facts)
      by None = same_bypasses s.facts refl
      by (Some t) = same_bypasses (with_change r c.number (begun c.route c.tspec t) s.facts) (ap (λ (x : Facts). x.bypasses) (with_head-same r (c.number, begun c.route c.tspec t) (record { id = t.last + 1; route = c.route; tspec = c.tspec }) s.facts))
  capacities_commanded (CancelChange number) is none other = by (find nat_cmp number s.facts.tunnels)
    where
      by : (known : Option Tunnel) → AreAsBefore (option_map_or (λ t. with_cancelled r number t s.facts) known s.facts)
      by None = same_bypasses s.facts refl
      by (Some t) = same_bypasses (with_cancelled r number t s.facts) refl
  capacities_commanded (DropTunnel number) is none other = by (find nat_cmp number s.facts.tunnels)
    where
      by : (known : Option Tunnel) → AreAsBefore (option_map_or (λ t. with_dropped r number t s.facts) known s.facts)
      by None = same_bypasses s.facts refl
      by (Some t) = same_bypasses (with_dropped r number t s.facts) refl
  capacities_commanded (AddBypass b) is none other =
      let new = (all_fail (tests_of r s.facts (AddBypass b)) none).1.1.0 in
      all-weaker (λ repair. repair_stands r s repair ≡ true) (λ repair. IsAsBefore (put nat_cmp b.number (bypass_by b) s.facts.bypasses) s.facts.bypasses repair.1.bypass)
      (λ repair stands.
      ap (λ o. option_map_or (λ (bypass : Bypass). bypass.capacity) o 0)
      (find-put_apart nat_cmp nat_cmp_total exact_unsigned repair.1.bypass b.number (bypass_by b) s.facts.bypasses
      (λ same. absurd (let there = ap (λ number. is_some (find nat_cmp number s.facts.bypasses)) (sym same) ∙ known_bypass is repair stands in let e = sym new ∙ there in cc))))
      s.repairs is.repairs_standing
  capacities_commanded (DropBypass number) is none other =
      all-weaker (λ repair. (repair.1.bypass == number) ≡ false) (λ repair. IsAsBefore (where_key nat_cmp (λ k. not (is_eq (nat_cmp number k))) s.facts.bypasses) s.facts.bypasses repair.1.bypass)
      (λ repair apart.
      ap (λ o. option_map_or (λ (bypass : Bypass). bypass.capacity) o 0)
      (find-removed_apart nat_cmp nat_cmp_total exact_unsigned repair.1.bypass number s.facts.bypasses (λ same. absurd (let e = eq-eqb repair.1.bypass number same in let f = apart in cc))))
      s.repairs (of_none number s.repairs other)
  capacities_commanded (AddRoute prefix link) is none other = same_bypasses (commanded r s.facts (AddRoute prefix link)) refl
  capacities_commanded (DropRoute prefix) is none other = same_bypasses (commanded r s.facts (DropRoute prefix)) refl
