-- What bypasses run over that are up: a link that is up, under a number that may stand for a label.
use Rattle.std.specs.Prelude.{◌≡◌, ℕ, true, false, cond, IfSome, Option, Some, None}
use Rattle.std.specs.FinMap.Entries.{find}
use Rattle.std.specs.List.{AllByRecursion}
use Rattle.std.specs.Option.{option_and_then, option_map, option_map_or}
use Rattle.std.specs.Ordering.{nat_cmp}
use Rattle.std.proofs.Common.{refl, subst}
use Rattle.std.proofs.lemmas.Bool.{and_parts}
use Rattle.sorted_rows.specs.ListLaws.{all-weaker}
use Rattle.sorted_rows.specs.RowsLaws.{find-all}
use Rattle.lsr_facts.specs.Orders.{key_cmp}
use Rattle.lsr_facts.specs.Tunnels.{current_key}
use Rattle.lsr_facts.specs.declared.bypass.Bypass.{Bypass}
use Rattle.lsr_facts.specs.declared.key.Key.{Key}
use Rattle.lsr_facts.specs.declared.router.Router.{Router}
use Rattle.lsr_facts.specs.declared.tunnel.Tunnel.{Tunnel}
use Rattle.lsr_facts.specs.declared.repair.BypassTunnel.{BypassTunnel}
use Rattle.lsr_facts.specs.declared.repair.Over.{Over}
use Rattle.lsr_facts.specs.declared.resv_fact.ResvFact.{ResvFact}
use Rattle.forwarding_table.specs.Labels.{is_label}
use Rattle.abstract_paths.specs.Places.{is_up}
use Rattle.abstract_paths.specs.Tears.{leaves_by}
use Rattle.abstract_router.specs.BypassTunnels.{bypass_tunnel_of, bypass_tunnels_of, over_at, over_by, over_of}
use Rattle.abstract_router.specs.Soundness.{IsResv}
use Rattle.abstract_router.specs.Standing.{stands}
use Rattle.abstract_router.specs.States.{State}
use Rattle.abstract_router.specs.UpstreamLaws.{all-filter_map}
use Rattle.facility_backup.specs.Asking.{row_by}

-- What a bypass runs over that is up.
pub record IsOver (s : State) (over : Over) : Type 0 where
  pub label : is_label over.label ≡ true
  pub up : is_up s.facts.up over.link ≡ true

-- so it is by a reservation
by_is : (s : State) (key : Key) (resv : ResvFact) → is_label resv.label ≡ true → IfSome (over_by s.facts key resv) (IsOver s)
by_is s key resv label =
    elim (stands s.facts (key, resv)) as (λ b. stands s.facts (key, resv) ≡ b → IfSome (cond b (Some (record { link = resv.link; label = resv.label })) None) (IsOver s)) [
      | true ↦ λ stood. record { label = label; up = (and_parts (is_up s.facts.up resv.link) (option_map_or (leaves_by resv.link) (find key_cmp key s.facts.paths) false) stood).0 }
      | false ↦ λ falls. tt
    ] refl

-- by one that is found
found_is : (s : State) (key : Key) (resv : Option ResvFact) → IfSome resv (λ resv. is_label resv.label ≡ true) → IfSome (option_and_then (over_by s.facts key) resv) (IsOver s)
found_is s key None label = tt
found_is s key (Some resv) label = by_is s key resv label

-- of a tunnel
of_is : (r : Router) (s : State) (tunnel : ℕ × Tunnel) → AllByRecursion (λ resv. is_label resv.1.label ≡ true) s.resvs → IfSome (over_of r s tunnel) (IsOver s)
of_is r s tunnel labels = found_is s (current_key r tunnel) (find key_cmp (current_key r tunnel) s.resvs) (find-all key_cmp (λ resv. is_label resv.label ≡ true) (current_key r tunnel) s.resvs labels)

-- of a bypass
row_is : (r : Router) (s : State) → AllByRecursion (λ resv. is_label resv.1.label ≡ true) s.resvs → (bypass : ℕ × Bypass) → IfSome {T = ℕ × BypassTunnel} (row_by r s bypass) (λ row. IfSome row.1.over (IsOver s))
row_is r s labels bypass = by (find nat_cmp bypass.1.tunnel s.facts.tunnels)
  where
    by : (tunnel : Option Tunnel) → IfSome {T = ℕ × BypassTunnel} (option_map (λ (bypass_tunnel : BypassTunnel). (bypass.0, bypass_tunnel)) (option_map (bypass_tunnel_of r s bypass.1) tunnel)) (λ row. IfSome row.1.over (IsOver s))
    by None = tt
    by (Some tunnel) = of_is r s (bypass.1.tunnel, tunnel) labels

-- and of all
all_are : (r : Router) (s : State) → AllByRecursion (λ resv. is_label resv.1.label ≡ true) s.resvs → AllByRecursion (λ row. IfSome row.1.over (IsOver s)) (bypass_tunnels_of r s)
unfolding bypass_tunnels_of
all_are r s labels = all-filter_map (λ (row : ℕ × BypassTunnel). IfSome row.1.over (IsOver s)) (row_by r s) (row_is r s labels) s.facts.bypasses

-- so of the one that is found
at_is : (s : State) (bypass_tunnel : Option BypassTunnel) → IfSome bypass_tunnel (λ bypass_tunnel. IfSome bypass_tunnel.over (IsOver s)) → IfSome (option_and_then (λ (bypass_tunnel : BypassTunnel). bypass_tunnel.over) bypass_tunnel) (IsOver s)
at_is s None h = tt
at_is s (Some bypass_tunnel) h = h

-- What the bypass of a number runs over is a link that is up, under a label, where each reservation's label is one.
pub over_is : (m : ℕ) (r : Router) (s : State) (number : ℕ) (over : Over) → over_at (bypass_tunnels_of r s) number ≡ Some over → AllByRecursion (IsResv m) s.resvs → IsOver s over
over_is m r s number over found resvs =
    let labels = all-weaker (IsResv m) (λ (resv : Key × ResvFact). is_label resv.1.label ≡ true) (λ resv is. is.label) s.resvs resvs in
    let each = find-all nat_cmp (λ (bypass_tunnel : BypassTunnel). IfSome bypass_tunnel.over (IsOver s)) number (bypass_tunnels_of r s) (all_are r s labels) in
    subst (λ over. IfSome over (IsOver s)) found (at_is s (find nat_cmp number (bypass_tunnels_of r s)) each)
