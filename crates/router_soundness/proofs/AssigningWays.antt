-- The ways around a lost link lead over bypasses that are up, and each has the bandwidth to promise that its bypass has. They
-- are the same once reservations went that stand no more.
use Rattle.std.specs.Prelude.{◌≡◌, ℕ, ◌==◌, not, Bool, true, false, cond, T, [], filter, Option, Some, None, is_some, IfSome}
use Rattle.std.specs.Bool.{then_some}
use Rattle.std.specs.FinMap.Entries.{find, is_sorted}
use Rattle.std.specs.List.{AllByRecursion}
use Rattle.std.specs.Option.{option_and_then, option_map, option_map_or, unwrap_or}
use Rattle.std.specs.Ordering.{nat_cmp}
use Rattle.std.proofs.Common.{refl, ap, sym, ◌∙◌}
use Rattle.std.proofs.lemmas.Bool.{and_parts, cond_both, not-false}
use Rattle.std.proofs.lemmas.Cmp.{nat_cmp_total}
use Rattle.std.proofs.lemmas.Map.Lookups.{exact_unsigned}
use Rattle.sorted_rows.specs.ListLaws.{all-always, all-append, all-both, all-filter, filter_map_agree_within}
use Rattle.sorted_rows.specs.RowsLaws.{all_found, find-filter}
use Rattle.lsr_facts.specs.OrderLaws.{key_exact, key_total}
use Rattle.lsr_facts.specs.Orders.{key_cmp}
use Rattle.lsr_facts.specs.Tunnels.{current_key}
use Rattle.lsr_facts.specs.declared.bypass.Bypass.{Bypass}
use Rattle.lsr_facts.specs.declared.key.Key.{Key}
use Rattle.lsr_facts.specs.declared.path_fact.PathFact.{PathFact}
use Rattle.lsr_facts.specs.declared.repair.BypassTunnel.{BypassTunnel}
use Rattle.lsr_facts.specs.declared.repair.Over.{Over}
use Rattle.lsr_facts.specs.declared.repair.Selected.{Selected}
use Rattle.lsr_facts.specs.declared.resv_fact.ResvFact.{ResvFact}
use Rattle.lsr_facts.specs.declared.router.Router.{Router}
use Rattle.lsr_facts.specs.declared.tunnel.Tunnel.{Tunnel}
use Rattle.abstract_paths.specs.RowLaws.{option_map-holds}
use Rattle.abstract_paths.specs.TouchedLaws.{is_sorted-made}
use Rattle.abstract_router.specs.Assigning.{capacity_in}
use Rattle.abstract_router.specs.BypassTunnels.{bypass_tunnel_by, bypass_tunnel_of, bypass_tunnels_of, over_at, over_by, over_of}
use Rattle.abstract_router.specs.Lsps.{around_of}
use Rattle.abstract_router.specs.Protecting.{candidates_of, ends_at_peer, is_preferred, is_protected, label_after, leads_around, selected_by, ways_around}
use Rattle.abstract_router.specs.Standing.{stands}
use Rattle.abstract_router.specs.States.{State}
use Rattle.abstract_router.specs.Steps.{resvs_left}
use Rattle.router_soundness.proofs.Repairing.{all-filter_map_within}

-- what holds of everything holds of what may be there
if-always : {A : Type 0} (P : A → Type 0) → ((x : A) → P x) → (o : Option A) → IfSome o P
if-always P holds None = tt
if-always P holds (Some x) = holds x

-- A way around a lost link leads over a bypass that is up, and has the bandwidth to promise that the bypass has.
pub record IsWay (r : Router) (s : State) (choice : Selected) : Type 0 where
  pub up : is_some (over_at (bypass_tunnels_of r s) choice.bypass) ≡ true
  pub capacity : choice.capacity ≡ capacity_in s.facts.bypasses choice.bypass

module _ (r : Router) (s : State) (in_order : T (is_sorted nat_cmp s.facts.bypasses)) where
  -- a bypass by its number, as it is found
  abbrev IsFound : ℕ × BypassTunnel → Type 0
  IsFound row = (find nat_cmp row.0 (bypass_tunnels_of r s) ≡ Some row.1)

  abbrev HasCapacity : ℕ × BypassTunnel → Type 0
  HasCapacity row = row.1.capacity ≡ capacity_in s.facts.bypasses row.0

  all_tunnels_found : AllByRecursion IsFound (bypass_tunnels_of r s)
  unfolding bypass_tunnels_of
  all_tunnels_found = all_found nat_cmp nat_cmp_total (bypass_tunnels_of r s) (is_sorted-made nat_cmp nat_cmp_total exact_unsigned (bypass_tunnel_by r s) s.facts.bypasses in_order)

  tunnel-capacity : (bypass : ℕ × Bypass) → find nat_cmp bypass.0 s.facts.bypasses ≡ Some bypass.1 → IfSome (option_map {U = ℕ × BypassTunnel} (λ (tunnel : BypassTunnel). (bypass.0, tunnel)) (bypass_tunnel_by r s bypass)) HasCapacity
  tunnel-capacity bypass found = by (find nat_cmp bypass.1.tunnel s.facts.tunnels)
    where
      by : (o : Option Tunnel) → IfSome (option_map {U = ℕ × BypassTunnel} (λ (tunnel : BypassTunnel). (bypass.0, tunnel)) (option_map (bypass_tunnel_of r s bypass.1) o)) HasCapacity
      by None = tt
      by (Some tunnel) = sym (ap (λ (o : Option Bypass). option_map_or (λ (b : Bypass). b.capacity) o 0) found)

  all_tunnels_capable : AllByRecursion HasCapacity (bypass_tunnels_of r s)
  unfolding bypass_tunnels_of
  all_tunnels_capable =
      all-filter_map_within HasCapacity (λ bypass. option_map (λ bypass_tunnel. (bypass.0, bypass_tunnel)) (bypass_tunnel_by r s bypass)) s.facts.bypasses
      (all-both (λ (bypass : ℕ × Bypass). find nat_cmp bypass.0 s.facts.bypasses ≡ Some bypass.1) (λ bypass. Unit {0}) (λ bypass. IfSome (option_map {U = ℕ × BypassTunnel} (λ (tunnel : BypassTunnel). (bypass.0, tunnel)) (bypass_tunnel_by r s bypass)) HasCapacity)
      (λ bypass found other. tunnel-capacity bypass found) s.facts.bypasses (all_found nat_cmp nat_cmp_total s.facts.bypasses in_order) (all-always (λ bypass. Unit {0}) (λ bypass. tt) s.facts.bypasses))

  way-is : (resv : ResvFact) (row : ℕ × BypassTunnel) → IsFound row → HasCapacity row → IfSome (selected_by r resv row) (IsWay r s)
  way-is resv row found capacity =
      cond_both (not (leads_around resv row.1)) _ _ (λ (o : Option Selected). IfSome o (IsWay r s)) (λ other. tt)
      (λ leads. let up = up_by (not-false _ leads) in
      cond_both (ends_at_peer r resv row.1) _ _ (λ (o : Option Selected). IfSome o (IsWay r s)) (λ next. record { up = up; capacity = capacity })
      (λ later.
      option_map-holds (IsWay r s) (λ label. record { bypass = row.0; is_nnhop = true; label = label; capacity = row.1.capacity }) (label_after row.1.ends_at (unwrap_or resv.recorded []))
      (if-always (λ label. IsWay r s (record { bypass = row.0; is_nnhop = true; label = label; capacity = row.1.capacity })) (λ label. record { up = up; capacity = capacity }) (label_after row.1.ends_at (unwrap_or resv.recorded [])))))
    where
      some_over : (o : Option Over) → option_map_or (λ (over : Over). not (over.link == resv.link)) o false ≡ true → is_some o ≡ true
      some_over None is = is
      some_over (Some over) is = refl

      up_by : leads_around resv row.1 ≡ true → is_some (over_at (bypass_tunnels_of r s) row.0) ≡ true
      up_by leads =
          ap (λ (o : Option BypassTunnel). is_some (option_and_then (λ (tunnel : BypassTunnel). tunnel.over) o)) found
          ∙ some_over row.1.over (and_parts (row.1.protects == resv.link) (option_map_or (λ (over : Over). not (over.link == resv.link)) row.1.over false) leads).1

  ways-are : (resv : ResvFact) → AllByRecursion (IsWay r s) (ways_around (around_of r s) resv)
  unfolding ways_around
  ways-are resv =
      all-filter_map_within (IsWay r s) (selected_by r resv) (bypass_tunnels_of r s)
      (all-both IsFound HasCapacity (λ row. IfSome (selected_by r resv row) (IsWay r s)) (way-is resv) (bypass_tunnels_of r s) all_tunnels_found all_tunnels_capable)

  -- So are the bypasses that may protect an LSP.
  pub candidates-are : (key : Key) (path : PathFact) (resv : ResvFact) → AllByRecursion (IsWay r s) (candidates_of (around_of r s) key path resv)
  unfolding candidates_of
  candidates-are key path resv =
      let ways = ways_around (around_of r s) resv in
      cond_both (is_protected (around_of r s) key path) _ _ (λ choices. AllByRecursion (IsWay r s) choices)
      (λ protected.
      all-append (IsWay r s) (filter (is_preferred path) ways) (filter (λ choice. not (is_preferred path choice)) ways)
      (all-filter (IsWay r s) (is_preferred path) ways (ways-are resv)) (all-filter (IsWay r s) (λ choice. not (is_preferred path choice)) ways (ways-are resv)))
      (λ other. tt)

-- ---- once reservations went that stand no more

-- a tunnel runs over the same
over-left : (r : Router) (s : State) → T (is_sorted key_cmp s.resvs) → (tunnel : ℕ × Tunnel) → over_of r (resvs_left s) tunnel ≡ over_of r s tunnel
over-left r s in_order tunnel =
    ap (option_and_then (over_by s.facts key)) (find-filter key_cmp key_total (stands s.facts) key (λ k v tied. ap (λ (k : Key). stands s.facts (k, v)) (sym (key_exact key k tied))) s.resvs in_order)
    ∙ by (find key_cmp key s.resvs)
  where
    key : Key
    key = current_key r tunnel

    kept : (v : ResvFact) (b : Bool) → stands s.facts (key, v) ≡ b → option_and_then (over_by s.facts key) (then_some b v) ≡ over_by s.facts key v
    kept v true is = refl
    kept v false is = sym (ap (λ (b : Bool). cond {A = Option Over} b (Some (record { link = v.link; label = v.label })) None) is)

    by : (o : Option ResvFact) → option_and_then (over_by s.facts key) (option_and_then (λ v. then_some (stands s.facts (key, v)) v) o) ≡ option_and_then (over_by s.facts key) o
    by None = refl
    by (Some v) = kept v (stands s.facts (key, v)) refl

-- Bypasses run over the same.
pub tunnels-left : (r : Router) (s : State) → T (is_sorted key_cmp s.resvs) → bypass_tunnels_of r (resvs_left s) ≡ bypass_tunnels_of r s
unfolding bypass_tunnels_of
tunnels-left r s in_order =
    filter_map_agree_within (λ bypass. option_map (λ bypass_tunnel. (bypass.0, bypass_tunnel)) (bypass_tunnel_by r (resvs_left s) bypass)) (λ bypass. option_map (λ bypass_tunnel. (bypass.0, bypass_tunnel)) (bypass_tunnel_by r s bypass)) s.facts.bypasses
    (all-always (λ (bypass : ℕ × Bypass). option_map {U = ℕ × BypassTunnel} (λ (tunnel : BypassTunnel). (bypass.0, tunnel)) (bypass_tunnel_by r (resvs_left s) bypass) ≡ option_map (λ (tunnel : BypassTunnel). (bypass.0, tunnel)) (bypass_tunnel_by r s bypass))
    (λ bypass. same bypass (find nat_cmp bypass.1.tunnel s.facts.tunnels)) s.facts.bypasses)
  where
    same : (bypass : ℕ × Bypass) (o : Option Tunnel) → option_map {U = ℕ × BypassTunnel} (λ (tunnel : BypassTunnel). (bypass.0, tunnel)) (option_map (bypass_tunnel_of r (resvs_left s) bypass.1) o) ≡ option_map (λ (tunnel : BypassTunnel). (bypass.0, tunnel)) (option_map (bypass_tunnel_of r s bypass.1) o)
    same bypass None = refl
    same bypass (Some tunnel) =
        ap with_over (over-left r s in_order (bypass.1.tunnel, tunnel))
      where
        with_over : Option Over → Option (ℕ × BypassTunnel)
        with_over over = Some (bypass.0, record { tunnel = bypass.1.tunnel; protects = bypass.1.link; ends_at = tunnel.endpoint; capacity = bypass.1.capacity; over = over })
