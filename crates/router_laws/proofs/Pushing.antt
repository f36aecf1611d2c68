-- The entries of tunnels: each of the tunnel's current LSP, where that is reserved or repaired.
use Rattle.std.specs.Prelude.{◌≡◌, ℕ, T, false, Some, None, is_some}
use Rattle.std.specs.FinMap.Entries.{find, is_sorted}
use Rattle.std.specs.Option.{option_and_then, option_map, option_or}
use Rattle.std.specs.Ordering.{nat_cmp}
use Rattle.std.proofs.Common.{ap, ◌∙◌}
use Rattle.std.proofs.lemmas.Cmp.{nat_cmp_total}
use Rattle.std.proofs.lemmas.Map.Lookups.{exact_unsigned}
use Rattle.lsr_facts.specs.Orders.{key_cmp}
use Rattle.lsr_facts.specs.Tunnels.{current_key}
use Rattle.lsr_facts.specs.declared.key.Key.{Key}
use Rattle.lsr_facts.specs.declared.router.Router.{Router}
use Rattle.lsr_facts.specs.declared.tunnel.Tunnel.{Tunnel}
use Rattle.lsr_facts.specs.declared.repair.Over.{Over}
use Rattle.lsr_facts.specs.declared.repair.Repair.{Repair}
use Rattle.lsr_facts.specs.declared.resv_fact.ResvFact.{ResvFact}
use Rattle.forwarding_table.specs.declared.action.Action.TheVariants.{PushHead}
use Rattle.abstract_paths.specs.StampLaws.{none-is}
use Rattle.abstract_paths.specs.TouchedLaws.{find-made}
use Rattle.router_soundness.proofs.Entries.{reserved_or_repaired}
use Rattle.router_soundness.proofs.Standing.{repair_on_bypass}
use Rattle.abstract_router.specs.BypassTunnels.{bypass_tunnels_of, over_at}
use Rattle.abstract_router.specs.Soundness.{IsSound}
use Rattle.abstract_router.specs.States.{State, is_reserved}
use Rattle.abstract_router.specs.Tables.{look_tunnel, push_by, push_of, push_through, tunnel_table_of}

module _ (r : Router) (s : State) (number : ℕ) where
  -- What is done with the traffic of a tunnel.
  pub look_tunnel-is : T (is_sorted nat_cmp s.facts.tunnels) → look_tunnel r s number ≡ option_and_then (λ tunnel. push_of r s (number, tunnel)) (find nat_cmp number s.facts.tunnels)
  unfolding look_tunnel tunnel_table_of
  look_tunnel-is sorted = find-made nat_cmp nat_cmp_total exact_unsigned (push_of r s) number s.facts.tunnels sorted

  -- Where no tunnel has the number.
  pub entry_unknown : T (is_sorted nat_cmp s.facts.tunnels) → find nat_cmp number s.facts.tunnels ≡ None → look_tunnel r s number ≡ None
  entry_unknown sorted none = look_tunnel-is sorted ∙ ap (option_and_then (λ t. push_of r s (number, t))) none

  module _ (tunnel : Tunnel) (sorted : T (is_sorted nat_cmp s.facts.tunnels)) (found : find nat_cmp number s.facts.tunnels ≡ Some tunnel) where
    abbrev key : Key
    key = current_key r (number, tunnel)

    look_tunnel-known : look_tunnel r s number ≡ push_of r s (number, tunnel)
    look_tunnel-known = look_tunnel-is sorted ∙ ap (option_and_then (λ t. push_of r s (number, t))) found

    -- by the repair of its current LSP, where that isn't reserved
    unreserved : find key_cmp key s.resvs ≡ None → look_tunnel r s number ≡ option_and_then (push_through (bypass_tunnels_of r s)) (find key_cmp key s.repairs)
    unreserved none = look_tunnel-known ∙ ap (λ o. option_or (option_map push_by o) (option_and_then (push_through (bypass_tunnels_of r s)) (find key_cmp key s.repairs))) none

    -- Where it is reserved.
    pub entry_is : (resv : ResvFact) → find key_cmp key s.resvs ≡ Some resv → look_tunnel r s number ≡ Some (PushHead None resv.label resv.link)
    entry_is resv reserved = look_tunnel-known ∙ ap (λ o. option_or (option_map push_by o) (option_and_then (push_through (bypass_tunnels_of r s)) (find key_cmp key s.repairs))) reserved

    -- Where it is repaired, over a bypass that is up.
    pub entry_over : (repair : Repair) (over : Over) → find key_cmp key s.resvs ≡ None → find key_cmp key s.repairs ≡ Some repair → over_at (bypass_tunnels_of r s) repair.bypass ≡ Some over → look_tunnel r s number ≡ Some (PushHead (Some repair.resv.label) over.label over.link)
    entry_over repair over none found_repair up =
        unreserved none
        ∙ ap (option_and_then (push_through (bypass_tunnels_of r s))) found_repair
        ∙ ap (option_map (λ (o : Over). PushHead (Some repair.resv.label) o.label o.link)) up

    -- Where it is neither.
    pub entry_none : find key_cmp key s.resvs ≡ None → find key_cmp key s.repairs ≡ None → look_tunnel r s number ≡ None
    entry_none none unrepaired = unreserved none ∙ ap (option_and_then (push_through (bypass_tunnels_of r s))) unrepaired

-- In a sound state a repaired LSP isn't reserved, and its bypass is up.
pub entry_repaired : (r : Router) (s : State) → IsSound r s → (number : ℕ) (tunnel : Tunnel) (repair : Repair) → find nat_cmp number s.facts.tunnels ≡ Some tunnel → find key_cmp (current_key r (number, tunnel)) s.repairs ≡ Some repair
    → (over : Over) × (over_at (bypass_tunnels_of r s) repair.bypass ≡ Some over) × (look_tunnel r s number ≡ Some (PushHead (Some repair.resv.label) over.label over.link))
entry_repaired r s is number tunnel repair found repairs =
    let key = current_key r (number, tunnel) in
    let on = repair_on_bypass r s key repair is repairs in
    let unreserved : is_reserved s key ≡ false = reserved_or_repaired r s key is (ap is_some repairs) in
    (on.1, on.4, entry_over r s number tunnel is.paths.tunnels.in_order found repair on.1 (none-is (find key_cmp key s.resvs) unreserved) repairs on.4)
