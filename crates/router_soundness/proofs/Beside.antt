-- A state stays sound where what changes is beside its LSPs: tunnels, by which bypasses run over what they ran over; and whether
-- the router is cold.
use Rattle.std.specs.Prelude.{◌≡◌, ◌&&◌, ℕ, Bool, false, true, List, [], filter_map, is_some}
use Rattle.std.specs.FinMap.Entries.{find}
use Rattle.std.specs.List.{AllByRecursion, flat_map}
use Rattle.std.specs.Option.{option_and_then, option_map, option_map_or}
use Rattle.std.proofs.Common.{refl, ap, sym, subst, ◌∙◌}
use Rattle.sorted_rows.specs.Rows.{keys_of}
use Rattle.lsr_facts.specs.Orders.{key_cmp}
use Rattle.lsr_facts.specs.declared.router.Router.{Router}
use Rattle.lsr_facts.specs.declared.tunnel.Tunnel.{Tunnel}
use Rattle.abstract_paths.proofs.Primitives as paths
use Rattle.abstract_paths.specs.Places.{place_of}
use Rattle.abstract_paths.specs.Soundness.{IsStanding}
use Rattle.abstract_paths.specs.Tears.{leaves_by}
use Rattle.bypass_shares.specs.Shares.{assigned}
use Rattle.abstract_router.specs.Assigning.{assignments_of, capacity_in, in_use_of, wish_on, wishes_of}
use Rattle.abstract_router.specs.BypassTunnels.{bypass_tunnels_of, over_at}
use Rattle.abstract_router.specs.Lsps.{Around, lsps_of}
use Rattle.abstract_router.specs.Soundness.{IsSound}
use Rattle.abstract_router.specs.States.{State, with_facts}
use Rattle.abstract_router.specs.Upstreams.{upstream_of, upstream_rows}
use Rattle.abstract_router.specs.Wanted.{item_rows, items_of}

module _ (r : Router) (s : State) (cold : Bool) (tunnels : List (ℕ × Tunnel)) where
  abbrev pub beside : State
  beside = with_facts (record s.facts { cold = cold; tunnels = tunnels }) s

  module _ (same : bypass_tunnels_of r beside ≡ bypass_tunnels_of r s) where
    -- the same Paths and Resvs are wanted
    pub items_beside : items_of r beside ≡ items_of r s
    unfolding items_of lsps_of
    items_beside = ap (λ bypass_tunnels. item_rows (record { place = place_of r s.facts; bypass_tunnels = bypass_tunnels }) (lsps_of s)) same

    pub upstream_beside : upstream_of r beside ≡ upstream_of r s
    unfolding upstream_of lsps_of
    upstream_beside = ap (λ bypass_tunnels. flat_map (upstream_rows (record { place = place_of r s.facts; bypass_tunnels = bypass_tunnels })) (lsps_of s)) same

    -- and the bandwidth of bypasses is promised to the same LSPs
    pub assignments_beside : assignments_of r beside ≡ assignments_of r s
    unfolding assignments_of wishes_of
    assignments_beside =
        ap (λ bypass_tunnels. let around : Around = record { place = place_of r s.facts; bypass_tunnels = bypass_tunnels } in assigned key_cmp (capacity_in s.facts.bypasses) s.assignments (in_use_of s) (filter_map (λ resv. option_map (λ wish. (resv.0, wish)) (option_and_then (wish_on around resv.0 resv.1) (find key_cmp resv.0 s.facts.paths))) s.resvs)) same

    pub sound_beside : IsStanding r beside.facts → IsSound r s → IsSound r beside
    sound_beside standing is = record {
      paths = standing;
      held = record { in_order = is.held.in_order; each = is.held.each; one_style = is.held.one_style; within = is.held.within };
      standing = is.standing;
      repaired = record { in_order = is.repaired.in_order; each = is.repaired.each; apart = is.repaired.apart };
      repairs_standing = subst (λ bypass_tunnels. AllByRecursion (λ repair. (is_some (over_at bypass_tunnels repair.1.bypass) && option_map_or (leaves_by repair.1.resv.link) (find key_cmp repair.0 s.facts.paths) false) ≡ true) s.repairs) (sym same) is.repairs_standing;
      labels = record { of_lsps = is.labels.of_lsps; from_first = is.labels.from_first; to_last = is.labels.to_last; apart = is.labels.apart };
      assigned = record { in_order = is.assigned.in_order; held = is.assigned.held; capable = is.assigned.capable; within = is.assigned.within; served = is.assigned.served };
      resting = is.resting;
      sent = is.sent ∙ ap keys_of (sym items_beside);
      sent_upstream = is.sent_upstream ∙ ap keys_of (sym upstream_beside);
    }

-- It is cold now, or runs.
pub sound_cold : (r : Router) (s : State) (cold : Bool) → IsStanding r (record s.facts { cold = cold }) → IsSound r s → IsSound r (with_facts (record s.facts { cold = cold }) s)
unfolding bypass_tunnels_of
sound_cold r s cold standing is = sound_beside r s cold s.facts.tunnels refl standing is

-- It is cold from now on, where it knows no path.
pub sound_stopped : (r : Router) (s : State) → s.facts.paths ≡ [] → IsSound r s → IsSound r (with_facts (record s.facts { cold = true }) s)
sound_stopped r s none is = sound_cold r s true (paths.sound_stopped r s.facts none is.paths) is
