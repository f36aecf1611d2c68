-- What follows from an event's own change makes the state sound again.
use Rattle.std.specs.Prelude.{◌≡◌, ℕ, Bool, true, false, if◌then◌else◌, List, filter, is_none}
use Rattle.std.specs.FinMap.Entries.{find}
use Rattle.std.proofs.Common.{ap, sym, ◌∙◌}
use Rattle.sorted_rows.specs.ListLaws.{all-filter_passes}
use Rattle.sorted_rows.specs.Rows.{keys_of}
use Rattle.lsr_facts.specs.declared.key.Key.{Key}
use Rattle.lsr_facts.specs.declared.router.Router.{Router}
use Rattle.abstract_paths.proofs.Primitives.{sound_sent}
use Rattle.abstract_paths.specs.StampLaws.{keys-stamps}
use Rattle.lsr_facts.specs.Upstreams.{upstream_cmp}
use Rattle.router_soundness.proofs.Assigning.{assigned-left}
use Rattle.router_soundness.proofs.AssigningTaken.{may_promise}
use Rattle.router_soundness.proofs.Holding.{held_where, held_with_assignments, held_with_facts}
use Rattle.router_soundness.proofs.Labelling.{labelled_after}
use Rattle.router_soundness.proofs.Repairing.{repaired_left, repaired_with_assignments, repaired_with_facts}
use Rattle.router_soundness.proofs.Resting.{resting_after}
use Rattle.router_soundness.proofs.TakingOver.{labelled_taken, standing_taken}
use Rattle.abstract_router.specs.Assigning.{assigned_anew}
use Rattle.abstract_router.specs.BypassTunnels.{bypass_tunnels_of}
use Rattle.abstract_router.specs.Repairing.{repair_stands, repaired, repairs_left}
use Rattle.abstract_router.specs.Upstreams.{upstream_of}
use Rattle.abstract_router.specs.Labels.{IsLabelling}
use Rattle.abstract_router.specs.Outcomes.{Outcome}
use Rattle.abstract_router.specs.Lsps.{lsps_of}
use Rattle.router_soundness.specs.Drafted.{IsDrafted}
use Rattle.abstract_router.specs.Outputs.{item_stamps, upstream_stamps}
use Rattle.abstract_router.specs.Wanted.{items_of}
use Rattle.abstract_paths.specs.Soundness.{IsStanding}
use Rattle.lsr_facts.specs.Orders.{item_cmp, key_cmp}
use Rattle.abstract_router.specs.Soundness.{IsSound}
use Rattle.abstract_router.specs.States.{State}
use Rattle.abstract_router.specs.Steps.{resvs_left, settled, stands, taken_over, with_moments, known_after, MayChoose, MayChooseBy}

-- an outcome leaves the state sound, or such that what follows makes it so
abbrev pub LeavesBy : Router → State → Bool → State → Type 0
LeavesBy r before true after = IsSound r after
LeavesBy r before false after = IsDrafted r before after

abbrev pub Leaves : Router → State → Outcome → Type 0
Leaves r before o = LeavesBy r before o.is_silent o.after

-- exactly the Paths and the Resvs that are wanted have a moment
stamped_items : (r : Router) (before : State) (o : Outcome) (s : State) → keys_of (item_stamps r before o.due s) ≡ keys_of (items_of r (with_moments r before o s))
unfolding item_stamps items_of lsps_of bypass_tunnels_of
stamped_items r before o s = keys-stamps item_cmp o.due (items_of r before) before.facts.sent s.facts.moment (items_of r s)

stamped_upstream : (r : Router) (before : State) (o : Outcome) (s : State) → keys_of (upstream_stamps r before o.upstream_due s) ≡ keys_of (upstream_of r (with_moments r before o s))
unfolding upstream_stamps upstream_of lsps_of bypass_tunnels_of
stamped_upstream r before o s = keys-stamps upstream_cmp o.upstream_due (upstream_of r before) before.sent_upstream s.facts.moment (upstream_of r s)

-- The labels that may be chosen are the same once tunnels have gone over to their new LSPs: those have none.
labelling_taken : (r : Router) (before s : State) (chosen : List (Key × ℕ)) → IsStanding r s.facts → IsLabelling r before s.facts.paths chosen → IsLabelling r before (taken_over r s).facts.paths chosen
labelling_taken r before s chosen is may = record { of_new = may.of_new ∙ ap (filter (λ key. is_none (find key_cmp key before.labels))) (sym (labelled_taken r s is)); given = may.given; apart = may.apart }

-- The state is sound once all that follows has been done.
pub sound_settled : (r : Router) (before : State) (o : Outcome) (chosen : List (Key × ℕ)) → IsSound r before → IsDrafted r before o.after → IsLabelling r before o.after.facts.paths chosen
    → IsSound r (with_moments r before o (settled r chosen o.after))
unfolding taken_over repaired repairs_left bypass_tunnels_of
sound_settled r before o chosen were drafted may =
    let s = taken_over r o.after in
    let paths = standing_taken r o.after drafted.paths in
    let held = held_with_facts r o.after s.facts drafted.held drafted.held.each in
    let standing = held_where r s (stands s.facts) held in
    let p = assigned_anew r s in
    let repairs = repaired_left r p (held_with_assignments r s p.assignments held) (repaired_with_assignments s p.assignments (repaired_with_facts o.after s.facts drafted.repaired drafted.repaired.each)) in
    let assigned = assigned-left r s (may_promise r before o.after were drafted) in
    let new = labelling_taken r before o.after chosen drafted.paths may in
    let labels = labelled_after r before s chosen were.labels drafted.labels paths.paths.in_order new in
    let resting = resting_after r before s chosen were.labels were.resting drafted.labels drafted.resting were.paths.paths.in_order paths.paths.in_order new in
    record {
      paths = sound_sent r s.facts (item_stamps r before o.due (settled r chosen o.after)) paths;
      held = record { in_order = standing.in_order; each = standing.each; one_style = standing.one_style; within = standing.within };
      standing = all-filter_passes (λ resv. stands s.facts resv ≡ true) (stands s.facts) (λ resv passes. passes) o.after.resvs;
      repaired = record { in_order = repairs.in_order; each = repairs.each; apart = repairs.apart };
      repairs_standing = all-filter_passes (λ repair. repair_stands r (resvs_left (repaired r p)) repair ≡ true) (repair_stands r (resvs_left (repaired r p))) (λ repair passes. passes) (repaired r p).repairs;
      labels = record { of_lsps = labels.of_lsps; from_first = labels.from_first; to_last = labels.to_last; apart = labels.apart };
      assigned = record { in_order = assigned.in_order; held = assigned.held; capable = assigned.capable; within = assigned.within; served = assigned.served };
      resting = resting;
      sent = stamped_items r before o (settled r chosen o.after);
      sent_upstream = stamped_upstream r before o (settled r chosen o.after);
    }

-- What is known after a step is sound, where the event leaves the state so.
pub sound_after : (r : Router) (before : State) (o : Outcome) (chosen : List (Key × ℕ)) → IsSound r before → Leaves r before o → MayChoose r before o chosen → IsSound r (known_after r before chosen o)
sound_after r before o chosen were = by o.is_silent
  where
    by : (silent : Bool) → LeavesBy r before silent o.after → MayChooseBy silent r before o.after.facts.paths chosen
        → IsSound r (if silent then o.after else with_moments r before o (settled r chosen o.after))
    by true h may = h
    by false h may = sound_settled r before o chosen were h may
