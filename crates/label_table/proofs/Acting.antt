-- What is done with frames of an LSP: where bypasses are no reason for another way it is the same, and the labels that it
-- writes are labels.
use Rattle.std.proofs.Common.{◌≡◌, Bool, true, false, if◌then◌else◌, Option, Some, None, IfSome, refl, sym, ap, subst, ◌∙◌, inl, inr}
use Rattle.std.specs.FinMap.Entries.{find}
use Rattle.std.specs.List.{AllByRecursion}
use Rattle.std.specs.Option.{option_and_then, option_map, option_or}
use Rattle.sorted_rows.specs.RowsLaws.{find-all_row}
use Rattle.lsr_facts.specs.OrderLaws.{key_exact}
use Rattle.lsr_facts.specs.Orders.{key_cmp}
use Rattle.lsr_facts.specs.Timeless.{timeless_path}
use Rattle.lsr_facts.specs.declared.key.Key.{Key}
use Rattle.lsr_facts.specs.declared.path_fact.PathFact.{PathFact}
use Rattle.lsr_facts.specs.declared.router.Router.{Router}
use Rattle.forwarding_table.specs.Actions.{WritesLabels}
use Rattle.forwarding_table.specs.Labels.{IsLabel}
use Rattle.forwarding_table.specs.declared.action.Action.{Action}
use Rattle.forwarding_table.specs.declared.action.Action.TheVariants.{Pop, PushHead, SwapPush}
use Rattle.lsr_facts.specs.Reservations.{timeless_repair, timeless_resv}
use Rattle.lsr_facts.specs.declared.repair.Over.{Over}
use Rattle.lsr_facts.specs.declared.repair.Repair.{Repair}
use Rattle.lsr_facts.specs.declared.resv_fact.ResvFact.{ResvFact}
use Rattle.abstract_paths.specs.Paths.{goes_on}
use Rattle.abstract_paths.specs.Places.{place_of}
use Rattle.abstract_paths.specs.RowLaws.{option_or-holds}
use Rattle.abstract_router.specs.BypassTunnels.{bypass_tunnels_of, over_at}
use Rattle.abstract_router.specs.Lsps.{Lsp, around_of, lsp_at, lsp_of}
use Rattle.abstract_router.specs.Soundness.{IsResv}
use Rattle.abstract_router.specs.States.{State}
use Rattle.abstract_router.specs.Tables.{action_of, push_by, push_through, swap_by, swap_through}
use Rattle.facility_backup.specs.OverLaws.{over_is}
use Rattle.label_table.specs.Bypassed.{KeepsBypass}
use Rattle.label_table.specs.Rows.{action_at}
use Rattle.label_table.specs.Turns.{onward_at}

-- an LSP of this path that isn't repaired
abbrev unrepaired : State → Key → PathFact → Lsp
unrepaired s key path = record (lsp_of s key path) { repair = None }

-- An LSP that goes on does what its reservation says, or its repair, whenever these expire.
pub acts_onward : (r : Router) (s : State) (key : Key) (path : PathFact) → action_of (around_of r s) (lsp_of s key path) ≡ (if goes_on path.role then onward_at r s key else Some Pop)
acts_onward r s key path = ap (λ o. if goes_on path.role then o else Some Pop) (by (find key_cmp key s.resvs) (find key_cmp key s.repairs))
  where
    by : (resv : Option ResvFact) (repair : Option Repair)
        → option_or (option_map swap_by (option_map timeless_resv resv)) (option_and_then (swap_through (bypass_tunnels_of r s)) (option_map timeless_repair repair))
        ≡ option_or (option_map swap_by resv) (option_and_then (swap_through (bypass_tunnels_of r s)) repair)
    by (Some resv) repair = refl
    by None None = refl
    by None (Some repair) = refl

-- Where bypasses take no frames of an LSP another way, the same is done with them whichever way bypasses go.
pub kept_action : (r : Router) (before after : State) (key : Key) → KeepsBypass r before after key
    → option_and_then (action_of (around_of r before)) (lsp_at before key) ≡ option_and_then (action_of (around_of r after)) (lsp_at before key)
kept_action r before after key keeps = elim keeps [
  | inl none ↦ (λ i. option_and_then (action_of (around_of r before)) (known (none i))) ∙ by (find key_cmp key before.facts.paths) ∙ sym (λ i. option_and_then (action_of (around_of r after)) (known (none i)))
  | inr alike ↦ λ i. option_and_then (action_of (record { place = place_of r before.facts; bypass_tunnels = alike i })) (lsp_at before key)
]
  where
    known : Option Repair → Option Lsp
    known repair = option_map {U = Lsp} (λ path. record (lsp_of before key path) { repair = option_map timeless_repair repair }) (find key_cmp key before.facts.paths)

    by : (path : Option PathFact) → option_and_then (action_of (around_of r before)) (option_map (unrepaired before key) path) ≡ option_and_then (action_of (around_of r after)) (option_map (unrepaired before key) path)
    by None = refl
    by (Some path) = refl

module _ (r : Router) (s : State) (resvs : AllByRecursion (IsResv s.facts.moment) s.resvs) (repairs : AllByRecursion (λ (repair : Key × Repair). IsResv s.facts.moment (repair.0, repair.1.resv)) s.repairs) (key : Key) where
  -- the reservation of an LSP, and what its repair keeps of one
  resv_is : IfSome (find key_cmp key s.resvs) (λ resv. IsResv s.facts.moment (key, resv))
  resv_is = find-all_row key_cmp key_exact (IsResv s.facts.moment) key s.resvs resvs

  repair_is : IfSome (find key_cmp key s.repairs) (λ repair. IsResv s.facts.moment (key, repair.resv))
  repair_is = find-all_row key_cmp key_exact (λ (repair : Key × Repair). IsResv s.facts.moment (repair.0, repair.1.resv)) key s.repairs repairs

  -- what is written by a repair, and by what its bypass runs over
  through_writes : (acts : ResvFact → Over → Action) → ((resv : ResvFact) (over : Over) → IsLabel resv.label → IsLabel over.label → WritesLabels (acts resv over)) → (repair : Option Repair) → IfSome repair (λ repair. IsResv s.facts.moment (key, repair.resv))
      → IfSome (option_and_then (λ (repair : Repair). option_map (acts repair.resv) (over_at (bypass_tunnels_of r s) repair.bypass)) repair) WritesLabels
  through_writes acts writes None is = tt
  through_writes acts writes (Some repair) is = by (over_at (bypass_tunnels_of r s) repair.bypass) refl
    where
      by : (o : Option Over) → over_at (bypass_tunnels_of r s) repair.bypass ≡ o → IfSome (option_map (acts repair.resv) o) WritesLabels
      by None found = tt
      by (Some over) found = writes repair.resv over is.label (over_is s.facts.moment r s repair.bypass over found resvs).label

  -- and by a reservation
  resv_writes : (acts : ResvFact → Action) → ((resv : ResvFact) → IsLabel resv.label → WritesLabels (acts resv)) → (resv : Option ResvFact) → IfSome resv (λ resv. IsResv s.facts.moment (key, resv)) → IfSome (option_map acts resv) WritesLabels
  resv_writes acts writes None is = tt
  resv_writes acts writes (Some resv) is = writes resv is.label

  -- What the action of an LSP writes for labels are labels.
  pub action_writes : IfSome (action_at r s key) WritesLabels
  action_writes = by (find key_cmp key s.facts.paths)
    where
      onward : IfSome (onward_at r s key) WritesLabels
      onward =
          option_or-holds WritesLabels (option_map swap_by (find key_cmp key s.resvs)) (option_and_then (swap_through (bypass_tunnels_of r s)) (find key_cmp key s.repairs))
          (resv_writes swap_by (λ resv label. label) (find key_cmp key s.resvs) resv_is)
          (through_writes (λ resv over. SwapPush resv.label over.label over.link) (λ resv over below above. (below, above)) (find key_cmp key s.repairs) repair_is)

      acts : (b : Bool) → IfSome (if b then onward_at r s key else Some Pop) WritesLabels
      acts true = onward
      acts false = tt

      by : (path : Option PathFact) → IfSome (option_and_then (action_of (around_of r s)) (option_map (lsp_of s key) path)) WritesLabels
      by None = tt
      by (Some path) = subst (λ o. IfSome o WritesLabels) (sym (acts_onward r s key path)) (acts (goes_on path.role))

  -- And so it is of the action of a tunnel with this LSP.
  pub push_writes : IfSome (option_or (option_map push_by (find key_cmp key s.resvs)) (option_and_then (push_through (bypass_tunnels_of r s)) (find key_cmp key s.repairs))) WritesLabels
  push_writes =
      option_or-holds WritesLabels (option_map push_by (find key_cmp key s.resvs)) (option_and_then (push_through (bypass_tunnels_of r s)) (find key_cmp key s.repairs))
      (resv_writes push_by (λ resv label. (tt, label)) (find key_cmp key s.resvs) resv_is)
      (through_writes (λ resv over. PushHead (Some resv.label) over.label over.link) (λ resv over below above. (below, above)) (find key_cmp key s.repairs) repair_is)
