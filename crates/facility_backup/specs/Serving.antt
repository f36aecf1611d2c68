-- Bypasses that may serve an LSP, by what it is promised.
use Rattle.std.specs.Prelude.{◌≡◌, [], ℕ, ◌==◌, not, Bool, true, false, if◌then◌else◌, Option, Some, None, IfSome}
use Rattle.std.specs.FinMap.Entries.{find}
use Rattle.std.specs.Option.{option_and_then, option_map, option_map_or, unwrap_or}
use Rattle.std.specs.Ordering.{nat_cmp}
use Rattle.std.proofs.Common.{refl, sym, ap, subst}
use Rattle.lsr_facts.specs.declared.assignment.Assignment.{Assignment}
use Rattle.lsr_facts.specs.declared.bypass.Bypass.{Bypass}
use Rattle.lsr_facts.specs.declared.key.Key.{Key}
use Rattle.lsr_facts.specs.declared.repair.BypassTunnel.{BypassTunnel}
use Rattle.lsr_facts.specs.declared.repair.Selected.{Selected}
use Rattle.lsr_facts.specs.declared.resv_fact.ResvFact.{ResvFact}
use Rattle.lsr_facts.specs.declared.router.Router.{Router}
use Rattle.lsr_facts.specs.declared.tunnel.Tunnel.{Tunnel}
use Rattle.abstract_router.specs.BypassTunnels.{bypass_tunnel_of}
use Rattle.abstract_router.specs.Lsps.{Around, Lsp}
use Rattle.abstract_router.specs.Protecting.{ends_at_peer, label_after, leads_around, may_serve, selected_by}
use Rattle.abstract_router.specs.States.{State}
use Rattle.abstract_router.specs.Upstreams.{flags_ready, protection_flags}
use Rattle.facility_backup.specs.Asking.{candidate_by}

-- an LSP that is promised bandwidth is served by that bypass alone, any other by one that has none to promise
abbrev pub serves : Option Assignment → ℕ × Bypass → Bool
serves None bypass = bypass.1.capacity == 0
serves (Some given) bypass = bypass.0 == given.bypass

-- a bypass as a candidate for a reservation, where it may serve
abbrev pub serving_by : Router → State → Option Assignment → ResvFact → ℕ × Bypass → Option Selected
serving_by r s given resv bypass = if serves given bypass then candidate_by r s resv bypass else None

-- how an LSP is protected by a bypass: the one over which it runs, or would run
abbrev pub bypass_flags : Around → Key × Lsp → ℕ
bypass_flags a lsp = option_map_or (flags_ready a lsp) lsp.1.resv (option_map_or (λ repair. protection_flags true repair.is_nnhop) lsp.1.repair 0)

-- a choice is of this bypass: its number, and what it has to promise
abbrev pub IsOf : ℕ → ℕ → Selected → Type 0
IsOf number capacity choice = (choice.bypass ≡ number) × (choice.capacity ≡ capacity)

-- what is chosen is of the bypass
pub selected_of : (r : Router) (resv : ResvFact) (bypass_tunnel : ℕ × BypassTunnel) → IfSome (selected_by r resv bypass_tunnel) (IsOf bypass_tunnel.0 bypass_tunnel.1.capacity)
selected_of r resv bypass_tunnel = by (leads_around resv bypass_tunnel.1) (ends_at_peer r resv bypass_tunnel.1) (label_after bypass_tunnel.1.ends_at (unwrap_or resv.recorded []))
  where
    by : (leads ends : Bool) (label : Option ℕ)
        → IfSome {T = Selected} (if not leads then None
        else if ends then Some (record { bypass = bypass_tunnel.0; is_nnhop = false; label = resv.label; capacity = bypass_tunnel.1.capacity })
        else option_map (λ label. record { bypass = bypass_tunnel.0; is_nnhop = true; label = label; capacity = bypass_tunnel.1.capacity }) label) (IsOf bypass_tunnel.0 bypass_tunnel.1.capacity)
    by false ends label = tt
    by true true label = (refl, refl)
    by true false None = tt
    by true false (Some label) = (refl, refl)

-- and so is a candidate
candidate_of : (r : Router) (s : State) (resv : ResvFact) (bypass : ℕ × Bypass) → IfSome (candidate_by r s resv bypass) (IsOf bypass.0 bypass.1.capacity)
candidate_of r s resv bypass = by (find nat_cmp bypass.1.tunnel s.facts.tunnels)
  where
    by : (tunnel : Option Tunnel) → IfSome (option_and_then (λ (bypass_tunnel : BypassTunnel). selected_by r resv (bypass.0, bypass_tunnel)) (option_map (bypass_tunnel_of r s bypass.1) tunnel)) (IsOf bypass.0 bypass.1.capacity)
    by None = tt
    by (Some tunnel) = selected_of r resv (bypass.0, bypass_tunnel_of r s bypass.1 tunnel)

-- So a bypass tells whether its candidate may serve.
pub serves_told : (r : Router) (s : State) (given : Option Assignment) (resv : ResvFact) (bypass : ℕ × Bypass) (choice : Selected) → candidate_by r s resv bypass ≡ Some choice → serves given bypass ≡ may_serve given choice
serves_told r s given resv bypass choice is = by given (subst (λ (o : Option Selected). IfSome o (IsOf bypass.0 bypass.1.capacity)) is (candidate_of r s resv bypass))
  where
    by : (given : Option Assignment) → IsOf bypass.0 bypass.1.capacity choice → serves given bypass ≡ may_serve given choice
    by None same = ap (λ n. n == 0) (sym same.1)
    by (Some given) same = ap (λ n. n == given.bypass) (sym same.0)
