-- The bypasses that may be promised to LSPs, taken out of all that have bandwidth to promise.
use Rattle.std.specs.Prelude.{◌≡◌, ℕ, ◌==◌, ◌++◌, nat_le, not, Bool, if◌then◌else◌, List, [], ◌∷◌, filter, filter_map, Option, Some, None}
use Rattle.lsr_facts.specs.declared.bypass.Bypass.{Bypass}
use Rattle.lsr_facts.specs.declared.path_fact.PathFact.{PathFact}
use Rattle.lsr_facts.specs.declared.repair.BypassTunnel.{BypassTunnel}
use Rattle.lsr_facts.specs.declared.repair.Selected.{Selected}
use Rattle.lsr_facts.specs.declared.resv_fact.ResvFact.{ResvFact}
use Rattle.lsr_facts.specs.declared.router.Router.{Router}
use Rattle.abstract_router.specs.BypassTunnels.{bypass_tunnels_of}
use Rattle.abstract_router.specs.Protecting.{is_preferred, selected_by}
use Rattle.abstract_router.specs.States.{State}
use Rattle.facility_backup.specs.Asking.{row_by}

-- a bypass has bandwidth to promise
abbrev pub promises : ℕ × BypassTunnel → Bool
promises bypass_tunnel = not (bypass_tunnel.1.capacity == 0)

-- all bypasses that have, in the order of their numbers
abbrev pub promising_of : Router → State → List (ℕ × BypassTunnel)
promising_of r s = filter promises (bypass_tunnels_of r s)

-- a bypass with its number, where it has
abbrev pub promising_by : Router → State → ℕ × Bypass → Option (ℕ × BypassTunnel)
promising_by r s bypass = if bypass.1.capacity == 0 then None else row_by r s bypass

-- how an LSP would be repaired over a bypass, if it may be, and so much of that is left
abbrev pub offered : Router → ResvFact → ℕ → (ℕ × BypassTunnel) × ℕ → Option Selected
offered r resv rate room = if nat_le rate room.1 then selected_by r resv room.0 else None

-- the next choice goes behind those that the head prefers, or behind the others
abbrev pub placed : PathFact → Option Selected → List ℕ → List ℕ → (List ℕ → List ℕ → List ℕ) → List ℕ
placed path None first others rest = rest first others
placed path (Some choice) first others rest = if is_preferred path choice then rest (first ++ choice.bypass ∷ []) others else rest first (others ++ choice.bypass ∷ [])

-- the bypasses of a reservation in one pass: first those that the head prefers, then the others
abbrev pub in_turn : Router → PathFact → ResvFact → ℕ → List ((ℕ × BypassTunnel) × ℕ) → List ℕ → List ℕ → List ℕ
in_turn r path resv rate [] first others = first ++ others
in_turn r path resv rate (room ∷ more) first others = placed path (offered r resv rate room) first others (in_turn r path resv rate more)

-- So much is left just of those bypasses that pass a test, as far as any reservation is concerned.
abbrev pub AreOpen : Router → State → ℕ → List ((ℕ × BypassTunnel) × ℕ) → (ℕ → Bool) → Type 0
AreOpen r s rate rooms may = (resv : ResvFact) → filter_map (offered r resv rate) rooms ≡ filter_map (selected_by r resv) (filter (λ bypass. may bypass.0) (promising_of r s))
