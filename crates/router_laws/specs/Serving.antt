-- Which bypasses may serve an LSP, and which of them is chosen.
use Rattle.std.specs.Prelude.{◌≡◌, true, Option, Some}
use Rattle.std.specs.FinMap.Entries.{find}
use Rattle.std.specs.Ordering.{nat_cmp}
use Rattle.lsr_facts.specs.Orders.{key_cmp}
use Rattle.lsr_facts.specs.declared.key.Key.{Key}
use Rattle.lsr_facts.specs.declared.path_fact.PathFact.{PathFact}
use Rattle.lsr_facts.specs.declared.repair.BypassTunnel.{BypassTunnel}
use Rattle.lsr_facts.specs.declared.repair.Selected.{Selected}
use Rattle.lsr_facts.specs.declared.resv_fact.ResvFact.{ResvFact}
use Rattle.lsr_facts.specs.declared.router.Router.{Router}
use Rattle.abstract_router.specs.BypassTunnels.{bypass_tunnels_of}
use Rattle.abstract_router.specs.Lsps.{around_of}
use Rattle.abstract_router.specs.Protecting.{is_protected, may_serve, selected, selected_by}
use Rattle.abstract_router.specs.States.{State}

-- the LSP is protected: its head wants that, and it carries no bypass of this router
abbrev pub IsProtected : Router → State → Key → PathFact → Type 0
IsProtected r s key path = is_protected (around_of r s) key path ≡ true

-- A bypass may serve an LSP with this reservation: it leads around the reservation's link, to a router that takes the LSP
-- under this label; and the LSP is promised bandwidth of it, or is promised none, and it has none to promise.
pub record MayServe (r : Router) (s : State) (key : Key) (resv : ResvFact) (choice : Selected) : Type 0 where
  pub bypass_tunnel : BypassTunnel
  pub known : find nat_cmp choice.bypass (bypass_tunnels_of r s) ≡ Some bypass_tunnel
  pub leads : selected_by r resv (choice.bypass, bypass_tunnel) ≡ Some choice
  pub serves : may_serve (find key_cmp key s.assignments) choice ≡ true

-- the bypass that is chosen for it
abbrev pub chosen_for : Router → State → Key → PathFact → ResvFact → Option Selected
chosen_for r s key path resv = selected (around_of r s) key path (find key_cmp key s.assignments) resv
