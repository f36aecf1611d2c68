-- The labels that tables send frames under were given by the routers that take them.
use Rattle.std.specs.Prelude.{◌≡◌, ℕ, Some, None}
use Rattle.std.specs.FinMap.Entries.{find}
use Rattle.std.specs.Ordering.{nat_cmp}
use Rattle.lsr_facts.specs.Orders.{key_cmp}
use Rattle.lsr_facts.specs.Tunnels.{current_key}
use Rattle.lsr_facts.specs.declared.bypass.Bypass.{Bypass}
use Rattle.lsr_facts.specs.declared.key.Key.{Key}
use Rattle.lsr_facts.specs.declared.repair.Repair.{Repair}
use Rattle.lsr_facts.specs.declared.router.Router.{Router}
use Rattle.lsr_facts.specs.declared.tunnel.Tunnel.{Tunnel}
use Rattle.forwarding_table.specs.declared.action.Action.{Action}
use Rattle.forwarding_table.specs.declared.action.Action.TheVariants as actions
use Rattle.abstract_router.specs.States.{State}
use Rattle.abstract_router.specs.Tables.{look, look_tunnel}
use Rattle.abstract_world.specs.Worlds.{WorldState, at}
use Rattle.world_laws.specs.Given.{IsGivenBy, IsGivenOver, name_of}

-- An LSP leaves through the bypass of its repair, under two labels (RFC 4090, 3.2). The outer one was given to the LSP that carries
-- the bypass, the current one of the bypass's tunnel, by the router at the other end of the link. The inner one was given to the LSP
-- itself, by the router that the bypass ends at.
pub record IsGivenThrough (w : WorldState) (place : ℕ) (r : Router) (s : State) (key : Key) (inner outer link : ℕ) : Type 0 where
  pub repair : Repair
  pub repaired : find key_cmp key s.repairs ≡ Some repair
  pub bypass : Bypass
  pub known : find nat_cmp repair.bypass s.facts.bypasses ≡ Some bypass
  pub tunnel : Tunnel
  pub runs : find nat_cmp bypass.tunnel s.facts.tunnels ≡ Some tunnel
  pub over : IsGivenOver w (record { router = place; link = link }) (name_of (current_key r (bypass.tunnel, tunnel))) outer
  pub below : IsGivenBy w tunnel.endpoint (name_of key) inner

-- What is done with a frame of an LSP at the router of this place: where it is sent over a link, the label was given to that LSP by
-- the router at the other end; or it is sent through a bypass.
abbrev pub IsGiven : WorldState → ℕ → Router → State → Key → Action → Type 0
IsGiven w place r s key actions.Pop = Unit {0}
IsGiven w place r s key (actions.Swap label link) = IsGivenOver w (record { router = place; link = link }) (name_of key) label
IsGiven w place r s key (actions.SwapPush inner outer link) = IsGivenThrough w place r s key inner outer link
IsGiven w place r s key (actions.PushHead None label link) = IsGivenOver w (record { router = place; link = link }) (name_of key) label
IsGiven w place r s key (actions.PushHead (Some inner) outer link) = IsGivenThrough w place r s key inner outer link

-- an entry of the label table: it is for the LSP that has the label here
pub record IsEntryGiven (w : WorldState) (place : ℕ) (r : Router) (s : State) (label : ℕ) (action : Action) : Type 0 where
  pub key : Key
  pub held : find key_cmp key s.labels ≡ Some label
  pub given : IsGiven w place r s key action

-- an entry of the table of tunnels: it is for the tunnel's current LSP
pub record IsTunnelGiven (w : WorldState) (place : ℕ) (r : Router) (s : State) (number : ℕ) (action : Action) : Type 0 where
  pub tunnel : Tunnel
  pub known : find nat_cmp number s.facts.tunnels ≡ Some tunnel
  pub given : IsGiven w place r s (current_key r (number, tunnel)) action

-- Each label that a table of a router sends over a link was given by the router that takes it, for that LSP: whatever is looked up,
-- under a label or for a tunnel, at each router.
pub record AreLabelsGiven (w : WorldState) : Type 0 where
  pub labels : (place : ℕ) (r : Router) (s : State) (label : ℕ) (action : Action) → at w place ≡ Some (record { router = r; state = s }) → look r s label ≡ Some action
      → IsEntryGiven w place r s label action
  pub tunnels : (place : ℕ) (r : Router) (s : State) (number : ℕ) (action : Action) → at w place ≡ Some (record { router = r; state = s }) → look_tunnel r s number ≡ Some action
      → IsTunnelGiven w place r s number action
