-- What is true in a closed world, whatever came: of frames, of what routers hold of their LSPs, and of the world.
use Rattle.std.specs.Prelude.{◌≡◌, ℕ, List, [], Some, Contains, unwrap_or}
use Rattle.std.specs.FinMap.Entries.{find}
use Rattle.std.specs.List.{AllByRecursion}
use Rattle.std.specs.Ordering.{nat_cmp}
use Rattle.rsvp_contents.specs.Spelling.{SpellsReading}
use Rattle.rsvp_contents.specs.declared.descriptors.FlowDescriptor.{FlowDescriptor}
use Rattle.rsvp_contents.specs.declared.message.Reading.TheVariants as readings
use Rattle.rsvp_contents.specs.declared.messages.Content.{Content}
use Rattle.rsvp_contents.specs.declared.messages.Content.TheVariants as contents
use Rattle.rsvp_contents.specs.declared.messages.Resv.{Resv}
use Rattle.link_frames.specs.declared.frame.Frame.{Frame}
use Rattle.link_frames.specs.declared.frame.Frame.TheVariants as frames
use Rattle.link_frames.specs.declared.payload.Payload.{Payload}
use Rattle.link_frames.specs.declared.payload.Payload.TheVariants as payloads
use Rattle.link_frames.specs.declared.payload.ReceivedPayload.TheVariants as received_payloads
use Rattle.lsr_facts.specs.Orders.{key_cmp}
use Rattle.lsr_facts.specs.Routers.{IsRouter, own_addresses}
use Rattle.lsr_facts.specs.declared.key.Key.{Key}
use Rattle.lsr_facts.specs.declared.repair.BypassTunnel.{BypassTunnel}
use Rattle.lsr_facts.specs.declared.repair.Repair.{Repair}
use Rattle.lsr_facts.specs.declared.resv_fact.ResvFact.{ResvFact}
use Rattle.lsr_facts.specs.declared.router.Router.{Router}
use Rattle.abstract_router.specs.BypassTunnels.{bypass_tunnels_of}
use Rattle.abstract_router.specs.Reserving.{key_in}
use Rattle.abstract_router.specs.Soundness.{IsSound}
use Rattle.abstract_router.specs.States.{State}
use Rattle.abstract_router.specs.Steps.{AreSettled}
use Rattle.abstract_world.specs.Wires.{router_at}
use Rattle.abstract_world.specs.Worlds.{WorldState, at, routers_in}
use Rattle.abstract_world.specs.declared.sent.Sent.{Sent}
use Rattle.world_laws.specs.Given.{Gave, IsGivenBy, IsGivenFrom, IsGivenOver, IsTrueRecord, name_of}

-- ---- frames

-- What a Resv says of one LSP: a router that has the address of its hop gave the label to that LSP (RFC 2205, 3.1.4; RFC 3209, 4.1),
-- and the record is true.
pub record IsTrueDescriptor (w : WorldState) (v : Resv) (d : FlowDescriptor) : Type 0 where
  pub label : IsGivenFrom w v.hop.address (name_of (key_in v d)) d.label.number
  pub recorded : IsTrueRecord w (name_of (key_in v d)) (unwrap_or d.recorded [])

-- A Resv is true where all that it says is; other messages give no labels.
abbrev pub IsTrueMessage : WorldState → Content → Type 0
IsTrueMessage w (contents.Resv v) = AllByRecursion (IsTrueDescriptor w v) v.descriptors
IsTrueMessage w content = Unit {0}

-- so it is with a message that is unread, whatever its bytes spell
abbrev pub IsTrueUnread : WorldState → List ℕ → Type 0
IsTrueUnread w bytes = (content : Content) → SpellsReading bytes (readings.Whole content) → IsTrueMessage w content

-- the hop of a Resv is an address of the router of this place
abbrev pub IsFrom : WorldState → ℕ → Content → Type 0
IsFrom w place (contents.Resv v) = (r : Router) × (router_at (routers_in w.routers) place ≡ Some r) × Contains (own_addresses r) v.hop.address
IsFrom w place content = Unit {0}

-- and with one under a stack of labels, be it this router's own or passed on
abbrev pub IsTruePayload : WorldState → Payload → Type 0
IsTruePayload w (payloads.Received (received_payloads.Bytes content)) = Unit {0}
IsTruePayload w (payloads.Received (received_payloads.Message message)) = IsTrueUnread w message
IsTruePayload w (payloads.Message content) = IsTrueMessage w content

-- A frame that the router of this place sends is true where the message in it is; and a Resv that it sends to a neighbour has a hop
-- that is its own address (RFC 2205, 3.1.2).
abbrev pub IsTrueFrame : WorldState → ℕ → Frame → Type 0
IsTrueFrame w place (frames.Hop content) = IsFrom w place content × IsTrueMessage w content
IsTrueFrame w place (frames.Labelled stack payload) = IsTruePayload w payload
IsTrueFrame w place (frames.Routed to limit content) = IsTrueMessage w content
IsTrueFrame w place (frames.Relayed to limit message) = IsTrueUnread w message

-- so is one that was sent
abbrev pub IsTruthful : WorldState → Sent → Type 0
IsTruthful w sent = IsTrueFrame w sent.router sent.output.frame

-- ---- routers

-- A reservation at the router of this place: the router at the other end of its link gave its label to the LSP.
pub record IsTrueResv (w : WorldState) (place : ℕ) (key : Key) (resv : ResvFact) : Type 0 where
  pub label : IsGivenOver w (record { router = place; link = resv.link }) (name_of key) resv.label
  pub recorded : IsTrueRecord w (name_of key) (unwrap_or resv.recorded [])

-- A repair: the router that its bypass ends at gave its label to the LSP (RFC 4090, 6.4.1).
pub record IsTrueRepair (w : WorldState) (r : Router) (s : State) (key : Key) (repair : Repair) : Type 0 where
  pub bypass_tunnel : BypassTunnel
  pub known : find nat_cmp repair.bypass (bypass_tunnels_of r s) ≡ Some bypass_tunnel
  pub label : IsGivenBy w bypass_tunnel.ends_at (name_of key) repair.resv.label
  pub recorded : IsTrueRecord w (name_of key) (unwrap_or repair.resv.recorded [])

-- A sound router of this place, all of whose reservations and repairs are so, and which gave each label that an LSP has here.
pub record IsTrueRouter (w : WorldState) (place : ℕ) (r : Router) (s : State) : Type 0 where
  pub router : IsRouter r
  pub sound : IsSound r s
  pub settled : AreSettled r s
  pub resvs : (key : Key) (resv : ResvFact) → find key_cmp key s.resvs ≡ Some resv → IsTrueResv w place key resv
  pub repairs : (key : Key) (repair : Repair) → find key_cmp key s.repairs ≡ Some repair → IsTrueRepair w r s key repair
  pub labels : (key : Key) (label : ℕ) → find key_cmp key s.labels ≡ Some label → Gave w place (name_of key) label

-- ---- worlds

-- Each router is so, and each frame that was ever sent is true.
pub record IsTrueWorld (w : WorldState) : Type 0 where
  pub routers : (place : ℕ) (r : Router) (s : State) → at w place ≡ Some (record { router = r; state = s }) → IsTrueRouter w place r s
  pub frames : AllByRecursion (IsTruthful w) w.frames
