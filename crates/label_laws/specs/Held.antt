-- Where what a router holds of its LSPs comes from: reservations, repairs, and with them the labels that it sends frames under.
use Rattle.std.specs.Prelude.{◌≡◌, ◌⊎◌, true, Contains, [], Some, unwrap_or}
use Rattle.std.specs.FinMap.Entries.{find}
use Rattle.std.specs.Ordering.{nat_cmp}
use Rattle.rsvp_contents.specs.declared.descriptors.FlowDescriptor.{FlowDescriptor}
use Rattle.rsvp_contents.specs.declared.message.Reading.TheVariants as readings
use Rattle.rsvp_contents.specs.declared.messages.Content.TheVariants as contents
use Rattle.rsvp_contents.specs.declared.messages.Resv.{Resv}
use Rattle.lsr_facts.specs.Orders.{key_cmp}
use Rattle.lsr_facts.specs.Reservations.{style_of}
use Rattle.lsr_facts.specs.declared.key.Key.{Key}
use Rattle.lsr_facts.specs.declared.repair.BypassTunnel.{BypassTunnel}
use Rattle.lsr_facts.specs.declared.repair.Repair.{Repair}
use Rattle.lsr_facts.specs.declared.resv_fact.ResvFact.{ResvFact}
use Rattle.lsr_facts.specs.declared.resv_fact.ResvStyle.{ResvStyle}
use Rattle.lsr_facts.specs.declared.router.Router.{Router}
use Rattle.abstract_paths.specs.Places.{is_up}
use Rattle.abstract_paths.specs.declared.events.Event.{Event}
use Rattle.abstract_paths.specs.declared.events.Event.TheVariants as events
use Rattle.abstract_paths.specs.declared.ways.ArrivalWay.{ArrivalWay}
use Rattle.abstract_paths.specs.declared.ways.ArrivalWay.TheVariants as ways
use Rattle.abstract_paths.specs.declared.ways.Arrive.{Arrive}
use Rattle.abstract_router.specs.BypassTunnels.{bypass_tunnels_of}
use Rattle.abstract_router.specs.Protecting.{ends_at_peer, label_after}
use Rattle.abstract_router.specs.Reserving.{key_in, resv_by}
use Rattle.abstract_router.specs.Returning.{ends_at, is_known_as}
use Rattle.abstract_router.specs.States.{State}

-- a Resv came this way, over a link that is up, was read whole, and has the descriptor; its style is one that is granted
pub record Brings (s : State) (event : Event) (way : ArrivalWay) (message : Resv) (d : FlowDescriptor) (style : ResvStyle) : Type 0 where
  pub arrived : Arrive
  pub came : event ≡ events.Arrive arrived
  pub by_way : arrived.way ≡ way
  pub read : arrived.reading ≡ readings.Whole (contents.Resv message)
  pub up : is_up s.facts.up arrived.link ≡ true
  pub among : Contains message.descriptors d
  pub of_style : style_of message.style ≡ Some style

-- A neighbour's Resv asked for just this reservation of this LSP (RFC 2205, 3.1.4).
pub record IsAskedFor (s : State) (event : Event) (key : Key) (resv : ResvFact) : Type 0 where
  pub message : Resv
  pub descriptor : FlowDescriptor
  pub style : ResvStyle
  pub brings : Brings s event ways.Hop message descriptor style
  pub named : key ≡ key_in message descriptor
  pub asked : resv ≡ resv_by s.facts.moment brings.arrived.link style message descriptor

-- A repair was made of the LSP's reservation (RFC 4090, 6.4.1): all of that but its label, which is now one that the bypass's
-- end takes: the reservation's own where the bypass ends at the next router, or else the one that the reservation's record has
-- directly after the address of the bypass's end.
pub record IsMadeOf (r : Router) (before after : State) (key : Key) (repair : Repair) : Type 0 where
  pub resv : ResvFact
  pub reserved : find key_cmp key before.resvs ≡ Some resv
  pub bypass_tunnel : BypassTunnel
  pub known : find nat_cmp repair.bypass (bypass_tunnels_of r after) ≡ Some bypass_tunnel
  pub kept : repair.resv ≡ record resv { label = repair.resv.label }
  pub label :
      ((ends_at_peer r resv bypass_tunnel ≡ true) × (repair.resv.label ≡ resv.label))
      ⊎ (label_after bypass_tunnel.ends_at (unwrap_or resv.recorded []) ≡ Some repair.resv.label)

-- A repair was renewed by a Resv from the end of its bypass, which knows the LSP by this router's address on the protected
-- link (RFC 4090, 6.4.3): bypass and link stay, and all else is what the Resv asks for.
pub record IsRenewed (r : Router) (s : State) (event : Event) (key : Key) (repair : Repair) : Type 0 where
  pub old : Repair
  pub was : find key_cmp key s.repairs ≡ Some old
  pub message : Resv
  pub descriptor : FlowDescriptor
  pub style : ResvStyle
  pub brings : Brings s event ways.Routed message descriptor style
  pub from_end : ends_at r s message.hop.address (key, old) ≡ true
  pub known_as : is_known_as r (key_in message descriptor) (key, old) ≡ true
  pub renewed : repair ≡ record old { resv = resv_by s.facts.moment old.resv.link style message descriptor }
