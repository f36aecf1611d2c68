-- Events that can be: what the types of the program keep of them.
use Rattle.std.specs.Prelude.{◌≡◌, ℕ, ◌<◌, ◌≤◌, ◌^◌, List, length, IfSome}
use Rattle.std.specs.List.{AllByRecursion}
use Rattle.rsvp_contents.specs.Picking.{content_in}
use Rattle.rsvp_contents.specs.Spelling.{IsMessage}
use Rattle.rsvp_contents.specs.declared.message.Reading.TheVariants as readings
use Rattle.rsvp_contents.specs.declared.message.Reading.{Reading}
use Rattle.rsvp_objects.specs.Ranges.{IsAddress, IsFastReroute}
use Rattle.rsvp_objects.specs.declared.values.FastReroute.{FastReroute}
use Rattle.rsvp_bodies.specs.Attributes.{IsAttr}
use Rattle.rsvp_bodies.specs.Steps.{route_bytes}
use Rattle.rsvp_bodies.specs.Subobjects.{IsOtherStep}
use Rattle.rsvp_bodies.specs.declared.attr.Attr.{Attr}
use Rattle.rsvp_bodies.specs.declared.prefix.Prefix.{Prefix}
use Rattle.rsvp_bodies.specs.declared.step.Step.{Step}
use Rattle.rsvp_bodies.specs.declared.step.Step.TheVariants.{Ipv4, Other}
use Rattle.link_frames.specs.Payloads.{IsData}
use Rattle.abstract_paths.specs.declared.commands.Command.{Command}
use Rattle.abstract_paths.specs.declared.commands.Command.TheVariants.{AddTunnel, ChangeTunnel, CancelChange, DropTunnel, AddBypass, DropBypass, AddRoute, DropRoute}
use Rattle.abstract_paths.specs.declared.events.Event.TheVariants as events
use Rattle.abstract_paths.specs.declared.events.Event.{Event}
use Rattle.abstract_paths.specs.declared.tunnels.NewBypass.{NewBypass}
use Rattle.abstract_paths.specs.declared.tunnels.NewTunnel.{NewTunnel}
use Rattle.abstract_paths.specs.declared.tunnels.TunnelChange.{TunnelChange}
use Rattle.abstract_paths.specs.declared.ways.Arrive.{Arrive}
use Rattle.abstract_paths.specs.declared.ways.Relay.{Relay}

-- a number of 16 bits: of a link, of a tunnel, of a bypass
abbrev pub IsNumber : ℕ → Type 0
IsNumber number = number < 2 ^ 16

-- a set of addresses: an address of four octets, and a length of 8 bits
pub record IsPrefix (prefix : Prefix) : Type 0 where
  pub address : IsAddress prefix.address
  pub bits : prefix.length < 2 ^ 8

-- a step: of type IPv4, or kept byte for byte
abbrev pub IsStep : Step → Type 0
IsStep (Ipv4 loose prefix) = IsPrefix prefix
IsStep (Other bytes) = IsOtherStep bytes

-- a route that may be asked for: it fits the body of an EXPLICIT_ROUTE
pub record IsRoute (route : List Step) : Type 0 where
  pub fits : length (route_bytes route) ≤ 65528
  pub each : AllByRecursion IsStep route

-- attributes that may be asked for: those of a SESSION_ATTRIBUTE
pub record IsAskedAttr (attr : Attr) : Type 0 where
  pub fits : IsAttr attr
  pub setup : attr.setup < 2 ^ 8
  pub hold : attr.hold < 2 ^ 8
  pub flags : attr.flags < 2 ^ 8

-- protection that may be asked for: that of a FAST_REROUTE
pub record IsProtection (f : FastReroute) : Type 0 where
  pub fits : IsFastReroute f
  pub setup : f.setup < 2 ^ 8
  pub hold : f.hold < 2 ^ 8
  pub hop_limit : f.hop_limit < 2 ^ 8
  pub flags : f.flags < 2 ^ 8

-- a tunnel that may be asked for
pub record IsNewTunnel (t : NewTunnel) : Type 0 where
  pub number : IsNumber t.number
  pub endpoint : IsAddress t.endpoint
  pub route : IsRoute t.route
  pub whole_tspec : length t.tspec ≡ 32
  pub attr : IsAskedAttr t.attr
  pub protection : IfSome t.fast_reroute IsProtection

-- a change of a tunnel that may be asked for
pub record IsTunnelChange (c : TunnelChange) : Type 0 where
  pub number : IsNumber c.number
  pub route : IsRoute c.route
  pub whole_tspec : length c.tspec ≡ 32

-- a bypass that may be asked for
pub record IsNewBypass (b : NewBypass) : Type 0 where
  pub number : IsNumber b.number
  pub tunnel : IsNumber b.tunnel
  pub link : IsNumber b.link
  pub capacity : b.capacity < 2 ^ 64

-- A command that can be: each number is within its width, addresses have four octets, a traffic descriptor has 32 bytes.
abbrev pub IsCommand : Command → Type 0
IsCommand (AddTunnel t) = IsNewTunnel t
IsCommand (ChangeTunnel c) = IsTunnelChange c
IsCommand (CancelChange number) = IsNumber number
IsCommand (DropTunnel number) = IsNumber number
IsCommand (AddBypass b) = IsNewBypass b
IsCommand (DropBypass number) = IsNumber number
IsCommand (AddRoute prefix link) = IsPrefix prefix × IsNumber link
IsCommand (DropRoute prefix) = IsPrefix prefix

-- the class and the type of an object that isn't known are of 8 bits
abbrev pub IsUnknown : Reading → Type 0
IsUnknown (readings.Whole content) = Unit {0}
IsUnknown (readings.Unknown content class ctype) = (class < 2 ^ 8) × (ctype < 2 ^ 8)

-- A message that can come: over a link of a number of 16 bits, and it is one.
pub record IsArrive (a : Arrive) : Type 0 where
  pub link : IsNumber a.link
  pub message : IsMessage (content_in a.reading)
  pub unknown : IsUnknown a.reading

-- A message for another router that can come: it has at most 4,096 bytes.
pub record IsRelay (m : Relay) : Type 0 where
  pub link : IsNumber m.link
  pub to : IsAddress m.to
  pub limit : m.limit < 2 ^ 8
  pub message : IsData m.message

-- An event that can be. The types of the program keep that.
abbrev pub IsEvent : Event → Type 0
IsEvent (events.Arrive a) = IsArrive a
IsEvent (events.Relay m) = IsRelay m
IsEvent (events.Tick moment) = moment < 2 ^ 64
IsEvent (events.LinkUp number) = IsNumber number
IsEvent (events.LinkDown number) = IsNumber number
IsEvent (events.Command c) = IsCommand c
IsEvent events.Restart = Unit {0}
IsEvent events.Start = Unit {0}
