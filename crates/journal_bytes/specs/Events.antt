-- Events as a journal holds them. The highest byte of each number stands first.
use Rattle.std.specs.Prelude.{ℕ, if◌then◌else◌, List, [], ◌∷◌, ◌++◌, length, replicate, Option}
use Rattle.std.specs.List.{flat_map}
use Rattle.std.specs.Option.{option_map_or}
use Rattle.std.specs.Net.Addr.{ipv4_octets}
use Rattle.byteorder.specs.Endian.{big_bytes}
use Rattle.rsvp_bodies.specs.declared.prefix.Prefix.{Prefix}
use Rattle.rsvp_bodies.specs.declared.step.Step.{Step}
use Rattle.rsvp_bodies.specs.declared.step.Step.TheVariants as steps
use Rattle.rsvp_bodies.specs.declared.affinities.Affinities.{Affinities}
use Rattle.rsvp_bodies.specs.declared.attr.Attr.{Attr}
use Rattle.rsvp_bodies.specs.Affinities.{affinities_body}
use Rattle.rsvp_bodies.specs.Attributes.{attr_ctype}
use Rattle.rsvp_objects.specs.declared.values.FastReroute.{FastReroute}
use Rattle.rsvp_objects.specs.Values.{fast_reroute_body}
use Rattle.rsvp_contents.specs.declared.message.Reading.{Reading}
use Rattle.rsvp_contents.specs.declared.message.Reading.TheVariants as readings
use Rattle.rsvp_contents.specs.Picking.{content_in}
use Rattle.rsvp_contents.specs.Written.{message_bytes}
use Rattle.link_frames.specs.Frames.{IsReadAgain}
use Rattle.abstract_paths.specs.declared.ways.ArrivalWay.{ArrivalWay}
use Rattle.abstract_paths.specs.declared.ways.ArrivalWay.TheVariants as ways
use Rattle.abstract_paths.specs.declared.ways.Arrive.{Arrive}
use Rattle.abstract_paths.specs.declared.ways.Relay.{Relay}
use Rattle.abstract_paths.specs.declared.tunnels.NewTunnel.{NewTunnel}
use Rattle.abstract_paths.specs.declared.tunnels.TunnelChange.{TunnelChange}
use Rattle.abstract_paths.specs.declared.tunnels.NewBypass.{NewBypass}
use Rattle.abstract_paths.specs.declared.commands.Command.{Command}
use Rattle.abstract_paths.specs.declared.commands.Command.TheVariants as commands
use Rattle.abstract_paths.specs.declared.events.Event.{Event}
use Rattle.abstract_paths.specs.declared.events.Event.TheVariants as events

-- bytes, and before them how many they are, in 4 bytes
abbrev pub counted_bytes : List ℕ → List ℕ
counted_bytes bytes = big_bytes 4 (length bytes) ++ bytes

-- The way of a message that came, in 1 byte.
abbrev pub way_number : ArrivalWay → ℕ
way_number ways.Hop = 1
way_number ways.Stack = 2
way_number ways.Routed = 3

-- The object that the message's type doesn't know: 0 where there is none; or 1, its class and its C-Type.
abbrev pub unknown_bytes : Reading → List ℕ
unknown_bytes (readings.Whole content) = 0 ∷ []
unknown_bytes (readings.Unknown content class ctype) = 1 ∷ class ∷ ctype ∷ []

-- What a message was read as: the message, and that object.
abbrev pub reading_bytes : Reading → List ℕ
reading_bytes reading = counted_bytes (message_bytes (content_in reading)) ++ unknown_bytes reading

-- A message for this router: its link, its way and what it was read as.
abbrev pub arrive_bytes : Arrive → List ℕ
arrive_bytes a = big_bytes 2 a.link ++ (way_number a.way ∷ reading_bytes a.reading)

-- A message for another router: its link, where it is to go, its limit and the message.
abbrev pub relay_bytes : Relay → List ℕ
relay_bytes r = big_bytes 2 r.link ++ (ipv4_octets r.to ++ (r.limit ∷ counted_bytes r.message))

-- an address and how many of its first bits count
abbrev pub prefix_bytes : Prefix → List ℕ
prefix_bytes p = ipv4_octets p.address ++ (p.length ∷ [])

-- A step: 1, whether it is loose and its prefix; or 2 and its bytes.
abbrev pub step_bytes : Step → List ℕ
step_bytes (steps.Ipv4 loose prefix) = 1 ∷ (if loose then 1 else 0) ∷ prefix_bytes prefix
step_bytes (steps.Other bytes) = 2 ∷ counted_bytes bytes

-- A route: how many steps it has, in 4 bytes, and the steps.
abbrev pub route_bytes : List Step → List ℕ
route_bytes route = big_bytes 4 (length route) ++ flat_map step_bytes route

-- Affinities: three words, or zeros where there are none.
abbrev pub affinities_bytes : Option Affinities → List ℕ
affinities_bytes affinities = option_map_or affinities_body affinities (replicate 12 0)

-- Attributes: their C-Type, the affinities, the priorities, the flags and the name.
abbrev pub attr_bytes : Attr → List ℕ
attr_bytes a = attr_ctype a ∷ (affinities_bytes a.affinities ++ (a.setup ∷ a.hold ∷ a.flags ∷ counted_bytes a.name))

-- The protection that is asked for: 0 where there is none; or 1 and the body of the FAST_REROUTE.
abbrev pub protection_bytes : Option FastReroute → List ℕ
protection_bytes protection = option_map_or (λ f. 1 ∷ fast_reroute_body f) protection (0 ∷ [])

-- A tunnel: its number, its end, its route, its traffic, its attributes and its protection.
abbrev pub tunnel_bytes : NewTunnel → List ℕ
tunnel_bytes t =
    big_bytes 2 t.number ++ (ipv4_octets t.endpoint ++ (route_bytes t.route ++ (t.tspec ++ (attr_bytes t.attr ++ protection_bytes t.fast_reroute))))

-- A change of a tunnel: its number, its route and its traffic.
abbrev pub change_bytes : TunnelChange → List ℕ
change_bytes c = big_bytes 2 c.number ++ (route_bytes c.route ++ c.tspec)

-- the number of a bypass, of its tunnel and of its link
abbrev pub bypass_numbers : NewBypass → List ℕ
bypass_numbers b = big_bytes 2 b.number ++ (big_bytes 2 b.tunnel ++ big_bytes 2 b.link)

-- A bypass: its number, its tunnel, its link and its capacity.
abbrev pub bypass_bytes : NewBypass → List ℕ
bypass_bytes b = bypass_numbers b ++ big_bytes 8 b.capacity

-- A command begins with its code, in 1 byte.
abbrev pub command_code : Command → ℕ
command_code (commands.AddTunnel tunnel) = 1
command_code (commands.ChangeTunnel change) = 2
command_code (commands.CancelChange number) = 3
command_code (commands.DropTunnel number) = 4
command_code (commands.AddBypass bypass) = 5
command_code (commands.DropBypass number) = 6
command_code (commands.AddRoute prefix link) = 7
command_code (commands.DropRoute prefix) = 8

-- what stands after it
abbrev pub command_fields : Command → List ℕ
command_fields (commands.AddTunnel tunnel) = tunnel_bytes tunnel
command_fields (commands.ChangeTunnel change) = change_bytes change
command_fields (commands.CancelChange number) = big_bytes 2 number
command_fields (commands.DropTunnel number) = big_bytes 2 number
command_fields (commands.AddBypass bypass) = bypass_bytes bypass
command_fields (commands.DropBypass number) = big_bytes 2 number
command_fields (commands.AddRoute prefix link) = prefix_bytes prefix ++ big_bytes 2 link
command_fields (commands.DropRoute prefix) = prefix_bytes prefix

-- An event begins with its kind, in 1 byte.
abbrev pub event_kind : Event → ℕ
event_kind (events.Arrive arrive) = 1
event_kind (events.Relay relay) = 2
event_kind (events.Tick moment) = 3
event_kind (events.LinkUp link) = 4
event_kind (events.LinkDown link) = 5
event_kind events.Restart = 6
event_kind events.Start = 7
event_kind (events.Command command) = 8

-- what stands after it
abbrev pub event_fields : Event → List ℕ
event_fields (events.Arrive arrive) = arrive_bytes arrive
event_fields (events.Relay relay) = relay_bytes relay
event_fields (events.Tick moment) = big_bytes 8 moment
event_fields (events.LinkUp link) = big_bytes 2 link
event_fields (events.LinkDown link) = big_bytes 2 link
event_fields events.Restart = []
event_fields events.Start = []
event_fields (events.Command command) = command_code command ∷ command_fields command

-- an event's bytes
abbrev pub event_bytes : Event → List ℕ
event_bytes event = event_kind event ∷ event_fields event

-- The event's message, if it has one for this router, is what is read of the bytes that it is written as.
abbrev pub IsWrittenAgain : Event → Type 0
IsWrittenAgain (events.Arrive a) = IsReadAgain (content_in a.reading)
IsWrittenAgain (events.Relay r) = Unit {0}
IsWrittenAgain (events.Tick moment) = Unit {0}
IsWrittenAgain (events.LinkUp link) = Unit {0}
IsWrittenAgain (events.LinkDown link) = Unit {0}
IsWrittenAgain (events.Command c) = Unit {0}
IsWrittenAgain events.Restart = Unit {0}
IsWrittenAgain events.Start = Unit {0}
