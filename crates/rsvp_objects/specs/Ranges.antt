-- The numbers that fit the fields of the values: every value of the program is so. Fields of one byte are
-- left out, since they are read and written as they are.
use Rattle.std.specs.Prelude.{◌≡◌, ◌<◌, ◌^◌, length}
use Rattle.std.specs.Net.Addr.{ipv4_octets}
use Rattle.std.specs.declared.net.Ipv4Addr.{Ipv4Addr}
use Rattle.rsvp_objects.specs.declared.values.Session.{Session}
use Rattle.rsvp_objects.specs.declared.values.Hop.{Hop}
use Rattle.rsvp_objects.specs.declared.values.ErrorSpec.{ErrorSpec}
use Rattle.rsvp_objects.specs.declared.values.Template.{Template}
use Rattle.rsvp_bodies.specs.Affinities.{IsAffinities}
use Rattle.rsvp_objects.specs.declared.values.FastReroute.{FastReroute}

-- four octets
abbrev pub IsAddress : Ipv4Addr → Type 0
IsAddress a = length (ipv4_octets a) ≡ 4

pub record IsSession (s : Session) : Type 0 where
  pub endpoint : IsAddress s.endpoint
  pub tunnel : s.tunnel < 2 ^ 16
  pub extended : IsAddress s.extended

pub record IsHop (h : Hop) : Type 0 where
  pub address : IsAddress h.address
  pub interface : h.interface < 2 ^ 32

pub record IsErrorSpec (e : ErrorSpec) : Type 0 where
  pub node : IsAddress e.node
  pub value : e.value < 2 ^ 16

pub record IsTemplate (t : Template) : Type 0 where
  pub sender : IsAddress t.sender
  pub lsp : t.lsp < 2 ^ 16

pub record IsFastReroute (f : FastReroute) : Type 0 where
  pub bandwidth : f.bandwidth < 2 ^ 32
  pub affinities : IsAffinities f.affinities
