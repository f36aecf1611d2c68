-- What a key, or a table of records, may have.
use Rattle.std.specs.Prelude.{ℕ, List, codes}
use Rattle.lsr_config.specs.declared.fault.ConfigFault.{ConfigFault}
use Rattle.lsr_config.specs.declared.fault.ConfigFault.TheVariants as fault
use Rattle.lsr_config.specs.declared.key.Key.{Key}
use Rattle.lsr_config.specs.declared.key.Key.TheVariants as key
use Rattle.config_text.specs.declared.section.Section.TheVariants as sections
use Rattle.config_text.specs.declared.section.Spot.{Spot}
use Rattle.config_text.specs.declared.section.Spot.TheVariants as spots

-- an address
abbrev pub address_allowed : List ℕ
address_allowed = codes "four numbers from 0 to 255 without leading zeros, with dots between them, in quotes, as \"10.0.0.2\""

-- a priority
abbrev pub priority_allowed : List ℕ
priority_allowed = codes "a whole number from 0 to 7"

-- a socket address
abbrev pub socket_allowed : List ℕ
socket_allowed = codes "an IPv4 or [IPv6] address, no name, a colon and a port from 0 to 65535, in quotes, as \"127.0.0.1:5002\""

-- the number of a record
abbrev pub number_allowed : Spot → List ℕ
number_allowed (spots.Record sections.Links number) = codes "a whole number from 1 to 65535"
number_allowed spot = codes "a whole number from 0 to 65535"

-- a table of links, or the number of one
abbrev pub link_allowed : Spot → List ℕ
link_allowed spots.Top = codes "records, each after a line [[link]]"
link_allowed (spots.Record section number) = codes "the number of a link, a whole number from 1 to 65535"

-- a table of routes, or the route of a tunnel
abbrev pub route_allowed : Spot → List ℕ
route_allowed spots.Top = codes "records, each after a line [[route]]"
route_allowed (spots.Record section number) =
    codes "at most 31 steps in brackets, as [\"10.1.0.2/32\", \"~10.0.0.4/32\"], each an address, a slash and a length from 0 to 32, after ~ where it is loose"

-- a table of tunnels, or the number of one
abbrev pub tunnel_allowed : Spot → List ℕ
tunnel_allowed spots.Top = codes "records, each after a line [[tunnel]]"
tunnel_allowed (spots.Record section number) = codes "the number of a tunnel, a whole number from 0 to 65535"

-- the values of a key
unfoldable pub values_allowed : Key → Spot → List ℕ
values_allowed key.Router spot = address_allowed
values_allowed key.RefreshMs spot = codes "a whole number from 1 to 4294967295, in milliseconds"
values_allowed key.Labels spot =
    codes "[first, last], two whole numbers from 16 to 1048575, the first not above the last, at most 4096 labels"
values_allowed key.LabelRestMs spot = codes "a whole number from 0 to 4294967295, in milliseconds"
values_allowed key.Link spot = link_allowed spot
values_allowed key.Number spot = number_allowed spot
values_allowed key.Address spot = address_allowed
values_allowed key.Peer spot = address_allowed
values_allowed key.PeerRouter spot = address_allowed
values_allowed key.Limit spot = codes "a whole number from 0 to 1125899906842624, in bytes per second"
values_allowed key.Up spot = codes "true or false"
values_allowed key.Listen spot = socket_allowed
values_allowed key.Send spot = socket_allowed
values_allowed key.Route spot = route_allowed spot
values_allowed key.Prefix spot = codes "an address, a slash and a length from 0 to 32, in quotes, as \"10.0.0.4/32\""
values_allowed key.Tunnel spot = tunnel_allowed spot
values_allowed key.Endpoint spot =
    codes "four numbers from 0 to 255 without leading zeros, with dots between them, in quotes, as \"10.0.0.4\", neither router nor the address of a link"
values_allowed key.Rate spot =
    codes "the eight hexadecimal digits of an IEEE 754 word, in quotes, as \"47f42400\", in bytes per second, not negative and below 2^50"
values_allowed key.Setup spot = priority_allowed
values_allowed key.Hold spot = priority_allowed
values_allowed key.Flags spot = codes "a whole number from 0 to 255"
values_allowed key.Name spot = codes "a text of at most 255 bytes, in quotes"
values_allowed key.Bypass spot = codes "records, each after a line [[bypass]]"
values_allowed key.Capacity spot = codes "a whole number from 0 to the rate of the bypass's tunnel, in bytes per second"

-- a value that each record has for itself
unfoldable pub own_allowed : Key → List ℕ
own_allowed key.Address = codes "an address that neither router nor another link has"
own_allowed key.Prefix = codes "a prefix that no other route has, once bits past its length are 0"
own_allowed _ = codes "a number that no other record of this table has"

-- a number that names a record
unfoldable pub name_allowed : Key → List ℕ
name_allowed key.Tunnel = codes "the number of a record of [[tunnel]]"
name_allowed _ = codes "the number of a record of [[link]]"

-- how many records a table has
unfoldable pub count_allowed : Key → List ℕ
count_allowed key.Link = codes "at most 16 records"
count_allowed key.Bypass = codes "at most 64 records"
count_allowed _ = codes "at most 256 records"

-- the keys that stand at the spot
unfoldable pub keys_allowed : Spot → List ℕ
keys_allowed spots.Top = codes "router, refresh_ms, labels, label_rest_ms, link, route, tunnel, bypass"
keys_allowed (spots.Record sections.Links number) = codes "number, address, peer, peer_router, limit, up, listen, send"
keys_allowed (spots.Record sections.Routes number) = codes "prefix, link"
keys_allowed (spots.Record sections.Tunnels number) = codes "number, endpoint, route, rate, setup, hold, flags, name"
keys_allowed (spots.Record sections.Bypasses number) = codes "number, tunnel, link, capacity"

-- TOML
abbrev pub toml_allowed : List ℕ
toml_allowed = codes "TOML: each line has KEY = VALUE, or begins a record, as [[link]]; each key stands once in its record"

-- what is allowed where this fault is
unfoldable pub allowed : ConfigFault → Spot → List ℕ
allowed (fault.Missing key) spot = values_allowed key spot
allowed (fault.BadValue key) spot = values_allowed key spot
allowed (fault.Repeated key) spot = own_allowed key
allowed (fault.UnknownName key) spot = name_allowed key
allowed (fault.TooMany key) spot = count_allowed key
allowed (fault.UnknownKey name) spot = keys_allowed spot
allowed fault.Text spot = toml_allowed
allowed fault.Memory spot = toml_allowed
