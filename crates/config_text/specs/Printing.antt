-- What `lsr config` prints: a configuration as the router understands it, in a form that is a configuration again.
use Rattle.std.specs.Prelude.{ℕ, ◌==◌, ◌||◌, nat_lt, List, [], ◌∷◌, ◌++◌, codes, flat_map, Option, Some, None, Bool, true, false, if◌then◌else◌}
use Rattle.std.specs.List.{find}
use Rattle.std.specs.Option.{option_map}
use Rattle.std.specs.Fmt.{decimal}
use Rattle.std.specs.Net.Text.{socket_text}
use Rattle.hex.specs.Hex.{encode_lower}
use Rattle.lsr_config.specs.Configs.{Setup}
use Rattle.lsr_facts.specs.declared.bypass.Bypass.{Bypass}
use Rattle.lsr_facts.specs.declared.router.Link.{Link}
use Rattle.lsr_facts.specs.declared.router.Router.{Router}
use Rattle.lsr_facts.specs.declared.tunnel.Tunnel.{Tunnel}
use Rattle.rsvp_bodies.specs.declared.prefix.Prefix.{Prefix}
use Rattle.rsvp_bodies.specs.declared.step.Step.{Step}
use Rattle.rsvp_bodies.specs.declared.step.Step.TheVariants.{Ipv4, Other}
use Rattle.object_text.specs.Routes.{prefix_text}
use Rattle.object_text.specs.Traffic.{rate_bytes}
use Rattle.object_text.specs.Words.{address_text}
use Rattle.lsr_config.specs.declared.sockets.LinkSockets.{LinkSockets}

-- ---- values

-- whether a link is up
abbrev pub flag_text : Bool → List ℕ
flag_text true = codes "true"
flag_text false = codes "false"

-- what stands before a step: a tilde where it is loose
abbrev pub loose_text : Bool → List ℕ
loose_text true = codes "~"
loose_text false = []

-- a step of a route; of one that leads to no prefix, which no configuration has, the digits of its bytes
abbrev pub step_text : Step → List ℕ
step_text (Ipv4 loose prefix) = loose_text loose ++ prefix_text prefix
step_text (Other bytes) = encode_lower bytes

-- a step in quotes
abbrev pub quoted_step : Step → List ℕ
quoted_step step = codes "\"" ++ (step_text step ++ codes "\"")

-- a step in quotes, after another
abbrev pub next_step : Step → List ℕ
next_step step = codes ", " ++ quoted_step step

-- the steps of a route
abbrev pub steps_text : List Step → List ℕ
steps_text [] = []
steps_text (step ∷ steps) = quoted_step step ++ flat_map next_step steps

-- a byte of a name: a quote and a backslash stand after a backslash, and a control byte is written by its number
abbrev pub name_byte : ℕ → List ℕ
name_byte byte =
    if byte == 34 then codes "\\\"" else (
    if byte == 92 then codes "\\\\" else (
    if nat_lt byte 32 || (byte == 127) then codes "\\u00" ++ encode_lower (byte ∷ []) else byte ∷ []))

-- a name, as it stands between quotes
abbrev pub name_text : List ℕ → List ℕ
name_text name = flat_map name_byte name

-- ---- the tables

-- what stands before the records
abbrev pub router_text : Router → List ℕ
router_text r =
    codes "router = \"" ++ (address_text r.id ++ (codes "\"\nrefresh_ms = " ++ (decimal r.refresh_ms
    ++ (codes "\nlabels = [" ++ (decimal r.labels.first ++ (codes ", " ++ (decimal r.labels.last
    ++ (codes "]\nlabel_rest_ms = " ++ (decimal r.label_rest_ms ++ codes "\n")))))))))

-- the socket addresses of a link, where it has any
abbrev pub sockets_text : Option LinkSockets → List ℕ
sockets_text None = []
sockets_text (Some a) = codes "listen = \"" ++ (socket_text a.listen ++ (codes "\"\nsend = \"" ++ (socket_text a.send ++ codes "\"\n")))

-- the socket addresses of the link of this number
abbrev pub sockets_of : List (ℕ × LinkSockets) → ℕ → Option LinkSockets
sockets_of sockets number = option_map (λ row. row.1) (find (λ row. row.0 == number) sockets)

-- a link's number, and the addresses at its ends
abbrev pub neighbour_text : ℕ × Link → List ℕ
neighbour_text row =
    codes "\n[[link]]\nnumber = " ++ (decimal row.0 ++ (codes "\naddress = \"" ++ (address_text row.1.address
    ++ (codes "\"\npeer = \"" ++ (address_text row.1.peer ++ (codes "\"\npeer_router = \"" ++ (address_text row.1.peer_router ++ codes "\"\n")))))))

-- how much of it may be reserved, and whether it is up
abbrev pub capacity_text : Link → List ℕ
capacity_text link = codes "limit = " ++ (decimal link.limit ++ (codes "\nup = " ++ (flag_text link.up ++ codes "\n")))

-- a record of the table `link`
abbrev pub link_record : List (ℕ × LinkSockets) → ℕ × Link → List ℕ
link_record sockets row = neighbour_text row ++ (capacity_text row.1 ++ sockets_text (sockets_of sockets row.0))

-- a record of the table `route`
abbrev pub route_record : Prefix × ℕ → List ℕ
route_record row =
    codes "\n[[route]]\nprefix = \"" ++ (address_text row.0.address ++ (codes "/" ++ (decimal row.0.length
    ++ (codes "\"\nlink = " ++ (decimal row.1 ++ codes "\n")))))

-- a tunnel's number and its end
abbrev pub ends_text : ℕ × Tunnel → List ℕ
ends_text row = codes "\n[[tunnel]]\nnumber = " ++ (decimal row.0 ++ (codes "\nendpoint = \"" ++ (address_text row.1.endpoint ++ codes "\"\n")))

-- its route
abbrev pub route_text : List Step → List ℕ
route_text steps = codes "route = [" ++ (steps_text steps ++ codes "]\n")

-- what its LSPs ask for: their rate, their priorities and their flags
abbrev pub demand_text : Tunnel → List ℕ
demand_text tunnel =
    codes "rate = \"" ++ (encode_lower (rate_bytes tunnel.current.tspec) ++ (codes "\"\nsetup = " ++ (decimal tunnel.attr.setup
    ++ (codes "\nhold = " ++ (decimal tunnel.attr.hold ++ (codes "\nflags = " ++ (decimal tunnel.attr.flags ++ codes "\n")))))))

-- their name
abbrev pub name_line : List ℕ → List ℕ
name_line name = codes "name = \"" ++ (name_text name ++ codes "\"\n")

-- a record of the table `tunnel`
abbrev pub tunnel_record : ℕ × Tunnel → List ℕ
tunnel_record row = ends_text row ++ (route_text row.1.current.route ++ (demand_text row.1 ++ name_line row.1.attr.name))

-- a record of the table `bypass`
abbrev pub bypass_record : ℕ × Bypass → List ℕ
bypass_record row =
    codes "\n[[bypass]]\nnumber = " ++ (decimal row.0 ++ (codes "\ntunnel = " ++ (decimal row.1.tunnel
    ++ (codes "\nlink = " ++ (decimal row.1.link ++ (codes "\ncapacity = " ++ (decimal row.1.capacity ++ codes "\n")))))))

-- a configuration, whose links have these socket addresses
abbrev pub config_text : Setup → List (ℕ × LinkSockets) → List ℕ
config_text c sockets =
    router_text c.router ++ (flat_map (link_record sockets) c.router.links ++ (flat_map route_record c.routes
    ++ (flat_map tunnel_record c.tunnels ++ flat_map bypass_record c.bypasses)))
