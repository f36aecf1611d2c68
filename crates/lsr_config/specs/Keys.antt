-- The keys of a configuration, by their names.
use Rattle.std.specs.Prelude.{ℕ, List, [], ◌∷◌, codes}
use Rattle.lsr_config.specs.declared.key.Key.{Key}
use Rattle.lsr_config.specs.declared.key.Key.TheVariants as key

-- a key as a configuration spells it
abbrev pub key_name : Key → List ℕ
key_name key.Router = codes "router"
key_name key.RefreshMs = codes "refresh_ms"
key_name key.Labels = codes "labels"
key_name key.LabelRestMs = codes "label_rest_ms"
key_name key.Link = codes "link"
key_name key.Number = codes "number"
key_name key.Address = codes "address"
key_name key.Peer = codes "peer"
key_name key.PeerRouter = codes "peer_router"
key_name key.Limit = codes "limit"
key_name key.Up = codes "up"
key_name key.Listen = codes "listen"
key_name key.Send = codes "send"
key_name key.Route = codes "route"
key_name key.Prefix = codes "prefix"
key_name key.Tunnel = codes "tunnel"
key_name key.Endpoint = codes "endpoint"
key_name key.Rate = codes "rate"
key_name key.Setup = codes "setup"
key_name key.Hold = codes "hold"
key_name key.Flags = codes "flags"
key_name key.Name = codes "name"
key_name key.Bypass = codes "bypass"
key_name key.Capacity = codes "capacity"

-- the keys of a document outside its records
abbrev pub top_keys : List Key
top_keys = key.Router ∷ key.RefreshMs ∷ key.Labels ∷ key.LabelRestMs ∷ key.Link ∷ key.Route ∷ key.Tunnel ∷ key.Bypass ∷ []

-- the keys of a record of the table `link`
abbrev pub link_keys : List Key
link_keys = key.Number ∷ key.Address ∷ key.Peer ∷ key.PeerRouter ∷ key.Limit ∷ key.Up ∷ key.Listen ∷ key.Send ∷ []

-- the keys of a record of the table `route`
abbrev pub route_keys : List Key
route_keys = key.Prefix ∷ key.Link ∷ []

-- the keys of a record of the table `tunnel`
abbrev pub tunnel_keys : List Key
tunnel_keys = key.Number ∷ key.Endpoint ∷ key.Route ∷ key.Rate ∷ key.Setup ∷ key.Hold ∷ key.Flags ∷ key.Name ∷ []

-- the keys of a record of the table `bypass`
abbrev pub bypass_keys : List Key
bypass_keys = key.Number ∷ key.Tunnel ∷ key.Link ∷ key.Capacity ∷ []
