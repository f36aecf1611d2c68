-- What is known of a path but for when it expires, which no message says.
use Rattle.std.specs.Prelude.{map}
use Rattle.std.specs.declared.net.ipv4_addr.Ipv4Addr.{Ipv4Addr}
use Rattle.lsr_facts.specs.declared.path_fact.Origin.{Origin}
use Rattle.lsr_facts.specs.declared.path_fact.PathFact.{PathFact}

-- an origin, whenever it expires
abbrev pub timeless_origin : Ipv4Addr × Origin → Ipv4Addr × Origin
timeless_origin origin = (origin.0, record origin.1 { expiry = 0 })

-- a path, whenever its origins do
abbrev pub timeless_path : PathFact → PathFact
timeless_path path = record path { origins = map timeless_origin path.origins }
