-- Where the paths of LSPs come from.
use Rattle.std.specs.Prelude.{List, []}
use Rattle.std.specs.Option.{option_map_or}
use Rattle.std.specs.FinMap.Entries.{find}
use Rattle.std.specs.declared.net.ipv4_addr.Ipv4Addr.{Ipv4Addr}
use Rattle.lsr_facts.specs.Orders.{key_cmp}
use Rattle.lsr_facts.specs.declared.key.Key.{Key}
use Rattle.lsr_facts.specs.declared.path_fact.Origin.{Origin}
use Rattle.lsr_facts.specs.declared.path_fact.PathFact.{PathFact}

-- the origins of one LSP's path, by sender: none where the LSP isn't known
abbrev pub origins_of : Key → List (Key × PathFact) → List (Ipv4Addr × Origin)
origins_of key paths = option_map_or (λ fact. fact.origins) (find key_cmp key paths) []
