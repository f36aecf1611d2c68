-- Two paths, and the messages that come through stacks of labels.
use Rattle.std.specs.Prelude.{◌≡◌, ◌&&◌, Bool, true, false}
use Rattle.std.specs.Ordering.{is_eq}
use Rattle.std.specs.declared.net.ipv4_addr.Ipv4Addr.{Ipv4Addr}
use Rattle.lsr_facts.specs.Orders.{key_cmp}
use Rattle.lsr_facts.specs.declared.key.Key.{Key}
use Rattle.lsr_facts.specs.declared.path_fact.Origin.{Origin}
use Rattle.lsr_facts.specs.declared.path_fact.PathFact.{PathFact}
use Rattle.abstract_paths.specs.Merging.{came_through, is_stack, under}

-- a message that comes through a stack is of one of them at most, if they are two
abbrev pub ArePairApart : Key × PathFact → Key × PathFact → Type 0
ArePairApart path other = (message : Key) → came_through message path ≡ true → came_through message other ≡ true → is_eq (key_cmp path.0 other.0) ≡ true

-- the Paths of an origin of the one come through a stack, and are the other's too
abbrev pub is_stack_of : Key → Key × PathFact → Ipv4Addr × Origin → Bool
is_stack_of key other origin = is_stack origin.1.via && came_through (under origin.0 key) other

-- they aren't
abbrev pub IsNoStackOf : Key → Key × PathFact → Ipv4Addr × Origin → Type 0
IsNoStackOf key other origin = is_stack_of key other origin ≡ false
