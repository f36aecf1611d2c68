-- The order of the Resvs that are kept alive at neighbours upstream.
use Rattle.std.specs.Ordering.{nat_cmp, ordering_then}
use Rattle.std.specs.declared.cmp.Ordering.{Ordering}
use Rattle.lsr_facts.specs.Orders.{address_cmp, key_cmp}
use Rattle.lsr_facts.specs.declared.upstream.Upstream.{Upstream}

-- by key, sender, link, neighbour
abbrev pub upstream_cmp : Upstream → Upstream → Ordering
upstream_cmp a b =
    ordering_then (key_cmp a.key b.key) (ordering_then (address_cmp a.sender b.sender) (ordering_then (nat_cmp a.link b.link) (address_cmp a.hop b.hop)))
