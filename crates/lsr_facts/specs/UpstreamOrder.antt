-- The order of Resvs upstream is total, and tells all of them apart.
use Rattle.std.proofs.Common.{ap}
use Rattle.std.specs.Prelude.{ℕ}
use Rattle.std.specs.Cmp.{IsTotalOrder}
use Rattle.std.specs.Ordering.{nat_cmp, ordering_then}
use Rattle.std.specs.declared.net.ipv4_addr.Ipv4Addr.{Ipv4Addr}
use Rattle.std.proofs.lemmas.Cmp.{nat_cmp_total, on_total, then_total}
use Rattle.std.proofs.lemmas.Map.Lookups.{CmpEqualImpliesEq, exact_pairs, exact_unsigned}
use Rattle.lsr_facts.specs.OrderLaws.{address_exact, address_total, key_exact, key_total}
use Rattle.lsr_facts.specs.Orders.{address_cmp, key_cmp}
use Rattle.lsr_facts.specs.declared.key.Key.{Key}
use Rattle.lsr_facts.specs.Upstreams.{upstream_cmp}
use Rattle.lsr_facts.specs.declared.upstream.Upstream.{Upstream}

pub upstream_total : IsTotalOrder upstream_cmp
upstream_total =
    then_total (on_total (λ (u : Upstream). u.key) key_total) (then_total (on_total (λ (u : Upstream). u.sender) address_total) (then_total (on_total (λ (u : Upstream). u.link) nat_cmp_total) (on_total (λ (u : Upstream). u.hop) address_total)))

-- link and neighbour
exact_place : CmpEqualImpliesEq (λ (x y : ℕ × Ipv4Addr). ordering_then (nat_cmp x.0 y.0) (address_cmp x.1 y.1))
exact_place = exact_pairs nat_cmp address_cmp exact_unsigned address_exact

pub upstream_exact : CmpEqualImpliesEq upstream_cmp
upstream_exact a b e =
    ap (λ (p : Key × (Ipv4Addr × (ℕ × Ipv4Addr))). record { key = p.0; sender = p.1.0; link = p.1.1.0; hop = p.1.1.1 })
    (exact_pairs key_cmp (λ (x y : Ipv4Addr × (ℕ × Ipv4Addr)). ordering_then (address_cmp x.0 y.0) (ordering_then (nat_cmp x.1.0 y.1.0) (address_cmp x.1.1 y.1.1))) key_exact (exact_pairs address_cmp (λ (x y : ℕ × Ipv4Addr). ordering_then (nat_cmp x.0 y.0) (address_cmp x.1 y.1)) address_exact exact_place) (a.key, (a.sender, (a.link, a.hop))) (b.key, (b.sender, (b.link, b.hop))) e)
