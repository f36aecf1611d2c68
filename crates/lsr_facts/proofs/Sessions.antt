-- Addresses are one where neither stands before the other.
use Rattle.std.proofs.Common.{◌≡◌, ℕ, List, true, ap, subst, nat_eq}
use Rattle.std.proofs.lemmas.Cmp.{tied_itself}
use Rattle.std.specs.Cmp.{both_ways}
use Rattle.std.specs.Cmp.Lexicographic.{pointwise, bytes_decides}
use Rattle.std.specs.Net.Addr.{ipv4_octets}
use Rattle.std.specs.Ordering.{is_eq}
use Rattle.std.specs.declared.net.ipv4_addr.Ipv4Addr.{Ipv4Addr}
use Rattle.sorted_rows.specs.RowsLaws.{ties}
use Rattle.lsr_facts.specs.OrderLaws.{address_exact, address_total}
use Rattle.lsr_facts.specs.Orders.{address_cmp}

-- two addresses have the same octets where neither stands before the other
pub same_place : (a b : Ipv4Addr) → pointwise nat_eq (ipv4_octets a) (ipv4_octets b) ≡ is_eq (address_cmp a b)
same_place a b =
    let decides = bytes_decides (ipv4_octets a) (ipv4_octets b) in
    both_ways (pointwise nat_eq (ipv4_octets a) (ipv4_octets b)) (is_eq (address_cmp a b))
    (λ same. subst (λ x. is_eq (address_cmp a x) ≡ true) (ap (λ (octets : List ℕ). record { octets = octets }) (decides.0 same)) (ap is_eq (tied_itself address_total a)))
    (λ tied. decides.1 (ap ipv4_octets (address_exact a b (ties (address_cmp a b) tied))))
