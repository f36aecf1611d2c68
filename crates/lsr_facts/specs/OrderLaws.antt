-- The orders of addresses, keys, items and prefixes are total, and tell all values apart.
use Rattle.std.proofs.Common.{◌≡◌, ℕ, List, refl, ap, sym, subst, ◌∙◌}
use Rattle.std.specs.Cmp.{IsTotalOrder}
use Rattle.std.specs.Cmp.Lexicographic.{nat_list_cmp_total}
use Rattle.std.specs.Net.Addr.{ipv4_octets}
use Rattle.std.specs.Ordering.{nat_cmp, ordering_then}
use Rattle.std.specs.declared.cmp.Ordering.{Ordering}
use Rattle.std.specs.declared.net.ipv4_addr.Ipv4Addr.{Ipv4Addr}
use Rattle.std.proofs.lemmas.Cmp.{nat_cmp_total, on_total, then_total}
use Rattle.std.proofs.lemmas.Map.Lookups.{CmpEqualImpliesEq, exact_bytes, exact_pairs, exact_unsigned}
use Rattle.rsvp_contents.specs.Below.objects.declared.values.Session.{Session}
use Rattle.rsvp_contents.specs.Below.objects.declared.values.Template.{Template}
use Rattle.rsvp_contents.specs.Below.bodies.declared.prefix.Prefix.{Prefix}
use Rattle.lsr_facts.specs.declared.key.Key.{Key}
use Rattle.lsr_facts.specs.declared.key.Item.{Item}
use Rattle.lsr_facts.specs.declared.key.Item.TheVariants.{Down, Backup}
use Rattle.lsr_facts.specs.Orders.{address_cmp, session_cmp, template_cmp, key_cmp, key_of_item, item_cmp, prefix_cmp}

-- two orders, one after the other, tell pairs apart: so also records, through their parts
exact_parts : {A B X : Type 0} (P : A → A → Ordering) (Q : B → B → Ordering) (first : X → A) (second : X → B) (whole : A × B → X) → ((x : X) → whole (first x, second x) ≡ x) → CmpEqualImpliesEq P → CmpEqualImpliesEq Q → CmpEqualImpliesEq (λ (x y : X). ordering_then (P (first x) (first y)) (Q (second x) (second y)))
exact_parts P Q first second whole again p q x y e =
    sym (again x) ∙ ap whole (exact_pairs P Q p q (first x, second x) (first y, second y) e) ∙ again y

pub address_total : IsTotalOrder address_cmp
address_total = on_total ipv4_octets nat_list_cmp_total

pub address_exact : CmpEqualImpliesEq address_cmp
address_exact a b e = ap (λ (octets : List ℕ). record { octets = octets }) (exact_bytes (ipv4_octets a) (ipv4_octets b) e)

pub session_total : IsTotalOrder session_cmp
session_total =
    then_total (on_total (λ (s : Session). s.endpoint) address_total) (then_total (on_total (λ (s : Session). s.tunnel) nat_cmp_total) (on_total (λ (s : Session). s.extended) address_total))

pub session_exact : CmpEqualImpliesEq session_cmp
session_exact =
    exact_parts address_cmp (λ (x y : ℕ × Ipv4Addr). ordering_then (nat_cmp x.0 y.0) (address_cmp x.1 y.1)) (λ s. s.endpoint) (λ s. (s.tunnel, s.extended)) (λ p. record { endpoint = p.0; tunnel = p.1.0; extended = p.1.1 }) (λ s. refl) address_exact (exact_pairs nat_cmp address_cmp exact_unsigned address_exact)

pub template_total : IsTotalOrder template_cmp
template_total = then_total (on_total (λ (t : Template). t.sender) address_total) (on_total (λ (t : Template). t.lsp) nat_cmp_total)

pub template_exact : CmpEqualImpliesEq template_cmp
template_exact = exact_parts address_cmp nat_cmp (λ t. t.sender) (λ t. t.lsp) (λ p. record { sender = p.0; lsp = p.1 }) (λ t. refl) address_exact exact_unsigned

pub key_total : IsTotalOrder key_cmp
key_total = then_total (on_total (λ (k : Key). k.session) session_total) (on_total (λ (k : Key). k.sender) template_total)

pub key_exact : CmpEqualImpliesEq key_cmp
key_exact = exact_parts session_cmp template_cmp (λ k. k.session) (λ k. k.sender) (λ p. record { session = p.0; sender = p.1 }) (λ k. refl) session_exact template_exact

-- an item's parts: its kind, its key, and its link or bypass
abbrev kind_part : Item → ℕ
kind_part (Down key link) = 0
kind_part (Backup key bypass) = 1

abbrev number_part : Item → ℕ
number_part (Down key link) = link
number_part (Backup key bypass) = bypass

cmp_parts : (a b : Item) → ordering_then (nat_cmp (kind_part a) (kind_part b)) (ordering_then (key_cmp (key_of_item a) (key_of_item b)) (nat_cmp (number_part a) (number_part b))) ≡ item_cmp a b
cmp_parts (Down a link) (Down b other) = refl
cmp_parts (Down a link) (Backup b other) = refl
cmp_parts (Backup a bypass) (Down b other) = refl
cmp_parts (Backup a bypass) (Backup b other) = refl

pub item_total : IsTotalOrder item_cmp
item_total = subst IsTotalOrder (λ i a b. cmp_parts a b i) (then_total (on_total kind_part nat_cmp_total) (then_total (on_total key_of_item key_total) (on_total number_part nat_cmp_total)))

pub item_exact : CmpEqualImpliesEq item_cmp
item_exact (Down a link) (Down b other) e = ap (λ (p : Key × ℕ). Down p.0 p.1) (exact_pairs key_cmp nat_cmp key_exact exact_unsigned (a, link) (b, other) e)
item_exact (Down a link) (Backup b other) e = cc
item_exact (Backup a bypass) (Down b other) e = cc
item_exact (Backup a bypass) (Backup b other) e = ap (λ (p : Key × ℕ). Backup p.0 p.1) (exact_pairs key_cmp nat_cmp key_exact exact_unsigned (a, bypass) (b, other) e)

pub prefix_total : IsTotalOrder prefix_cmp
prefix_total = then_total (on_total (λ (p : Prefix). p.address) address_total) (on_total (λ (p : Prefix). p.length) nat_cmp_total)

pub prefix_exact : CmpEqualImpliesEq prefix_cmp
prefix_exact = exact_parts address_cmp nat_cmp (λ p. p.address) (λ p. p.length) (λ p. record { address = p.0; length = p.1 }) (λ p. refl) address_exact exact_unsigned
