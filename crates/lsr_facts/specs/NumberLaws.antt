-- What compares as equal has the same number.
use Rattle.std.proofs.Common.{◌≡◌, ap, sym, ◌∙◌}
use Rattle.std.specs.declared.cmp.Ordering.{Ordering}
use Rattle.std.specs.declared.cmp.Ordering.TheVariants.{Equal}
use Rattle.lsr_facts.specs.OrderLaws.{item_exact, key_exact}
use Rattle.lsr_facts.specs.Orders.{item_cmp, key_cmp}
use Rattle.lsr_facts.specs.declared.key.Key.{Key}
use Rattle.lsr_facts.specs.declared.key.Item.{Item}
use Rattle.lsr_facts.specs.UpstreamOrder.{upstream_exact}
use Rattle.lsr_facts.specs.Upstreams.{upstream_cmp}
use Rattle.lsr_facts.specs.declared.upstream.Upstream.{Upstream}
use Rattle.lsr_facts.specs.Numbers.{item_number, key_number, upstream_number}

pub key_same : (a b : Key) → key_cmp a b ≡ Equal → key_number a ≡ key_number b
key_same a b tie = ap key_number (key_exact a b tie)

-- also where another comparison answers as that of items
pub item_same : {cmp : Item → Item → Ordering} → cmp ≡ item_cmp → (a b : Item) → cmp a b ≡ Equal → item_number a ≡ item_number b
item_same is a b tie = ap item_number (item_exact a b (sym (λ i. is i a b) ∙ tie))

pub upstream_same : (a b : Upstream) → upstream_cmp a b ≡ Equal → upstream_number a ≡ upstream_number b
upstream_same a b tie = ap upstream_number (upstream_exact a b tie)
