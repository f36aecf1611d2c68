-- What is found after a claim is kept at another priority.
use Rattle.std.proofs.Common.{◌≡◌, ◌≢◌, List, Option, Some, None, refl}
use Rattle.std.specs.FinMap.Entries.{find, put}
use Rattle.std.specs.Option.{option_map, option_map_or}
use Rattle.sorted_rows.specs.RowsLaws.{find-put_same, find-put_apart}
use Rattle.lsr_facts.specs.Orders.{key_cmp}
use Rattle.lsr_facts.specs.OrderLaws.{key_exact, key_total}
use Rattle.lsr_facts.specs.declared.key.Key.{Key}
use Rattle.lsr_facts.specs.declared.claim.Claim.{Claim}

-- a value under a key becomes another, if there is one
module _ (become : Claim → Claim) (key : Key) (claims : List (Key × Claim)) where
  pub find_become : (was : Option Claim) → find key_cmp key claims ≡ was → find key_cmp key (option_map_or (λ claim. put key_cmp key (become claim) claims) was claims) ≡ option_map become was
  find_become None is = is
  find_become (Some claim) is = find-put_same key_cmp key_total key (become claim) claims

  pub find_other : (other : Key) → other ≢ key → (was : Option Claim) → find key_cmp other (option_map_or (λ claim. put key_cmp key (become claim) claims) was claims) ≡ find key_cmp other claims
  find_other other apart None = refl
  find_other other apart (Some claim) = find-put_apart key_cmp key_total key_exact other key (become claim) claims apart
