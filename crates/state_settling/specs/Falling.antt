-- LSPs for which what they have stands no more: a reservation (RFC 2205, 2.3 and 3.6), or a repair.
use Rattle.std.specs.Prelude.{not, Bool, false, if◌then◌else◌, List, Option, Some, None}
use Rattle.std.specs.FinMap.Entries.{find}
use Rattle.std.specs.Option.{option_map_or}
use Rattle.lsr_facts.specs.Orders.{key_cmp}
use Rattle.lsr_facts.specs.declared.key.Key.{Key}

-- the LSP has a row, which fails a test
abbrev pub fails_at : {X : Type 0} → (Key × X → Bool) → List (Key × X) → Key → Bool
fails_at test rows key = option_map_or (λ x. not (test (key, x))) (find key_cmp key rows) false

-- the LSP, where it has
abbrev pub failing_key : {X : Type 0} → (Key × X → Bool) → List (Key × X) → Key → Option Key
failing_key test rows key = if fails_at test rows key then Some key else None
