-- Rows that stand together since they compare alike with what is sought.
use Rattle.std.specs.Prelude.{◌≡◌, ◌≤◌}
use Rattle.std.specs.Ordering.{ordering_index}
use Rattle.std.specs.declared.cmp.Ordering.{Ordering}
use Rattle.std.specs.declared.cmp.Ordering.TheVariants.{Less}

-- a key that rises doesn't fall by the other comparison
abbrev pub RisesBy : {K : Type 0} → (K → K → Ordering) → (K → Ordering) → Type 0
RisesBy {K} cmp compares = (a b : K) → cmp a b ≡ Less → ordering_index (compares a) ≤ ordering_index (compares b)
