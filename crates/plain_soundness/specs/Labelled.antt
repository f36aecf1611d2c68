-- The labels of two LSPs.
use Rattle.std.specs.Prelude.{◌≡◌, ℕ, true}
use Rattle.std.specs.Ordering.{is_eq}
use Rattle.lsr_facts.specs.Orders.{key_cmp}
use Rattle.lsr_facts.specs.declared.key.Key.{Key}

-- two labels are others, if they are of two LSPs
abbrev pub AreOthers : Key × ℕ → Key × ℕ → Type 0
AreOthers row other = row.1 ≡ other.1 → is_eq (key_cmp row.0 other.0) ≡ true
