-- What is left of the capacities of bypasses.
use Rattle.std.specs.Prelude.{◌≡◌, ℕ, ◌+◌, List}
use Rattle.std.specs.FinMap.Entries.{find}
use Rattle.std.specs.Option.{option_map_or}
use Rattle.std.specs.Ordering.{nat_cmp}
use Rattle.lsr_facts.specs.declared.assignment.Assignment.{Assignment}
use Rattle.bypass_shares.specs.Shares.{assigned_of}

-- what is left of a bypass: nothing of one that isn't there
abbrev pub left_at : List (ℕ × ℕ) → ℕ → ℕ
left_at left number = option_map_or (λ rate. rate) (find nat_cmp number left) 0

-- what is left and what is assigned of a bypass are together its capacity
abbrev pub AreLeft : {K : Type 0} → (ℕ → ℕ) → List (ℕ × ℕ) → List (K × Assignment) → Type 0
AreLeft capacity left pairs = (number : ℕ) → left_at left number + assigned_of number pairs ≡ capacity number
