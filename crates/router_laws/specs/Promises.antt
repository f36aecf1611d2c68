-- The words of the laws on the bandwidth that bypasses promise.
use Rattle.std.specs.Prelude.{◌≡◌, ◌==◌, ◌||◌, ℕ, Bool, false, if◌then◌else◌}
use Rattle.std.specs.FinMap.Entries.{find}
use Rattle.std.specs.List.{AllByRecursion, sum_by}
use Rattle.std.specs.Option.{option_map_or}
use Rattle.std.specs.Ordering.{is_lt}
use Rattle.lsr_facts.specs.Orders.{key_cmp}
use Rattle.lsr_facts.specs.declared.assignment.Assignment.{Assignment}
use Rattle.lsr_facts.specs.declared.bypass.Bypass.{Bypass}
use Rattle.lsr_facts.specs.declared.key.Key.{Key}
use Rattle.lsr_facts.specs.declared.repair.Repair.{Repair}
use Rattle.abstract_router.specs.Assigning.{rate_in}
use Rattle.abstract_router.specs.States.{State}

-- what a repair brings over the bypass of a number, in bytes per second
abbrev pub brought_by : ℕ → Repair → ℕ
brought_by number repair = if repair.bypass == number then rate_in repair.resv else 0

-- what all repaired LSPs bring over it
abbrev pub brought_over : State → ℕ → ℕ
brought_over s number = sum_by (λ repair. brought_by number repair.1) s.repairs

-- no bypass has bandwidth to promise
abbrev pub HasNoCapacity : State → Type 0
HasNoCapacity s = AllByRecursion (λ (bypass : ℕ × Bypass). bypass.1.capacity ≡ 0) s.facts.bypasses

-- What an LSP is promised came before the turn of another: it was promised bandwidth of that bypass before the step, or its key is
-- less.
abbrev pub came_before : State → Key → Key × Assignment → Bool
came_before before key given =
    option_map_or (λ had. had.bypass == given.1.bypass) (find key_cmp given.0 before.assignments) false || is_lt (key_cmp given.0 key)
