use Rattle.std.proofs.Common.{◌≡◌, take}
use Rattle.std.specs.FinMap.Entries.{where_key}
use Rattle.lsr_facts.specs.Orders.{key_cmp}
use Rattle.abstract_router.specs.Assigning.{is_in_use}
use Rattle.bandwidth_protection.proofs.in_use.used_of.Given as goal

-- so many are looked at
abbrev pub invariant-loop-row : goal.invariant-loop-row
invariant-loop-row g l = l.used.items ≡ where_key key_cmp (is_in_use (g.A.StateView.state l.fn.after)) (take l.row-index l.rows)
