use Rattle.std.proofs.Common.{◌≡◌, take}
use Rattle.std.specs.Prelude.{◌||◌}
use Rattle.lsr_facts.specs.Orders.{key_cmp}
use Rattle.lsr_facts.specs.declared.key.Key.{Key}
use Rattle.abstract_paths.specs.Touched.{is_among}
use Rattle.state_sends.proofs.touched.with_keys.Given as goal

-- so many keys are among them
abbrev pub invariant-loop-row : goal.invariant-loop-row
invariant-loop-row g l = (key : Key) → is_among key_cmp l.all key ≡ (is_among key_cmp (take l.row-index l.rows) key || is_among key_cmp l.fn.keys key)
