use Rattle.std.proofs.Common.{◌≡◌, map, take}
use Rattle.lsr_facts.specs.Timeless.{timeless_origin}
use Rattle.lsr_facts.proofs.path_fact.are_same_origins.Given as goal

-- so many origins are the same
abbrev pub invariant-loop-i : goal.invariant-loop-i
invariant-loop-i l = map timeless_origin (take l.i l.origins) ≡ map timeless_origin (take l.i l.others)
