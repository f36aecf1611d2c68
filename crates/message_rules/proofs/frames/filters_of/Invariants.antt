use Rattle.std.proofs.Common.{◌≡◌, map, take}
use Rattle.message_rules.proofs.frames.filters_of.Given as goal

-- so many of the LSPs are named
abbrev pub invariant-loop-descriptor : goal.invariant-loop-descriptor
invariant-loop-descriptor l = l.filters ≡ map (λ d. d.filter) (take l.descriptor-index l.descriptors)
