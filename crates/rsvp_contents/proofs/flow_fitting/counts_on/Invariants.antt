use Rattle.std.proofs.Common.{◌≡◌, drop, false}
use Rattle.rsvp_contents.specs.Errors.{counts_on}
use Rattle.rsvp_contents.proofs.flow_fitting.counts_on.Given as goal

-- the answer is that for the rest
abbrev pub invariant-loop-descriptor : goal.invariant-loop-descriptor
invariant-loop-descriptor l = counts_on false l.descriptors ≡ counts_on l.counted (drop l.descriptor-index l.descriptors)
