-- On all links it is within the limits just where it is on those that are left.
use Rattle.std.proofs.Common.{drop}
use Rattle.std.specs.List.{AllByRecursion}
use Rattle.std.specs.Prelude.{◌↔◌}
use Rattle.plain_bandwidth.specs.Limits.{IsWithinAt}
use Rattle.plain_bandwidth.proofs.bandwidth.are_each_within.Given as goal

abbrev pub invariant-loop-link : goal.invariant-loop-link
invariant-loop-link l = AllByRecursion (IsWithinAt l.claims) (drop l.link-index l.links) ↔ AllByRecursion (IsWithinAt l.claims) l.links
