-- the objects so far are passed on
use Rattle.std.proofs.Common.{◌≡◌}
use Rattle.body_fields.proofs.passing.passing_of.Given as goal

abbrev pub invariant-loop-object : goal.invariant-loop-object
invariant-loop-object l = l.passing ≡ l.yielded
