use Rattle.std.proofs.Common.{◌≡◌, take}
use Rattle.abstract_router.specs.Through.{passing_through}
use Rattle.wanted_messages.proofs.backups.passing_through.Given as goal

-- so many of the objects were looked at
abbrev pub invariant-loop-object : goal.invariant-loop-object
invariant-loop-object l = l.through ≡ passing_through (take l.object-index l.object-items)
