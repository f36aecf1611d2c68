use Rattle.std.proofs.Common.{◌≡◌, drop}
use Rattle.rsvp_contents.specs.Behind.{is_misplaced}
use Rattle.rsvp_messages.proofs.look.is_misplaced.Given as goal

-- the answer is that for the rest
abbrev pub invariant-loop-object : goal.invariant-loop-object
invariant-loop-object l = is_misplaced l.objects ≡ is_misplaced (drop l.object-index l.objects)
