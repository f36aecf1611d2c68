use Rattle.std.proofs.Common.{length}
use Rattle.rsvp_messages.proofs.CountedUpTo.{IsCountedUpTo}
use Rattle.rsvp_messages.specs.Counts.{AreClasses}
use Rattle.rsvp_messages.proofs.counts.read_objects.Given as goal

abbrev pub invariant-loop-rest : goal.invariant-loop-rest
invariant-loop-rest l = IsCountedUpTo l.kind l.bytes l.kept.items l.rest × AreClasses l.has_class l.kept.items

abbrev pub decreases-loop-rest : goal.decreases-loop-rest
decreases-loop-rest l = length l.rest
