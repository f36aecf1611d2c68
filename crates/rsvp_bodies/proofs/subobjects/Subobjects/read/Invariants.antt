use Rattle.std.proofs.Common.{length}
use Rattle.rsvp_bodies.proofs.Sequences.{IsReadUpTo}
use Rattle.rsvp_bodies.proofs.subobjects.Subobjects.read.Given as goal

-- what was read, followed by what the rest spells, is what the bytes spell
abbrev pub invariant-loop-rest : goal.invariant-loop-rest
invariant-loop-rest g l = IsReadUpTo g.T.Subobject.Spells l.bytes l.items.items l.rest

-- each subobject takes bytes away
abbrev pub decreases-loop-rest : goal.decreases-loop-rest
decreases-loop-rest g l = length l.rest
