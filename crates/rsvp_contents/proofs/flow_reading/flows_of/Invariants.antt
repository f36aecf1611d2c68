use Rattle.std.proofs.Common.{◌≡◌, ◌++◌, None, length}
use Rattle.std.specs.Option.{option_map}
use Rattle.rsvp_contents.specs.Flows.{flows_of}
use Rattle.rsvp_contents.proofs.flow_reading.flows_of.Given as goal

-- what was found stands before what the rest says
abbrev pub invariant-loop-before : goal.invariant-loop-before
invariant-loop-before l = flows_of None l.objects ≡ option_map (λ ds. l.found ++ ds) (flows_of (option_map (λ f. f.now) l.before) l.rest)

abbrev pub decreases-loop-before : goal.decreases-loop-before
decreases-loop-before l = length l.rest
