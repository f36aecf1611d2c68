use Rattle.std.proofs.Common.{◌≡◌, ◌++◌, None, drop}
use Rattle.std.specs.Option.{option_map}
use Rattle.rsvp_contents.specs.Errors.{errors_of}
use Rattle.rsvp_contents.proofs.flow_reading.error_descriptors_of.Given as goal

-- what was found stands before what the rest says
abbrev pub invariant-loop-object : goal.invariant-loop-object
invariant-loop-object l = errors_of None l.objects ≡ l.found ++ errors_of (option_map (λ f. f.now) l.before) (drop l.object-index l.objects)
