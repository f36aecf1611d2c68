use Rattle.std.proofs.Common.{None, drop}
use Rattle.std.specs.Option.{option_map}
use Rattle.rsvp_contents.specs.Errors.{error_objects}
use Rattle.rsvp_messages.proofs.Appended.{IsWritten}
use Rattle.rsvp_messages.proofs.flows_writing.put_error_descriptors.Given as goal

-- what is written, and what the rest is written as
abbrev pub invariant-loop-descriptor : goal.invariant-loop-descriptor
invariant-loop-descriptor l =
    IsWritten l.initial.out.items l.out.items (error_objects None l.descriptors) (error_objects (option_map (λ f. f.now) l.before) (drop l.descriptor-index l.descriptors))
