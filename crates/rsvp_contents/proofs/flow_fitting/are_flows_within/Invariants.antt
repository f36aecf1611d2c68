use Rattle.std.proofs.Common.{◌≡◌, ◌+◌, None, drop}
use Rattle.std.specs.Option.{option_map}
use Rattle.rsvp_contents.specs.Flows.{flow_objects}
use Rattle.rsvp_contents.specs.Lengths.{spelled_len}
use Rattle.rsvp_contents.proofs.flow_fitting.are_flows_within.Given as goal

-- what is left of the room is for the rest
abbrev pub invariant-loop-descriptor : goal.invariant-loop-descriptor
invariant-loop-descriptor l =
    spelled_len (flow_objects None l.descriptors) + l.room ≡ l.fn.most + spelled_len (flow_objects (option_map (λ f. f.now) l.before) (drop l.descriptor-index l.descriptors))
