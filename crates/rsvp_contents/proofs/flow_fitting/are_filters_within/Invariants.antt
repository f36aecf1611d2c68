use Rattle.std.proofs.Common.{◌≡◌, ◌+◌, drop, map}
use Rattle.rsvp_objects.specs.declared.object.Object.TheVariants as objects
use Rattle.rsvp_contents.specs.Lengths.{spelled_len}
use Rattle.rsvp_contents.proofs.flow_fitting.are_filters_within.Given as goal

-- what is left of the room is for the rest
abbrev pub invariant-loop-filter : goal.invariant-loop-filter
invariant-loop-filter l =
    spelled_len (map objects.FilterSpec l.filters) + l.room ≡ l.fn.most + spelled_len (map objects.FilterSpec (drop l.filter-index l.filters))
