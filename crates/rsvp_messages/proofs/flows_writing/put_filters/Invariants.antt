use Rattle.std.proofs.Common.{drop, map}
use Rattle.rsvp_objects.specs.declared.object.Object.TheVariants as objects
use Rattle.rsvp_messages.proofs.Appended.{IsWritten}
use Rattle.rsvp_messages.proofs.flows_writing.put_filters.Given as goal

-- what is written, and what the rest is written as
abbrev pub invariant-loop-filter : goal.invariant-loop-filter
invariant-loop-filter l = IsWritten l.initial.out.items l.out.items (map objects.FilterSpec l.filters) (map objects.FilterSpec (drop l.filter-index l.filters))
