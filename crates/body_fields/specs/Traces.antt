-- The parts of an entry of a recorded route.
use Rattle.std.specs.Prelude.{◌≡◌, ℕ, List, refl}
use Rattle.field_bytes.specs.Making.{IsToldApart, told_by}
use Rattle.field_bytes.specs.declared.cases.OneOf.{OneOf}
use Rattle.field_bytes.specs.declared.cases.OneOf.TheVariants.{This, Other}
use Rattle.rsvp_bodies.specs.Subobjects.{IsOtherTrace}
use Rattle.rsvp_bodies.specs.declared.prefix.Prefix.{Prefix}
use Rattle.rsvp_bodies.specs.declared.trace.Trace.{Trace}
use Rattle.rsvp_bodies.specs.declared.trace.Trace.TheVariants as traces

-- what is kept byte for byte is neither an address nor a label
abbrev pub IsKeptTrace : Trace → Type 0
IsKeptTrace (traces.Ipv4 prefix flags) = Unit {0}
IsKeptTrace (traces.Label flags label) = Unit {0}
IsKeptTrace (traces.Other bytes) = IsOtherTrace bytes

-- its prefix and its flags, its flags and its label, or its bytes
abbrev pub trace_parts : Trace → OneOf (Prefix × ℕ) (OneOf (ℕ × ℕ) (List ℕ))
trace_parts (traces.Ipv4 prefix flags) = This (prefix, flags)
trace_parts (traces.Label flags label) = Other (This (flags, label))
trace_parts (traces.Other bytes) = Other (Other bytes)

-- the entry of these
abbrev pub trace_of : OneOf (Prefix × ℕ) (OneOf (ℕ × ℕ) (List ℕ)) → Trace
trace_of (This parts) = traces.Ipv4 parts.0 parts.1
trace_of (Other (This parts)) = traces.Label parts.0 parts.1
trace_of (Other (Other bytes)) = traces.Other bytes

trace_again : (trace : Trace) → trace_of (trace_parts trace) ≡ trace
trace_again (traces.Ipv4 prefix flags) = refl
trace_again (traces.Label flags label) = refl
trace_again (traces.Other bytes) = refl

pub trace_told : IsToldApart IsKeptTrace trace_parts
trace_told = told_by IsKeptTrace trace_parts trace_of trace_again
