-- Routes and records that fit their objects.
use Rattle.std.specs.Prelude.{◌≤◌, ◌++◌, [], ◌∷◌, ℕ, List, length}
use Rattle.std.specs.List.{flat_map}
use Rattle.byteorder.specs.Endian.{big_bytes}
use Rattle.rsvp_bodies.specs.Steps.{step_bytes}
use Rattle.rsvp_bodies.specs.Traces.{trace_bytes as written_trace}
use Rattle.rsvp_bodies.specs.declared.step.Step.{Step}
use Rattle.rsvp_bodies.specs.declared.trace.Trace.{Trace}
use Rattle.rsvp_bodies.specs.declared.trace.Trace.TheVariants as traces
use Rattle.journal_bytes.specs.Events.{counted_bytes, prefix_bytes}

-- the route fits the body of an EXPLICIT_ROUTE (RFC 3209, 4.3)
abbrev pub FitsRoute : List Step → Type 0
FitsRoute route = length (flat_map step_bytes route) ≤ 65528

-- the record fits the body of a RECORD_ROUTE (RFC 3209, 4.4)
abbrev pub FitsRecord : List Trace → Type 0
FitsRecord entries = length (flat_map written_trace entries) ≤ 65528

-- a route's steps are the route
abbrev pub same_route : List Step → List Step
same_route route = route

-- a record's entries are the record
abbrev pub same_record : List Trace → List Trace
same_record entries = entries

-- An entry of a recorded route: 1, its prefix and its flags; or 3, its flags and its label; or 255 and its bytes.
abbrev pub trace_bytes : Trace → List ℕ
trace_bytes (traces.Ipv4 prefix flags) = 1 ∷ (prefix_bytes prefix ++ (flags ∷ []))
trace_bytes (traces.Label flags label) = 3 ∷ flags ∷ big_bytes 4 label
trace_bytes (traces.Other bytes) = 255 ∷ counted_bytes bytes

-- A recorded route: how many entries it has, in 4 bytes, and the entries.
abbrev pub record_bytes : List Trace → List ℕ
record_bytes entries = big_bytes 4 (length entries) ++ flat_map trace_bytes entries
