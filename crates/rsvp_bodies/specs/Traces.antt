-- The recorded route: which bytes spell which entries (RFC 3209, 4.4).
use Rattle.std.specs.Prelude.{◌≡◌, ◌++◌, ◌==◌, ℕ, List, [], ◌∷◌, Option, Some, None, length, drop, slice_index, if◌then◌else◌}
use Rattle.std.specs.List.{flat_map}
use Rattle.std.specs.Net.Addr.{ipv4_octets}
use Rattle.byteorder.specs.Endian.{big_number, big_bytes}
use Rattle.rsvp_bodies.specs.Reading.{SpellsEach}
use Rattle.rsvp_bodies.specs.Subobjects.{IsSubobject, is_label}
use Rattle.rsvp_bodies.specs.Prefixes.{prefix_at}
use Rattle.rsvp_bodies.specs.declared.trace.Trace.{Trace}
use Rattle.rsvp_bodies.specs.declared.trace.Trace.TheVariants.{Ipv4, Label, Other}

-- The entry that a subobject is. Type 1, IPv4, has 8 bytes: the prefix behind type and length, then flags
-- (RFC 3209, 4.4.1.1). A label has flags behind type and length, and its number in the last four bytes
-- (RFC 3209, 4.4.1.3). Any other subobject is kept as its bytes.
abbrev pub trace_of : List ℕ → Option Trace
trace_of bytes =
    if slice_index bytes 0 == 1
    then (if length bytes == 8 then Some (Ipv4 (prefix_at (drop 2 bytes)) (slice_index bytes 7)) else None)
    else (if is_label bytes then Some (Label (slice_index bytes 2) (big_number 4 (drop 4 bytes))) else Some (Other bytes))

-- The bytes spell the entry.
pub record SpellsTrace (bytes : List ℕ) (trace : Trace) : Type 0 where
  pub subobject : IsSubobject bytes
  pub value : trace_of bytes ≡ Some trace

-- The bytes spell the record: they spell its entries, one behind the other (RFC 3209, 4.4.1).
abbrev pub SpellsRecord : List ℕ → List Trace → Type 0
SpellsRecord = SpellsEach SpellsTrace

-- What an entry is written as.
abbrev pub trace_bytes : Trace → List ℕ
trace_bytes (Ipv4 prefix flags) = 1 ∷ 8 ∷ (ipv4_octets prefix.address ++ (prefix.length ∷ flags ∷ []))
trace_bytes (Label flags label) = 3 ∷ 8 ∷ flags ∷ 1 ∷ big_bytes 4 label
trace_bytes (Other bytes) = bytes

-- What a record is written as.
abbrev pub record_bytes : List Trace → List ℕ
record_bytes traces = flat_map trace_bytes traces
