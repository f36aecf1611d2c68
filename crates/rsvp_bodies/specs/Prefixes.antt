-- Prefixes as subobjects carry them.
use Rattle.std.specs.Prelude.{ℕ, List, slice_index}
use Rattle.rsvp_bodies.specs.Addresses.{address_at}
use Rattle.rsvp_bodies.specs.declared.prefix.Prefix.{Prefix}

-- four bytes of address, then one of prefix length (RFC 3209, 4.3.3.2)
abbrev pub prefix_at : List ℕ → Prefix
prefix_at bytes = record { address = address_at bytes; length = slice_index bytes 4 }
