-- The first object of a list of bytes, by its length field: the reader's way to `object_bytes` of `Raw`, which
-- is the standard's sentence.
use Rattle.std.specs.Prelude.{ℕ, ◌-◌, ◌%◌, Bool, ◌&&◌, ◌==◌, nat_le, if◌then◌else◌, List, length, take, drop, slice_index, Option, Some, None}
use Rattle.byteorder.specs.Endian.{big_number}
use Rattle.rsvp_objects.specs.Raw.{Raw}

-- the length that stands in the first two bytes counts whole words, the header among them, within the bytes
abbrev pub has_frame : List ℕ → Bool
has_frame bytes =
    nat_le 4 (length bytes) && (nat_le 4 (big_number 2 bytes) && (big_number 2 bytes % 4 == 0 && nat_le (big_number 2 bytes) (length bytes)))

-- its class, C-Type and body
abbrev pub frame_at : List ℕ → Raw
frame_at bytes =
    record {
      class = slice_index bytes 2;
      ctype = slice_index bytes 3;
      body = take (big_number 2 bytes - 4) (drop 4 bytes);
    }

-- the first object, where its length is good
unfoldable pub frame_in : List ℕ → Option Raw
frame_in bytes = if has_frame bytes then Some (frame_at bytes) else None
