-- Which bytes spell which message, and which fault is the first of bytes that spell none.
use Rattle.std.specs.Prelude.{◌≡◌, ℕ, ◌/◌, ◌+◌, ◌≤◌, Bool, not, ◌&&◌, ◌==◌, nat_le, nat_lt, if◌then◌else◌, List, length, drop, slice_index, Option, Some, None, Result, Ok, Err, ◌⊎◌}
use Rattle.byteorder.specs.Endian.{big_number}
use Rattle.internet_checksum.specs.Checksums.{has_good_checksum}
use Rattle.rsvp_bodies.specs.Reading.{SpellsEach}
use Rattle.rsvp_objects.specs.declared.object.Object.{Object}
use Rattle.rsvp_objects.specs.Objects.{SpellsObject}
use Rattle.rsvp_contents.specs.declared.dropped.Dropped.{Dropped}
use Rattle.rsvp_contents.specs.declared.dropped.Dropped.TheVariants as dropped
use Rattle.rsvp_contents.specs.declared.messages.Content.{Content}
use Rattle.rsvp_contents.specs.declared.message.Reading.{Reading}
use Rattle.rsvp_contents.specs.declared.message.Reading.TheVariants as readings
use Rattle.rsvp_contents.specs.Answers.{ReadsOrDrops}
use Rattle.rsvp_contents.specs.Picking.{objects_read}
use Rattle.rsvp_contents.specs.Written.{objects_of, type_of, body_of}

-- Path, Resv, PathErr, ResvErr, PathTear and ResvTear
abbrev pub is_read_type : ℕ → Bool
is_read_type type = nat_le 1 type && nat_le type 6

-- The first fault of the common header (RFC 2205, 3.1.1): version in the top four bits of byte 0, type in
-- byte 1, checksum in bytes 2 and 3, length in bytes 6 and 7.
unfoldable pub header_fault : List ℕ → Option Dropped
header_fault bytes =
    if nat_lt (length bytes) 8 then Some dropped.Short
    else if not (slice_index bytes 0 / 16 == 1) then Some dropped.Version
    else if nat_lt 4096 (length bytes) then Some dropped.TooLong
    else if not (big_number 2 (drop 6 bytes) == length bytes) then Some dropped.LengthField
    else if not (has_good_checksum bytes) then Some dropped.Checksum
    else if not (is_read_type (slice_index bytes 1)) then Some dropped.KindUnsupported
    else None

-- The header is good, and these are the objects behind it.
pub record HasObjects (bytes : List ℕ) (objects : List Object) : Type 0 where
  pub header : header_fault bytes ≡ None
  pub spelled : SpellsEach SpellsObject (drop 8 bytes) objects

-- The bytes spell the reading: what their objects say.
abbrev pub SpellsReading : List ℕ → Reading → Type 0
SpellsReading bytes reading =
    (objects : List Object) × HasObjects bytes objects × (objects_read (slice_index bytes 1) objects ≡ Ok reading)

-- The fault is the first: one of the header; else that what follows it spells no objects; else what is
-- wrong with them.
abbrev pub IsFirstFault : List ℕ → Dropped → Type 0
IsFirstFault bytes fault =
    (header_fault bytes ≡ Some fault)
    ⊎ ((header_fault bytes ≡ None) × ((objects : List Object) → SpellsEach SpellsObject (drop 8 bytes) objects → ⊥) × (fault ≡ dropped.ObjectLength))
    ⊎ ((objects : List Object) × HasObjects bytes objects × (objects_read (slice_index bytes 1) objects ≡ Err fault))

-- The content fits a message: it is written in at most 4,096 bytes, and its objects are read as the same
-- content.
pub record IsMessage (content : Content) : Type 0 where
  pub size : 8 + length (body_of content) ≤ 4096
  pub again : objects_read (type_of content) (objects_of content) ≡ Ok (readings.Whole content)

-- what a reader of messages answers
abbrev pub ReadsMessage : List ℕ → Result Reading Dropped → Type 0
ReadsMessage = ReadsOrDrops SpellsReading IsFirstFault
