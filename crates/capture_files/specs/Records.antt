-- Classic pcap files (draft-ietf-opsawg-pcap): a file header, then a record for each packet.
use Rattle.std.specs.Prelude.{ℕ, ◌+◌, ◌*◌, ◌%◌, ◌^◌, ◌==◌, not, nat_lt, if◌then◌else◌, List, length, take, drop, Option, Some, None}
use Rattle.byteorder.specs.Endian.{big_number}
use Rattle.capture_files.specs.declared.endian.Endian.{Endian}
use Rattle.capture_files.specs.declared.endian.Endian.TheVariants.{Big, Little}
use Rattle.capture_files.specs.declared.fault.Damage.{Damage}
use Rattle.capture_files.specs.declared.fault.Damage.TheVariants as damages
use Rattle.capture_files.specs.declared.record.Classic.{Classic}
use Rattle.capture_files.specs.Numbers.{field}
use Rattle.capture_files.specs.Packets.{Seen}

-- The magic number is a1b2c3d4 where times are in microseconds, and a1b23c4d where they are in nanoseconds. So it says the
-- byte order, and how many nanoseconds a unit of the fraction of a second has.
abbrev pub magic_in : List ℕ → Option (Endian × ℕ)
magic_in bytes =
    if big_number 4 bytes == 0xa1b2c3d4 then Some (Big, 1000)
    else if big_number 4 bytes == 0xd4c3b2a1 then Some (Little, 1000)
    else if big_number 4 bytes == 0xa1b23c4d then Some (Big, 1)
    else if big_number 4 bytes == 0x4d3cb2a1 then Some (Little, 1)
    else None

-- The file header: magic number 4, major version 2, minor version 2, reserved 8, the most bytes of a packet 4, and 4 of which
-- the low 16 bits are the link type. Minor versions, and how long packets may be, aren't looked at.
unfoldable pub header_fault : Endian → List ℕ → Option Damage
header_fault endian bytes =
    if nat_lt (length bytes) 24 then Some damages.Short
    else if not (field endian 4 2 bytes == 2) then Some damages.Version
    else None

abbrev pub classic_in : Endian → ℕ → List ℕ → Classic
classic_in endian unit bytes = record { endian = endian; unit = unit; link_type = field endian 20 4 bytes % 2 ^ 16 }

-- A record: seconds 4, fraction of the second 4, captured length 4, original length 4, and the bytes that were captured.
abbrev pub captured_len : Classic → List ℕ → ℕ
captured_len form bytes = field form.endian 8 4 bytes

-- its only fault is that it doesn't end within the file
unfoldable pub record_fault : Classic → List ℕ → Option Damage
record_fault form bytes =
    if nat_lt (length bytes) 16 then Some damages.Short
    else if nat_lt (length bytes) (16 + captured_len form bytes) then Some damages.Short
    else None

abbrev pub record_in : Classic → List ℕ → Seen
record_in form bytes =
    record {
      time = Some (field form.endian 0 4 bytes * 1_000_000_000 + field form.endian 4 4 bytes * form.unit);
      link_type = form.link_type;
      bytes = take (captured_len form bytes) (drop 16 bytes);
      original_len = field form.endian 12 4 bytes;
    }
