-- What the bodies of blocks say (draft-ietf-opsawg-pcapng, 4).
use Rattle.std.specs.Prelude.{◌≡◌, ℕ, ◌+◌, ◌*◌, ◌^◌, ◌==◌, ◌||◌, not, nat_lt, min, if◌then◌else◌, Bool, false, List, length, take, drop, slice_get, slice_index, Option, Some, None, option_map, is_none, is_some, ◌⊎◌}
use Rattle.std.specs.Option.{option_map_or}
use Rattle.capture_files.specs.declared.body.Said.{Said}
use Rattle.capture_files.specs.declared.body.Said.TheVariants as said
use Rattle.capture_files.specs.declared.body.Interface.{Interface}
use Rattle.capture_files.specs.declared.endian.Endian.{Endian}
use Rattle.capture_files.specs.declared.fault.Damage.{Damage}
use Rattle.capture_files.specs.declared.fault.Damage.TheVariants as damages
use Rattle.capture_files.specs.Numbers.{field}
use Rattle.capture_files.specs.Options.{option_in}
use Rattle.capture_files.specs.Packets.{Seen, seen}
use Rattle.capture_files.specs.Times.{time_in}

-- A section header's body: byte-order magic 4, major version 2, minor version 2, the section's length 8, options. Neither
-- the minor version nor the section's length is looked at.
unfoldable pub section_fault : Endian → List ℕ → Option Damage
section_fault endian body =
    if nat_lt (length body) 16 then Some damages.Length
    else if not (field endian 4 2 body == 1) then Some damages.Version
    else None

-- An interface description's: link type 2, reserved 2, the most bytes that are captured of a packet 4 (0: all), options.
unfoldable pub interface_fault : List ℕ → Option Damage
interface_fault body = if nat_lt (length body) 8 then Some damages.Length else None

-- The value of if_tsresol (option 9), 6 where it isn't there, or isn't one byte.
abbrev pub resolution_value : Option (List ℕ) → ℕ
resolution_value None = 6
resolution_value (Some value) = if length value == 1 then slice_index value 0 else 6

-- Times with an offset of their own, if_tsoffset (option 14), aren't told.
abbrev pub resolution_in : Endian → List ℕ → Option ℕ
resolution_in endian options =
    if is_some (option_in endian 14 options) then None else Some (resolution_value (option_in endian 9 options))

abbrev pub interface_in : Endian → List ℕ → Interface
interface_in endian body =
    record {
      link_type = field endian 0 2 body;
      snap_len = field endian 4 4 body;
      resolution = resolution_in endian (drop 8 body);
    }

-- An enhanced packet's: interface 4, high and low word of the time 4 and 4, captured length 4, original length 4, the packet,
-- options.
abbrev pub enhanced_len : Endian → List ℕ → ℕ
enhanced_len endian body = field endian 12 4 body

unfoldable pub enhanced_fault : Endian → List Interface → List ℕ → Option Damage
enhanced_fault endian interfaces body =
    if nat_lt (length body) 20 then Some damages.Length
    else if is_none (slice_get interfaces (field endian 0 4 body)) then Some damages.Interface
    else if nat_lt (length body) (20 + enhanced_len endian body) then Some damages.Length
    else None

abbrev pub enhanced_time : Endian → Option ℕ → List ℕ → Option ℕ
enhanced_time endian resolution body = time_in resolution (field endian 4 4 body * 2 ^ 32 + field endian 8 4 body)

abbrev pub enhanced_of : Endian → List ℕ → Interface → Seen
enhanced_of endian body interface =
    record {
      time = enhanced_time endian interface.resolution body;
      link_type = interface.link_type;
      bytes = take (enhanced_len endian body) (drop 20 body);
      original_len = field endian 16 4 body;
    }

abbrev pub enhanced_in : Endian → List Interface → List ℕ → Option Seen
enhanced_in endian interfaces body = option_map (enhanced_of endian body) (slice_get interfaces (field endian 0 4 body))

-- A simple packet's: original length 4, the packet. It is of the section's first interface, has no time, and is whole but
-- for what that interface cuts off.
abbrev pub simple_len : ℕ → Interface → ℕ
simple_len original_len interface =
    if interface.snap_len == 0 then original_len else min original_len interface.snap_len

unfoldable pub simple_fault : Endian → List Interface → List ℕ → Option Damage
simple_fault endian interfaces body =
    if nat_lt (length body) 4 then Some damages.Length
    else option_map_or (λ i. if nat_lt (length body) (4 + simple_len (field endian 0 4 body) i) then Some damages.Length else None) (slice_get interfaces 0) (Some damages.Interface)

abbrev pub simple_of : Endian → List ℕ → Interface → Seen
simple_of endian body interface =
    record {
      time = None;
      link_type = interface.link_type;
      bytes = take (simple_len (field endian 0 4 body) interface) (drop 4 body);
      original_len = field endian 0 4 body;
    }

abbrev pub simple_in : Endian → List Interface → List ℕ → Option Seen
simple_in endian interfaces body = option_map (simple_of endian body) (slice_get interfaces 0)

-- The types: 0a0d0d0a a section header, 1 an interface description, 3 a simple packet, 6 an enhanced packet. Other blocks,
-- the obsolete packet block among them, are passed over.
abbrev pub is_known : ℕ → Bool
is_known kind = kind == 0x0a0d0d0a || (kind == 1 || (kind == 3 || kind == 6))

-- the fault of a block's body, by its type and by the interfaces that its section described before it
abbrev pub body_fault : ℕ → Endian → List Interface → List ℕ → Option Damage
body_fault kind endian interfaces body =
    if kind == 0x0a0d0d0a then section_fault endian body
    else if kind == 1 then interface_fault body
    else if kind == 3 then simple_fault endian interfaces body
    else if kind == 6 then enhanced_fault endian interfaces body
    else None

-- what a body that has no fault says
abbrev pub Says : ℕ → Endian → List Interface → List ℕ → Said → Type 0
Says kind endian interfaces body (said.Section order) = (kind ≡ 0x0a0d0d0a) × (order ≡ endian)
Says kind endian interfaces body (said.Interface interface) = (kind ≡ 1) × (interface ≡ interface_in endian body)
Says kind endian interfaces body (said.Packet packet) =
    ((kind ≡ 3) × (Some (seen packet) ≡ simple_in endian interfaces body))
    ⊎ ((kind ≡ 6) × (Some (seen packet) ≡ enhanced_in endian interfaces body))
Says kind endian interfaces body said.Other = is_known kind ≡ false

-- a packet that is said has this number
abbrev pub HasNumber : ℕ → Said → Type 0
HasNumber number (said.Packet packet) = packet.number ≡ number
HasNumber number _ = Unit {0}
