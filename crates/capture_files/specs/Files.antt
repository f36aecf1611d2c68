-- A capture file, packet by packet.
use Rattle.std.specs.Prelude.{◌≡◌, ◌<◌, ℕ, ◌+◌, ◌-◌, true, false, if◌then◌else◌, nat_lt, List, [], ◌∷◌, ◌++◌, length, drop, Option, Some, None, ◌⊎◌}
use Rattle.std.specs.Option.{option_map_or}
use Rattle.capture_files.specs.declared.block.Block.{Block}
use Rattle.capture_files.specs.declared.body.Interface.{Interface}
use Rattle.capture_files.specs.declared.body.Said.{Said}
use Rattle.capture_files.specs.declared.body.Said.TheVariants as said
use Rattle.capture_files.specs.declared.endian.Endian.{Endian}
use Rattle.capture_files.specs.declared.endian.Endian.TheVariants.{Big}
use Rattle.capture_files.specs.declared.fault.Damage.{Damage}
use Rattle.capture_files.specs.declared.fault.Damage.TheVariants as damages
use Rattle.capture_files.specs.declared.format.Format.{Format}
use Rattle.capture_files.specs.declared.format.Format.TheVariants as formats
use Rattle.capture_files.specs.declared.fault.CaptureFault.{CaptureFault}
use Rattle.capture_files.specs.declared.packet.Packet.{Packet}
use Rattle.capture_files.specs.Blocks.{IsBlock, frame_fault, is_section}
use Rattle.capture_files.specs.Bodies.{Says, body_fault}
use Rattle.capture_files.specs.Packets.{seen}
use Rattle.capture_files.specs.Records.{captured_len, classic_in, header_fault, magic_in, record_fault, record_in}

-- What a reader knows at a place in a file: the format, and the interfaces that the section has described so far.
pub record Known : Type 0 where
  pub format : Format
  pub interfaces : List Interface

-- The fault of a file's beginning: it is too short for a magic number, the magic number is of no capture file, or the header
-- of a classic pcap file has a fault. The first block of a pcapng file is looked at when it is read.
unfoldable pub opening_fault : List ℕ → Option Damage
opening_fault file =
    if nat_lt (length file) 4 then Some damages.Short
    else if is_section file then None
    else option_map_or (λ magic. header_fault magic.0 file) (magic_in file) (Some damages.Magic)

-- What is known at the first block of a pcapng file, which is its beginning, or at the first record of a classic pcap file.
abbrev pub Starts : List ℕ → Known → List ℕ → Type 0
Starts file known bytes =
    ((is_section file ≡ true) × (known ≡ record { format = formats.Blocks Big; interfaces = [] }) × (bytes ≡ file))
    ⊎ ((magic : Endian × ℕ) × (is_section file ≡ false) × (magic_in file ≡ Some magic)
    × (known ≡ record { format = formats.Records (classic_in magic.0 magic.1 file); interfaces = [] }) × (bytes ≡ drop 24 file))

-- The bytes begin with a record or a block of this length in bytes, which says this.
abbrev pub BeginsWith : Format → List Interface → List ℕ → Said → ℕ → Type 0
BeginsWith (formats.Records form) interfaces bytes (said.Packet packet) len =
    (record_fault form bytes ≡ None) × (seen packet ≡ record_in form bytes) × (len ≡ 16 + captured_len form bytes)
BeginsWith (formats.Records form) interfaces bytes _ len = ⊥
BeginsWith (formats.Blocks section) interfaces bytes says len =
    (block : Block) × IsBlock section bytes block × (body_fault block.kind block.endian interfaces block.body.now ≡ None)
    × Says block.kind block.endian interfaces block.body.now says × (len ≡ 12 + length block.body.now)

-- The record or block that they begin with has this fault first.
abbrev pub IsDamaged : Format → List Interface → List ℕ → Damage → Type 0
IsDamaged (formats.Records form) interfaces bytes damage = record_fault form bytes ≡ Some damage
IsDamaged (formats.Blocks section) interfaces bytes damage =
    (frame_fault section bytes ≡ Some damage)
    ⊎ ((block : Block) × IsBlock section bytes block × (body_fault block.kind block.endian interfaces block.body.now ≡ Some damage))

-- What is known after something was said. A new section has no interfaces yet.
abbrev pub learned : Known → Said → Known
learned known (said.Section endian) = record { format = formats.Blocks endian; interfaces = [] }
learned known (said.Interface interface) = record { format = known.format; interfaces = known.interfaces ++ interface ∷ [] }
learned known _ = known

-- why nothing is read at a place: its damage, or that there was no memory for the interface that it describes
abbrev pub IsFault : Known → List ℕ → Damage → Type 0
IsFault known bytes damage =
    IsDamaged known.format known.interfaces bytes damage
    ⊎ ((damage ≡ damages.Memory) × (interface : Interface) × (len : ℕ) × BeginsWith known.format known.interfaces bytes (said.Interface interface) len)

-- it is no packet
abbrev pub IsPassedOver : Said → Type 0
IsPassedOver (said.Packet packet) = ⊥
IsPassedOver _ = Unit {0}

-- Blocks that say no packet lie between a place, with what is known there, and a later one.
pub data Passes : Known → List ℕ → Known → List ℕ → Type 0 where
  stays : {known : Known} {bytes : List ℕ} → Passes known bytes known bytes
  goes_on : {first known next : Known} {bytes here rest : List ℕ} (says : Said) (len : ℕ) → Passes first bytes known here → BeginsWith known.format known.interfaces here says len → IsPassedOver says → next ≡ learned known says → rest ≡ drop len here → Passes first bytes next rest

-- These packets stand between a place and a later one, in this order. They are numbered from 1.
pub data Gives : Known → List ℕ → List Packet → Known → List ℕ → Type 0 where
  nothing : {known : Known} {bytes : List ℕ} → Gives known bytes [] known bytes
  another : {first before known : Known} {bytes there here rest : List ℕ} {packets all : List Packet} (packet : Packet) (len : ℕ) → Gives first bytes packets before there → Passes before there known here → BeginsWith known.format known.interfaces here (said.Packet packet) len → packet.number ≡ length packets + 1 → all ≡ packets ++ packet ∷ [] → rest ≡ drop len here → Gives first bytes all known rest

-- A capture file has these packets: after its beginning they stand, and then only blocks that say none.
pub record IsWhole (file : List ℕ) (packets : List Packet) : Type 0 where
  pub first : Known
  pub last : Known
  pub end : Known
  pub bytes : List ℕ
  pub rest : List ℕ
  pub good : opening_fault file ≡ None
  pub starts : Starts file first bytes
  pub gives : Gives first bytes packets last rest
  pub passed : Passes last rest end []

-- It breaks after these packets: blocks that say none may follow, and then something, at this place, can't be read.
pub record BreaksAfter (file : List ℕ) (packets : List Packet) (fault : CaptureFault) : Type 0 where
  pub first : Known
  pub last : Known
  pub known : Known
  pub bytes : List ℕ
  pub rest : List ℕ
  pub here : List ℕ
  pub good : opening_fault file ≡ None
  pub starts : Starts file first bytes
  pub gives : Gives first bytes packets last rest
  pub passed : Passes last rest known here
  pub some : 0 < length here
  pub place : fault.at ≡ length file - length here
  pub damaged : IsFault known here fault.damage

-- It breaks at its beginning, and has no packets.
pub record BreaksAtOnce (file : List ℕ) (packets : List Packet) (fault : CaptureFault) : Type 0 where
  pub none : packets ≡ []
  pub place : fault.at ≡ 0
  pub damaged : opening_fault file ≡ Some fault.damage

-- The file has these packets, and then ends, or breaks so.
abbrev pub HasPackets : List ℕ → List Packet → Option CaptureFault → Type 0
HasPackets file packets None = IsWhole file packets
HasPackets file packets (Some fault) = BreaksAtOnce file packets fault ⊎ BreaksAfter file packets fault
