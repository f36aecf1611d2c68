-- How a reader goes through a capture file.
use Rattle.std.specs.Prelude.{◌≡◌, ◌<◌, ℕ, ◌+◌, ◌-◌, List, [], length, drop, Option, Some, None, Result, Ok, Err}
use Rattle.capture_files.specs.declared.body.Said.{Said}
use Rattle.capture_files.specs.declared.body.Said.TheVariants as said
use Rattle.capture_files.specs.declared.capture.Capture.{Capture}
use Rattle.capture_files.specs.declared.fault.CaptureFault.{CaptureFault}
use Rattle.capture_files.specs.declared.packet.Packet.{Packet}
use Rattle.capture_files.specs.Files.{BeginsWith, IsFault, IsPassedOver, Known, Passes, Starts, learned, opening_fault}

-- what a reader knows, what it hasn't read yet, how many bytes the file has, and how many packets were read
abbrev pub known_of : Capture → Known
known_of capture = record { format = capture.format; interfaces = capture.interfaces.items }

abbrev pub rest_of : Capture → List ℕ
rest_of capture = capture.rest.now

abbrev pub size_of_file : Capture → ℕ
size_of_file capture = capture.size

abbrev pub packets_read : Capture → ℕ
packets_read capture = capture.packets

-- a reader at the beginning of a file
pub record IsOpened (file : List ℕ) (capture : Capture) : Type 0 where
  pub good : opening_fault file ≡ None
  pub size : size_of_file capture ≡ length file
  pub packets : packets_read capture ≡ 0
  pub starts : Starts file (known_of capture) (rest_of capture)

-- One record or block was read, and was a packet or none.
abbrev pub Turns : Capture → Capture → Option Packet → Type 0
Turns old new None =
    (says : Said) × (len : ℕ) × BeginsWith (known_of old).format (known_of old).interfaces (rest_of old) says len × IsPassedOver says
    × (known_of new ≡ learned (known_of old) says) × (rest_of new ≡ drop len (rest_of old)) × (packets_read new ≡ packets_read old)
Turns old new (Some packet) =
    (len : ℕ) × BeginsWith (known_of old).format (known_of old).interfaces (rest_of old) (said.Packet packet) len
    × (known_of new ≡ known_of old) × (rest_of new ≡ drop len (rest_of old)) × (packets_read new ≡ packets_read old + 1)

-- The packet is the next one: blocks that say none are passed over, and then it stands there. The reader is after it.
pub record IsNextPacket (old new : Capture) (packet : Packet) : Type 0 where
  pub here : List ℕ
  pub len : ℕ
  pub passed : Passes (known_of old) (rest_of old) (known_of new) here
  pub stands : BeginsWith (known_of new).format (known_of new).interfaces here (said.Packet packet) len
  pub rest : rest_of new ≡ drop len here
  pub number : packet.number ≡ packets_read old + 1
  pub packets : packets_read new ≡ packets_read old + 1

-- The file breaks before its next packet: blocks that say none are passed over, and what follows is damaged. The reader is
-- at the end.
pub record IsNextFault (old new : Capture) (fault : CaptureFault) : Type 0 where
  pub known : Known
  pub here : List ℕ
  pub passed : Passes (known_of old) (rest_of old) known here
  pub some : 0 < length here
  pub place : fault.at ≡ size_of_file old - length here
  pub damaged : IsFault known here fault.damage
  pub rest : rest_of new ≡ []

-- The file has no more packets: only blocks that say none are left.
pub record IsNoNext (old new : Capture) : Type 0 where
  pub passed : Passes (known_of old) (rest_of old) (known_of new) (rest_of new)
  pub rest : rest_of new ≡ []

-- what a reader answers next
abbrev pub IsNext : Capture → Capture → Option (Result Packet CaptureFault) → Type 0
IsNext old new None = IsNoNext old new
IsNext old new (Some (Ok packet)) = IsNextPacket old new packet
IsNext old new (Some (Err fault)) = IsNextFault old new fault
