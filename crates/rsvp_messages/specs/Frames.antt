-- Why a frame is dropped before its message is read, and what is written of a payload.
use Rattle.std.specs.Prelude.{◌≡◌, ◌≤◌, ℕ, length, List, None, Some}
use Rattle.rsvp_contents.specs.declared.dropped.Dropped.{Dropped}
use Rattle.rsvp_contents.specs.declared.dropped.Dropped.TheVariants.{NoMemory}
use Rattle.link_frames.specs.declared.payload.Payload.{Payload}
use Rattle.link_frames.specs.Frames.{HoldsAgain, frame_fault, payload_bytes}

-- for its first fault, or as there was no memory, and then it has none
abbrev pub IsDropFor : List ℕ → Dropped → Type 0
IsDropFor bytes NoMemory = frame_fault bytes ≡ None
IsDropFor bytes fault = frame_fault bytes ≡ Some fault

-- A payload is its kind and at most 4,096 bytes, and a message in it is read again.
pub record IsPayloadAgain (payload : Payload) : Type 0 where
  pub fits : length (payload_bytes payload) ≤ 4097
  pub carried : HoldsAgain payload
