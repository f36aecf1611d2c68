-- Which bytes spell which frame, and which fault is the first of bytes that spell none.
use Rattle.std.specs.Prelude.{◌≡◌, ◌==◌, ℕ, ◌+◌, ◌*◌, not, nat_lt, if◌then◌else◌, List, [], ◌∷◌, ◌++◌, length, drop, slice_index, Option, Some, None, Result, ◌⊎◌}
use Rattle.std.specs.Net.Addr.{ipv4_octets}
use Rattle.std.specs.Option.{option_or}
use Rattle.rsvp_bodies.specs.Addresses.{address_at}
use Rattle.rsvp_contents.specs.declared.dropped.Dropped.{Dropped}
use Rattle.rsvp_contents.specs.declared.dropped.Dropped.TheVariants as dropped
use Rattle.rsvp_contents.specs.declared.message.Reading.TheVariants as readings
use Rattle.rsvp_contents.specs.declared.messages.Content.{Content}
use Rattle.rsvp_contents.specs.Spelling.{SpellsReading, IsFirstFault, header_fault}
use Rattle.rsvp_contents.specs.Answers.{ReadsOrDrops}
use Rattle.rsvp_contents.specs.Written.{message_bytes}
use Rattle.link_frames.specs.declared.payload.Payload.{Payload}
use Rattle.link_frames.specs.declared.payload.Payload.TheVariants as payloads
use Rattle.link_frames.specs.declared.payload.ReceivedPayload.{ReceivedPayload}
use Rattle.link_frames.specs.declared.payload.ReceivedPayload.TheVariants as received_payloads
use Rattle.link_frames.specs.declared.frame.Frame.{Frame}
use Rattle.link_frames.specs.declared.frame.Frame.TheVariants as frames
use Rattle.link_frames.specs.declared.frame.ReceivedFrame.{ReceivedFrame}
use Rattle.link_frames.specs.declared.frame.ReceivedFrame.TheVariants as received_frames
use Rattle.label_stacks.specs.Stacks.{words_at, has_one_bottom, stack_of, stack_bytes}

-- The first byte is the kind: 1 Hop, 2 Labelled, 3 Routed.
abbrev pub kind_of : List ℕ → ℕ
kind_of bytes = slice_index bytes 0

-- In a Labelled frame a count follows the kind, and then so many stack entries, a word each (RFC 3032, 2.1).
abbrev pub count_of : List ℕ → ℕ
count_of bytes = slice_index bytes 1

abbrev pub words_of : List ℕ → List ℕ
words_of bytes = words_at (count_of bytes) (drop 2 bytes)

-- After them stand the payload's kind, 0 for bytes and 1 for a message, and the payload.
abbrev pub payload_part : List ℕ → List ℕ
payload_part bytes = drop (4 * count_of bytes) (drop 2 bytes)

-- a payload as it comes: a message in it isn't read
abbrev pub payload_of : ℕ → List ℕ → ReceivedPayload
payload_of kind content = if kind == 0 then received_payloads.Bytes content else received_payloads.Message content

abbrev pub payload_in : List ℕ → ReceivedPayload
payload_in bytes = payload_of (slice_index (payload_part bytes) 0) (drop 1 (payload_part bytes))

-- The first fault of a Labelled frame: no count; more than eight entries; entries or the payload's kind cut short;
-- a bottom bit that is wrong; an unknown kind of payload; a payload above 4,096 bytes.
unfoldable pub labelled_fault : List ℕ → Option Dropped
labelled_fault bytes =
    if nat_lt (length bytes) 2 then Some dropped.Short
    else if nat_lt 8 (count_of bytes) then Some dropped.TooLong
    else if nat_lt (length bytes) (4 * count_of bytes + 3) then Some dropped.Short
    else if not (has_one_bottom (words_of bytes)) then Some dropped.LengthField
    else if nat_lt 1 (slice_index (payload_part bytes) 0) then Some dropped.KindUnsupported
    else if nat_lt (4 * count_of bytes + 4099) (length bytes) then Some dropped.TooLong
    else None

-- The first fault of a frame before its message is read: no byte; an unknown kind; what its kind asks for. A Routed
-- frame has an address and a limit after its kind.
unfoldable pub frame_fault : List ℕ → Option Dropped
frame_fault bytes =
    if length bytes == 0 then Some dropped.Short
    else if kind_of bytes == 1 then None
    else if kind_of bytes == 2 then labelled_fault bytes
    else if not (kind_of bytes == 3) then Some dropped.KindUnsupported
    else if nat_lt (length bytes) 6 then Some dropped.Short
    else None

-- The fault that the head of a datagram shows, for which nothing of it need be kept: the frame's, or in a Hop frame that
-- of its message's common header.
abbrev pub head_fault : List ℕ → Option Dropped
head_fault bytes = option_or (frame_fault bytes) (if kind_of bytes == 1 then header_fault (drop 1 bytes) else None)

-- the Labelled frame that the bytes say
abbrev pub labelled_in : List ℕ → ReceivedFrame
labelled_in bytes = received_frames.Labelled (stack_of (words_of bytes)) (payload_in bytes)

-- the Routed frame that they say: four bytes of address, one of limit, and the message
abbrev pub routed_in : List ℕ → ReceivedFrame
routed_in bytes = received_frames.Routed (address_at (drop 1 bytes)) (slice_index bytes 5) (drop 6 bytes)

-- what the bytes of each kind say
abbrev pub Says : List ℕ → ReceivedFrame → Type 0
Says bytes (received_frames.Hop reading) = (kind_of bytes ≡ 1) × SpellsReading (drop 1 bytes) reading
Says bytes (received_frames.Labelled stack payload) = (kind_of bytes ≡ 2) × (received_frames.Labelled stack payload ≡ labelled_in bytes)
Says bytes (received_frames.Routed to limit message) = (kind_of bytes ≡ 3) × (received_frames.Routed to limit message ≡ routed_in bytes)

-- The bytes spell the frame.
abbrev pub SpellsFrame : List ℕ → ReceivedFrame → Type 0
SpellsFrame bytes frame = (frame_fault bytes ≡ None) × Says bytes frame

-- The fault is the first: the frame's, or that of the message of a Hop frame.
abbrev pub IsFirstFrameFault : List ℕ → Dropped → Type 0
IsFirstFrameFault bytes fault =
    (frame_fault bytes ≡ Some fault) ⊎ ((frame_fault bytes ≡ None) × (kind_of bytes ≡ 1) × IsFirstFault (drop 1 bytes) fault)

-- what a reader of frames answers
abbrev pub ReadsFrame : List ℕ → Result ReceivedFrame Dropped → Type 0
ReadsFrame = ReadsOrDrops SpellsFrame IsFirstFrameFault

-- what a payload that came is passed on as
abbrev pub received_payload_bytes : ReceivedPayload → List ℕ
received_payload_bytes (received_payloads.Bytes content) = 0 ∷ content
received_payload_bytes (received_payloads.Message content) = 1 ∷ content

-- what a payload is written as
abbrev pub payload_bytes : Payload → List ℕ
payload_bytes (payloads.Received payload) = received_payload_bytes payload
payload_bytes (payloads.Message message) = 1 ∷ message_bytes message

-- what a Routed frame is written as
abbrev pub routed_bytes : List ℕ → ℕ → List ℕ → List ℕ
routed_bytes octets limit message = 3 ∷ (octets ++ (limit ∷ message))

-- a frame's bytes
abbrev pub frame_bytes : Frame → List ℕ
frame_bytes (frames.Hop message) = 1 ∷ message_bytes message
frame_bytes (frames.Labelled stack payload) = 2 ∷ length stack ∷ (stack_bytes stack ++ payload_bytes payload)
frame_bytes (frames.Routed to limit message) = routed_bytes (ipv4_octets to) limit (message_bytes message)
frame_bytes (frames.Relayed to limit message) = routed_bytes (ipv4_octets to) limit message

-- A payload as it comes at whoever may pass it on: a message in it isn't read.
abbrev pub unread_payload : Payload → ReceivedPayload
unread_payload (payloads.Received payload) = payload
unread_payload (payloads.Message message) = received_payloads.Message (message_bytes message)

-- A frame as it comes: the message of a Hop frame is read whole, one that others may pass on isn't read.
abbrev pub unread : Frame → ReceivedFrame
unread (frames.Hop message) = received_frames.Hop (readings.Whole message)
unread (frames.Labelled stack payload) = received_frames.Labelled stack (unread_payload payload)
unread (frames.Routed to limit message) = received_frames.Routed to limit (message_bytes message)
unread (frames.Relayed to limit message) = received_frames.Routed to limit message

-- what is written of a message is read as the same message
abbrev pub IsReadAgain : Content → Type 0
IsReadAgain message = SpellsReading (message_bytes message) (readings.Whole message)

-- so it is of a message in a payload
abbrev pub HoldsAgain : Payload → Type 0
HoldsAgain (payloads.Message message) = IsReadAgain message
HoldsAgain payload = Unit {0}

-- The message that others may pass on is read again where it is to go.
abbrev pub CarriesAgain : Frame → Type 0
CarriesAgain (frames.Labelled stack payload) = HoldsAgain payload
CarriesAgain (frames.Routed to limit message) = IsReadAgain message
CarriesAgain frame = Unit {0}
