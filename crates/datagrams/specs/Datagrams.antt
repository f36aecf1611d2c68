-- What a datagram is that came over a link: an event of the router, a labelled frame that goes on, a payload that has
-- arrived, or a refusal.
use Rattle.std.specs.Prelude.{◌≡◌, ◌⊎◌, ℕ, nat_lt, List, length, None, Result, Ok, Err}
use Rattle.std.specs.Bool.{MatchBool}
use Rattle.std.specs.declared.net.ipv4_addr.Ipv4Addr.{Ipv4Addr}
use Rattle.label_stacks.specs.declared.entry.StackEntry.{StackEntry}
use Rattle.forwarding_table.specs.declared.forwarding.Fault.{Fault}
use Rattle.forwarding_table.specs.declared.forwarding.Fault.TheVariants as faults
use Rattle.forwarding_table.specs.declared.forwarding.Forwarding.{Forwarding}
use Rattle.forwarding_table.specs.declared.forwarding.Forwarding.TheVariants.{Deliver, Drop, Send}
use Rattle.rsvp_contents.specs.Spelling.{IsFirstFault, SpellsReading}
use Rattle.rsvp_contents.specs.declared.dropped.Dropped.{Dropped}
use Rattle.rsvp_contents.specs.declared.dropped.Dropped.TheVariants as dropped
use Rattle.rsvp_contents.specs.declared.message.Reading.{Reading}
use Rattle.link_frames.specs.Frames.{IsFirstFrameFault, SpellsFrame, head_fault}
use Rattle.link_frames.specs.declared.frame.Frame.TheVariants.{Labelled}
use Rattle.link_frames.specs.declared.frame.ReceivedFrame.{ReceivedFrame}
use Rattle.link_frames.specs.declared.frame.ReceivedFrame.TheVariants as received_frames
use Rattle.link_frames.specs.declared.payload.Payload.TheVariants.{Received}
use Rattle.link_frames.specs.declared.payload.ReceivedPayload.{ReceivedPayload}
use Rattle.link_frames.specs.declared.payload.ReceivedPayload.TheVariants as received_payloads
use Rattle.lsr_facts.specs.declared.refusal.Refusal.{Refusal}
use Rattle.lsr_facts.specs.declared.refusal.Refusal.TheVariants as refusals
use Rattle.lsr_facts.specs.declared.router.Router.{Router}
use Rattle.abstract_paths.specs.Ways.{takes}
use Rattle.abstract_paths.specs.declared.events.Event.TheVariants as events
use Rattle.abstract_paths.specs.declared.ways.ArrivalWay.{ArrivalWay}
use Rattle.abstract_paths.specs.declared.ways.ArrivalWay.TheVariants as ways
use Rattle.abstract_paths.specs.declared.ways.Arrive.{Arrive}
use Rattle.abstract_paths.specs.Places.{is_own}
use Rattle.datagrams.specs.declared.datagram.Datagram.{Datagram}
use Rattle.datagrams.specs.declared.datagram.Datagram.TheVariants as kinds
use Rattle.datagrams.specs.declared.datagram.Passed.TheVariants as passes

-- why a frame is dropped, by the fault of its stack: nothing is done with its label, its TTL ran out, or it would have
-- too many labels
abbrev pub refusal_of : Fault → Refusal
refusal_of faults.NoLabel = refusals.NoLabel
refusal_of faults.HopLimit = refusals.HopLimit
refusal_of faults.TooLong = refusals.Unread dropped.TooLong

-- It is dropped unread.
abbrev pub dropped_for : Dropped → Result Datagram Refusal
dropped_for fault = Err (refusals.Unread fault)

-- the message came over this link, this way, and this was read
pub record IsArrival (link : ℕ) (way : ArrivalWay) (reading : Reading) (arrive : Arrive) : Type 0 where
  pub over : arrive.link ≡ link
  pub by : arrive.way ≡ way
  pub says : arrive.reading ≡ reading

-- What was read of a message is that event where its way takes its type, and else refused.
abbrev pub IsReading : ℕ → ArrivalWay → Reading → Result Datagram Refusal → Type 0
IsReading link way reading answer =
    MatchBool (takes way reading) ((arrive : Arrive) × IsArrival link way reading arrive × (answer ≡ Ok (kinds.Event (events.Arrive arrive))))
    (answer ≡ dropped_for dropped.KindUnsupported)

-- A message that is for this router is read: it is dropped for its first fault, or it is what was read.
abbrev pub IsMessage : ℕ → ArrivalWay → List ℕ → Result Datagram Refusal → Type 0
IsMessage link way bytes answer =
    ((fault : Dropped) × IsFirstFault bytes fault × (answer ≡ dropped_for fault))
    ⊎ ((reading : Reading) × SpellsReading bytes reading × IsReading link way reading answer)

-- A message for another router isn't read: it is dropped where it is above 4,096 bytes, and else it is to go on.
abbrev pub IsRelay : ℕ → Ipv4Addr → ℕ → List ℕ → Result Datagram Refusal → Type 0
IsRelay link to limit message answer =
    MatchBool (nat_lt 4096 (length message)) (answer ≡ dropped_for dropped.TooLong)
    (answer ≡ Ok (kinds.Event (events.Relay (record { link = link; to = to; limit = limit; message = message }))))

-- A payload whose stack ends here: bytes have arrived, a message is one for this router that came through the stack.
abbrev pub IsDelivered : ℕ → ReceivedPayload → Result Datagram Refusal → Type 0
IsDelivered link (received_payloads.Bytes content) answer = answer ≡ Ok (kinds.Passed (passes.Delivered content))
IsDelivered link (received_payloads.Message content) answer = IsMessage link ways.Stack content answer

-- A payload, by what becomes of its stack: it goes on under what is left of the stack, as it came; it is for this router;
-- or it is dropped.
abbrev pub IsCarried : ℕ → Forwarding → ReceivedPayload → Result Datagram Refusal → Type 0
IsCarried link (Send out stack) payload answer = answer ≡ Ok (kinds.Passed (passes.Sent out (Labelled stack (Received payload))))
IsCarried link Deliver payload answer = IsDelivered link payload answer
IsCarried link (Drop fault) payload answer = answer ≡ Err (refusal_of fault)

-- A Routed frame's message, by whether the address is this router's own.
abbrev pub IsRouted : Router → ℕ → Ipv4Addr → ℕ → List ℕ → Result Datagram Refusal → Type 0
IsRouted r link to limit message answer =
    MatchBool (is_own r to) (IsMessage link ways.Routed message answer) (IsRelay link to limit message answer)

-- A frame: the message of a Hop frame; a payload under a stack of labels (RFC 3031, 3.10); or a message for the router that
-- has an address, be it this one or another.
abbrev pub IsFrame : Router → (List StackEntry → Forwarding) → ℕ → ReceivedFrame → Result Datagram Refusal → Type 0
IsFrame r forward link (received_frames.Hop reading) answer = IsReading link ways.Hop reading answer
IsFrame r forward link (received_frames.Labelled stack payload) answer = IsCarried link (forward stack) payload answer
IsFrame r forward link (received_frames.Routed to limit message) answer = IsRouted r link to limit message answer

-- What a datagram is, by the router's own addresses and by what becomes of stacks of labels: it is dropped for its first
-- fault, or it is the frame that it spells. Memory can run out in place of either, but not for one whose head has a fault.
abbrev pub IsDatagram : Router → (List StackEntry → Forwarding) → ℕ → List ℕ → Result Datagram Refusal → Type 0
IsDatagram r forward link bytes answer =
    ((fault : Dropped) × IsFirstFrameFault bytes fault × (answer ≡ dropped_for fault))
    ⊎ ((frame : ReceivedFrame) × SpellsFrame bytes frame × IsFrame r forward link frame answer)
    ⊎ ((head_fault bytes ≡ None) × (answer ≡ Err refusals.NoMemory))
