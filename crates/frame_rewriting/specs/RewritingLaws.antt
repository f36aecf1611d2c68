-- A frame goes on exactly where its datagram is one that is sent, and its bytes are those that are written of what is sent.
use Rattle.std.specs.Prelude.{◌≡◌, ◌≤◌, ◌+◌, ◌*◌, ℕ, zero, suc, nat_lt, Bool, true, false, List, [], ◌∷◌, ◌++◌, length, drop, slice_index, None}
use Rattle.std.specs.Bool.{MatchBool}
use Rattle.std.specs.declared.net.ipv4_addr.Ipv4Addr.{Ipv4Addr}
use Rattle.std.proofs.Common.{refl, sym, ap, ◌∙◌, inl, inr, arith}
use Rattle.std.proofs.lemmas.Bool.Decides.{nat_tests}
use Rattle.std.proofs.lemmas.List.{length-drop}
use Rattle.label_stacks.specs.declared.entry.StackEntry.{StackEntry}
use Rattle.label_stacks.specs.Stacks.{stack_bytes, stack_of}
use Rattle.rsvp_contents.specs.declared.message.Reading.{Reading}
use Rattle.link_frames.specs.declared.frame.Frame.{Frame}
use Rattle.link_frames.specs.declared.frame.Frame.TheVariants as frames
use Rattle.link_frames.specs.declared.frame.ReceivedFrame.{ReceivedFrame}
use Rattle.link_frames.specs.declared.frame.ReceivedFrame.TheVariants as received_frames
use Rattle.link_frames.specs.declared.payload.Payload.TheVariants as payloads
use Rattle.link_frames.specs.declared.payload.ReceivedPayload.{ReceivedPayload}
use Rattle.link_frames.specs.declared.payload.ReceivedPayload.TheVariants as received_payloads
use Rattle.link_frames.specs.Frames.{Says, count_of, frame_bytes, frame_fault, kind_of, labelled_fault, labelled_in, payload_in, payload_of, payload_part, received_payload_bytes, words_of}
use Rattle.forwarding_table.specs.declared.forwarding.Forwarding.{Forwarding}
use Rattle.forwarding_table.specs.declared.forwarding.Forwarding.TheVariants.{Deliver, Drop, Send}
use Rattle.lsr_facts.specs.declared.router.Router.{Router}
use Rattle.abstract_paths.specs.Places.{is_own}
use Rattle.abstract_paths.specs.Ways.{takes}
use Rattle.abstract_paths.specs.declared.ways.ArrivalWay.{ArrivalWay}
use Rattle.abstract_paths.specs.declared.ways.ArrivalWay.TheVariants as ways
use Rattle.datagrams.specs.Datagrams.{IsCarried, IsDatagram, IsDelivered, IsFrame, IsMessage, IsReading, IsRouted}
use Rattle.frame_rewriting.specs.Passing.{passed_over}
use Rattle.frame_rewriting.specs.Rewriting.{GoesOn, IsLabelled, sent_bytes, sent_frame}

-- ---- its bytes

-- the payload's kind is there, and is known
payload_known : (bytes : List ℕ) → kind_of bytes ≡ 2 → frame_fault bytes ≡ None → (4 * count_of bytes + 3 ≤ length bytes) × (slice_index (payload_part bytes) 0 ≤ 1)
unfolding frame_fault labelled_fault
payload_known bytes kind sound = grind (arith, nat_tests)

-- a payload that is read is written as it came
payload_as_it_came : (bytes : List ℕ) → 1 ≤ length bytes → slice_index bytes 0 ≤ 1 → received_payload_bytes (payload_of (slice_index bytes 0) (drop 1 bytes)) ≡ bytes
payload_as_it_came [] some known = absurd (omega (arith, some))
payload_as_it_came (zero ∷ content) some known = refl
payload_as_it_came (suc zero ∷ content) some known = refl
payload_as_it_came (suc (suc kind) ∷ content) some known = absurd (omega (arith, known))

-- so what is written of the frame is what it leaves as
pub sent_frame-bytes : (stack : List StackEntry) (bytes : List ℕ) → IsLabelled bytes → frame_bytes (sent_frame stack bytes) ≡ sent_bytes stack bytes
sent_frame-bytes stack bytes is =
    let known = payload_known bytes is.kind is.sound in
    let some : 1 ≤ length (payload_part bytes) = omega (arith, known.0, length-drop (4 * count_of bytes) (drop 2 bytes), length-drop 2 bytes) in
    ap (λ (payload : List ℕ). 2 ∷ length stack ∷ (stack_bytes stack ++ payload)) (payload_as_it_came (payload_part bytes) some known.1)

-- ---- what its datagram is

-- a frame that goes on is sent
pub goes_on-passed : (r : Router) (forward : List StackEntry → Forwarding) (link out : ℕ) (bytes : List ℕ) (stack : List StackEntry) → GoesOn forward bytes out stack → IsDatagram r forward link bytes (passed_over out (sent_frame stack bytes))
goes_on-passed r forward link out bytes stack goes =
    inr (inl (labelled_in bytes, (goes.labelled.sound, (goes.labelled.kind, refl)), carried))
  where
    carried : IsCarried link (forward (stack_of (words_of bytes))) (payload_in bytes) (passed_over out (sent_frame stack bytes))
    carried = rw goes.sent refl

module _ (link out : ℕ) (frame : Frame) where
  -- what neither answer of a test is, the test doesn't give
  neither : {P Q : Type 0} (test : Bool) → (P → ⊥) → (Q → ⊥) → MatchBool test P Q → ⊥
  neither true p q is = p is
  neither false p q is = q is

  -- a message that is read isn't sent
  reading_stays : (way : ArrivalWay) (reading : Reading) → IsReading link way reading (passed_over out frame) → ⊥
  reading_stays way reading = neither (takes way reading) (λ is. let e = is.2 in cc) (λ is. cc)

  message_stays : (way : ArrivalWay) (bytes : List ℕ) → IsMessage link way bytes (passed_over out frame) → ⊥
  message_stays way bytes (inl bad) = let e = bad.2 in cc
  message_stays way bytes (inr read) = reading_stays way read.0 read.2

  -- nor is one for this router or another one
  routed_stays : (r : Router) (to : Ipv4Addr) (limit : ℕ) (message : List ℕ) → IsRouted r link to limit message (passed_over out frame) → ⊥
  routed_stays r to limit message =
      neither (is_own r to) (message_stays ways.Routed message) (neither (nat_lt 4096 (length message)) (λ is. cc) (λ is. cc))

  delivered_stays : (payload : ReceivedPayload) → IsDelivered link payload (passed_over out frame) → ⊥
  delivered_stays (received_payloads.Bytes content) is = cc
  delivered_stays (received_payloads.Message content) is = message_stays ways.Stack content is

  -- a payload is sent where its stack is
  carried_goes : (forwarding : Forwarding) (payload : ReceivedPayload) → IsCarried link forwarding payload (passed_over out frame)
      → (stack : List StackEntry) × (forwarding ≡ Send out stack) × (frame ≡ frames.Labelled stack (payloads.Received payload))
  carried_goes (Send to stack) payload is = (stack, cc, cc)
  carried_goes Deliver payload is = absurd (delivered_stays payload is)
  carried_goes (Drop fault) payload is = absurd cc

  -- and a frame where it goes on
  frame_goes : (r : Router) (forward : List StackEntry → Forwarding) (bytes : List ℕ) (came : ReceivedFrame) → frame_fault bytes ≡ None → Says bytes came → IsFrame r forward link came (passed_over out frame)
      → (stack : List StackEntry) × GoesOn forward bytes out stack × (frame ≡ sent_frame stack bytes)
  frame_goes r forward bytes (received_frames.Hop reading) sound says is = absurd (reading_stays ways.Hop reading is)
  frame_goes r forward bytes (received_frames.Labelled stack payload) sound says is =
      let goes = carried_goes (forward stack) payload is in
      let same : stack ≡ stack_of (words_of bytes) = cc (says.1) in
      let carried : payload ≡ payload_in bytes = cc (says.1) in
      (goes.0, record { labelled = record { kind = says.0; sound = sound }; sent = sym (ap forward same) ∙ goes.1 }, goes.2 ∙ ap (λ (p : ReceivedPayload). frames.Labelled goes.0 (payloads.Received p)) carried)
  frame_goes r forward bytes (received_frames.Routed to limit message) sound says is = absurd (routed_stays r to limit message is)

-- only a frame that goes on is sent
pub passed-goes_on : (r : Router) (forward : List StackEntry → Forwarding) (link out : ℕ) (bytes : List ℕ) (frame : Frame) → IsDatagram r forward link bytes (passed_over out frame)
    → (stack : List StackEntry) × GoesOn forward bytes out stack × (frame ≡ sent_frame stack bytes)
passed-goes_on r forward link out bytes frame (inl bad) = absurd (let e = bad.2 in cc)
passed-goes_on r forward link out bytes frame (inr (inl read)) = frame_goes link out frame r forward bytes read.0 read.1.0 read.1.1 read.2
passed-goes_on r forward link out bytes frame (inr (inr memory)) = absurd (let e = memory.1 in cc)
