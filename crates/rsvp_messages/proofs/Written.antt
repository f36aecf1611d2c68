-- A written frame is read again as the same frame.
use Rattle.std.proofs.Common.{◌≡◌, ◌==◌, ◌≤◌, ◌+◌, ◌*◌, ◌++◌, ℕ, Bool, true, false, not, if◌then◌else◌, List, [], ◌∷◌, length, take, drop, Option, Some, None, Result, Ok, Err, OnOk, refl, sym, ap, ◌∙◌, append_assoc, arith, length-append}
use Rattle.std.specs.Prelude.{slice_index, nat_lt}
use Rattle.std.specs.Net.Addr.{ipv4_octets}
use Rattle.std.specs.declared.alloc.AllocError.{AllocError}
use Rattle.std.specs.declared.net.Ipv4Addr.{Ipv4Addr}
use Rattle.std.proofs.lemmas.Bool.{le-ltb, ltb-false, ne_eqb}
use Rattle.std.proofs.lemmas.List.{take-append-drop}
use Rattle.std.proofs.Math.Seq.{drop-append_seam, take-append_seam}
use Rattle.rsvp_contents.specs.declared.dropped.Dropped.{Dropped}
use Rattle.rsvp_contents.specs.declared.dropped.Dropped.TheVariants as dropped
use Rattle.rsvp_contents.specs.declared.messages.Content.{Content}
use Rattle.rsvp_contents.specs.declared.message.Reading.TheVariants as readings
use Rattle.rsvp_contents.specs.Spelling.{SpellsReading, header_fault}
use Rattle.rsvp_contents.specs.Written.{message_bytes}
use Rattle.label_stacks.specs.declared.entry.StackEntry.{StackEntry}
use Rattle.label_stacks.specs.Stacks.{stack_bytes, IsReadAgain}
use Rattle.link_frames.specs.declared.payload.Payload.{Payload}
use Rattle.link_frames.specs.declared.payload.Payload.TheVariants as payloads
use Rattle.link_frames.specs.declared.payload.ReceivedPayload.{ReceivedPayload}
use Rattle.link_frames.specs.declared.payload.ReceivedPayload.TheVariants as received_payloads
use Rattle.link_frames.specs.declared.frame.Frame.TheVariants as frames
use Rattle.link_frames.specs.declared.frame.ReceivedFrame.TheVariants as received_frames
use Rattle.rsvp_messages.specs.Frames.{IsPayloadAgain}
use Rattle.link_frames.specs.Frames.{frame_bytes, frame_fault, labelled_fault, payload_bytes, payload_of, unread, SpellsFrame}

-- a longer front that is kept keeps a shorter one
pub front_kept : (old more mid new : List ℕ) → mid ≡ old ++ more → take (length mid) new ≡ mid → take (length old) new ≡ old
front_kept old more mid new grown kept =
    let whole : new ≡ old ++ (more ++ drop (length mid) new) =
    sym (take-append-drop (length mid) new) ∙ (ap (λ (front : List ℕ). front ++ drop (length mid) new) (kept ∙ grown) ∙ append_assoc old more (drop (length mid) new)) in
    ap (λ (b : List ℕ). take (length old) b) whole ∙ take-append_seam old (more ++ drop (length mid) new)

-- a frame begins with a byte
some_byte : (b : ℕ) (rest : List ℕ) → (length (b ∷ rest) == 0) ≡ false
some_byte b rest = ne_eqb (length (b ∷ rest)) 0 (λ e. omega (arith, e))

-- a test that passes leaves it to the others
first_passes : (test : Bool) (others : Option Dropped) → test ≡ false → (if test then Some dropped.Short else others) ≡ others
first_passes test others p = rw p refl

-- a Hop frame
pub hop_again : (message : Content) → SpellsReading (message_bytes message) (readings.Whole message) → SpellsFrame (frame_bytes (frames.Hop message)) (received_frames.Hop (readings.Whole message))
unfolding frame_fault
hop_again message h = (first_passes _ None (some_byte 1 (message_bytes message)), (refl, h))

-- where each test passes there is no fault
passed : (a b c d e f : Bool) → a ≡ false → b ≡ false → c ≡ false → d ≡ true → e ≡ false → f ≡ false →
    (if a then Some dropped.Short else if b then Some dropped.TooLong else if c then Some dropped.Short else if not d then Some dropped.LengthField else if e then Some dropped.KindUnsupported else if f then Some dropped.TooLong else None) ≡ None
passed a b c d e f p q r s t u = rw (p, q, r, s, t, u) refl

-- the payload's part of a Labelled frame
part : (stack : List StackEntry) (rest : List ℕ) → IsReadAgain stack → drop (4 * length stack) (stack_bytes stack ++ rest) ≡ rest
part stack rest again = ap (λ (n : ℕ). drop n (stack_bytes stack ++ rest)) (sym again.size) ∙ drop-append_seam (stack_bytes stack) rest

labelled_passes : (stack : List StackEntry) (kind : ℕ) (content : List ℕ) → length stack ≤ 8 → IsReadAgain stack → kind ≤ 1 → length content ≤ 4096 → labelled_fault (2 ∷ length stack ∷ (stack_bytes stack ++ (kind ∷ content))) ≡ None
unfolding labelled_fault
labelled_passes stack kind content few again known short =
    let bytes : List ℕ = 2 ∷ length stack ∷ (stack_bytes stack ++ (kind ∷ content)) in
    let size : length (stack_bytes stack ++ (kind ∷ content)) ≡ 4 * length stack + (length content + 1) = omega (arith, length-append (stack_bytes stack) (kind ∷ content), again.size) in
    passed _ _ _ _ _ _
    (le-ltb _ _ (omega (arith, size)))
    (le-ltb _ _ few)
    (le-ltb _ _ (omega (arith, size)))
    (again.bottom (kind ∷ content))
    (ap (λ (p : List ℕ). nat_lt 1 (slice_index p 0)) (part stack (kind ∷ content) again) ∙ le-ltb _ _ known)
    (le-ltb _ _ (omega (arith, size)))

two_parts : {stack stack' : List StackEntry} {payload payload' : ReceivedPayload} → stack ≡ stack' → payload ≡ payload' → received_frames.Labelled stack payload ≡ received_frames.Labelled stack' payload'
two_parts p q = cc

-- a Labelled frame
labelled_says : (stack : List StackEntry) (kind : ℕ) (content : List ℕ) → length stack ≤ 8 → IsReadAgain stack → kind ≤ 1 → length content ≤ 4096 →
    SpellsFrame (2 ∷ length stack ∷ (stack_bytes stack ++ (kind ∷ content))) (received_frames.Labelled stack (payload_of kind content))
unfolding frame_fault
labelled_says stack kind content few again known short =
    let same = part stack (kind ∷ content) again in (
      first_passes _ _ (some_byte 2 (length stack ∷ (stack_bytes stack ++ (kind ∷ content)))) ∙ labelled_passes stack kind content few again known short,
      (refl, two_parts (sym (again.same (kind ∷ content))) (ap (λ (p : List ℕ). payload_of (slice_index p 0) (drop 1 p)) (sym same))),
    )

pub labelled_again : (stack : List StackEntry) (payload : Payload) → length stack ≤ 8 → IsReadAgain stack → length (payload_bytes payload) ≤ 4097 →
    SpellsFrame (frame_bytes (frames.Labelled stack payload)) (unread (frames.Labelled stack payload))
labelled_again stack (payloads.Received (received_payloads.Bytes content)) few again short = labelled_says stack 0 content few again (omega arith) (omega (arith, short))
labelled_again stack (payloads.Received (received_payloads.Message content)) few again short = labelled_says stack 1 content few again (omega arith) (omega (arith, short))
labelled_again stack (payloads.Message message) few again short = labelled_says stack 1 (message_bytes message) few again (omega arith) (omega (arith, short))

-- a Routed frame whose message is unread
relayed_octets : (octets : List ℕ) (limit : ℕ) (message : List ℕ) → length octets ≡ 4 →
    let to : Ipv4Addr = record { octets = octets } in SpellsFrame (frame_bytes (frames.Relayed to limit message)) (received_frames.Routed to limit message)
unfolding frame_fault
relayed_octets [] limit message four = absurd (omega arith)
relayed_octets (a ∷ []) limit message four = absurd (omega arith)
relayed_octets (a ∷ b ∷ []) limit message four = absurd (omega arith)
relayed_octets (a ∷ b ∷ c ∷ []) limit message four = absurd (omega arith)
relayed_octets (a ∷ b ∷ c ∷ d ∷ []) limit message four =
    let long : nat_lt (length (3 ∷ a ∷ b ∷ c ∷ d ∷ limit ∷ message)) 6 ≡ false = le-ltb _ _ (omega arith) in
    (first_passes _ _ (some_byte 3 (a ∷ b ∷ c ∷ d ∷ limit ∷ message)) ∙ first_passes _ None long, (refl, refl))
relayed_octets (a ∷ b ∷ c ∷ d ∷ e ∷ more) limit message four = absurd (omega arith)

pub relayed_again : (to : Ipv4Addr) (limit : ℕ) (message : List ℕ) → length (ipv4_octets to) ≡ 4 → SpellsFrame (frame_bytes (frames.Relayed to limit message)) (received_frames.Routed to limit message)
relayed_again to limit message four = relayed_octets (ipv4_octets to) limit message four

-- what holds in any case holds where something is written
pub on_ok_always : {P : Type 0} (written : Result (Unit {0}) AllocError) → P → OnOk written P
on_ok_always (Ok done) p = p
on_ok_always (Err e) p = tt

-- where a later test fails there is a fault
later : (test : Bool) (f : Dropped) (rest : Option Dropped) → (if test then Some f else rest) ≡ None → rest ≡ None
later true f rest e = absurd cc
later false f rest e = e

within : (test : Bool) (f : Dropped) (rest : Option Dropped) → (if test then Some f else rest) ≡ None → test ≡ false
within true f rest e = absurd cc
within false f rest e = refl

-- a message whose header is good has at most 4,096 bytes
pub header_short : (bytes : List ℕ) → header_fault bytes ≡ None → length bytes ≤ 4096
unfolding header_fault
header_short bytes good =
    let fits : nat_lt 4096 (length bytes) ≡ false = within _ dropped.TooLong _ (later _ dropped.Version _ (later _ dropped.Short _ good)) in
    ltb-false _ _ fits

-- so has one that is read again
pub message_short : (message : Content) → SpellsReading (message_bytes message) (readings.Whole message) → length (message_bytes message) ≤ 4096
message_short message s = header_short (message_bytes message) s.1.header

-- a message in a payload
pub message_carried : (message : Content) → SpellsReading (message_bytes message) (readings.Whole message) → IsPayloadAgain (payloads.Message message)
message_carried message s = let short = message_short message s in record { fits = omega (arith, short); carried = s }
