-- What is delivered is what was sent: so it is true where that is.
use Rattle.std.specs.Prelude.{◌≡◌, ◌==◌, ◌-◌, ℕ, cond, nat_lt, Bool, true, false, List, length, drop, slice_get, Some, None, Result, Ok, Err}
use Rattle.std.specs.Bool.{MatchBool}
use Rattle.std.specs.List.{AllByRecursion}
use Rattle.std.specs.declared.net.ipv4_addr.Ipv4Addr.{Ipv4Addr}
use Rattle.std.proofs.Common.{refl, ap, subst, sym, inl, inr, ◌∙◌}
use Rattle.std.proofs.lemmas.Bool.{eq-eqb}
use Rattle.rsvp_contents.specs.Spelling.{SpellsReading}
use Rattle.rsvp_contents.specs.Written.{message_bytes}
use Rattle.rsvp_contents.specs.declared.dropped.Dropped.TheVariants as dropped
use Rattle.rsvp_contents.specs.declared.message.Reading.{Reading}
use Rattle.rsvp_contents.specs.declared.message.Reading.TheVariants as readings
use Rattle.rsvp_contents.specs.declared.messages.Content.{Content}
use Rattle.rsvp_contents.proofs.Readings.{one_reading_lem}
use Rattle.label_stacks.specs.declared.entry.StackEntry.{StackEntry}
use Rattle.forwarding_table.specs.declared.forwarding.Forwarding.{Forwarding}
use Rattle.forwarding_table.specs.declared.forwarding.Forwarding.TheVariants.{Deliver, Drop, Send}
use Rattle.link_frames.specs.Frames.{CarriesAgain, HoldsAgain, IsReadAgain, SpellsFrame, frame_bytes, unread, unread_payload}
use Rattle.link_frames.specs.declared.frame.Frame.{Frame}
use Rattle.link_frames.specs.declared.frame.Frame.TheVariants as frames
use Rattle.link_frames.specs.declared.frame.ReceivedFrame.{ReceivedFrame}
use Rattle.link_frames.specs.declared.frame.ReceivedFrame.TheVariants as received_frames
use Rattle.link_frames.specs.declared.payload.Payload.{Payload}
use Rattle.link_frames.specs.declared.payload.Payload.TheVariants as payloads
use Rattle.link_frames.specs.declared.payload.ReceivedPayload.{ReceivedPayload}
use Rattle.link_frames.specs.declared.payload.ReceivedPayload.TheVariants as received_payloads
use Rattle.lsr_facts.specs.declared.refusal.Refusal.{Refusal}
use Rattle.lsr_facts.specs.declared.refusal.Refusal.TheVariants as refusals
use Rattle.lsr_facts.specs.declared.router.Router.{Router}
use Rattle.abstract_paths.specs.Places.{is_own}
use Rattle.abstract_paths.specs.Ways.{takes}
use Rattle.abstract_paths.specs.declared.events.Event.TheVariants as events
use Rattle.abstract_paths.specs.declared.ways.ArrivalWay.{ArrivalWay}
use Rattle.abstract_paths.specs.declared.ways.ArrivalWay.TheVariants as ways
use Rattle.abstract_paths.specs.declared.ways.Arrive.{Arrive}
use Rattle.abstract_router.specs.Tables.{forwarded}
use Rattle.datagrams.specs.Datagrams.{IsArrival, IsCarried, IsDatagram, IsDelivered, IsFrame, IsMessage, IsReading, IsRelay, IsRouted, dropped_for, refusal_of}
use Rattle.datagrams.specs.declared.datagram.Datagram.{Datagram}
use Rattle.datagrams.specs.declared.datagram.Datagram.TheVariants as kinds
use Rattle.abstract_world.specs.Moves.{IsCarriedTo}
use Rattle.abstract_world.specs.Wires.{other_end}
use Rattle.abstract_world.specs.Worlds.{WorldState, frame_of, routers_in, sent_over}
use Rattle.abstract_world.specs.declared.joint.End.{End}
use Rattle.abstract_world.specs.declared.sent.Sent.{Sent}
use Rattle.world_laws.specs.Closed.{IsClosed}
use Rattle.world_laws.specs.Coming.{IsTrueDatagram, IsTrueReading}
use Rattle.world_laws.specs.Truths.{IsTrueFrame, IsTrueMessage, IsTruePayload, IsTrueUnread, IsTrueWorld, IsTruthful}
use Rattle.world_laws.proofs.Places.{at_place}
use Rattle.world_laws.proofs.Wired.{leads_back}

-- ---- bytes spell one frame

-- a kind is another one
other_kind : {k : ℕ} (i j : ℕ) → (i == j) ≡ false → k ≡ i → k ≡ j → ⊥
other_kind i j apart one two = absurd (let e = sym apart ∙ (λ x. (sym one ∙ two) x == j) ∙ eq-eqb j j refl in cc)

-- what is read whole is one content
same_content : (a b : Content) → readings.Whole a ≡ readings.Whole b → a ≡ b
same_content a b same = let e = same in cc

-- No bytes spell two frames.
pub one_frame : (bytes : List ℕ) (a b : ReceivedFrame) → SpellsFrame bytes a → SpellsFrame bytes b → a ≡ b
one_frame bytes (received_frames.Hop x) (received_frames.Hop y) s t = ap (λ (r : Reading). received_frames.Hop r) (one_reading_lem (drop 1 bytes) x y s.1.1 t.1.1)
one_frame bytes (received_frames.Hop x) (received_frames.Labelled stack payload) s t = absurd (other_kind 1 2 refl s.1.0 t.1.0)
one_frame bytes (received_frames.Hop x) (received_frames.Routed to limit message) s t = absurd (other_kind 1 3 refl s.1.0 t.1.0)
one_frame bytes (received_frames.Labelled stack payload) (received_frames.Hop y) s t = absurd (other_kind 2 1 refl s.1.0 t.1.0)
one_frame bytes (received_frames.Labelled stack payload) (received_frames.Labelled other more) s t = s.1.1 ∙ sym t.1.1
one_frame bytes (received_frames.Labelled stack payload) (received_frames.Routed to limit message) s t = absurd (other_kind 2 3 refl s.1.0 t.1.0)
one_frame bytes (received_frames.Routed to limit message) (received_frames.Hop y) s t = absurd (other_kind 3 1 refl s.1.0 t.1.0)
one_frame bytes (received_frames.Routed to limit message) (received_frames.Labelled stack payload) s t = absurd (other_kind 3 2 refl s.1.0 t.1.0)
one_frame bytes (received_frames.Routed to limit message) (received_frames.Routed other most more) s t = s.1.1 ∙ sym t.1.1

-- ---- a datagram

module _ (w : WorldState) (place : ℕ) where
  abbrev IsSo : Result Datagram Refusal → Type 0
  IsSo = IsTrueDatagram w place

  abbrev end_at : ℕ → End
  end_at link = record { router = place; link = link }

  -- what is left out says nothing
  left_out : (refusal : Refusal) (datagram : Result Datagram Refusal) → datagram ≡ Err refusal → IsSo datagram
  left_out refusal datagram is = subst IsSo (sym is) tt

  -- a reading is an event, or it is left out
  reading_so : (link : ℕ) (way : ArrivalWay) (reading : Reading) (datagram : Result Datagram Refusal) → IsTrueReading w (end_at link) way reading → IsReading link way reading datagram → IsSo datagram
  reading_so link way reading datagram so = by (takes way reading)
    where
      by : (taken : Bool) → MatchBool taken ((arrive : Arrive) × IsArrival link way reading arrive × (datagram ≡ Ok (kinds.Event (events.Arrive arrive)))) (datagram ≡ dropped_for dropped.KindUnsupported) → IsSo datagram
      by true is =
          subst IsSo (sym is.2)
          (subst (λ (l : ℕ). IsTrueReading w (end_at l) is.0.way is.0.reading) (sym is.1.over)
          (subst (λ (y : ArrivalWay). IsTrueReading w (end_at link) y is.0.reading) (sym is.1.by) (subst (λ (x : Reading). IsTrueReading w (end_at link) way x) (sym is.1.says) so)))
      by false is = left_out (refusals.Unread dropped.KindUnsupported) datagram is

  -- so is a message, whatever it spells
  message_so : (link : ℕ) (way : ArrivalWay) (bytes : List ℕ) (datagram : Result Datagram Refusal) → ((reading : Reading) → SpellsReading bytes reading → IsTrueReading w (end_at link) way reading) → IsMessage link way bytes datagram → IsSo datagram
  message_so link way bytes datagram each (inl bad) = left_out (refusals.Unread bad.0) datagram bad.2
  message_so link way bytes datagram each (inr read) = reading_so link way read.0 datagram (each read.0 read.1) read.2

  stack_so : (link : ℕ) (reading : Reading) → IsTrueReading w (end_at link) ways.Stack reading
  stack_so link (readings.Whole content) = tt
  stack_so link (readings.Unknown content class ctype) = tt

  unread_so : (link : ℕ) (bytes : List ℕ) → IsTrueUnread w bytes → (reading : Reading) → SpellsReading bytes reading → IsTrueReading w (end_at link) ways.Routed reading
  unread_so link bytes so (readings.Whole content) spells = so content spells
  unread_so link bytes so (readings.Unknown content class ctype) spells = tt

  -- a message for this router or another one
  routed_so : (r : Router) (link : ℕ) (to : Ipv4Addr) (limit : ℕ) (message : List ℕ) (datagram : Result Datagram Refusal) → IsTrueUnread w message → IsRouted r link to limit message datagram → IsSo datagram
  routed_so r link to limit message datagram so = by (is_own r to)
    where
      passed : (long : Bool) → MatchBool long (datagram ≡ dropped_for dropped.TooLong) (datagram ≡ Ok (kinds.Event (events.Relay (record { link = link; to = to; limit = limit; message = message })))) → IsSo datagram
      passed true is = left_out (refusals.Unread dropped.TooLong) datagram is
      passed false is = subst IsSo (sym is) so

      by : (own : Bool) → MatchBool own (IsMessage link ways.Routed message datagram) (IsRelay link to limit message datagram) → IsSo datagram
      by true is = message_so link ways.Routed message datagram (unread_so link message so) is
      by false is = passed (nat_lt 4096 (length message)) is

  -- a payload under labels
  delivered_so : (link : ℕ) (payload : ReceivedPayload) (datagram : Result Datagram Refusal) → IsDelivered link payload datagram → IsSo datagram
  delivered_so link (received_payloads.Bytes content) datagram is = subst IsSo (sym is) tt
  delivered_so link (received_payloads.Message content) datagram is = message_so link ways.Stack content datagram (λ reading spells. stack_so link reading) is

  carried_so : (link : ℕ) (forwarding : Forwarding) (payload : ReceivedPayload) (datagram : Result Datagram Refusal) → IsTruePayload w (payloads.Received payload) → IsCarried link forwarding payload datagram → IsSo datagram
  carried_so link (Send out stack) payload datagram so is = subst IsSo (sym is) so
  carried_so link Deliver payload datagram so is = delivered_so link payload datagram is
  carried_so link (Drop fault) payload datagram so is = left_out (refusal_of fault) datagram is

  -- what is written of a message spells that message
  written_so : (content : Content) → IsTrueMessage w content → IsReadAgain content → IsTrueUnread w (message_bytes content)
  written_so content so again other spells = subst (IsTrueMessage w) (same_content content other (one_reading_lem (message_bytes content) (readings.Whole content) (readings.Whole other) again spells)) so

  -- and so with one in a payload
  payload_so : (payload : Payload) → IsTruePayload w payload → HoldsAgain payload → IsTruePayload w (payloads.Received (unread_payload payload))
  payload_so (payloads.Received payload) so again = so
  payload_so (payloads.Message content) so again = written_so content so again

  -- A frame that comes over a link from its other end.
  frame_so : (r : Router) (forward : List StackEntry → Forwarding) (link : ℕ) (from : End) (frame : Frame) (datagram : Result Datagram Refusal) → other_end w.joints (end_at link) ≡ Some from → IsTrueFrame w from.router frame → CarriesAgain frame
      → IsFrame r forward link (unread frame) datagram → IsSo datagram
  frame_so r forward link from (frames.Hop content) datagram leads so again is = reading_so link ways.Hop (readings.Whole content) datagram ((from, leads, so.0), so.1) is
  frame_so r forward link from (frames.Labelled stack payload) datagram leads so again is = carried_so link (forward stack) (unread_payload payload) datagram (payload_so payload so again) is
  frame_so r forward link from (frames.Routed to limit content) datagram leads so again is =
      routed_so r link to limit (message_bytes content) datagram
      (written_so content so again) is
  frame_so r forward link from (frames.Relayed to limit message) datagram leads so again is = routed_so r link to limit message datagram so is

-- the frame of a number is one of them
found_frame : (P : Sent → Type 0) (sents : List Sent) (number : ℕ) (sent : Sent) → AllByRecursion P sents → frame_of sents number ≡ Some sent → P sent
found_frame P sents number sent each = by (number == 0)
  where
    by : (none : Bool) → cond none None (slice_get sents (number - 1)) ≡ Some sent → P sent
    by true is = absurd (let e = is in cc)
    by false is = at_place P sents (number - 1) sent each is

-- What comes to a router of a closed world is true, where the world is.
pub carried_true : (w : WorldState) (number place : ℕ) (datagram : Result Datagram Refusal) → IsClosed w → IsTrueWorld w → IsCarriedTo w number place datagram → IsTrueDatagram w place datagram
carried_true w number place datagram closed so is = by is.read
  where
    from : End
    from = sent_over is.sent

    bytes : List ℕ
    bytes = frame_bytes is.sent.output.frame

    forward : List StackEntry → Forwarding
    forward = forwarded is.router is.state

    leads : other_end w.joints (record { router = place; link = is.end.link }) ≡ Some from
    leads = (λ i. other_end w.joints (record { router = is.place_is i; link = is.end.link })) ∙ leads_back (routers_in w.routers) w.joints from is.end closed.joined is.leads

    by : IsDatagram is.router forward is.end.link bytes datagram → IsTrueDatagram w place datagram
    by (inl bad) = left_out w place (refusals.Unread bad.0) datagram bad.2
    by (inr (inl read)) =
        frame_so w place is.router forward is.end.link from is.sent.output.frame datagram leads (found_frame (IsTruthful w) w.frames number is.sent so.frames is.is_sent) is.carried
        (subst (λ (f : ReceivedFrame). IsFrame is.router forward is.end.link f datagram) (one_frame bytes read.0 (unread is.sent.output.frame) read.1 is.spelled) read.2)
    by (inr (inr memory)) = left_out w place refusals.NoMemory datagram memory.1
