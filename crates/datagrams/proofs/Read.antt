-- What becomes of a message, by what its reader answers.
use Rattle.std.specs.Prelude.{◌≡◌, ℕ, true, List, Result, Ok, Err}
use Rattle.std.proofs.Common.{refl, sym, ap, subst, inl, inr}
use Rattle.std.specs.declared.net.ipv4_addr.Ipv4Addr.{Ipv4Addr}
use Rattle.rsvp_contents.specs.Spelling.{ReadsMessage}
use Rattle.rsvp_contents.specs.declared.dropped.Dropped.{Dropped}
use Rattle.rsvp_contents.specs.declared.dropped.Dropped.TheVariants as dropped
use Rattle.rsvp_contents.specs.declared.message.Reading.{Reading}
use Rattle.link_frames.specs.declared.payload.ReceivedPayload.{ReceivedPayload}
use Rattle.link_frames.specs.declared.payload.ReceivedPayload.TheVariants as received_payloads
use Rattle.lsr_facts.specs.declared.refusal.Refusal.{Refusal}
use Rattle.lsr_facts.specs.declared.router.Router.{Router}
use Rattle.abstract_paths.specs.Ways.{takes}
use Rattle.abstract_paths.specs.declared.events.Event.TheVariants as events
use Rattle.abstract_paths.specs.declared.ways.ArrivalWay.{ArrivalWay}
use Rattle.abstract_paths.specs.declared.ways.ArrivalWay.TheVariants as ways
use Rattle.abstract_paths.specs.declared.ways.Arrive.{Arrive}
use Rattle.abstract_paths.specs.Places.{is_own}
use Rattle.datagrams.specs.declared.datagram.Datagram.{Datagram}
use Rattle.datagrams.specs.declared.datagram.Datagram.TheVariants as kinds
use Rattle.datagrams.specs.Datagrams.{IsArrival, IsDelivered, IsMessage, IsReading, IsRouted}
use Rattle.datagrams.specs.Parts.{OrNoMemory, refusal_for}

-- a message that its way takes is an event
pub message_arrives : (link : ℕ) (way : ArrivalWay) (reading : Reading) (arrive : Arrive) → takes way reading ≡ true → IsArrival link way reading arrive → IsReading link way reading (Ok (kinds.Event (events.Arrive arrive)))
message_arrives link way reading arrive is comes = rw is (arrive, comes, refl)

-- a message that isn't read
pub message_dropped : (link : ℕ) (way : ArrivalWay) (bytes : List ℕ) (fault : Dropped) (refusal : Refusal) → ReadsMessage bytes (Err fault) → refusal ≡ refusal_for fault → OrNoMemory (IsMessage link way bytes) (Err refusal)
message_dropped link way bytes dropped.NoMemory refusal h is = inr (ap Err is)
message_dropped link way bytes fault refusal h is = inl (inl (fault, h.told, ap Err is))

-- a message whose stack ends here
pub message_delivered : (link : ℕ) (payload : ReceivedPayload) (content bytes : List ℕ) (answer : Result Datagram Refusal) → payload ≡ received_payloads.Message content → bytes ≡ content → OrNoMemory (IsMessage link ways.Stack bytes) answer → OrNoMemory (IsDelivered link payload) answer
message_delivered link payload content bytes answer is same h =
    subst (λ (p : ReceivedPayload). OrNoMemory (IsDelivered link p) answer) (sym is)
    (subst (λ (b : List ℕ). OrNoMemory (IsMessage link ways.Stack b) answer) same h)

-- a message in a Routed frame for this router
pub message_is_own : (r : Router) (link : ℕ) (to : Ipv4Addr) (limit : ℕ) (message bytes : List ℕ) (answer : Result Datagram Refusal) → is_own r to ≡ true → bytes ≡ message → OrNoMemory (IsMessage link ways.Routed bytes) answer → OrNoMemory (IsRouted r link to limit message) answer
message_is_own r link to limit message bytes answer own same h =
    rw own (subst (λ (b : List ℕ). OrNoMemory (IsMessage link ways.Routed b) answer) same h)
