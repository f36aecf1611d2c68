-- What is served of an event and of a datagram, and what is answered, be there memory for its text or not.
use Rattle.std.proofs.Common.{◌≡◌, ℕ, List, Result, Ok, Err, inr, refl}
use Rattle.std.specs.Prelude.{IfOk, OnErr}
use Rattle.abstract_paths.specs.declared.events.Event.{Event}
use Rattle.abstract_paths.specs.declared.events.Made.{Made}
use Rattle.lsr_facts.specs.declared.refusal.Refusal.{Refusal}
use Rattle.lsr_lines.specs.Steps.{IsUntold}
use Rattle.lsr_lines.specs.declared.lines.Request.{Request}
use Rattle.router_core.specs.Machines.{IsDatagramServed, IsEventServed}
use Rattle.router_core.specs.declared.inputs.Served.{Served}
use Rattle.lsr_session.specs.Requests.{IsAnswered, PrintsAnswer, ServesDatagram, ServesEvent, SessionState, answered_text, remembered, served_of}
use Rattle.lsr_session.specs.declared.requests.Answered.{Answered}

pub event_served : (before after : SessionState) (event : Event) (made : Result Made Refusal) (answer : Result Served Refusal)
    → IsEventServed before.router.router before.router.state event after.router.state made → after.router.router ≡ before.router.router → answer ≡ served_of made → after.recent ≡ remembered before.recent answer
    → ServesEvent before event answer after
event_served before after event made answer served router is recent = record { made = made; taken = record { served = served; router = router }; served = is; recent = recent }

pub datagram_served : (before after : SessionState) (link : ℕ) (datagram : List ℕ) (answer : Result Served Refusal)
    → IsDatagramServed before.router.router before.router.state link datagram after.router.state answer → after.router.router ≡ before.router.router → after.recent ≡ remembered before.recent answer
    → ServesDatagram before link datagram answer after
datagram_served before after link datagram answer served router recent = record { taken = record { served = served; router = router }; recent = recent }

-- a text is told where there is memory for it
pub told : {A E : Type 0} (bytes : A → List ℕ) (r : Result A E) (before after : SessionState) (request : Request) (answered : Answered) → IsAnswered before request answered after → IfOk r (λ x. bytes x ≡ answered_text answered)
    → IfOk r (λ x. PrintsAnswer before request (bytes x) after)
told bytes (Ok x) before after request answered is shown = (answered, is, shown)
told bytes (Err error) before after request answered is shown = tt

-- and else it is one that would be
pub untold : {A E : Type 0} (r : Result A E) (before after : SessionState) (request : Request) (answered : Answered) → IsAnswered before request answered after → OnErr r (IsUntold (PrintsAnswer before request) before after)
untold (Ok x) before after request answered is = tt
untold (Err error) before after request answered is = inr (answered_text answered, (answered, is, refl))
