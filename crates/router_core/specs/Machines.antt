-- What a router, cold or running, does with what comes to it.
use Rattle.std.specs.Prelude.{◌≡◌, ◌⊎◌, ℕ, List, [], ◌∷◌, Result, Ok, Err, false, true}
use Rattle.lsr_facts.specs.declared.refusal.Refusal.{Refusal}
use Rattle.lsr_facts.specs.declared.refusal.Refusal.TheVariants.{NoMemory}
use Rattle.lsr_facts.specs.declared.router.Router.{Router}
use Rattle.abstract_paths.specs.Arrivals.{takes_memory}
use Rattle.abstract_paths.specs.declared.events.Event.{Event}
use Rattle.abstract_paths.specs.declared.events.Made.{Made}
use Rattle.abstract_router.specs.Arrivals.{outcome}
use Rattle.abstract_router.specs.States.{State, bare}
use Rattle.abstract_router.specs.Steps.{IsNoStep, Step}
use Rattle.abstract_router.specs.Tables.{forwarded}
use Rattle.datagrams.specs.Datagrams.{IsDatagram}
use Rattle.datagrams.specs.declared.datagram.Datagram.{Datagram}
use Rattle.datagrams.specs.declared.datagram.Datagram.TheVariants as kinds
use Rattle.router_core.specs.States.{RouterState}
use Rattle.router_core.specs.declared.inputs.Input.{Input}
use Rattle.router_core.specs.declared.inputs.Input.TheVariants as inputs
use Rattle.router_core.specs.declared.inputs.Served.{Served}
use Rattle.router_core.specs.declared.inputs.Served.TheVariants as serves
use Rattle.router_core.specs.declared.machine.Phase.{Phase}
use Rattle.router_core.specs.declared.machine.Phase.TheVariants as phases

-- What stands for a router that is out: it is no router, and no machine is this between two calls.
unfoldable pub no_router : RouterState
no_router = record {
  router = record { id = record { octets = [] }; refresh_ms = 0; labels = record { first = 0; last = 0 }; label_rest_ms = 0; links = [] };
  state = bare (record { cold = true; moment = 0; up = []; routes = []; tunnels = []; bypasses = []; paths = []; sent = [] });
}

-- what a router is and knows, cold or running
abbrev pub state_in : Phase → RouterState
state_in (phases.Running router) = router
state_in (phases.Cold router) = router
state_in phases.Between = no_router

-- a router is there, cold or running
abbrev pub IsThere : Phase → Type 0
IsThere (phases.Running router) = Unit {0}
IsThere (phases.Cold router) = Unit {0}
IsThere phases.Between = ⊥

-- Why an event is left out: it has no step; or memory ran out for one that isn't silent, while the router runs. What is
-- refused, and a start, take no memory.
abbrev pub IsEventLeft : Router → State → Event → Refusal → Type 0
IsEventLeft r before event NoMemory = (before.facts.cold ≡ false) × ((outcome r before event).is_silent ≡ false)
IsEventLeft r before event refusal = IsNoStep r before event refusal

-- An event makes its step; or it is left out, and changes nothing.
abbrev pub IsEventServed : Router → State → Event → State → Result Made Refusal → Type 0
IsEventServed r before event after (Ok made) = (made.event ≡ event) × Step r before made after
IsEventServed r before event after (Err refusal) = IsEventLeft r before event refusal × (after ≡ before)

-- the same, told as of any input
abbrev pub IsMadeFor : Router → State → Event → State → Result Served Refusal → Type 0
IsMadeFor r before event after (Ok (serves.Made made)) = IsEventServed r before event after (Ok made)
IsMadeFor r before event after (Ok (serves.Passed passed)) = ⊥
IsMadeFor r before event after (Err refusal) = IsEventServed r before event after (Err refusal)

-- What comes of what a datagram is: of an event its step; a labelled frame is passed on or delivered, and what is refused
-- is left out, and neither changes anything.
abbrev pub IsServedFor : Router → State → Result Datagram Refusal → State → Result Served Refusal → Type 0
IsServedFor r before (Ok (kinds.Event event)) after answer = IsMadeFor r before event after answer
IsServedFor r before (Ok (kinds.Passed passed)) after answer = (answer ≡ Ok (serves.Passed passed)) × (after ≡ before)
IsServedFor r before (Err refusal) after answer = (answer ≡ Err refusal) × (after ≡ before)

-- What comes of a datagram that came over a link: what it is, by the router's addresses and its label table, and what comes
-- of that.
abbrev pub IsDatagramServed : Router → State → ℕ → List ℕ → State → Result Served Refusal → Type 0
IsDatagramServed r before link bytes after answer =
    (datagram : Result Datagram Refusal) × IsDatagram r (forwarded r before) link bytes datagram × IsServedFor r before datagram after answer

-- What comes of an event that is copied first: memory may run out for the copy of a message, or of a command with a route.
abbrev pub IsCopyServed : Router → State → Event → State → Result Served Refusal → Type 0
IsCopyServed r before event after answer =
    IsMadeFor r before event after answer ⊎ ((takes_memory event ≡ true) × (answer ≡ Err NoMemory) × (after ≡ before))

-- what comes of an input
abbrev pub IsInputServed : Router → State → Input → State → Result Served Refusal → Type 0
IsInputServed r before (inputs.Datagram link bytes) after answer = IsDatagramServed r before link bytes.items after answer
IsInputServed r before (inputs.Event event) after answer = IsCopyServed r before event after answer

-- Inputs are answered, one after the other: each has its answer at its own place, be it its step, what becomes of its
-- labelled frame at that moment, or its refusal. Only a step changes anything.
abbrev pub AreAnswered : Router → State → List Input → List (Result Served Refusal) → State → Type 0
AreAnswered r before [] [] after = after ≡ before
AreAnswered r before (input ∷ inputs) (answer ∷ answers) after =
    (between : State) × IsInputServed r before input between answer × AreAnswered r between inputs answers after
AreAnswered r before [] (answer ∷ answers) after = ⊥
AreAnswered r before (input ∷ inputs) [] after = ⊥

-- the steps that were made
abbrev pub steps_in : List (Result Served Refusal) → List Made
steps_in [] = []
steps_in (Ok (serves.Made made) ∷ more) = made ∷ steps_in more
steps_in (Ok (serves.Passed passed) ∷ more) = steps_in more
steps_in (Err refusal ∷ more) = steps_in more
