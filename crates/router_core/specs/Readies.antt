-- A step that is made ready, and what it makes of what a router knows.
use Rattle.std.specs.Prelude.{◌≡◌, Bool, false, true}
use Rattle.abstract_paths.specs.declared.events.Event.{Event}
use Rattle.abstract_paths.specs.declared.events.Event.TheVariants as events
use Rattle.abstract_paths.specs.declared.events.Made.{Made}
use Rattle.abstract_router.specs.States.{State}
use Rattle.abstract_router.specs.Tables.{TellsChange}
use Rattle.router_core.specs.Plans.{IsPlanOf, after_plan, made_by, quiet}
use Rattle.router_core.specs.States.{RouterState, emptied}
use Rattle.router_core.specs.declared.ready.Ready.{Ready}
use Rattle.router_core.specs.declared.ready.Ready.TheVariants as readies

-- the step of this event, once it is made
abbrev pub made_of : Event → Ready → Made
made_of event (readies.Plan plan) = made_by event plan
made_of event readies.Start = quiet event
made_of event (readies.Restart changes) = quiet event

-- the same state, of a router that is cold or not
abbrev pub with_cold : Bool → State → State
with_cold is_cold s = record s { facts = record s.facts { cold = is_cold } }

-- what is known once it is made
abbrev pub after_ready : Ready → State → State
after_ready (readies.Plan plan) s = after_plan plan s
after_ready readies.Start s = with_cold false s
after_ready (readies.Restart changes) s = with_cold true (emptied s)

-- It is this event's, made ready for a router that knows this: a running router's plan, a cold one's start, or a running
-- one's restart, which is told to change what is forwarded where it does.
abbrev pub IsReady : RouterState → Event → Ready → Type 0
IsReady s event (readies.Plan plan) = (s.state.facts.cold ≡ false) × IsPlanOf s event plan
IsReady s event readies.Start = (s.state.facts.cold ≡ true) × (event ≡ events.Start)
IsReady s event (readies.Restart changes) =
    (s.state.facts.cold ≡ false) × (event ≡ events.Restart) × TellsChange changes s.router s.state (emptied s.state)
