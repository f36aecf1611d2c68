-- The plan of a step.
use Rattle.std.specs.Prelude.{◌≡◌, true, false, [], IfSome}
use Rattle.std.specs.Option.{option_map_or}
use Rattle.lsr_facts.specs.declared.refusal.Refusal.{Refusal}
use Rattle.lsr_facts.specs.declared.refusal.Refusal.TheVariants.{HopLimit, NoMemory}
use Rattle.lsr_facts.specs.declared.reply.Reply.TheVariants as replies
use Rattle.abstract_paths.specs.declared.events.Event.{Event}
use Rattle.abstract_paths.specs.declared.events.Made.{Made}
use Rattle.abstract_paths.specs.Relays.{exceeds_hop_limit}
use Rattle.abstract_router.specs.Arrivals.{outcome}
use Rattle.abstract_router.specs.States.{State}
use Rattle.abstract_router.specs.Steps.{Step}
use Rattle.router_tables.specs.Changes.{IsChange, changed}
use Rattle.router_tables.specs.States.{RouterState}
use Rattle.router_core.specs.declared.plan.Plan.{Plan}

-- Why an event has no step: it is a message for another router whose limit ran out; or memory ran out, and it isn't
-- silent. What is refused, and a start, take none.
abbrev pub IsOutFor : RouterState → Event → Refusal → Type 0
IsOutFor s event HopLimit = exceeds_hop_limit s.router s.state.facts event ≡ true
IsOutFor s event NoMemory = (outcome s.router s.state event).is_silent ≡ false
IsOutFor s event refusal = ⊥

-- a step of this event that is done, and for which nothing is sent
abbrev pub quiet : Event → Made
quiet event = record { event = event; labels = []; reply = replies.Done; outputs = [] }

-- a plan of this event, once it is made
abbrev pub made_by : Event → Plan → Made
made_by event plan = record { event = event; labels = plan.chosen; reply = plan.reply; outputs = plan.outputs }

-- what is known once it is made
abbrev pub after_plan : Plan → State → State
after_plan plan s = option_map_or (λ change. changed change.value s) plan.change s

-- The plan is that of this event's step from this state: its answer, what it sends, and what is known after it; and its
-- change is one of the router's tables.
pub record IsPlanOf (s : RouterState) (event : Event) (plan : Plan) : Type 0 where
  pub step : Step s.router s.state (made_by event plan) (after_plan plan s.state)
  pub change : IfSome plan.change (λ change. IsChange s.router s.state change.value)
