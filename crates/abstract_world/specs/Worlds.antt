-- A world of routers: what it is, and what a step of one of its routers makes of it.
use Rattle.std.specs.Prelude.{◌≡◌, ℕ, ◌-◌, ◌==◌, ◌++◌, if◌then◌else◌, List, map, set, slice_get, Option, Some, None}
use Rattle.lsr_facts.specs.declared.key.Key.{Key}
use Rattle.lsr_facts.specs.declared.router.Router.{Router}
use Rattle.abstract_paths.specs.declared.events.Made.{Made}
use Rattle.abstract_paths.specs.declared.events.Output.{Output}
use Rattle.abstract_router.specs.States.{RouterState, State}
use Rattle.abstract_router.specs.Steps.{Step}
use Rattle.abstract_world.specs.declared.joint.End.{End}
use Rattle.abstract_world.specs.declared.joint.Joint.{Joint}
use Rattle.abstract_world.specs.declared.sent.Given.{Given}
use Rattle.abstract_world.specs.declared.sent.Sent.{Sent}

-- Routers, the wires between their links, all frames that were ever sent, in the order of sending, and a row for each label
-- that was ever given.
pub record WorldState : Type 0 where
  pub routers : List RouterState
  pub joints : List Joint
  pub frames : List Sent
  pub given : List Given

-- what never changes of the routers
abbrev pub routers_in : List RouterState → List Router
routers_in routers = map (λ q. q.router) routers

-- the router of this place, and what it knows
abbrev pub at : WorldState → ℕ → Option RouterState
at w place = slice_get w.routers place

-- the frame of this number: the first one has number 1
abbrev pub frame_of : List Sent → ℕ → Option Sent
frame_of frames number = if number == 0 then None else slice_get frames (number - 1)

-- the link that a frame was sent over
abbrev pub sent_over : Sent → End
sent_over sent = record { router = sent.router; link = sent.output.link }

-- a frame, as the router of this place sent it
abbrev pub sent_by : ℕ → Output → Sent
sent_by place output = record { router = place; output = output }

-- a label, as the router of this place gave it to an LSP: that is known by its session and its LSP ID
abbrev pub given_by : ℕ → Key × ℕ → Given
given_by place label = record { router = place; session = label.0.session; lsp = label.0.sender.lsp; label = label.1 }

-- the world in which the router of this place is this one now
abbrev pub with_router : ℕ → RouterState → WorldState → WorldState
with_router place router w = record w { routers = set w.routers place router }

-- the world in which the router of this place has sent these frames, too
abbrev pub with_frames : ℕ → List Output → WorldState → WorldState
with_frames place outputs w = record w { frames = w.frames ++ map (sent_by place) outputs }

-- and given these labels
abbrev pub with_given : ℕ → List (Key × ℕ) → WorldState → WorldState
with_given place labels w = record w { given = w.given ++ map (given_by place) labels }

-- what a step of the router of this place leaves: the router knows this, and all that the step sent and gave is kept
abbrev pub stepped : ℕ → RouterState → Made → WorldState → WorldState
stepped place router made w = with_given place made.labels (with_frames place made.outputs (with_router place router w))

-- The router of this place makes this step.
pub record IsStep (w : WorldState) (place : ℕ) (made : Made) (after : WorldState) : Type 0 where
  pub router : Router
  pub before : State
  pub knows : at w place ≡ Some (record { router = router; state = before })
  pub knows_then : State
  pub step : Step router before made knows_then
  pub changed : after ≡ stepped place (record { router = router; state = knows_then }) made w
