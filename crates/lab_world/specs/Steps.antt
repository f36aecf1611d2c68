-- What the parts of a move promise one another.
use Rattle.std.specs.Prelude.{◌≡◌, ℕ, List, Some, true, slice_get, Result}
use Rattle.link_frames.specs.Frames.{CarriesAgain, SpellsFrame, frame_bytes, unread}
use Rattle.link_frames.specs.declared.frame.Frame.{Frame}
use Rattle.lsr_facts.specs.declared.refusal.Refusal.{Refusal}
use Rattle.lsr_facts.specs.declared.refusal.Refusal.TheVariants.{NoMemory, NoRouter}
use Rattle.abstract_paths.specs.declared.events.Event.{Event}
use Rattle.abstract_router.specs.States.{RouterState}
use Rattle.router_core.specs.Readies.{IsReady}
use Rattle.router_core.specs.declared.ready.Ready.{Ready}
use Rattle.datagrams.specs.declared.datagram.Datagram.{Datagram}
use Rattle.abstract_world.specs.Moves.{IsNoRouter}
use Rattle.abstract_world.specs.Wires.{is_closed}
use Rattle.abstract_world.specs.Worlds.{WorldState, routers_in}
use Rattle.world_laws.specs.Coming.{IsTrueDatagram, IsTrueEvent}

-- a step is made ready for the router of this place
abbrev pub IsReadyAt : List RouterState → ℕ → Ready → Type 0
IsReadyAt routers place ready = (q : RouterState) × (slice_get routers place ≡ Some q) × ((event : Event) × IsReady q event ready)

-- the bytes are those that the frame is written as, and they are read as that frame
pub record IsSpelled (frame : Frame) (bytes : List ℕ) : Type 0 where
  pub bytes_are : bytes ≡ frame_bytes frame
  pub spelled : SpellsFrame (frame_bytes frame) (unread frame)
  pub carried : CarriesAgain frame

-- why nothing happens at the router of a place: it isn't there, or memory ran out
abbrev pub IsStopAt : WorldState → ℕ → Refusal → Type 0
IsStopAt w place NoRouter = IsNoRouter w place
IsStopAt w place NoMemory = Unit {0}
IsStopAt w place refusal = ⊥

-- where the world is closed, what comes to the router of a place is true
abbrev pub ComesTrue : WorldState → ℕ → Result Datagram Refusal → Type 0
ComesTrue w place datagram = is_closed (routers_in w.routers) w.joints ≡ true → IsTrueDatagram w place datagram

-- and so is what happens there
abbrev pub HappensTrue : WorldState → ℕ → Event → Type 0
HappensTrue w place event = is_closed (routers_in w.routers) w.joints ≡ true → IsTrueEvent w place event
