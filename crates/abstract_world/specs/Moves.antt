-- What moves make of a world, and what is told of them.
use Rattle.std.specs.Prelude.{◌≡◌, ℕ, ◌+◌, List, [], ◌∷◌, ◌++◌, length, Option, Some, None, Result, Ok, Err}
use Rattle.std.specs.Option.{option_and_then}
use Rattle.link_frames.specs.Frames.{CarriesAgain, SpellsFrame, frame_bytes, unread}
use Rattle.lsr_facts.specs.declared.refusal.Refusal.{Refusal}
use Rattle.lsr_facts.specs.declared.refusal.Refusal.TheVariants.{NoFrame, NoMemory, NoRouter}
use Rattle.lsr_facts.specs.declared.router.Router.{Router}
use Rattle.abstract_paths.specs.declared.events.Event.{Event}
use Rattle.abstract_paths.specs.declared.events.Event.TheVariants as events
use Rattle.abstract_paths.specs.declared.events.Made.{Made}
use Rattle.abstract_router.specs.States.{State}
use Rattle.abstract_router.specs.Steps.{IsNoStep}
use Rattle.abstract_router.specs.Tables.{forwarded}
use Rattle.datagrams.specs.Datagrams.{IsDatagram}
use Rattle.datagrams.specs.declared.datagram.Datagram.{Datagram}
use Rattle.datagrams.specs.declared.datagram.Datagram.TheVariants as kinds
use Rattle.datagrams.specs.declared.datagram.Passed.{Passed}
use Rattle.datagrams.specs.declared.datagram.Passed.TheVariants as passes
use Rattle.abstract_world.specs.Wires.{other_end}
use Rattle.abstract_world.specs.Worlds.{IsStep, WorldState, at, frame_of, sent_over, with_frames}
use Rattle.abstract_world.specs.declared.joint.End.{End}
use Rattle.abstract_world.specs.declared.moves.Move.{Move}
use Rattle.abstract_world.specs.declared.moves.Move.TheVariants as moves
use Rattle.abstract_world.specs.declared.sent.Sent.{Sent}
use Rattle.abstract_world.specs.declared.told.Answer.{Answer}
use Rattle.abstract_world.specs.declared.told.Answer.TheVariants as answers
use Rattle.abstract_world.specs.declared.told.Told.{Told}

-- The router of this place leaves this event out, for this refusal, and nothing changes.
pub record IsLeftOut (w : WorldState) (place : ℕ) (event : Event) (refusal : Refusal) (after : WorldState) : Type 0 where
  pub router : Router
  pub state : State
  pub knows : at w place ≡ Some (record { router = router; state = state })
  pub why : IsNoStep router state event refusal
  pub kept : after ≡ w

-- An event happens at the router of this place: the router makes its step, or leaves it out. Beside it stand the steps that
-- were made, each with the place of its router.
abbrev pub Happens : WorldState → ℕ → Event → Answer → List (ℕ × Made) → WorldState → Type 0
Happens w place event (answers.Replied reply) steps after =
    (made : Made) × (steps ≡ (place, made) ∷ []) × (made.event ≡ event) × (made.reply ≡ reply) × IsStep w place made after
Happens w place event (answers.Refused refusal) steps after = (steps ≡ []) × IsLeftOut w place event refusal after
Happens w place event answers.PassedOn steps after = ⊥
Happens w place event (answers.Delivered payload) steps after = ⊥

-- What comes of a labelled frame: it goes on over another link, or its payload has arrived. No step is made.
abbrev pub IsPassed : WorldState → ℕ → Passed → Answer → WorldState → Type 0
IsPassed w place (passes.Sent link frame) answer after =
    (answer ≡ answers.PassedOn) × (after ≡ with_frames place (record { link = link; frame = frame } ∷ []) w)
IsPassed w place (passes.Delivered payload) answer after = (answer ≡ answers.Delivered payload) × (after ≡ w)

-- What comes of what a datagram is for the router of this place: of an event its step; a labelled frame is passed on or
-- delivered; and what is refused is left out.
abbrev pub Comes : WorldState → ℕ → Result Datagram Refusal → Answer → List (ℕ × Made) → WorldState → Type 0
Comes w place (Ok (kinds.Event event)) answer steps after = Happens w place event answer steps after
Comes w place (Ok (kinds.Passed passed)) answer steps after = (steps ≡ []) × IsPassed w place passed answer after
Comes w place (Err refusal) answer steps after = (steps ≡ []) × (answer ≡ answers.Refused refusal) × (after ≡ w)

-- where a frame comes to: to the other end of the link that it was sent over
abbrev pub end_of : WorldState → Sent → Option End
end_of w sent = other_end w.joints (sent_over sent)

-- where the frame of this number comes to: nowhere, if there is none, or no wire joins its link
abbrev pub end_for : WorldState → ℕ → Option End
end_for w number = option_and_then (end_of w) (frame_of w.frames number)

-- The frame of this number is handed to the router of this place, which is at the other end of its link. It comes as the bytes
-- that it is written as, which are read as that frame; and this is what they are for that router.
pub record IsCarriedTo (w : WorldState) (number place : ℕ) (datagram : Result Datagram Refusal) : Type 0 where
  pub sent : Sent
  pub end : End
  pub is_sent : frame_of w.frames number ≡ Some sent
  pub leads : end_of w sent ≡ Some end
  pub place_is : place ≡ end.router
  pub router : Router
  pub state : State
  pub knows : at w place ≡ Some (record { router = router; state = state })
  pub spelled : SpellsFrame (frame_bytes sent.output.frame) (unread sent.output.frame)
  pub carried : CarriesAgain sent.output.frame
  pub read : IsDatagram router (forwarded router state) end.link (frame_bytes sent.output.frame) datagram

-- The frame of this number comes to the other end of its link, and that router makes of it what it makes of any datagram.
abbrev pub IsHandedOver : WorldState → ℕ → ℕ → Answer → List (ℕ × Made) → WorldState → Type 0
IsHandedOver w number place answer steps after =
    (datagram : Result Datagram Refusal) × IsCarriedTo w number place datagram × Comes w place datagram answer steps after

-- The router of this place is restarted, and then started. Told is what the start was answered.
pub record IsRestarted (w : WorldState) (place : ℕ) (answer : Answer) (steps : List (ℕ × Made)) (after : WorldState) : Type 0 where
  pub first : Answer
  pub stopped : List (ℕ × Made)
  pub between : WorldState
  pub restart : Happens w place events.Restart first stopped between
  pub started : List (ℕ × Made)
  pub start : Happens between place events.Start answer started after
  pub steps_are : steps ≡ stopped ++ started

-- A move is made at the router of this place.
abbrev pub IsMadeAt : WorldState → Move → ℕ → Answer → List (ℕ × Made) → WorldState → Type 0
IsMadeAt w (moves.Deliver number) place answer steps after = IsHandedOver w number place answer steps after
IsMadeAt w (moves.Repeat number) place answer steps after = IsHandedOver w number place answer steps after
IsMadeAt w (moves.Tick router moment) place answer steps after = (place ≡ router) × Happens w place (events.Tick moment) answer steps after
IsMadeAt w (moves.LinkUp router link) place answer steps after = (place ≡ router) × Happens w place (events.LinkUp link) answer steps after
IsMadeAt w (moves.LinkDown router link) place answer steps after = (place ≡ router) × Happens w place (events.LinkDown link) answer steps after
IsMadeAt w (moves.Command router command) place answer steps after =
    (place ≡ router) × Happens w place (events.Command command) answer steps after
IsMadeAt w (moves.Restart router) place answer steps after = (place ≡ router) × IsRestarted w place answer steps after

-- A move is made, and this is told of it: the router's place and its answer, and the numbers of the frames that it sent.
pub record IsMoved (w : WorldState) (m : Move) (told : Told) (steps : List (ℕ × Made)) (after : WorldState) : Type 0 where
  pub made : IsMadeAt w m told.router told.answer steps after
  pub first : told.first ≡ length w.frames + 1
  pub end : told.end ≡ length after.frames + 1

-- Moves are made, one after the other, with what is told of each, and all their steps.
abbrev pub AreMoved : WorldState → List Move → List Told → List (ℕ × Made) → WorldState → Type 0
AreMoved w [] [] steps after = (steps ≡ []) × (after ≡ w)
AreMoved w (m ∷ ms) (told ∷ more) steps after =
    (between : WorldState) × (first rest : List (ℕ × Made)) × IsMoved w m told first between × AreMoved between ms more rest after
    × (steps ≡ first ++ rest)
AreMoved w [] (told ∷ more) steps after = ⊥
AreMoved w (m ∷ ms) [] steps after = ⊥

-- the router of this place isn't there
abbrev pub IsNoRouter : WorldState → ℕ → Type 0
IsNoRouter w place = at w place ≡ None

-- Why no more moves are made. A frame that isn't there, or that comes nowhere, can't be delivered; a router that isn't there
-- does nothing; and memory may run out.
abbrev pub IsStopFor : WorldState → Move → Refusal → Type 0
IsStopFor w (moves.Deliver number) NoFrame = end_for w number ≡ None
IsStopFor w (moves.Repeat number) NoFrame = end_for w number ≡ None
IsStopFor w (moves.Tick router moment) NoRouter = IsNoRouter w router
IsStopFor w (moves.LinkUp router link) NoRouter = IsNoRouter w router
IsStopFor w (moves.LinkDown router link) NoRouter = IsNoRouter w router
IsStopFor w (moves.Command router command) NoRouter = IsNoRouter w router
IsStopFor w (moves.Restart router) NoRouter = IsNoRouter w router
IsStopFor w m NoMemory = Unit {0}
IsStopFor w m refusal = ⊥

-- The moves before one were made, that one wasn't, and neither were those after it.
pub record StopsAt (w : WorldState) (ms : List Move) (refusal : Refusal) (steps : List (ℕ × Made)) (after : WorldState) : Type 0 where
  pub before : List Move
  pub next : Move
  pub later : List Move
  pub moves_are : ms ≡ before ++ next ∷ later
  pub told : List Told
  pub made : AreMoved w before told steps after
  pub why : IsStopFor after next refusal
