-- Moves keep a closed world closed and true.
use Rattle.std.specs.Prelude.{◌≡◌, ℕ, true, List, [], ◌∷◌, map, Result, Ok, Err}
use Rattle.std.proofs.Common.{refl, subst, sym, ◌∙◌}
use Rattle.sorted_rows.specs.ListLaws.{all-append}
use Rattle.lsr_facts.specs.declared.refusal.Refusal.{Refusal}
use Rattle.lsr_facts.specs.declared.router.Router.{Router}
use Rattle.abstract_paths.specs.declared.events.Event.{Event}
use Rattle.abstract_paths.specs.declared.events.Event.TheVariants as events
use Rattle.abstract_paths.specs.declared.events.Made.{Made}
use Rattle.abstract_paths.specs.declared.events.Output.{Output}
use Rattle.datagrams.specs.declared.datagram.Datagram.{Datagram}
use Rattle.datagrams.specs.declared.datagram.Datagram.TheVariants as kinds
use Rattle.datagrams.specs.declared.datagram.Passed.{Passed}
use Rattle.datagrams.specs.declared.datagram.Passed.TheVariants as passes
use Rattle.abstract_world.specs.Moves.{AreMoved, Comes, Happens, IsHandedOver, IsMadeAt, IsPassed, IsRestarted}
use Rattle.abstract_world.specs.Wires.{AreJoined, is_closed}
use Rattle.abstract_world.specs.Worlds.{IsStep, WorldState, routers_in, sent_by, with_frames}
use Rattle.abstract_world.specs.declared.moves.Move.{Move}
use Rattle.abstract_world.specs.declared.moves.Move.TheVariants as moves
use Rattle.abstract_world.specs.declared.told.Answer.{Answer}
use Rattle.abstract_world.specs.declared.told.Answer.TheVariants as answers
use Rattle.abstract_world.specs.declared.told.Told.{Told}
use Rattle.world_laws.specs.Closed.{IsClosed}
use Rattle.world_laws.specs.Coming.{IsTrueDatagram, IsTrueEvent}
use Rattle.world_laws.specs.Truths.{IsTrueWorld, IsTruthful}
use Rattle.world_laws.proofs.Delivering.{carried_true}
use Rattle.world_laws.proofs.Later.{IsLater, frame_later, frames_later, router_later}
use Rattle.world_laws.proofs.Stepping.{kept_by_step, step_later}

-- a world is closed and true
pub record IsKept (w : WorldState) : Type 0 where
  pub closed : IsClosed w
  pub so : IsTrueWorld w

-- routers and wires stay, and so a closed world stays closed
pub closed_later : (w after : WorldState) → IsLater w after → IsClosed w → IsClosed after
closed_later w after later closed = record {
  joined = (subst (λ (routers : List Router). AreJoined routers after.joints) (sym later.routers) (subst (AreJoined (routers_in w.routers)) (sym later.joints) closed.joined));
  closed = (λ i. is_closed (later.routers i) (later.joints i)) ∙ closed.closed;
}

pub closed_before : (w after : WorldState) → IsLater w after → is_closed (routers_in after.routers) after.joints ≡ true → is_closed (routers_in w.routers) w.joints ≡ true
closed_before w after later closed = sym (λ i. is_closed (later.routers i) (later.joints i)) ∙ closed

-- ---- one move

-- frames that are passed on
later_frames : (w : WorldState) (place : ℕ) (outputs : List Output) → IsLater w (with_frames place outputs w)
later_frames w place outputs = record { routers = refl; joints = refl; given = λ row among. among }

pub kept_by_frame : (w : WorldState) (place : ℕ) (passed : Passed) (answer : Answer) (after : WorldState) → IsTrueWorld w → IsTrueDatagram w place (Ok (kinds.Passed passed)) → IsPassed w place passed answer after → IsTrueWorld after
kept_by_frame w place (passes.Sent link frame) answer after so came is =
    let outputs : List Output = record { link = link; frame = frame } ∷ [] in
    let grown = with_frames place outputs w in
    let more = later_frames w place outputs in
    subst IsTrueWorld (sym is.1) (record {
      routers = λ i r s knows. router_later w grown more i r s (so.routers i r s knows);
      frames = all-append (IsTruthful grown) w.frames (map (sent_by place) outputs) (frames_later w grown more w.frames so.frames) (frame_later w grown more place frame came, tt);
    })
kept_by_frame w place (passes.Delivered payload) answer after so came is = subst IsTrueWorld (sym is.1) so

-- what happens at a router
happens_kept : (w : WorldState) (place : ℕ) (event : Event) (answer : Answer) (steps : List (ℕ × Made)) (after : WorldState) → IsKept w → IsTrueEvent w place event → Happens w place event answer steps after → IsKept after
happens_kept w place event (answers.Replied reply) steps after kept came is = by_step is.0 is.4 (subst (IsTrueEvent w place) (sym is.2) came)
  where
    by_step : (made : Made) → IsStep w place made after → IsTrueEvent w place made.event → IsKept after
    by_step made step came = record {
      closed = closed_later w after (step_later w place made after step) kept.closed;
      so = kept_by_step w place made after kept.closed kept.so came step;
    }
happens_kept w place event (answers.Refused refusal) steps after kept came is = subst IsKept (sym is.1.kept) kept
happens_kept w place event answers.PassedOn steps after kept came is = absurd is
happens_kept w place event (answers.Delivered payload) steps after kept came is = absurd is

passed_kept : (w : WorldState) (place : ℕ) (passed : Passed) (answer : Answer) (after : WorldState) → IsKept w → IsTrueDatagram w place (Ok (kinds.Passed passed)) → IsPassed w place passed answer after → IsKept after
passed_kept w place (passes.Sent link frame) answer after kept came is = record {
  closed = subst IsClosed (sym is.1) (closed_later w _ (later_frames w place (record { link = link; frame = frame } ∷ [])) kept.closed);
  so = kept_by_frame w place (passes.Sent link frame) answer after kept.so came is;
}
passed_kept w place (passes.Delivered payload) answer after kept came is = subst IsKept (sym is.1) kept

comes_kept : (w : WorldState) (place : ℕ) (datagram : Result Datagram Refusal) (answer : Answer) (steps : List (ℕ × Made)) (after : WorldState) → IsKept w → IsTrueDatagram w place datagram → Comes w place datagram answer steps after → IsKept after
comes_kept w place (Ok (kinds.Event event)) answer steps after kept came is = happens_kept w place event answer steps after kept came is
comes_kept w place (Ok (kinds.Passed passed)) answer steps after kept came is = passed_kept w place passed answer after kept came is.1
comes_kept w place (Err refusal) answer steps after kept came is = subst IsKept (sym is.2) kept

handed_kept : (w : WorldState) (number place : ℕ) (answer : Answer) (steps : List (ℕ × Made)) (after : WorldState) → IsKept w → IsHandedOver w number place answer steps after → IsKept after
handed_kept w number place answer steps after kept is = comes_kept w place is.0 answer steps after kept (carried_true w number place is.0 kept.closed kept.so is.1) is.2

restarted_kept : (w : WorldState) (place : ℕ) (answer : Answer) (steps : List (ℕ × Made)) (after : WorldState) → IsKept w → IsRestarted w place answer steps after → IsKept after
restarted_kept w place answer steps after kept is = happens_kept is.between place events.Start answer is.started after (happens_kept w place events.Restart is.first is.stopped is.between kept tt is.restart) tt is.start

made_kept : (w : WorldState) (m : Move) (place : ℕ) (answer : Answer) (steps : List (ℕ × Made)) (after : WorldState) → IsKept w → IsMadeAt w m place answer steps after → IsKept after
made_kept w (moves.Deliver number) place answer steps after kept is = handed_kept w number place answer steps after kept is
made_kept w (moves.Repeat number) place answer steps after kept is = handed_kept w number place answer steps after kept is
made_kept w (moves.Tick router moment) place answer steps after kept is = happens_kept w place (events.Tick moment) answer steps after kept tt is.1
made_kept w (moves.LinkUp router link) place answer steps after kept is = happens_kept w place (events.LinkUp link) answer steps after kept tt is.1
made_kept w (moves.LinkDown router link) place answer steps after kept is = happens_kept w place (events.LinkDown link) answer steps after kept tt is.1
made_kept w (moves.Command router command) place answer steps after kept is = happens_kept w place (events.Command command) answer steps after kept tt is.1
made_kept w (moves.Restart router) place answer steps after kept is = restarted_kept w place answer steps after kept is.1

-- ---- moves

pub moves_kept : (w : WorldState) (ms : List Move) (tolds : List Told) (steps : List (ℕ × Made)) (after : WorldState) → IsKept w → AreMoved w ms tolds steps after → IsKept after
moves_kept w [] [] steps after kept moved = subst IsKept (sym moved.1) kept
moves_kept w [] (told ∷ tolds) steps after kept moved = absurd moved
moves_kept w (m ∷ ms) [] steps after kept moved = absurd moved
moves_kept w (m ∷ ms) (told ∷ tolds) steps after kept moved = moves_kept moved.0 ms tolds moved.2 after (made_kept w m told.router told.answer moved.1 moved.0 kept moved.3.made) moved.4
