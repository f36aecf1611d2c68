-- Each router of a world makes a run of its own.
use Rattle.std.specs.Prelude.{◌≡◌, ◌==◌, ℕ, cond, false, true, Bool, List, [], ◌∷◌, ◌++◌, slice_get, set, Some, Result, Ok, Err}
use Rattle.std.specs.List.{AllByRecursion}
use Rattle.std.proofs.Common.{refl, ap, subst, sym, inl, inr, ◌∙◌}
use Rattle.std.proofs.lemmas.Bool.{cases_eq, eq-eqb, ne_eqb}
use Rattle.lsr_facts.specs.Routers.{IsRouter}
use Rattle.lsr_facts.specs.declared.refusal.Refusal.{Refusal}
use Rattle.lsr_facts.specs.declared.router.Router.{Router}
use Rattle.abstract_paths.specs.declared.events.Event.{Event}
use Rattle.abstract_paths.specs.declared.events.Made.{Made}
use Rattle.abstract_router.specs.Soundness.{IsSound}
use Rattle.abstract_router.specs.States.{RouterState, State}
use Rattle.abstract_router.specs.Steps.{Run, Step}
use Rattle.datagrams.specs.declared.datagram.Datagram.{Datagram}
use Rattle.datagrams.specs.declared.datagram.Datagram.TheVariants as kinds
use Rattle.datagrams.specs.declared.datagram.Passed.{Passed}
use Rattle.datagrams.specs.declared.datagram.Passed.TheVariants as passes
use Rattle.abstract_world.specs.Moves.{AreMoved, Comes, Happens, IsMadeAt, IsPassed, IsRestarted}
use Rattle.abstract_world.specs.Runs.{AreRuns, steps_at}
use Rattle.abstract_world.specs.Worlds.{IsStep, WorldState, at}
use Rattle.abstract_world.specs.declared.moves.Move.{Move}
use Rattle.abstract_world.specs.declared.moves.Move.TheVariants as moves
use Rattle.abstract_world.specs.declared.told.Answer.{Answer}
use Rattle.abstract_world.specs.declared.told.Answer.TheVariants as answers
use Rattle.abstract_world.specs.declared.told.Told.{Told}
use Rattle.lab_world.specs.Invariant.{IsSoundRouter}
use Rattle.world_laws.proofs.Places.{at_place, got_other, got_set, same_some}

-- two runs, one after the other
run_then : (r : Router) (before : State) (first more : List Made) (between after : State) → Run r before first between → Run r between more after → Run r before (first ++ more) after
run_then r before [] more between after run later = subst (λ (s : State). Run r s more after) run later
run_then r before (made ∷ first) more between after run later = (run.0, run.1, run_then r run.0 first more between after run.2 later)

-- the steps of a router among these and those
steps_at-append : (place : ℕ) (first more : List (ℕ × Made)) → steps_at place (first ++ more) ≡ steps_at place first ++ steps_at place more
steps_at-append place [] more = refl
steps_at-append place (step ∷ first) more = by (step.0 == place) (steps_at-append place first more) where
  by : (mine : Bool) → steps_at place (first ++ more) ≡ steps_at place first ++ steps_at place more
      → cond mine (step.1 ∷ steps_at place (first ++ more)) (steps_at place (first ++ more)) ≡ cond mine (step.1 ∷ steps_at place first) (steps_at place first) ++ steps_at place more
  by true is = ap (λ (l : List Made). step.1 ∷ l) is
  by false is = is

-- the router of a place ran so, from what it knew to what it knows now
abbrev Ran : ℕ → Router → State → List Made → WorldState → Type 0
Ran place r before run after = (s : State) × (at after place ≡ Some (record { router = r; state = s })) × Run r before run s

-- the router of a place does this, from what it knew to what it knows then
abbrev RunsAt : ℕ → WorldState → List Made → WorldState → Type 0
RunsAt place w run after = (r : Router) (before : State) → at w place ≡ Some (record { router = r; state = before }) → Ran place r before run after

-- nothing
runs_not : (place : ℕ) (w after : WorldState) → after.routers ≡ w.routers → RunsAt place w [] after
runs_not place w after same r before knows = (before, ap (λ (l : List RouterState). slice_get l place) same ∙ knows, refl)

runs_then : (place : ℕ) (w between after : WorldState) (first more : List Made) → RunsAt place w first between → RunsAt place between more after → RunsAt place w (first ++ more) after
runs_then place w between after first more one two r before knows =
    let then = one r before knows in
    let later = two r then.0 then.1 in
    (later.0, later.1, run_then r before first more then.0 later.0 then.2 later.2)

-- what a router is once it made a step
abbrev then_known : (w : WorldState) (mine : ℕ) (made : Made) (after : WorldState) → IsStep w mine made after → RouterState
then_known w mine made after is = record { router = is.router; state = is.knows_then }

stands_then : (w : WorldState) (mine : ℕ) (made : Made) (after : WorldState) (is : IsStep w mine made after) (place : ℕ) → at after place ≡ slice_get (set w.routers mine (then_known w mine made after is)) place
stands_then w mine made after is place = ap (λ (v : WorldState). slice_get v.routers place) is.changed

-- a step of the router itself
own_step : (w : WorldState) (mine : ℕ) (made : Made) (after : WorldState) → IsStep w mine made after → (place : ℕ) → mine ≡ place → RunsAt place w (made ∷ []) after
own_step w mine made after is place same r before knows =
    let known : Some (record { router = r; state = before }) ≡ Some (record { router = is.router; state = is.before }) = sym knows ∙ ap (at w) (sym same) ∙ is.knows in
    let pair : record { router = r; state = before } ≡ record { router = is.router; state = is.before } = same_some (record { router = r; state = before }) (record { router = is.router; state = is.before }) known in
    let routers : is.router ≡ r = sym (ap (λ (q : RouterState). q.router) pair) in
    let states : is.before ≡ before = sym (ap (λ (q : RouterState). q.state) pair) in
    let stands : at after place ≡ Some (record { router = r; state = is.knows_then }) =
    stands_then w mine made after is place
    ∙ ap (λ (p : ℕ). slice_get (set w.routers mine (then_known w mine made after is)) p) (sym same)
    ∙ got_set w.routers mine (record { router = is.router; state = is.before }) (then_known w mine made after is) is.knows
    ∙ ap (λ (q : Router). Some (record { router = q; state = is.knows_then })) routers
    in
    let step : Step r before made is.knows_then = subst (λ (q : Router). Step q before made is.knows_then) routers (subst (λ (s : State). Step is.router s made is.knows_then) states is.step) in
    (is.knows_then, stands, (is.knows_then, step, refl))

-- one of another router
other_step : (w : WorldState) (mine : ℕ) (made : Made) (after : WorldState) → IsStep w mine made after → (place : ℕ) → (mine ≡ place → ⊥) → RunsAt place w [] after
other_step w mine made after is place apart r before knows =
    (before, stands_then w mine made after is place ∙ got_other w.routers mine place (then_known w mine made after is) apart ∙ knows, refl)

-- the steps of a router among one: that one, or none
step_runs : (w : WorldState) (mine : ℕ) (made : Made) (after : WorldState) → IsStep w mine made after → (place : ℕ) → RunsAt place w (steps_at place ((mine, made) ∷ [])) after
step_runs w mine made after is place = elim (cases_eq mine place) [
  | inl same ↦ subst (λ (b : Bool). RunsAt place w (cond b (made ∷ []) []) after) (sym (eq-eqb mine place same)) (own_step w mine made after is place same)
  | inr apart ↦ subst (λ (b : Bool). RunsAt place w (cond b (made ∷ []) []) after) (sym (ne_eqb mine place apart)) (other_step w mine made after is place apart)
]

-- what happens at a router
happens_runs : (w : WorldState) (mine : ℕ) (event : Event) (answer : Answer) (steps : List (ℕ × Made)) (after : WorldState) → Happens w mine event answer steps after → (place : ℕ) → RunsAt place w (steps_at place steps) after
happens_runs w mine event (answers.Replied reply) steps after is place =
    subst (λ (l : List (ℕ × Made)). RunsAt place w (steps_at place l) after) (sym is.1) (step_runs w mine is.0 after is.4 place)
happens_runs w mine event (answers.Refused refusal) steps after is place =
    subst (λ (l : List (ℕ × Made)). RunsAt place w (steps_at place l) after) (sym is.0) (runs_not place w after (ap (λ (v : WorldState). v.routers) is.1.kept))
happens_runs w mine event answers.PassedOn steps after is place = absurd is
happens_runs w mine event (answers.Delivered payload) steps after is place = absurd is

-- a labelled frame changes no router
passed_keeps : (w : WorldState) (mine : ℕ) (passed : Passed) (answer : Answer) (after : WorldState) → IsPassed w mine passed answer after → after.routers ≡ w.routers
passed_keeps w mine (passes.Sent link frame) answer after is = ap (λ (v : WorldState). v.routers) is.1
passed_keeps w mine (passes.Delivered payload) answer after is = ap (λ (v : WorldState). v.routers) is.1

comes_runs : (w : WorldState) (mine : ℕ) (datagram : Result Datagram Refusal) (answer : Answer) (steps : List (ℕ × Made)) (after : WorldState) → Comes w mine datagram answer steps after → (place : ℕ) → RunsAt place w (steps_at place steps) after
comes_runs w mine (Ok (kinds.Event event)) answer steps after is place = happens_runs w mine event answer steps after is place
comes_runs w mine (Ok (kinds.Passed passed)) answer steps after is place =
    subst (λ (l : List (ℕ × Made)). RunsAt place w (steps_at place l) after) (sym is.0) (runs_not place w after (passed_keeps w mine passed answer after is.1))
comes_runs w mine (Err refusal) answer steps after is place =
    subst (λ (l : List (ℕ × Made)). RunsAt place w (steps_at place l) after) (sym is.0) (runs_not place w after (ap (λ (v : WorldState). v.routers) is.2))

-- a restart and a start
restarted_runs : (w : WorldState) (mine : ℕ) (answer : Answer) (steps : List (ℕ × Made)) (after : WorldState) → IsRestarted w mine answer steps after → (place : ℕ) → RunsAt place w (steps_at place steps) after
restarted_runs w mine answer steps after is place =
    subst (λ (l : List Made). RunsAt place w l after) (sym (ap (steps_at place) is.steps_are ∙ steps_at-append place is.stopped is.started))
    (runs_then place w is.between after (steps_at place is.stopped) (steps_at place is.started)
    (happens_runs w mine _ is.first is.stopped is.between is.restart place) (happens_runs is.between mine _ answer is.started after is.start place))

-- a move
made_runs : (w : WorldState) (m : Move) (mine : ℕ) (answer : Answer) (steps : List (ℕ × Made)) (after : WorldState) → IsMadeAt w m mine answer steps after → (place : ℕ) → RunsAt place w (steps_at place steps) after
made_runs w (moves.Deliver number) mine answer steps after is place = comes_runs w mine is.0 answer steps after is.2 place
made_runs w (moves.Repeat number) mine answer steps after is place = comes_runs w mine is.0 answer steps after is.2 place
made_runs w (moves.Tick router moment) mine answer steps after is place = happens_runs w mine _ answer steps after is.1 place
made_runs w (moves.LinkUp router link) mine answer steps after is place = happens_runs w mine _ answer steps after is.1 place
made_runs w (moves.LinkDown router link) mine answer steps after is place = happens_runs w mine _ answer steps after is.1 place
made_runs w (moves.Command router command) mine answer steps after is place = happens_runs w mine _ answer steps after is.1 place
made_runs w (moves.Restart router) mine answer steps after is place = restarted_runs w mine answer steps after is.1 place

-- moves
moved_runs : (w : WorldState) (ms : List Move) (tolds : List Told) (steps : List (ℕ × Made)) (after : WorldState) → AreMoved w ms tolds steps after → (place : ℕ) → RunsAt place w (steps_at place steps) after
moved_runs w [] [] steps after moved place =
    subst (λ (l : List (ℕ × Made)). RunsAt place w (steps_at place l) after) (sym moved.0) (runs_not place w after (ap (λ (v : WorldState). v.routers) moved.1))
moved_runs w [] (told ∷ tolds) steps after moved place = absurd moved
moved_runs w (m ∷ ms) [] steps after moved place = absurd moved
moved_runs w (m ∷ ms) (told ∷ tolds) steps after moved place =
    subst (λ (l : List Made). RunsAt place w l after) (sym (ap (steps_at place) moved.5 ∙ steps_at-append place moved.1 moved.2))
    (runs_then place w moved.0 after (steps_at place moved.1) (steps_at place moved.2)
    (made_runs w m told.router told.answer moved.1 moved.0 moved.3.made place) (moved_runs moved.0 ms tolds moved.2 after moved.4 place))

-- a step keeps a sound router sound, as every step does
abbrev pub KeepsSound : Type 0
KeepsSound = (r : Router) (before : State) (made : Made) (after : State) → IsRouter r → IsSound r before → Step r before made after → IsSound r after

-- so it is sound after each step of a run
sound_after : KeepsSound → (r : Router) (before : State) (run : List Made) (after : State) → IsRouter r → IsSound r before → Run r before run after → IsSound r after
sound_after keeps r before [] after is sound run = subst (IsSound r) (sym run) sound
sound_after keeps r before (made ∷ more) after is sound run = sound_after keeps r run.0 more after is (keeps r before made run.0 is sound run.1) run.2

-- the steps of each router are a run, and it is sound after each
pub moves_are_runs : KeepsSound → (w : WorldState) (ms : List Move) (tolds : List Told) (steps : List (ℕ × Made)) (after : WorldState)
    → AllByRecursion IsSoundRouter w.routers → AreMoved w ms tolds steps after → AreRuns w steps after
moves_are_runs keeps w ms tolds steps after sound moved place r before knows =
    let ran = moved_runs w ms tolds steps after moved place r before knows in
    let its = at_place IsSoundRouter w.routers place (record { router = r; state = before }) sound knows in
    (ran.0, ran.1, record { run = ran.2; sound = λ done more between parts run. sound_after keeps r before done between its.router its.sound run })
