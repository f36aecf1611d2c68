-- Inputs that are answered one after the other.
use Rattle.std.proofs.Common.{◌≡◌, ◌++◌, ◌∷◌, List, [], Result, Ok, Err, inl, inr, refl, subst}
use Rattle.lsr_facts.specs.declared.refusal.Refusal.{Refusal}
use Rattle.lsr_facts.specs.declared.router.Router.{Router}
use Rattle.abstract_paths.specs.declared.events.Made.{Made}
use Rattle.abstract_router.specs.States.{State}
use Rattle.abstract_router.specs.Steps.{Run, Step}
use Rattle.datagrams.specs.declared.datagram.Datagram.{Datagram}
use Rattle.datagrams.specs.declared.datagram.Datagram.TheVariants as kinds
use Rattle.datagrams.specs.declared.datagram.Passed.{Passed}
use Rattle.router_core.specs.Machines.{AreAnswered, IsInputServed, IsServedFor, steps_in}
use Rattle.router_core.specs.declared.inputs.Input.{Input}
use Rattle.router_core.specs.declared.inputs.Input.TheVariants as inputs
use Rattle.router_core.specs.declared.inputs.Served.{Served}
use Rattle.router_core.specs.declared.inputs.Served.TheVariants as serves

-- an event makes its step
made_for : (r : Router) (before : State) (datagram : Result Datagram Refusal) (made : Made) (after : State) → IsServedFor r before datagram after (Ok (serves.Made made)) → Step r before made after
made_for r before (Ok (kinds.Event event)) made after is = is.1
made_for r before (Ok (kinds.Passed passed)) made after is = absurd (let e = is.0 in cc)
made_for r before (Err refusal) made after is = absurd (let e = is.0 in cc)

step_made : (r : Router) (before : State) (input : Input) (made : Made) (after : State) → IsInputServed r before input after (Ok (serves.Made made)) → Step r before made after
step_made r before (inputs.Datagram link bytes) made after is = made_for r before is.0 made after is.2
step_made r before (inputs.Event event) made after is = elim is [ inl one ↦ one.1 | inr left ↦ absurd (let e = left.1 in cc) ]

-- a labelled frame changes nothing
passed_for : (r : Router) (before : State) (datagram : Result Datagram Refusal) (passed : Passed) (after : State) → IsServedFor r before datagram after (Ok (serves.Passed passed)) → after ≡ before
passed_for r before (Ok (kinds.Event event)) passed after is = absurd is
passed_for r before (Ok (kinds.Passed was)) passed after is = is.1
passed_for r before (Err refusal) passed after is = is.1

kept_passed : (r : Router) (before : State) (input : Input) (passed : Passed) (after : State) → IsInputServed r before input after (Ok (serves.Passed passed)) → after ≡ before
kept_passed r before (inputs.Datagram link bytes) passed after is = passed_for r before is.0 passed after is.2
kept_passed r before (inputs.Event event) passed after is = elim is [ inl one ↦ absurd one | inr left ↦ left.2 ]

-- and neither does what is left out
left_for : (r : Router) (before : State) (datagram : Result Datagram Refusal) (refusal : Refusal) (after : State) → IsServedFor r before datagram after (Err refusal) → after ≡ before
left_for r before (Ok (kinds.Event event)) refusal after is = is.1
left_for r before (Ok (kinds.Passed passed)) refusal after is = is.1
left_for r before (Err why) refusal after is = is.1

kept_left : (r : Router) (before : State) (input : Input) (refusal : Refusal) (after : State) → IsInputServed r before input after (Err refusal) → after ≡ before
kept_left r before (inputs.Datagram link bytes) refusal after is = left_for r before is.0 refusal after is.2
kept_left r before (inputs.Event event) refusal after is = elim is [ inl one ↦ one.1 | inr left ↦ left.2 ]

-- what an input is answered goes on a run
run_on : (r : Router) (before : State) (input : Input) (answer : Result Served Refusal) (later : List (Result Served Refusal)) (between after : State) → IsInputServed r before input between answer → Run r between (steps_in later) after → Run r before (steps_in (answer ∷ later)) after
run_on r before input (Ok (serves.Made made)) later between after is run = (between, step_made r before input made between is, run)
run_on r before input (Ok (serves.Passed passed)) later between after is run = subst (λ (s : State). Run r s (steps_in later) after) (kept_passed r before input passed between is) run
run_on r before input (Err refusal) later between after is run = subst (λ (s : State). Run r s (steps_in later) after) (kept_left r before input refusal between is) run

-- the steps of inputs that were answered are a run
pub answered_is_run : (r : Router) (before : State) (inputs : List Input) (answers : List (Result Served Refusal)) (after : State) → AreAnswered r before inputs answers after → Run r before (steps_in answers) after
answered_is_run r before [] [] after answered = answered
answered_is_run r before [] (answer ∷ answers) after answered = absurd answered
answered_is_run r before (input ∷ inputs) [] after answered = absurd answered
answered_is_run r before (input ∷ inputs) (answer ∷ answers) after answered =
    run_on r before input answer answers answered.0 after answered.1 (answered_is_run r answered.0 inputs answers after answered.2)

-- one input more is answered
pub answered_more : (r : Router) (before : State) (inputs : List Input) (answers : List (Result Served Refusal)) (between : State) (input : Input) (answer : Result Served Refusal) (after : State) → AreAnswered r before inputs answers between → IsInputServed r between input after answer → AreAnswered r before (inputs ++ input ∷ []) (answers ++ answer ∷ []) after
answered_more r before [] [] between input answer after answered is =
    (after, subst (λ (s : State). IsInputServed r s input after answer) answered is, refl)
answered_more r before [] (one ∷ answers) between input answer after answered is = absurd answered
answered_more r before (one ∷ inputs) [] between input answer after answered is = absurd answered
answered_more r before (one ∷ inputs) (first ∷ answers) between input answer after answered is =
    (answered.0, answered.1, answered_more r answered.0 inputs answers between input answer after answered.2 is)
