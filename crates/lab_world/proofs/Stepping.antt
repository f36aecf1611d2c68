-- A step of one router is a step of the world.
use Rattle.std.specs.Prelude.{◌≡◌, ◌≢◌, ◌⊎◌, ℕ, Bool, true, List, [], ◌∷◌, ◌++◌, if◌then◌else◌, map, set, slice_get, Some, Result, Ok, Err, IfOk, OnErr}
use Rattle.std.proofs.Common.{refl, ap, subst, sym, inl, inr, ◌∙◌}
use Rattle.std.proofs.lemmas.List.{append-nil}
use Rattle.lsr_facts.specs.declared.key.Key.{Key}
use Rattle.lsr_facts.specs.declared.refusal.Refusal.{Refusal}
use Rattle.lsr_facts.specs.declared.refusal.Refusal.TheVariants.{HopLimit, IsCold, NoMemory}
use Rattle.lsr_facts.specs.declared.router.Router.{Router}
use Rattle.abstract_paths.specs.declared.events.Event.{Event}
use Rattle.abstract_paths.specs.declared.events.Event.TheVariants as events
use Rattle.abstract_paths.specs.declared.events.Made.{Made}
use Rattle.abstract_paths.specs.declared.events.Output.{Output}
use Rattle.abstract_router.specs.Arrivals.{outcome}
use Rattle.abstract_router.specs.Outputs.{outputs_of}
use Rattle.abstract_router.specs.Repairing.{told_repaired}
use Rattle.abstract_router.specs.States.{RouterState, State}
use Rattle.abstract_router.specs.Steps.{IsNoStep, MayChooseBy, Step, promised}
use Rattle.abstract_world.specs.Moves.{Happens}
use Rattle.abstract_world.specs.Worlds.{IsStep, WorldState, given_by, sent_by, stepped}
use Rattle.abstract_world.specs.declared.told.Answer.{Answer}
use Rattle.abstract_world.specs.declared.told.Answer.TheVariants as answers
use Rattle.router_core.specs.Machines.{IsEventLeft}

-- the router of a place makes a step, and the world keeps what it sends and gives
pub is_step : (w : WorldState) (place : ℕ) (q : RouterState) (made : Made) (s : State) (after : WorldState) → slice_get w.routers place ≡ Some q → Step q.router q.state made s
    → after ≡ stepped place (record { router = q.router; state = s }) made w → IsStep w place made after
is_step w place q made s after known step is = record { router = q.router; before = q.state; knows = known; knows_then = s; step = step; changed = is }

-- an event that is answered by a step
pub replied : (w : WorldState) (place : ℕ) (event : Event) (made : Made) (after : WorldState) → made.event ≡ event → IsStep w place made after
    → (steps : List (ℕ × Made)) × Happens w place event (answers.Replied made.reply) steps after
replied w place event made after is step = ((place, made) ∷ [], (made, refl, is, refl, step))

-- an event that is left out for another reason than memory
pub left_out : (r : Router) (s : State) (event : Event) (refusal : Refusal) → IsEventLeft r s event refusal → (refusal ≡ NoMemory → ⊥) → IsNoStep r s event refusal
left_out r s event NoMemory left apart = absurd (apart refl)
left_out r s event IsCold left apart = left
left_out r s event HopLimit left apart = left
left_out r s event refusal left apart = absurd left

-- a restart and a start are silent
pub is_quiet : (r : Router) (s : State) (event : Event) → (event ≡ events.Restart) ⊎ (event ≡ events.Start) → (outcome r s event).is_silent ≡ true
is_quiet r s event which = elim which [ inl is ↦ ap (λ (e : Event). (outcome r s e).is_silent) is | inr is ↦ ap (λ (e : Event). (outcome r s e).is_silent) is ]

-- so they want no memory
pub left_quiet : (r : Router) (s : State) (event : Event) (refusal : Refusal) → (outcome r s event).is_silent ≡ true → IsEventLeft r s event refusal → IsNoStep r s event refusal
left_quiet r s event NoMemory quiet left = absurd (let e = sym quiet ∙ left.1 in cc)
left_quiet r s event IsCold quiet left = left
left_quiet r s event HopLimit quiet left = left
left_quiet r s event refusal quiet left = absurd left

-- and they send nothing, and give no label
pub sends_none : (r : Router) (before : State) (made : Made) (after : State) → (outcome r before made.event).is_silent ≡ true → Step r before made after → made.outputs ≡ []
sends_none r before made after quiet step =
    let o = outcome r before made.event in
    step.sent ∙ ap (λ (b : Bool). if b then [] else outputs_of r before (o.errors ++ told_repaired r (promised r o.after)) o.due o.upstream_due after) quiet

pub gives_none : (r : Router) (before : State) (made : Made) (after : State) → (outcome r before made.event).is_silent ≡ true → Step r before made after → made.labels ≡ []
gives_none r before made after quiet step =
    let o = outcome r before made.event in
    subst (λ (b : Bool). MayChooseBy b r before o.after.facts.paths made.labels) quiet step.chosen

-- what such a step leaves of the world: the router alone is another one
pub stepped_quietly : (w : WorldState) (place : ℕ) (q : RouterState) (made : Made) → made.outputs ≡ [] → made.labels ≡ []
    → record w { routers = set w.routers place q } ≡ stepped place q made w
stepped_quietly w place q made no_outputs no_labels = λ i. record {
  routers = set w.routers place q;
  joints = w.joints;
  frames = (sym (append-nil w.frames) ∙ ap (λ (l : List Output). w.frames ++ map (sent_by place) l) (sym no_outputs)) i;
  given = (sym (append-nil w.given) ∙ ap (λ (l : List (Key × ℕ)). w.given ++ map (given_by place) l) (sym no_labels)) i;
}

-- what is told of an event that is left out for another reason than memory
pub told_left : {E : Type 0} (w : WorldState) (place : ℕ) (event : Event) (refusal : Refusal) (q : RouterState) (result : Result Answer E) → slice_get w.routers place ≡ Some q → IsEventLeft q.router q.state event refusal
    → IfOk result (λ answer. (answer ≡ answers.Refused refusal) × (refusal ≢ NoMemory)) → IfOk result (λ answer. (steps : List (ℕ × Made)) × Happens w place event answer steps w)
told_left w place event refusal q (Ok answer) knows left is =
    subst (λ (a : Answer). (steps : List (ℕ × Made)) × Happens w place event a steps w) (sym is.0)
    ([], (refl, record { router = q.router; state = q.state; knows = knows; why = left_out q.router q.state event refusal left is.1; kept = refl }))
told_left w place event refusal q (Err error) knows left is = tt

-- and nothing changes, whatever is answered
pub kept_so : {T E : Type 0} (w : WorldState) (result : Result T E) → OnErr result (w ≡ w)
kept_so w (Ok value) = tt
kept_so w (Err error) = refl
