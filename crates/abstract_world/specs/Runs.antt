-- What many routers do: each by itself is the abstract router.
use Rattle.std.specs.Prelude.{◌≡◌, ℕ, ◌==◌, ◌++◌, if◌then◌else◌, List, [], ◌∷◌, Some}
use Rattle.lsr_facts.specs.declared.router.Router.{Router}
use Rattle.abstract_paths.specs.declared.events.Made.{Made}
use Rattle.abstract_router.specs.Soundness.{IsSound}
use Rattle.abstract_router.specs.States.{State}
use Rattle.abstract_router.specs.Steps.{Run}
use Rattle.abstract_world.specs.Worlds.{WorldState, at}

-- the steps of the router of this place
abbrev pub steps_at : ℕ → List (ℕ × Made) → List Made
steps_at place [] = []
steps_at place (step ∷ steps) = if step.0 == place then step.1 ∷ steps_at place steps else steps_at place steps

-- These steps of a router are a run of the abstract router, from what it knew to what it knows then; and what it knows is sound
-- after each of them.
pub record IsRunOf (router : Router) (before : State) (steps : List Made) (after : State) : Type 0 where
  pub run : Run router before steps after
  pub sound : (done more : List Made) (between : State) → steps ≡ done ++ more → Run router before done between → IsSound router between

-- Of each router its steps among these are a run, from what it knew before them.
abbrev pub AreRuns : WorldState → List (ℕ × Made) → WorldState → Type 0
AreRuns w steps after =
    (place : ℕ) (r : Router) (before : State) → at w place ≡ Some (record { router = r; state = before })
    → (s : State) × (at after place ≡ Some (record { router = r; state = s })) × IsRunOf r before (steps_at place steps) s
