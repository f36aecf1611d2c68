-- What a move makes of a world, and what is printed of it.
use Rattle.std.specs.Prelude.{◌≡◌, ◌⊎◌, ℕ, List, [], ◌∷◌, Result, Ok, Err}
use Rattle.abstract_paths.specs.declared.events.Made.{Made}
use Rattle.abstract_world.specs.Moves.{AreMoved, StopsAt}
use Rattle.abstract_world.specs.Runs.{AreRuns}
use Rattle.abstract_world.specs.Worlds.{WorldState}
use Rattle.abstract_world.specs.declared.moves.Move.{Move}
use Rattle.abstract_world.specs.declared.moves.Move.TheVariants as moves
use Rattle.abstract_world.specs.declared.told.Told.{Told}
use Rattle.lsr_facts.specs.declared.refusal.Refusal.{Refusal}
use Rattle.lsr_facts.specs.declared.refusal.Refusal.TheVariants.{NoFrame}
use Rattle.lsr_play.specs.Answers.{moved_text}
use denote.Ref.{Bor}

-- Moves that are asked for are made, and this is told of each; or the first that can't be made stops them, for this refusal. Whatever
-- comes, the steps of each router are a run.
abbrev pub AreAnswered : WorldState → List Move → Result (List Told) Refusal → WorldState → Type 0
AreAnswered before moves (Ok all) after = (steps : List (ℕ × Made)) × AreRuns before steps after × AreMoved before moves all steps after
AreAnswered before moves (Err refusal) after = (steps : List (ℕ × Made)) × AreRuns before steps after × StopsAt before moves refusal steps after

-- A move is asked for, and what it is answered is printed.
pub record MakesMove (names : List (Bor (List ℕ))) (before : WorldState) (one : Move) (printed : List ℕ) (after : WorldState) : Type 0 where
  pub answer : Result (List Told) Refusal
  pub answered : AreAnswered before (one ∷ []) answer after
  pub shown : printed ≡ moved_text names after.frames answer

-- The frame of this number is delivered, and what that is answered is printed. Where there is no such frame, or no wire joins its link,
-- nothing is printed.
abbrev pub DeliversFrame : List (Bor (List ℕ)) → WorldState → ℕ → List ℕ → WorldState → Type 0
DeliversFrame names before number printed after =
    MakesMove names before (moves.Deliver number) printed after
    ⊎ ((printed ≡ []) × AreAnswered before (moves.Deliver number ∷ []) (Err NoFrame) after)
