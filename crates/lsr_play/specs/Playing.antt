-- What a run over the lines of a world's file prints, and how it ends.
use Rattle.std.specs.Prelude.{◌≡◌, ◌+◌, ◌⊎◌, ℕ, List, [], ◌∷◌, ◌++◌, length, map, take}
use Rattle.abstract_world.specs.Opening.{opened_world}
use Rattle.abstract_world.specs.Worlds.{WorldState, routers_in}
use Rattle.abstract_world.specs.declared.moves.Move.{Move}
use Rattle.lab_world.specs.Opening.{CanOpen, IsFaultOf}
use Rattle.lsr_config.specs.Configs.{Setup}
use Rattle.lsr_facts.specs.declared.router.Router.{Router}
use Rattle.router_core.specs.States.{opened}
use Rattle.lsr_play.specs.Declaring.{AreDeclared, Declaration, EndsDeclaring, nothing}
use Rattle.lsr_play.specs.Making.{MakesMove}
use Rattle.lsr_play.specs.Moving.{SaysMove, SaysNoMove}
use Rattle.lsr_play.specs.declared.endings.PlayEnding.{PlayEnding}
use Rattle.lsr_play.specs.declared.endings.PlayEnding.TheVariants as endings
use Rattle.lsr_play.specs.declared.playing.MoveOutcome.{MoveOutcome}
use Rattle.lsr_play.specs.declared.playing.MoveOutcome.TheVariants as lots
use denote.Ref.{Bor}

-- A line that says a move: that is asked for, and what it is answered is printed.
abbrev pub PlaysLine : List (Bor (List ℕ)) → WorldState → List ℕ → List ℕ → WorldState → Type 0
PlaysLine names before line printed after = (one : Move) × SaysMove names line one × MakesMove names before one printed after

-- lines that say moves, one after the other
abbrev pub PlaysLines : List (Bor (List ℕ)) → WorldState → List (List ℕ) → List ℕ → WorldState → Type 0
PlaysLines names before [] printed after = (printed ≡ []) × (after ≡ before)
PlaysLines names before (line ∷ lines) printed after =
    (first : List ℕ) × (rest : List ℕ) × (between : WorldState) × (printed ≡ first ++ rest) × PlaysLine names before line first between
    × PlaysLines names between lines rest after

-- some of the lines from the first on, and those that are left
pub record PlaysSome (names : List (Bor (List ℕ))) (before : WorldState) (lines : List (List ℕ)) (printed : List ℕ) : Type 0 where
  pub played : List (List ℕ)
  pub left : List (List ℕ)
  pub after : WorldState
  pub parts : lines ≡ played ++ left
  pub plays : PlaysLines names before played printed after

-- How lines are played in a world that is there, before which so many stand: all of them; or those before the first that says no
-- move; or those before one for which memory ran out.
abbrev pub EndsMoves : List (Bor (List ℕ)) → ℕ → WorldState → List (List ℕ) → List ℕ → PlayEnding → Type 0
EndsMoves names count before lines printed endings.Done = (after : WorldState) × PlaysLines names before lines printed after
EndsMoves names count before lines printed (endings.BadLine number line) =
    (some : PlaysSome names before lines printed) × (more : List (List ℕ)) × (some.left ≡ line.now ∷ more)
    × (number ≡ count + length some.played + 1) × SaysNoMove names line.now
EndsMoves names count before lines printed endings.Memory =
    (some : PlaysSome names before lines printed) × (line : List ℕ) × (more : List (List ℕ)) × (some.left ≡ line ∷ more)
EndsMoves names count before lines printed (endings.Fault fault) = ⊥

-- no line is left, or the first one says a move
abbrev pub CanBegin : List (Bor (List ℕ)) → List (List ℕ) → Type 0
CanBegin names [] = Unit {0}
CanBegin names (line ∷ lines) = (one : Move) × SaysMove names line one

-- the routers that have been declared, configured so
abbrev pub routers_of : List Setup → Declaration → List Setup
routers_of configs d = take (length d.names) configs

-- what never changes of them
abbrev pub configured : List Setup → Declaration → List Router
configured configs d = routers_in (map opened (routers_of configs d))

-- the world of what was declared
abbrev pub world_of : List Setup → Declaration → WorldState
world_of configs d = opened_world (map opened (routers_of configs d)) d.joints

-- the first line says no move
abbrev pub EndsBadly : List (Bor (List ℕ)) → ℕ → List (List ℕ) → PlayEnding → Type 0
EndsBadly names count (line ∷ lines) (endings.BadLine number bad) = (bad.now ≡ line) × (number ≡ count + 1) × SaysNoMove names line
EndsBadly names count lines ending = ⊥

-- the first line says no move, or memory ran out for it
abbrev pub HoldsUp : List (Bor (List ℕ)) → ℕ → List (List ℕ) → PlayEnding → Type 0
HoldsUp names count lines ending = EndsBadly names count lines ending ⊎ (ending ≡ endings.Memory)

-- what was declared makes no world
abbrev pub EndsWorldless : List Setup → Declaration → PlayEnding → Type 0
EndsWorldless configs d (endings.Fault fault) = IsFaultOf (configured configs d) d.joints fault
EndsWorldless configs d ending = ⊥

-- How lines end of which the first declares nothing, and before which so many stand: it says no move; or memory ran out for it; or
-- what was declared makes no world; or they are played in its world.
abbrev pub EndsOn : List Setup → Declaration → ℕ → List (List ℕ) → List ℕ → PlayEnding → Type 0
EndsOn configs d count lines printed ending =
    ((printed ≡ []) × EndsBadly d.names count lines ending)
    ⊎ (((printed ≡ []) × (ending ≡ endings.Memory))
    ⊎ ((CanBegin d.names lines × (printed ≡ []) × EndsWorldless configs d ending)
    ⊎ (CanBegin d.names lines × CanOpen (configured configs d) d.joints × EndsMoves d.names count (world_of configs d) lines printed ending)))

-- A run over the lines of a world's file, of whose routers these are the configurations: lines declare what they do, up to the first
-- that declares nothing, and the others are played in the world of that; or memory ran out before.
abbrev pub Plays : List Setup → List (List ℕ) → List ℕ → PlayEnding → Type 0
Plays configs lines printed ending =
    ((printed ≡ []) × (ending ≡ endings.Memory))
    ⊎ ((declaring : List (List ℕ)) × (moving : List (List ℕ)) × (d : Declaration) × (lines ≡ declaring ++ moving)
    × AreDeclared nothing declaring d × EndsDeclaring d moving × EndsOn configs d (length declaring) moving printed ending)

-- What becomes of one line: it is played; or it says no move, and nothing is printed or changed; or memory ran out for it, and nothing
-- is printed.
abbrev pub Becomes : List (Bor (List ℕ)) → WorldState → List ℕ → List ℕ → MoveOutcome → WorldState → Type 0
Becomes names before line printed lots.Done after = PlaysLine names before line printed after
Becomes names before line printed lots.NoMove after = (printed ≡ []) × SaysNoMove names line × (after ≡ before)
Becomes names before line printed lots.Memory after = printed ≡ []
