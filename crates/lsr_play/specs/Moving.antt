-- Which move a line says.
use Rattle.std.specs.Prelude.{◌≡◌, ◌⊎◌, ℕ, List, Option, Some, None}
use Rattle.abstract_world.specs.declared.moves.Move.{Move}
use Rattle.abstract_world.specs.declared.moves.Move.TheVariants as moves
use Rattle.world_lines.specs.Lines.{SaysLine}
use Rattle.world_lines.specs.declared.lines.Act.{Act}
use Rattle.world_lines.specs.declared.lines.Act.TheVariants as acts
use Rattle.world_lines.specs.declared.lines.WorldLine.{WorldLine}
use Rattle.world_lines.specs.declared.lines.WorldLine.TheVariants as lines
use Rattle.lsr_play.specs.Declaring.{SaysNothing, place_of}
use denote.Ref.{Bor}

-- the move in which this happens at the router of this place
abbrev pub move_at : ℕ → Act → Move
move_at router (acts.Tick moment) = moves.Tick router moment
move_at router (acts.LinkUp link) = moves.LinkUp router link
move_at router (acts.LinkDown link) = moves.LinkDown router link
move_at router acts.Restart = moves.Restart router
move_at router (acts.Command command) = moves.Command router command

-- The move that is said. A router that isn't declared has the place behind the last one.
abbrev pub move_of : List (Bor (List ℕ)) → WorldLine → Option Move
move_of names (lines.Router name file) = None
move_of names (lines.Wire wire) = None
move_of names (lines.Deliver number) = Some (moves.Deliver number)
move_of names (lines.Repeat number) = Some (moves.Repeat number)
move_of names (lines.At name act) = Some (move_at (place_of names name.now) act)

-- a line that says this move
abbrev pub SaysMove : List (Bor (List ℕ)) → List ℕ → Move → Type 0
SaysMove names line m = (said : WorldLine) × SaysLine line said × (move_of names said ≡ Some m)

-- a line that says no move: it says nothing, or declares a router or a wire
abbrev pub SaysNoMove : List (Bor (List ℕ)) → List ℕ → Type 0
SaysNoMove names line = SaysNothing line ⊎ ((said : WorldLine) × SaysLine line said × (move_of names said ≡ None))
