use Rattle.std.proofs.Common.{◌≡◌, ◌≤◌, ℕ, List, length, take}
use Rattle.std.specs.Prelude.{vec_capacity}
use Rattle.abstract_paths.specs.declared.events.Made.{Made}
use Rattle.abstract_world.specs.Moves.{AreMoved}
use Rattle.lab_world.proofs.world.World.make_all.Given as goal

-- the moves so far are made, and there is room to tell of all
abbrev pub invariant-loop-one : goal.invariant-loop-one
invariant-loop-one l = record {
  moved : (steps : List (ℕ × Made)) × AreMoved l.fn.self (take l.one-index l.moves) l.told.items steps l.self;
  count : length l.told.items ≡ l.one-index;
  room : length l.moves ≤ vec_capacity l.told;
}
