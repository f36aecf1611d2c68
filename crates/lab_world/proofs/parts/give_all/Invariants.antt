use Rattle.std.proofs.Common.{◌≡◌, ◌≤◌, ◌+◌, ◌++◌, length, map, take}
use Rattle.std.specs.Prelude.{vec_capacity, vec_len}
use Rattle.abstract_world.specs.Worlds.{given_by}
use Rattle.lab_world.proofs.parts.give_all.Given as goal

-- so many are put behind those before them, and there is room for all
abbrev pub invariant-loop-key : goal.invariant-loop-key
invariant-loop-key l = record {
  gave : l.given.items ≡ l.fn.given.items ++ map (given_by l.router) (take l.key-index l.labels);
  room : vec_len l.fn.given + length l.labels ≤ vec_capacity l.given;
}
