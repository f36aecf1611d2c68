use Rattle.std.proofs.Common.{◌≡◌, ◌≤◌, ◌+◌, ◌++◌, length, map}
use Rattle.std.specs.Prelude.{vec_capacity, vec_len}
use Rattle.abstract_world.specs.Worlds.{sent_by}
use Rattle.lab_world.proofs.parts.send_all.Given as goal

-- so many are put behind those before them, and there is room for all
abbrev pub invariant-loop-output : goal.invariant-loop-output
invariant-loop-output l = record {
  sent : l.frames.items ≡ l.fn.frames.items ++ map (sent_by l.router) l.yielded;
  room : vec_len l.fn.frames + length l.fn.outputs ≤ vec_capacity l.frames;
}
