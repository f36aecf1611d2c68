use Rattle.std.proofs.Common.{◌≡◌, ◌≤◌, length, take}
use Rattle.std.specs.Prelude.{vec_capacity}
use Rattle.router_core.specs.Machines.{AreAnswered}
use Rattle.router_core.proofs.machine.Machine.serve_all.Given as goal

-- the inputs so far are answered, and there is room for all answers
abbrev pub invariant-loop-input : goal.invariant-loop-input
invariant-loop-input l = record {
  answered : AreAnswered l.fn.self.router l.fn.self.state (take l.input-index l.inputs) l.answers.items l.self.state;
  count : length l.answers.items ≡ l.input-index;
  room : length l.inputs ≤ vec_capacity l.answers;
  router : l.self.router ≡ l.fn.self.router;
}
