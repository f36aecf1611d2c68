-- A closed world is true.
use Rattle.std.proofs.Common.{subst}
use Rattle.lab_world.specs.Invariant.{IsSoundWorld}
use Rattle.lab_world.proofs.world.World.labels_were_given.Goals as goal

pub returns-clause-labels : goal.returns-clause-labels
returns-clause-labels c = λ closed. let world : IsSoundWorld c.args.self.now = subst IsSoundWorld c.self.view_is c.self.invariant in c.sent_labels_were_given.ensures c.args.self.now (world.so closed)

pub returns-clause-frames : goal.returns-clause-frames
returns-clause-frames c = λ closed. let world : IsSoundWorld c.args.self.now = subst IsSoundWorld c.self.view_is c.self.invariant in (world.so closed).frames
