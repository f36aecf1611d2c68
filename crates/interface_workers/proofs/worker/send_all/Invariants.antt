-- The frames so far were given to the wire.
use Rattle.interface_workers.proofs.Sendings.{AreFirst}
use Rattle.interface_workers.proofs.worker.send_all.Given as goal

abbrev pub invariant-loop-frame : goal.invariant-loop-frame
invariant-loop-frame g l = AreFirst l.frames l.frame-index (g.W.Wire.history l.initial.wire) (g.W.Wire.history l.wire)
