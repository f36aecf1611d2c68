-- What the assignments so far take of the bypass.
use Rattle.std.proofs.Common.{◌≡◌, take}
use Rattle.bypass_shares.specs.Shares.{assigned_of}
use Rattle.lsr_session.proofs.shown.sum_of.Given as goal

abbrev pub invariant-loop-given : goal.invariant-loop-given
invariant-loop-given l = l.sum ≡ assigned_of l.number (take l.given-index l.assignments)
