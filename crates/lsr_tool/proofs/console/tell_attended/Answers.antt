-- The run that ended is the one of which it is told.
use Rattle.std.proofs.Common.{[], subst}
use Rattle.std.proofs.lemmas.Result.{IfOk-at_ok}
use Rattle.lsr_tool.specs.Attended.{IsAttended}
use Rattle.lsr_tool.proofs.console.tell_attended.Goals as goal

pub returns-in_ok-tell_end_of-in-Ended : goal.returns-in_ok-tell_end_of-in-Ended
returns-in_ok-tell_end_of-in-Ended g c = λ setup ports run done. (
  c.in-Ended.ended.run,
  [],
  subst (IsAttended setup ports) c.in-Ended.is (IfOk-at_ok (IsAttended setup ports) c.in_ok-attended.was run),
  c.in_ok-tell_end_of-in-Ended.ensures.told,
)
