use Rattle.admission.proofs.Keeping.{sums_push}
use Rattle.admission.proofs.running.push_link.Goals as goal

pub loop-priority-preserved : goal.loop-priority-preserved
loop-priority-preserved c =
    sums_push c.loop-priority.sums.items c.push.new.self.items c.args.link c.loop-priority.priority c.in_ok-push.ensures.items c.loop-priority.invariant
