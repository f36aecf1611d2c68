-- The last segment is handed out as it was taken.
use Rattle.std.proofs.Common.{subst, sym, ◌∙◌}
use Rattle.shared_core.specs.Names.{IsSegmentOf}
use Rattle.shared_core.proofs.cores.Core.finish.Goals as goal

pub returns-clause-own : goal.returns-clause-own
returns-clause-own g c = subst (IsSegmentOf g.L.CoreName.config) (sym (c.into_segment-last.ensures ∙ c.give.ensures.segment)) c.in_ok-into_last.ensures.own
