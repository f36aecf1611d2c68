-- What is due goes out, and nothing is torn down or forgotten.
use Rattle.std.proofs.Common.{ap, ◌∙◌}
use Rattle.std.specs.FinMap.Entries.{find}
use Rattle.state_sends.proofs.Repeating.{due_sent, find-again, none_torn}
use Rattle.state_sends.proofs.again.sends_again.Goals as goal

pub returns-clause-tears : goal.returns-clause-tears
returns-clause-tears g c up =
    c.in_ok-sends.ensures.tears ∙ none_torn g.I.Ord.cmp g.met.I.Ord.total c.args.due.now c.args.is.items c.requires.is up

pub returns-clause-sends : goal.returns-clause-sends
returns-clause-sends g c =
    c.in_ok-sends.ensures.sends ∙ due_sent g.I.Ord.cmp g.met.I.Ord.total c.args.due.now c.args.is.items c.requires.is

pub returns-clause-moments : goal.returns-clause-moments
returns-clause-moments g c item =
    ap (find g.I.Ord.cmp item) c.in_ok-sends.ensures.moments
    ∙ find-again g.I.Ord.cmp g.met.I.Ord.total c.args.due.now c.args.is.items c.requires.is c.args.moment item
