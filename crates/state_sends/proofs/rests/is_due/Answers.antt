-- A binary search among what is due finds just what is due.
use Rattle.std.proofs.Common.{◌∙◌}
use Rattle.state_sends.proofs.Searching.{search_finds}
use Rattle.state_sends.proofs.rests.is_due.Goals as goal

pub returns : goal.returns
returns g c =
    c.is_ok.ensures.value
    ∙ search_finds g.I.Ord.cmp g.met.I.Ord.total c.args.item.now c.args.due.now c.binary_search.result c.requires c.binary_search.ensures.bound c.binary_search.ensures.position
