-- What a bypass runs over has a label.
use Rattle.std.proofs.Common.{sym, ◌∙◌}
use Rattle.facility_backup.specs.OverLaws.{over_is}
use Rattle.repair_arrivals.proofs.telling.told_through.Goals as goal

pub labelled_by-requires : goal.labelled_by-requires
labelled_by-requires g c =
    let r = g.V.StateView.router c.args.view.now in
    let s = g.V.StateView.state c.args.view.now in
    (over_is s.facts.moment r s c.args.repair.now.bypass c.in-Some.over (sym c.over_at.ensures ∙ c.in-Some.is) c.requires.held.each).label
