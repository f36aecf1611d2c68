use Rattle.std.proofs.Common.{◌≡◌, drop}
use Rattle.std.specs.List.{list_any}
use Rattle.facility_backup.specs.Matching.{is_for}
use Rattle.repair_arrivals.proofs.matching.is_for_any.Given as goal

-- it is for a repair from here on where it is for one of all
abbrev pub invariant-loop-place : goal.invariant-loop-place
invariant-loop-place g l =
    let r = g.V.StateView.router l.view in
    let s = g.V.StateView.state l.view in
    list_any (is_for r s l.hop l.key) (drop l.place s.repairs) ≡ list_any (is_for r s l.hop l.key) (drop l.fn.from s.repairs)
