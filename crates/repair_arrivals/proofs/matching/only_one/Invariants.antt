use Rattle.std.proofs.Common.{◌≡◌, drop}
use Rattle.std.specs.Prelude.{filter}
use Rattle.facility_backup.specs.Matching.{is_for}
use Rattle.repair_arrivals.proofs.matching.only_one.Given as goal

-- all that it is for stand from here on
abbrev pub invariant-loop-place : goal.invariant-loop-place
invariant-loop-place g l =
    let r = g.V.StateView.router l.view in
    let s = g.V.StateView.state l.view in
    filter (is_for r s l.hop l.key) (drop l.place s.repairs) ≡ filter (is_for r s l.hop l.key) s.repairs
