use Rattle.std.proofs.Common.{◌≡◌, drop}
use Rattle.std.specs.Prelude.{None}
use Rattle.abstract_router.specs.Protecting.{is_preferred}
use Rattle.facility_backup.specs.Choosing.{best_of}
use Rattle.facility_backup.specs.Serving.{serving_by}
use Rattle.facility_backup.proofs.selecting.best_of.Given as goal

-- the best of those from here on, or what is kept, is the best of all
abbrev pub invariant-loop-bypass : goal.invariant-loop-bypass
invariant-loop-bypass g l =
    best_of (is_preferred l.path) (serving_by (g.V.StateView.router l.view) (g.V.StateView.state l.view) l.given l.resv) (drop l.bypass-index l.bypasses) l.first
    ≡ best_of (is_preferred l.path) (serving_by (g.V.StateView.router l.view) (g.V.StateView.state l.view) l.given l.resv) l.bypasses None
