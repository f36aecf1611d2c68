use Rattle.std.proofs.Common.{◌≡◌, fold, take}
use Rattle.abstract_paths.specs.Heads.{tried}
use Rattle.abstract_router.specs.States.{with_facts}
use Rattle.state_views.specs.Edits.{edited}
use Rattle.path_steps.specs.Signalling.{IsCounted}
use Rattle.path_steps.proofs.signals.signalled.Given as goal

-- so many tunnels are tried, and the paths are counted
abbrev pub invariant-loop-row : goal.invariant-loop-row
invariant-loop-row g l =
    let r = g.V.StateView.router l.fn.view in
    let s = g.V.StateView.state l.fn.view in
    let before = edited l.fn.edits s in
    (edited l.so_far.edits s ≡ with_facts (fold (tried r) before.facts (take l.row-index l.tunnels)) before) × IsCounted l.so_far s
