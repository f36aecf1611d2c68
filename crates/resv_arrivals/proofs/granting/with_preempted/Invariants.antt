use Rattle.std.proofs.Common.{◌≡◌, drop}
use Rattle.std.specs.Prelude.{fold}
use Rattle.sorted_rows.specs.Edits.{edited}
use Rattle.lsr_facts.specs.Orders.{key_cmp}
use Rattle.resv_arrivals.specs.Progresses.{told_of}
use Rattle.resv_arrivals.proofs.granting.with_preempted.Given as goal

-- what is left to tell leads where all does
abbrev pub invariant-loop-key : goal.invariant-loop-key
invariant-loop-key g l =
    let tell = told_of (g.V.StateView.router l.fn.view) (edited key_cmp l.edits (g.V.StateView.state l.fn.view).resvs) in
    fold tell l.now (drop l.key-index l.gone) ≡ fold tell l.fn.errors l.gone
