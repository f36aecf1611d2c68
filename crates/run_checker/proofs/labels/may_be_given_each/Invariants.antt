-- All may be given just where those may that are left.
use Rattle.std.proofs.Common.{ℕ, drop}
use Rattle.std.specs.Prelude.{◌↔◌}
use Rattle.std.specs.List.{AllByRecursion}
use Rattle.lsr_facts.specs.declared.key.Key.{Key}
use Rattle.abstract_router.specs.Labels.{MayBeGiven}
use Rattle.run_checker.proofs.labels.may_be_given_each.Given as goal

abbrev pub invariant-loop-row : goal.invariant-loop-row
invariant-loop-row l =
    let may = λ (row : Key × ℕ). MayBeGiven l.known.router.now l.known.state.now.labels l.known.state.now.resting row.1 in
    AllByRecursion may (drop l.row-index l.labels) ↔ AllByRecursion may l.labels
