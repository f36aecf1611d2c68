use Rattle.std.proofs.Common.{subst}
use Rattle.std.specs.List.Sorted.{IsBinarySearchResult}
use Rattle.timed_rows.specs.Timed.{TimedRows}
use Rattle.timed_rows.proofs.table.TimedTable.search.Goals as goal

pub returns-clause-position : goal.returns-clause-position
returns-clause-position g c =
    subst (λ (t : TimedRows _ _ _). IsBinarySearchResult (λ row. g.P.Probe.compares c.args.probe.now row.0) t.rows c.search.result) c.self.view_is c.search.ensures.position
