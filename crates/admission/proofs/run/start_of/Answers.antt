use Rattle.std.proofs.Common.{of_calls, rules}
use Rattle.std.proofs.lemmas.List.Sorted.{IsPartitionPoint-from_clause}
use Rattle.admission.specs.Runs.{comes_before}
use Rattle.admission.proofs.Runs.{before_parts}
use Rattle.admission.proofs.run.start_of.Goals as goal

pub returns-in-None-clause-start : goal.returns-in-None-clause-start
returns-in-None-clause-start c =
    let session = c.args.session.now in
    let claims = c.args.claims.now in
    IsPartitionPoint-from_clause (comes_before session) claims c.partition_point.result c.partition_point.ensures.partitioned (before_parts session claims c.requires) (λ a r q k. search (rules, of_calls))
