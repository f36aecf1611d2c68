-- The Tspec of a path that is known is a whole token bucket.
use Rattle.std.proofs.Common.{Option, IfSome, subst, sym}
use Rattle.sorted_rows.specs.RowsLaws.{find-all_row}
use Rattle.lsr_facts.specs.OrderLaws.{key_exact}
use Rattle.lsr_facts.specs.Orders.{key_cmp}
use Rattle.lsr_facts.specs.declared.path_fact.PathFact.{PathFact}
use Rattle.abstract_paths.specs.Soundness.{IsPath}
use Rattle.wanted_messages.proofs.upstream.upstream_at_key.Goals as goal

pub upstream_rows-requires-clause-tspec : goal.upstream_rows-requires-clause-tspec
upstream_rows-requires-clause-tspec g c =
    let r = g.V.StateView.router c.args.view.now in
    let s = (g.V.StateView.state c.args.view.now).facts in
    let key = c.args.key.now in
    (subst (λ (o : Option PathFact). IfSome o (λ path. IsPath r s.moment (key, path))) (sym c.in-Some.ensures.path)
    (find-all_row key_cmp key_exact (IsPath r s.moment) key s.paths c.requires.lsps.paths.each)).whole_tspec
