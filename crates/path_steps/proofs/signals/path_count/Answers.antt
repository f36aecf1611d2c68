-- Edits of known paths take away as many as are without one.
use Rattle.std.proofs.Common.{◌≡◌, Option, ap, arith, is_none, ◌∙◌}
use Rattle.std.specs.List.{count_by}
use Rattle.lsr_facts.specs.OrderLaws.{key_total}
use Rattle.lsr_facts.specs.Orders.{key_cmp}
use Rattle.lsr_facts.specs.declared.key.Key.{Key}
use Rattle.lsr_facts.specs.declared.path_fact.PathFact.{PathFact}
use Rattle.path_steps.proofs.Counting.{length-known}
use Rattle.path_steps.proofs.signals.path_count.Goals as goal

pub overflow_sub-result : goal.overflow_sub-result
overflow_sub-result g c =
    let paths = (g.V.StateView.state c.args.view.now).facts.paths in
    let left = length-known key_cmp key_total c.args.edits.now.paths paths c.as_slice.ensures.sorted c.requires.order c.requires.known.paths in
    let gone : c.gone_count.result ≡ count_by (λ edit. is_none edit.1) c.args.edits.now.paths = c.gone_count.ensures ∙ ap (count_by (λ (edit : Key × Option PathFact). is_none edit.1)) c.as_slice.ensures.rows in
    omega (arith, left, gone, c.path_count.ensures.count)

pub returns : goal.returns
returns g c =
    let paths = (g.V.StateView.state c.args.view.now).facts.paths in
    let left = length-known key_cmp key_total c.args.edits.now.paths paths c.as_slice.ensures.sorted c.requires.order c.requires.known.paths in
    let gone : c.gone_count.result ≡ count_by (λ edit. is_none edit.1) c.args.edits.now.paths = c.gone_count.ensures ∙ ap (count_by (λ (edit : Key × Option PathFact). is_none edit.1)) c.as_slice.ensures.rows in
    omega (arith, left, gone, c.path_count.ensures.count)
