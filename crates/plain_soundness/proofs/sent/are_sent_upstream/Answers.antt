use Rattle.std.proofs.Common.{List, T, ap, subst, sym, ◌∙◌}
use Rattle.std.specs.FinMap.Entries.{is_sorted}
use Rattle.sorted_rows.specs.Rows.{keys_of}
use Rattle.lsr_facts.specs.Orders.{key_cmp}
use Rattle.lsr_facts.specs.declared.key.Key.{Key}
use Rattle.lsr_facts.specs.declared.path_fact.PathFact.{PathFact}
use Rattle.abstract_paths.specs.Touched.{is_among}
use Rattle.abstract_router.specs.Upstreams.{upstream_at}
use Rattle.plain_soundness.proofs.Telling.{told_of_keys}
use Rattle.plain_soundness.proofs.Wanting.{all_upstream}
use Rattle.plain_soundness.proofs.sent.are_sent_upstream.Goals as goal

pub upstream_at_keys-requires-clause-order : goal.upstream_at_keys-requires-clause-order
upstream_at_keys-requires-clause-order c = subst (λ (rows : List (Key × PathFact)). T (is_sorted key_cmp rows)) (sym c.as_slice.ensures.rows) c.as_slice.ensures.sorted

pub returns : goal.returns
returns c =
    let r = c.args.known.now.router.now in
    let s = c.args.known.now.state.now in
    told_of_keys _ _ _ _ _ (ap keys_of c.as_slice-2.ensures.rows)
    (ap keys_of (c.as_slice-3.ensures.value ∙ c.in_ok-wanted.ensures.rows ∙ ap (λ (rows : List (Key × PathFact)). upstream_at r s (is_among key_cmp rows)) c.as_slice.ensures.rows ∙ all_upstream r s c.as_slice.ensures.sorted)) c.have_same_keys.ensures
