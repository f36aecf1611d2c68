-- One origin more is told: what it is sent is put after the others.
use Rattle.std.proofs.Common.{Some, None, [], append-nil, get_or, sym, ◌∙◌}
use Rattle.std.proofs.lemmas.List.{get_or_default}
use Rattle.std.specs.declared.net.ipv4_addr.Ipv4Addr.{Ipv4Addr}
use Rattle.lsr_facts.specs.declared.path_fact.Origin.{Origin}
use Rattle.lsr_facts.specs.declared.path_fact.Via.TheVariants.{Link}
use Rattle.abstract_paths.specs.RowLaws.{one_more}
use Rattle.abstract_router.specs.Lsps.{around_of, lsp_of}
use Rattle.abstract_router.specs.Upstreams.{upstream_row}
use Rattle.wanted_messages.specs.Telling.{said}
use Rattle.wanted_messages.proofs.upstream.told_each.Goals as goal
use Rattle.wanted_messages.proofs.upstream.told_each.Goals.{in-Some+in_ok-push, in_default}

-- what a read past the end gives
abbrev no_origin : Ipv4Addr × Origin
no_origin = (record { octets = [] }, record { via = Link 0; hop = record { address = record { octets = [] }; interface = 0 }; expiry = 0 })

pub loop-origin-preserved : goal.loop-origin-preserved
loop-origin-preserved g c =
    let r = g.V.StateView.router c.args.view.now in
    let s = g.V.StateView.state c.args.view.now in
    let lsp = c.args.lsp.now in
    let told = upstream_row (around_of r s) (lsp.key.now, lsp_of s lsp.key.now lsp.path.now) lsp.label (said lsp.reserved) in
    let before = c.loop-origin.rows.items in
    let after = c.match-branch-3.rows.items in
    let origins = c.args.origins.now in
    let at = c.loop-origin.origin-index in
    let origin = get_or origins at no_origin in
    let is = get_or_default origins at no_origin origin c.loop-origin-test.true in
    elim c.match-branch-3.branch [
      | in-Some+in_ok-push w ↦ one_more told before after origins at origin (Some w.in-Some.row) c.loop-origin-test.true is c.loop-origin.invariant (sym w.in-Some.is ∙ c.in_ok-row.ensures) ((λ k. (w.rows-is k).items) ∙ w.in_ok-push.ensures.items)
      | in_default w ↦ one_more told before after origins at origin None c.loop-origin-test.true is c.loop-origin.invariant (sym w.in_default.is ∙ c.in_ok-row.ensures) ((λ k. (w.rows-is k).items) ∙ sym (append-nil before))
    ]
