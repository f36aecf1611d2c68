use Rattle.std.proofs.Common.{◌≡◌, T}
use Rattle.std.specs.FinMap.Entries.{is_sorted}
use Rattle.sorted_rows.specs.Edits.{edited}
use Rattle.lsr_facts.specs.Orders.{key_cmp}
use Rattle.abstract_router.specs.Preempting.{claims_of}
use Rattle.admission.specs.Bandwidths.{AreEdits, claim_edits, resv_edits}
use Rattle.state_settling.proofs.Editing.{IsTold, claims_told, edits_told, ok_both, resvs_told}
use Rattle.state_settling.proofs.claims.bandwidth_edits.Goals as goal

pub returns-clause-resvs : goal.returns-clause-resvs
returns-clause-resvs g c =
    let before = (g.V.StateView.state c.args.view.now).facts.paths in
    let resvs = (g.V.StateView.state c.args.view.now).resvs in
    let paths = c.args.paths.now in
    let edits = c.args.resvs in
    ok_both (IsTold before paths resvs c.in_ok-kept.kept) (λ told. T (is_sorted key_cmp told)) (λ told. edited key_cmp (resv_edits told) resvs ≡ edited key_cmp edits resvs)
    (λ told is sorted. resvs_told before paths resvs edits c.in_ok-kept.kept c.in_ok-kept.ensures told is c.requires.before)
    c.with_moved.result c.with_moved.ensures.edits c.with_moved.ensures.sorted

pub returns-clause-claims : goal.returns-clause-claims
returns-clause-claims g c =
    let before = (g.V.StateView.state c.args.view.now).facts.paths in
    let resvs = (g.V.StateView.state c.args.view.now).resvs in
    let paths = c.args.paths.now in
    let edits = c.args.resvs in
    ok_both (IsTold before paths resvs c.in_ok-kept.kept) (λ told. T (is_sorted key_cmp told)) (λ told. edited key_cmp (claim_edits told) (claims_of before resvs) ≡ claims_of (edited key_cmp paths before) (edited key_cmp edits resvs))
    (λ told is sorted. claims_told before paths resvs edits c.in_ok-kept.kept c.in_ok-kept.ensures told is c.requires.before)
    c.with_moved.result c.with_moved.ensures.edits c.with_moved.ensures.sorted

pub returns-clause-edits : goal.returns-clause-edits
returns-clause-edits g c =
    let before = (g.V.StateView.state c.args.view.now).facts.paths in
    let resvs = (g.V.StateView.state c.args.view.now).resvs in
    let paths = c.args.paths.now in
    let edits = c.args.resvs in
    ok_both (IsTold before paths resvs c.in_ok-kept.kept) (λ told. T (is_sorted key_cmp told)) AreEdits
    (λ told is sorted. edits_told before paths resvs edits c.in_ok-kept.kept c.in_ok-kept.ensures told is sorted c.requires.rated)
    c.with_moved.result c.with_moved.ensures.edits c.with_moved.ensures.sorted
