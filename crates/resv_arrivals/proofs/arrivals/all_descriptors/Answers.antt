use Rattle.std.proofs.Common.{◌≢◌, ◌+◌, List, [], None, drop, false, length, ap, arith, ne_eqb, subst, sym, ◌∙◌}
use Rattle.std.specs.Prelude.{fold}
use Rattle.lsr_facts.specs.declared.key.Key.{Key}
use Rattle.rsvp_contents.proofs.Sizes.{drop_one}
use Rattle.rsvp_contents.specs.declared.descriptors.FlowDescriptor.{FlowDescriptor}
use Rattle.abstract_router.specs.Reserving as reserving
use Rattle.abstract_router.specs.Reserving.{PassedOver, next_descriptor, resv_by, verdict_of}
use Rattle.resv_arrivals.proofs.Hearing.{heard_all, heard_next, on_err, still_heard}
use Rattle.resv_arrivals.proofs.Reaching.{start_reached}
use Rattle.resv_arrivals.specs.Progresses.{reached}
use Rattle.resv_arrivals.specs.declared.progress.Progress.{Progress}
use Rattle.resv_arrivals.proofs.arrivals.all_descriptors.Goals as goal

pub loop-index-init : goal.loop-index-init
loop-index-init g c =
    let r = g.V.StateView.router c.args.view.now in
    let s = g.V.StateView.state c.args.view.now in
    let next = next_descriptor r c.args.link c.args.style c.args.resv.now in
    let start : reserving.Progress = record { state = s; errors = []; first = None; has_granted = false } in (
      λ some. start_reached r s c.new-progress.result (ap (λ (p : Progress). p.claims) c.new-progress.ensures) (ap (λ (p : Progress). p.edits) c.new-progress.ensures) c.requires.moment c.requires.paths c.requires.held c.requires.standing,
      ap (λ (p : Progress). fold next (reached s p) c.as_slice-descriptors.result.now) c.new-progress.ensures
          ∙ ap (λ (ds : List FlowDescriptor). fold next start ds) c.as_slice-descriptors.ensures,
    )

pub returns-in_err-progress-clause-memory : goal.returns-in_err-progress-clause-memory
returns-in_err-progress-clause-memory g c =
    let r = g.V.StateView.router c.args.view.now in
    let s = g.V.StateView.state c.args.view.now in
    let v = c.args.resv.now in
    let p = reached s c.loop-index.progress in
    let d = c.index-descriptors-index.result in
    let fact = resv_by s.facts.moment c.args.link c.args.style v d in
    on_err c.from_residual.result _
    (heard_all (next_descriptor r c.args.link c.args.style v) (still_heard r c.args.link c.args.style v) p c.as_slice-descriptors.result.now c.loop-index.index d _ c.loop-index-test.true c.index-descriptors-index.is
    (heard_next r c.args.link c.args.style v p d (subst (λ (k : Key). verdict_of r p.state k fact ≢ PassedOver) c.key_in.ensures c.in_err-progress.ensures.memory)) c.loop-index.invariant.1)

pub loop-index-preserved : goal.loop-index-preserved
loop-index-preserved g c =
    let s = g.V.StateView.state c.args.view.now in
    let ds = c.as_slice-descriptors.result.now in
    let i = c.loop-index.index in
    let next = next_descriptor (g.V.StateView.router c.args.view.now) c.args.link c.args.style c.args.resv.now in (
      λ more. c.in_ok-progress.ensures.reached (ne_eqb (i + 1) (length ds) (λ last. omega (arith, more, last))),
      ap (λ (p : reserving.Progress). fold next p (drop (i + 1) ds)) c.in_ok-progress.ensures.carried
          ∙ sym (ap (λ (others : List FlowDescriptor). fold next (reached s c.loop-index.progress) others) (drop_one ds i c.index-descriptors-index.result c.loop-index-test.true c.index-descriptors-index.is))
          ∙ c.loop-index.invariant.1,
    )
