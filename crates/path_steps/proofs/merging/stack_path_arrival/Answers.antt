-- A path that has no room for another origin is joined by none.
use Rattle.std.proofs.Common.{ap, sym, subst, ◌∙◌}
use Rattle.std.specs.Prelude.{filter}
use Rattle.lsr_facts.specs.declared.key.Key.{Key}
use Rattle.abstract_paths.specs.Merging.{may_join}
use Rattle.abstract_paths.specs.Outcomes.{PathOutcome}
use Rattle.abstract_router.specs.Outcomes.{of_paths}
use Rattle.abstract_router.specs.Returning.{the_one}
use Rattle.state_views.specs.Drafts.{IsDraft}
use Rattle.path_steps.proofs.Joining.{refused_full}
use Rattle.path_steps.proofs.merging.stack_path_arrival.Goals as goal

pub returns-then-is_full_beside-clause-draft : goal.returns-then-is_full_beside-clause-draft
returns-then-is_full_beside-clause-draft g c =
    let s = g.V.StateView.state c.args.view.now in
    subst (λ (o : PathOutcome). IsDraft c.refused-then-is_full_beside.result (of_paths s o) (g.V.StateView.router c.args.view.now) s)
    (sym (refused_full s.facts c.args.path.now c.in-Some.joined.now (c.in-Some.ensures ∙ ap (λ (key : Key). the_one (filter (may_join key) s.facts.paths)) c.lsp-key.ensures) (sym c.is_full_beside.ensures ∙ c.if-is_full_beside.true)))
    c.refused-then-is_full_beside.ensures
