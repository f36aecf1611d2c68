-- A Path isn't silent whose LSP comes from a neighbour.
use Rattle.std.proofs.Common.{OnErr, Ok, Err, ap, false, sym, ◌≡◌, ◌∙◌}
use Rattle.lsr_facts.specs.Tunnels.{is_head}
use Rattle.abstract_router.specs.Arrivals.{labelled_path_arrival}
use Rattle.path_steps.proofs.Labelling.{labelled_path_speaks}
use Rattle.path_steps.proofs.path.labelled_path_arrival.Goals as goal

pub returns-clause-memory : goal.returns-clause-memory
returns-clause-memory g c =
    let r = g.V.StateView.router c.args.view.now in
    let s = g.V.StateView.state c.args.view.now in
    let speaks = labelled_path_speaks r s c.args.link c.args.path.now (ap (is_head r s.facts.tunnels) (sym c.lsp-key.ensures) ∙ sym c.is_head.ensures ∙ c.if-is_head.false) in
    elim c.path_on_its_way.result as (λ result. OnErr result ((labelled_path_arrival r s c.args.link c.args.path.now).is_silent ≡ false)) [ Ok draft ↦ cc | Err error ↦ speaks ]
