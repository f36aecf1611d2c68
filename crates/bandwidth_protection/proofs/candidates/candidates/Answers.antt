-- A protected LSP has the candidates that are open, another has none.
use Rattle.std.proofs.Common.{[], ap, filter, sym, ◌∙◌}
use Rattle.bandwidth_protection.specs.CandidateLaws.{no_candidates, none_open, open_candidates}
use Rattle.bandwidth_protection.specs.Candidates.{in_turn}
use Rattle.bandwidth_protection.proofs.candidates.candidates.Goals as goal

pub returns-then-not-is_left : goal.returns-then-not-is_left
returns-then-not-is_left g c = λ may are_open.
    c.new.ensures
    ∙ none_open (g.A.StateView.router c.args.after.now) (g.A.StateView.state c.args.after.now) c.args.rate c.args.rooms.now may are_open c.args.key.now c.args.path.now c.args.resv.now (sym c.is_left.ensures ∙ c.if-not-is_left.true)

pub returns-then-not-is_protected : goal.returns-then-not-is_protected
returns-then-not-is_protected g c = λ may are_open. c.new-then-not-is_protected.ensures ∙ ap (filter may) (sym (no_candidates _ _ _ _ (sym c.is_protected.ensures ∙ c.if-not-is_protected.true)))

pub returns : goal.returns
returns g c = λ may are_open.
    c.best_first.ensures
    ∙ (λ i. in_turn (c.node.ensures.router i) c.args.path.now c.args.resv.now c.args.rate c.args.rooms.now [] [])
    ∙ open_candidates (g.A.StateView.router c.args.after.now) (g.A.StateView.state c.args.after.now) c.args.rate c.args.rooms.now may are_open c.args.key.now c.args.path.now c.args.resv.now (sym c.is_protected.ensures ∙ c.if-not-is_protected.false)
