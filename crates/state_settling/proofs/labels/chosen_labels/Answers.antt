-- The label that is chosen may be.
use Rattle.std.proofs.Common.{◌≡◌, ℕ, ◌∷◌, [], List, Option, IfSome, sym, subst, ◌∙◌}
use Rattle.std.proofs.lemmas.Result.{IfOk-weaker}
use Rattle.sorted_rows.specs.Edits.{edited}
use Rattle.lsr_facts.specs.Orders.{key_cmp}
use Rattle.lsr_facts.specs.declared.key.Key.{Key}
use Rattle.abstract_router.specs.Labels.{IsLabelling, MayBeGiven}
use Rattle.state_settling.specs.RelabellingLaws.{none_chosen, one_chosen}
use Rattle.state_settling.proofs.labels.chosen_labels.Goals as goal

pub returns-in_default : goal.returns-in_default
returns-in_default g c =
    let r = g.V.StateView.router c.args.view.now in
    let s = g.V.StateView.state c.args.view.now in
    let edits = c.args.paths.now in
    record {
      chosen = subst (λ (chosen : List (Key × ℕ)). IsLabelling r s (edited key_cmp edits s.facts.paths) chosen) (sym c.new.ensures)
          (none_chosen r s edits c.requires.order c.requires.known c.requires.held (sym c.new_lsp.ensures ∙ c.in_default.is));
    }

pub unwrap-label-requires : goal.unwrap-label-requires
unwrap-label-requires g c =
    let r = g.V.StateView.router c.args.view.now in
    let s = g.V.StateView.state c.args.view.now in
    c.free_label.ensures.free ∙ (one_chosen r s c.args.paths.now c.requires.order c.requires.known c.requires.held c.in-Some.key c.requires.choice (sym c.new_lsp.ensures ∙ c.in-Some.is)).0

pub returns : goal.returns
returns g c =
    let r = g.V.StateView.router c.args.view.now in
    let s = g.V.StateView.state c.args.view.now in
    let edits = c.args.paths.now in
    let may : MayBeGiven r s.labels s.resting c.unwrap-label.result =
    subst (λ (o : Option ℕ). IfSome o (MayBeGiven r s.labels s.resting)) c.unwrap-label.ensures c.free_label.ensures.given in
    let is = (one_chosen r s edits c.requires.order c.requires.known c.requires.held c.in-Some.key c.requires.choice (sym c.new_lsp.ensures ∙ c.in-Some.is)).1 c.unwrap-label.result may in
    record {
      chosen = IfOk-weaker c.one_label.result (λ (chosen : List (Key × ℕ)). chosen ≡ (c.in-Some.key, c.unwrap-label.result) ∷ []) (IsLabelling r s (edited key_cmp edits s.facts.paths))
          (λ chosen same. subst (λ (chosen : List (Key × ℕ)). IsLabelling r s (edited key_cmp edits s.facts.paths) chosen) (sym same) is) c.one_label.ensures;
    }
