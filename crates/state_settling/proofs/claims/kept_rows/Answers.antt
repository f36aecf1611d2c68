-- One edit more is taken from the end of what is left, and put behind.
use Rattle.std.proofs.Common.{◌≡◌, Option, ◌∷◌, [], ◌++◌, rules, ap, ◌∙◌}
use Rattle.std.specs.Option.{option_map}
use Rattle.sorted_rows.specs.Edits.{edited}
use Rattle.lsr_facts.specs.Orders.{key_cmp}
use Rattle.lsr_facts.specs.declared.key.Key.{Key}
use Rattle.lsr_facts.specs.declared.resv_fact.ResvFact.{ResvFact}
use Rattle.admission.specs.Bandwidths.{Edit}
use Rattle.state_settling.specs.Keeping.{kept_edit}
use Rattle.state_settling.proofs.Editing.{one_kept}
use Rattle.state_settling.proofs.claims.kept_rows.Goals as goal

pub loop-key-preserved : goal.loop-key-preserved
loop-key-preserved g c =
    let paths = edited key_cmp c.args.paths.now (g.V.StateView.state c.args.view.now).facts.paths in
    let edit : Key × Option ResvFact = (c.in-Some.key, c.in-Some.now) in
    let left = c.pop.new.self.items in
    let popped : c.loop-key.resvs.items ≡ left ++ edit ∷ [] = search rules in
    let pushed : c.push.new.self.items ≡ c.loop-key.edits.items ++ kept_edit paths edit ∷ [] =
    c.in_ok-push.ensures.items ∙ ap (λ (given : Edit). c.loop-key.edits.items ++ (edit.0, given) ∷ []) (c.kept_at.ensures ∙ ap (λ holding. option_map (λ (fact : ResvFact). (fact, holding)) edit.1) c.holding_after-holding.ensures) in
    one_kept paths c.loop-key.edits.items c.push.new.self.items c.loop-key.resvs.items left edit popped pushed ∙ c.loop-key.invariant
