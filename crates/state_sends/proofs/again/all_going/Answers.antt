-- One row more is taken from the end of what is left.
use Rattle.std.proofs.Common.{◌≡◌, ◌∷◌, ◌++◌, [], Some, ap, rules, ◌∙◌}
use Rattle.std.specs.Option.{option_map}
use Rattle.state_sends.specs.Going.{going}
use Rattle.state_sends.proofs.Repeating.{one_renewed, one_sent}
use Rattle.state_sends.proofs.again.all_going.Goals as goal

pub loop-row-preserved : goal.loop-row-preserved
loop-row-preserved g c =
    let cmp = g.I.Ord.cmp in
    let due = c.args.due.now in
    let moment = c.args.moment in
    let row = c.in-Some.row in
    let before = c.loop-row.left.items in
    let left = c.pop.new.self.items in
    let popped : before ≡ left ++ row ∷ [] = search rules in (
      one_sent before left row popped (λ row. option_map (λ r. r.1) (going cmp due row)) _ _ _ (c.output_of.ensures ∙ ap (option_map (λ r. r.1)) c.going-sent.ensures) c.in_ok-sends.ensures ∙ c.loop-row.invariant.0,
      one_renewed before left row popped cmp (λ row. option_map (λ r. (r.0, Some moment)) (going cmp due row)) _ _ _ (c.renewed_moment.ensures ∙ ap (option_map (λ r. (r.0, Some moment))) c.going-sent.ensures) c.in_ok-moments.ensures ∙ c.loop-row.invariant.1,
    )
