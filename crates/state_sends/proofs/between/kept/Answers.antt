-- One row more is sent and renewed, where it doesn't rest.
use Rattle.std.proofs.Common.{Option, None, Some, ap, cond, refl, rules, true, false, Bool, [], ◌∷◌, ◌++◌, ◌∙◌, ◌≡◌, ℕ}
use Rattle.std.specs.FinMap.Entries.{find}
use Rattle.std.specs.Option.{option_map}
use Rattle.abstract_paths.specs.declared.events.Output.{Output}
use Rattle.abstract_paths.specs.Outputs.{rests, send_for}
use Rattle.abstract_paths.specs.Touched.{renewed_moment}
use Rattle.state_sends.proofs.Repeating.{one_renewed, one_sent}
use Rattle.state_sends.proofs.between.kept.Goals as goal

-- the frame of what is sent, and its moment
output_then : {I : Type 0} (b : Bool) (wants : I × Output) → option_map (λ row. row.1) (cond b None (Some wants)) ≡ cond b None (Some wants.1)
output_then true wants = refl
output_then false wants = refl

moment_then : {I : Type 0} (b : Bool) (moment : ℕ) (wants : I × Output) → option_map {U = I × Option ℕ} (λ row. (row.0, Some moment)) (cond b None (Some wants)) ≡ cond b None (Some (wants.0, Some moment))
moment_then true moment wants = refl
moment_then false moment wants = refl

pub loop-wants-preserved : goal.loop-wants-preserved
loop-wants-preserved g c =
    let cmp = g.I.Ord.cmp in
    let moment = c.args.moment in
    let due = c.args.due.now in
    let was = c.args.was.now in
    let wants = c.in-Some.wants in
    let before = c.loop-wants.left.items in
    let left = c.pop.new.self.items in
    let popped : before ≡ left ++ wants ∷ [] = search rules in
    let so = rests cmp due (find cmp wants.0 was) wants in
    let fresh = c.in_ok-going.ensures ∙ ap (λ o. cond {A = Option (_ × Output)} (rests cmp due o wants) None (Some wants)) c.get_near-known.ensures.found in (
      one_sent before left wants popped (λ row. send_for cmp due (find cmp row.0 was) row) _ _ _ (c.output_of.ensures ∙ ap (option_map (λ row. row.1)) fresh ∙ output_then so wants) c.in_ok-sends.ensures ∙ c.loop-wants.invariant.0,
      one_renewed before left wants popped cmp (λ row. renewed_moment cmp due moment (find cmp row.0 was) row) _ _ _ (c.renewed_moment.ensures ∙ ap (option_map (λ row. (row.0, Some moment))) fresh ∙ moment_then so moment wants) c.in_ok-moments.ensures ∙ c.loop-wants.invariant.1,
    )
