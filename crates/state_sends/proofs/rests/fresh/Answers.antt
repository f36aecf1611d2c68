-- What rests isn't sent; all else is.
use Rattle.std.proofs.Common.{ap, cond, false, not, sym, None, Option, Some, ◌∙◌, ◌&&◌, ◌≡◌}
use Rattle.std.specs.Option.{option_copied, option_map_or}
use Rattle.abstract_paths.specs.declared.events.Output.{Output}
use Rattle.abstract_paths.specs.Outputs.{is_same_frame, rests}
use Rattle.state_sends.proofs.rests.fresh.Goals as goal

pub returns-then-branch : goal.returns-then-branch
returns-then-branch g c =
    let wants = c.args.wants in
    let due = c.args.due.now in
    let so : c.in_ok-rests.field-0 ≡ rests g.I.Ord.cmp due (option_copied c.args.was) wants =
    c.in_ok-rests.ensures ∙ (λ i. not (c.is_due-is_due.ensures i) && option_map_or (λ o. is_same_frame wants.1.frame o.frame) (option_copied c.args.was) false) in
    sym (ap (λ b. cond {A = Option (_ × Output)} b None (Some wants)) (sym so ∙ c.if-branch.true))

pub returns : goal.returns
returns g c =
    let wants = c.args.wants in
    let due = c.args.due.now in
    let so : c.in_ok-rests.field-0 ≡ rests g.I.Ord.cmp due (option_copied c.args.was) wants =
    c.in_ok-rests.ensures ∙ (λ i. not (c.is_due-is_due.ensures i) && option_map_or (λ o. is_same_frame wants.1.frame o.frame) (option_copied c.args.was) false) in
    sym (ap (λ b. cond {A = Option (_ × Output)} b None (Some wants)) (sym so ∙ c.if-branch.false))
