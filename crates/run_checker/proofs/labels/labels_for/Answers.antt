-- Labels of the LSPs that others are of stand in the order of these, and may be chosen as those may.
use Rattle.std.specs.Prelude.{ℕ, List, T}
use Rattle.std.specs.FinMap.Entries.{is_sorted}
use Rattle.std.proofs.Common.{ap, subst, sym, ◌∙◌}
use Rattle.sorted_rows.specs.EditLaws.{is_sorted-edited}
use Rattle.sorted_rows.specs.Edits.{edited}
use Rattle.sorted_rows.specs.Rows.{keys_of}
use Rattle.sorted_rows.specs.RowsLaws.{is_sorted-both}
use Rattle.lsr_facts.specs.OrderLaws.{key_total}
use Rattle.lsr_facts.specs.Orders.{key_cmp}
use Rattle.lsr_facts.specs.declared.key.Key.{Key}
use Rattle.abstract_router.specs.Labels.{IsLabelling}
use Rattle.abstract_router.specs.States.{RouterState}
use Rattle.run_checker.specs.Labelling.{IsChoiceLike}
use Rattle.run_checker.proofs.Unlabelled.{few_chosen, like_may}
use Rattle.run_checker.proofs.labels.labels_for.Goals as goal

pub from_rows-requires : goal.from_rows-requires
from_rows-requires c =
    let labels = c.args.labels.now in
    let others = c.in_ok-others.others in
    let like : IsChoiceLike c.args.known.now.router.now c.args.known.now.state.now c.as_slice.result.now labels = c.in_ok-are_like.ensures.0 c.if-not-branch.false in
    subst (λ (rows : List (Key × ℕ)). T (is_sorted key_cmp rows)) (sym c.in_ok-from_slice.ensures.items)
    (subst T (sym (is_sorted-both key_cmp labels others (like.same ∙ ap keys_of c.as_slice.ensures.rows))) c.as_slice.ensures.sorted)

pub returns-clause-chosen : goal.returns-clause-chosen
returns-clause-chosen c =
    let r = c.args.view.now.router in
    let s = c.args.view.now.state in
    let labels = c.args.labels.now in
    let others = c.in_ok-others.others in
    let after = edited key_cmp c.args.paths.now s.facts.paths in
    let may : IsLabelling r s after others = c.in_ok-others.ensures.chosen in
    let few = few_chosen r s after others may (is_sorted-edited key_cmp key_total c.args.paths.now s.facts.paths c.soundness.ensures.sound.paths.paths.in_order) c.requires.choice in
    let seen : IsChoiceLike c.args.known.now.router.now c.args.known.now.state.now c.as_slice.result.now labels = c.in_ok-are_like.ensures.0 c.if-not-branch.false in
    let like : IsChoiceLike r s others labels =
    subst (λ (x : RouterState × List (Key × ℕ)). IsChoiceLike x.0.router x.0.state x.1 labels) (λ i. (sym c.requires.view i, c.as_slice.ensures.rows i)) seen in
    subst (λ (chosen : List (Key × ℕ)). IsLabelling r s after chosen) (sym (c.from_rows.ensures ∙ c.in_ok-from_slice.ensures.items)) (like_may r s after others may few labels like)
