-- An LSP asks for nothing whose path isn't edited, and whose head doesn't want its bandwidth protected.
use Rattle.std.proofs.Common.{◌≡◌, None, Option, ap, sym, ◌∙◌}
use Rattle.std.specs.FinMap.Entries.{find, put}
use Rattle.std.specs.Option.{option_map_or}
use Rattle.lsr_facts.specs.Orders.{key_cmp}
use Rattle.bypass_shares.specs.declared.wish.Wish.{Wish}
use Rattle.abstract_paths.specs.StampLaws.{none-is}
use Rattle.sorted_rows.specs.Edits as rows
use Rattle.state_views.specs.EditLaws.{row_edited}
use Rattle.bandwidth_protection.specs.WishLaws.{unopened}
use Rattle.bandwidth_protection.proofs.opening.with_known.Goals as goal

pub returns-then-not-wants_bandwidth : goal.returns-then-not-wants_bandwidth
returns-then-not-wants_bandwidth g c =
    let r = g.V.StateView.router c.args.view.now in
    let s = g.V.StateView.state c.args.view.now in
    let e = c.args.edits.now in
    let path = c.args.path.now in
    let none : find key_cmp path.0 e.paths ≡ None = none-is (find key_cmp path.0 e.paths) (sym c.contains_key.ensures.found ∙ c.if-contains_key.false) in
    sym (ap (λ (asked : Option Wish). option_map_or (λ wish. put key_cmp path.0 wish c.args.wishes) asked c.args.wishes)
    (unopened r s e c.args.opening.now.kept c.args.opening.now.left path.0 path.1 c.requires.known none (sym c.wants_bandwidth.ensures ∙ c.if-not-wants_bandwidth.true)))

pub with_wish-requires-2-clause-path : goal.with_wish-requires-2-clause-path
with_wish-requires-2-clause-path g c =
    let s = g.V.StateView.state c.args.view.now in
    let e = c.args.edits.now in
    let path = c.args.path.now in
    let none : find key_cmp path.0 e.paths ≡ None = none-is (find key_cmp path.0 e.paths) (sym c.contains_key.ensures.found ∙ c.if-contains_key.false) in
    sym (row_edited path.0 e.paths s.facts.paths ∙ (λ i. rows.over (none i) (c.requires.known i)))
