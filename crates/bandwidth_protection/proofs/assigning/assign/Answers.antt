-- What is in use stays, and then come the two rounds; where no bypass has bandwidth to promise, nothing else is promised.
use Rattle.std.proofs.Common.{◌≡◌, ap, arith, length, sym, ◌∙◌}
use Rattle.std.proofs.lemmas.Bool.{eqb-true}
use Rattle.std.proofs.lemmas.List.{length-map}
use Rattle.std.specs.FinMap.Entries.{where_key}
use Rattle.sorted_rows.specs.EditLaws.{is_sorted-edited}
use Rattle.lsr_facts.specs.OrderLaws.{key_total}
use Rattle.lsr_facts.specs.Orders.{key_cmp}
use Rattle.bypass_shares.specs.Shares.{assigned, each_in_turn, new_for}
use Rattle.abstract_router.specs.Assigning.{assignments_of, capacity_in, in_use_of, is_in_use, wishes_of}
use Rattle.state_views.specs.Edits.{edited}
use Rattle.bandwidth_protection.proofs.Placing.{nothing}
use Rattle.bandwidth_protection.proofs.Rounds.{open_rows}
use Rattle.bandwidth_protection.proofs.Turns.{open_turns}
use Rattle.bandwidth_protection.specs.Candidates.{promising_of}
use Rattle.bandwidth_protection.specs.Narrowing.{room_of}
use Rattle.bandwidth_protection.specs.WishLaws.{none_promised}
use Rattle.bandwidth_protection.proofs.assigning.assign.Goals as goal

pub keep-requires-clause-resvs : goal.keep-requires-clause-resvs
keep-requires-clause-resvs g c = is_sorted-edited key_cmp key_total c.args.edits.now.resvs (g.V.StateView.state c.args.view.now).resvs c.requires.resvs

pub open_wishes-requires-clause-few : goal.open_wishes-requires-clause-few
open_wishes-requires-clause-few g c =
    let r = g.V.StateView.router c.args.view.now in
    let t = edited c.args.edits.now (g.V.StateView.state c.args.view.now) in
    let opening = c.in_ok-opening.opening in
    let same = ap length c.in_ok-opening.ensures.rooms ∙ length-map (promising_of r t) (room_of opening.left) ∙ ap length (sym c.in_ok-promising.ensures.all) in
    let fewer = c.in_ok-promising.ensures.few in
    omega (arith, same, fewer, c.requires.few)

pub returns : goal.returns
unfolding assigned assignments_of
returns g c =
    let r = g.V.StateView.router c.args.view.now in
    let s = g.V.StateView.state c.args.view.now in
    let t = edited c.args.edits.now s in
    let capacity = capacity_in t.facts.bypasses in
    let opening = c.in_ok-opening.opening in
    let known = c.in_ok-known.ensures ∙ sym c.requires.kept in
    let used : c.in_ok-used.used ≡ in_use_of t = c.in_ok-used.ensures ∙ ap (where_key key_cmp (is_in_use t)) known in
    let resvs = is_sorted-edited key_cmp key_total c.args.edits.now.resvs s.resvs c.requires.resvs in
    let asked = open_rows r t resvs opening.kept opening.left c.in_ok-wishes.wishes c.given.ensures.wishes c.in_ok-wishes.ensures in
    c.in_ok-all.ensures.all capacity c.in_ok-opening.ensures.left
    ∙ ap (λ wishes. each_in_turn key_cmp capacity (new_for key_cmp capacity) opening.kept wishes) asked
    ∙ open_turns key_cmp capacity key_total opening.kept opening.left c.in_ok-opening.ensures.left (wishes_of r t) c.given.ensures.kept
    ∙ ap (λ rows. each_in_turn key_cmp capacity (new_for key_cmp capacity) rows (wishes_of r t)) c.in_ok-opening.ensures.kept
    ∙ (λ i. assigned key_cmp capacity (known i) (used i) (wishes_of r t))

pub returns-then-is_empty : goal.returns-then-is_empty
returns-then-is_empty g c =
    let r = g.V.StateView.router c.args.view.now in
    let s = g.V.StateView.state c.args.view.now in
    let t = edited c.args.edits.now s in
    let none = sym (c.as_slice-bypasses.ensures.value ∙ c.in_ok-promising.ensures.all) ∙ nothing c.as_slice-bypasses.result.now (eqb-true (length c.as_slice-bypasses.result.now) 0 (sym c.is_empty.ensures ∙ c.if-is_empty.true)) in
    c.in_ok-used.ensures ∙ ap (where_key key_cmp (is_in_use t)) (c.in_ok-known.ensures ∙ sym c.requires.kept) ∙ none_promised r t none
