-- One LSP more is asked.
use Rattle.std.proofs.Common.{◌≡◌, Some, ap, sym, ◌∙◌, [], List}
use Rattle.std.specs.FinMap.Entries.{find}
use Rattle.std.specs.Option.{option_copied}
use Rattle.sorted_rows.specs.RowsLaws.{all_found}
use Rattle.lsr_facts.specs.OrderLaws.{key_exact, key_total}
use Rattle.lsr_facts.specs.Orders.{key_cmp}
use Rattle.lsr_facts.specs.declared.key.Key.{Key}
use Rattle.lsr_facts.specs.declared.path_fact.PathFact.{PathFact}
use Rattle.bypass_shares.specs.declared.wish.Wish.{Wish}
use Rattle.make_before_break.proofs.Asking.{none_asked, place_asked}
use Rattle.state_views.specs.Edits.{edited}
use Rattle.bandwidth_protection.proofs.Placing.{at_place}
use Rattle.bandwidth_protection.specs.Narrowing.{open_wish}
use Rattle.bandwidth_protection.proofs.opening.known_wishes.Goals as goal
use Rattle.bandwidth_protection.proofs.opening.known_wishes.Goals.{in-Some+in_ok-all, in_default}

pub with_known-requires-clause-known : goal.with_known-requires-clause-known
with_known-requires-clause-known g c =
    let paths = (g.V.StateView.state c.args.view.now).facts.paths in
    at_place (λ (row : Key × PathFact). find key_cmp row.0 paths ≡ Some row.1) paths c.loop-place.place c.in-Some.path.now (all_found key_cmp key_total paths c.requires.order) (sym c.path_at.ensures.row ∙ ap option_copied c.in-Some.is)

pub loop-place-preserved : goal.loop-place-preserved
loop-place-preserved g c =
    let r = g.V.StateView.router c.args.view.now in
    let s = g.V.StateView.state c.args.view.now in
    let asked = open_wish r (edited c.args.edits.now s) c.args.opening.now.kept c.args.opening.now.left in
    let none : List (Key × Wish) = [] in
    let before = c.loop-place.all in
    let after = c.match-path_at.all in
    elim c.match-path_at.branch [
      | in-Some+in_ok-all w ↦
          place_asked key_cmp key_total key_exact s.facts.paths c.loop-place.place asked none before after w.in-Some.path.now
          (sym c.path_at.ensures.row ∙ ap option_copied w.in-Some.is) (w.all-is ∙ w.in_ok-all.ensures) c.loop-place.invariant
      | in_default w ↦
          none_asked key_cmp key_total key_exact s.facts.paths c.loop-place.place asked none before after
          (sym c.path_at.ensures.row ∙ ap option_copied w.in_default.is) w.all-is c.loop-place.invariant
    ]
