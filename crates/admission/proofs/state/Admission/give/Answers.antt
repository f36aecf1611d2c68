use Rattle.std.proofs.Common.{◌≡◌, ◌≤◌, ◌∷◌, ◌++◌, [], Some, length, reverse, rules, sym, ap, ◌∙◌, arith}
use Rattle.std.specs.FinMap.Entries.{put}
use Rattle.std.proofs.lemmas.List.{reverse-append}
use Rattle.lsr_facts.specs.Orders.{key_cmp}
use Rattle.sorted_rows.proofs.Passes.{length_in_turn}
use Rattle.sorted_rows.specs.InTurn.{given, in_turn}
use Rattle.admission.specs.Bandwidths.{resv_edits}
use Rattle.admission.proofs.state.Admission.give.Goals as goal

pub put-requires-clause-room : goal.put-requires-clause-room
put-requires-clause-room c =
    let key = c.in-Some.key in
    let fact = c.in-Some-now.fact in
    let rows = c.loop-key.self.resvs in
    let left = c.pop.new.self.items in
    let popped : c.loop-key.edits.items ≡ left ++ (key, Some (fact, c.in-Some-now.holding)) ∷ [] = search rules in
    let next = ap (λ edits. in_turn (given key_cmp) (resv_edits edits) rows) (ap reverse popped ∙ reverse-append left ((key, Some (fact, c.in-Some-now.holding)) ∷ [])) in
    let same = sym next ∙ c.loop-key.invariant.0 in
    let fits : length (in_turn (given key_cmp) (resv_edits (reverse left)) (put key_cmp key fact rows)) ≤ 1024 = rw same c.requires.room in
    omega (arith, fits, length_in_turn key_cmp (resv_edits (reverse left)) (put key_cmp key fact rows))
