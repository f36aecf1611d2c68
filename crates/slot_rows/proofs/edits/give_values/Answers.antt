use Rattle.std.proofs.Common.{◌≡◌, ◌≤◌, ◌∷◌, ◌++◌, [], Some, length, reverse, rules, sym, ◌∙◌, arith}
use Rattle.std.specs.FinMap.Entries.{put}
use Rattle.sorted_rows.specs.InTurn.{given, in_turn}
use Rattle.sorted_rows.proofs.Passes.{given_next, length_in_turn}
use Rattle.slot_rows.proofs.edits.give_values.Goals as goal

pub give-requires : goal.give-requires
give-requires g c =
    let cmp = g.K.Ord.cmp in
    let key = c.in-Some.key in
    let value = c.in-Some-now.value in
    let rows = g.R.EditRows.rows c.loop-key.table in
    let left = c.pop.new.self.items in
    let popped : c.loop-key.edits.items ≡ left ++ (key, Some value) ∷ [] = search rules in
    let same = sym (given_next cmp left c.loop-key.edits.items key (Some value) rows popped) ∙ c.loop-key.invariant in
    let fits : length (in_turn (given cmp) (reverse left) (put cmp key value rows)) ≤ g.R.EditRows.most = rw same c.requires in
    omega (arith, fits, length_in_turn cmp (reverse left) (put cmp key value rows))
