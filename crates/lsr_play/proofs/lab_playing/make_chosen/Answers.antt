-- The move stands after the line that says it; a loss does nothing.
use Rattle.std.proofs.Common.{◌≡◌, ◌++◌, ◌∙◌, rules, subst}
use Rattle.lsr_play.specs.Chosen.{chosen_line}
use Rattle.lsr_play.specs.Making.{MakesMove}
use Rattle.lsr_play.proofs.LabLaws.{tells_chosen, tells_none, tells_to}
use Rattle.lsr_play.proofs.lab_playing.make_chosen.Goals as goal

pub returns-in_default : goal.returns-in_default
returns-in_default g c = tells_to _ _ _ _ _ _ c.pick.ensures (tells_none _ _ _)

pub returns : goal.returns
returns g c =
    let made = c.in_ok-make_move.ensures.made in
    let names = c.args.declared.now.names in
    let said : c.extend_from_slice.new.self.items ≡ c.args.block.now.items ++ chosen_line names c.in-Some.one = search rules in
    let act = subst (λ world. MakesMove names world c.in-Some.one made.0 c.make_move.new.world) (c.remember.ensures ∙ c.pick.ensures) made.2 in
    tells_chosen _ _ _ _ _ _ _ _ _ _ said made.1 act c.in_ok-put_full.ensures
