-- The move is one thing that is done.
use Rattle.std.proofs.Common.{inl, subst}
use Rattle.lsr_play.specs.Making.{MakesMove}
use Rattle.lsr_play.proofs.LabLaws.{tells_one}
use Rattle.lsr_play.proofs.lab_playing.make.Goals as goal

pub returns : goal.returns
returns g c =
    let made = c.in_ok-make_move.ensures.made in
    let act = subst (λ world. MakesMove c.args.declared.now.names world c.args.one made.0 c.make_move.new.world) c.remember.ensures made.2 in
    tells_one _ _ _ _ _ _ _ _ (inl (c.args.one, act)) made.1 c.in_ok-put_full.ensures
