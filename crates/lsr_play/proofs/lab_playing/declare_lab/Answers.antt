-- The next line is passed over or declares something; or it does neither, or none is left.
use Rattle.std.proofs.Common.{rules, arith, refl}
use Rattle.lsr_play.proofs.LabLaws.{among_more}
use Rattle.lsr_play.proofs.lab_playing.declare_lab.Goals as goal

pub loop-line-preserved : goal.loop-line-preserved
loop-line-preserved c =
    among_more c.args.text.now c.loop-line.rest.now c.in-Some.line.now c.in-Some.others.now c.loop-line.count c.loop-line.declared c.pass_or_declare.new.declared c.loop-line.invariant (search rules) c.in-Some.ensures.line (omega (arith, c.in-Some.ensures.shorter)) (search rules)
