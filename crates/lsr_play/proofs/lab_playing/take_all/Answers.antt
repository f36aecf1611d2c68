-- The next line is taken too, or ends the run.
use Rattle.std.proofs.Common.{rules, arith}
use Rattle.lsr_play.proofs.LabLaws.{tells_none, tells_then}
use Rattle.lsr_play.proofs.lab_playing.take_all.Goals as goal

pub next_line-requires-text-text : goal.next_line-requires-text-text
next_line-requires-text-text g c = λ _. c.loop-line.invariant.utf8

pub loop-line-init : goal.loop-line-init
loop-line-init g c = record { tells = tells_none _ _ _; room = omega arith; utf8 = search rules }

pub loop-line-preserved : goal.loop-line-preserved
loop-line-preserved g c =
    let before = c.loop-line.invariant in
    record {
      tells = tells_then _ _ _ _ _ _ _ before.tells c.in_ok-taken.ensures;
      room = omega (arith, before.room, c.in-Some.ensures.shorter);
      utf8 = search rules;
    }

pub returns-in-Bad : goal.returns-in-Bad
returns-in-Bad g c = tells_then _ _ _ _ _ _ _ c.loop-line.invariant.tells c.in_ok-taken.ensures

pub returns : goal.returns
returns g c = c.loop-line.invariant.tells
