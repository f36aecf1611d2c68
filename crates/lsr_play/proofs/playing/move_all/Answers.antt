-- The lines before the rest were played; the next one is played too, or ends the run.
use Rattle.std.proofs.Common.{rules, arith, sym, ap, ◌∙◌, ◌++◌, ◌∷◌, ◌+◌, [], subst, append_assoc, length-append}
use Rattle.std.proofs.KnownBytes.{Appends-kept, Appends-trans, Keeps-refl, append_known-grown}
use Rattle.line_streams.specs.Cuts.{lines_of}
use Rattle.lsr_lines.proofs.Stepping.{none_by, served_all, told_none}
use Rattle.lsr_play.specs.Playing.{PlaysLines, PlaysSome}
use Rattle.lsr_play.proofs.PlayLaws.{plays_push}
use Rattle.lsr_play.proofs.playing.move_all.Goals as goal

pub next_line-requires-text-text : goal.next_line-requires-text-text
next_line-requires-text-text g c = λ _. c.loop-line.invariant.utf8

pub returns-in-NoMove : goal.returns-in-NoMove
returns-in-NoMove g c =
    let before = c.loop-line.invariant in
    let became = rw c.in-NoMove.is at c.move_line-moved.ensures in
    let some : PlaysSome c.args.beginning.now.declared.names c.args.world.now (lines_of c.args.beginning.now.rest.now) before.printed =
    record { played = before.played; left = lines_of c.loop-line.rest.now; after = c.loop-line.world; parts = before.parts; plays = before.plays } in (
      before.printed,
      told_none _ _ _ _ _ before.told (Appends-kept _ _ _ _ (append_known-grown _ _ _ _ _ (Keeps-refl _) became.1) c.in_ok-put_full.ensures) became.2.0,
      (some, lines_of c.in-Some.others.now, c.in-Some.ensures.line, ap (λ n. n + 1) before.counted, became.2.1),
    )

pub returns-in-Memory : goal.returns-in-Memory
returns-in-Memory g c =
    let before = c.loop-line.invariant in
    let became = rw c.in-Memory.is at c.move_line-moved.ensures in
    let some : PlaysSome c.args.beginning.now.declared.names c.args.world.now (lines_of c.args.beginning.now.rest.now) before.printed =
    record { played = before.played; left = lines_of c.loop-line.rest.now; after = c.loop-line.world; parts = before.parts; plays = before.plays } in (
      before.printed,
      told_none _ _ _ _ _ before.told (Appends-kept _ _ _ _ (append_known-grown _ _ _ _ _ (Keeps-refl _) became.1) c.in_ok-put_full.ensures) became.2,
      (some, c.in-Some.line.now, lines_of c.in-Some.others.now, c.in-Some.ensures.line),
    )

pub loop-line-preserved : goal.loop-line-preserved
loop-line-preserved g c =
    let before = c.loop-line.invariant in
    let became = rw c.in-Done.is at c.move_line-moved.ensures in
    let line = c.in-Some.line.now in
    record {
      played = before.played ++ (line ∷ []);
      printed = before.printed ++ became.0;
      parts = before.parts ∙ ap (λ l. before.played ++ l) c.in-Some.ensures.line ∙ sym (append_assoc before.played (line ∷ []) (lines_of c.in-Some.others.now));
      plays = plays_push _ _ _ _ _ _ _ _ before.plays became.2;
      told = Appends-trans _ _ _ _ _ before.told (Appends-kept _ _ _ _ (append_known-grown _ _ _ _ _ (Keeps-refl _) became.1) c.in_ok-put_full.ensures);
      counted = omega (arith, before.counted, length-append before.played (line ∷ []));
      room = omega (arith, before.room, c.in-Some.ensures.shorter);
      utf8 = search rules;
    }

pub returns : goal.returns
returns g c =
    let before = c.loop-line.invariant in
    let text = c.args.beginning.now.rest.now in
    let all = served_all text c.loop-line.rest.now before.played before.parts (c.next_line.ensures.end.0 (none_by c.next_line.result c.in_default.not-Some)) in (
      before.printed,
      before.told,
      (c.loop-line.world, subst (λ lines. PlaysLines c.args.beginning.now.declared.names c.args.world.now lines before.printed c.loop-line.world) (sym all) before.plays),
    )
