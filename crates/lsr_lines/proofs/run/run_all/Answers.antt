-- The lines before the rest were served; the next one is served too, or ends the run; or the session is over.
use Rattle.std.proofs.Common.{rules, arith, sym, ap, refl, ◌∙◌, ◌++◌, ◌∷◌, ◌+◌, [], List, ℕ, subst, append_assoc, length-append}
use Rattle.std.proofs.KnownBytes.{Appends-trans}
use Rattle.line_streams.specs.Cuts.{lines_of}
use Rattle.lsr_lines.specs.Runs.{answers_while}
use Rattle.lsr_lines.specs.Steps.{Prints, PrintsSome}
use Rattle.lsr_lines.proofs.Serving.{served_while}
use Rattle.lsr_lines.proofs.Stepping.{prints_push, told_none, none_by, served_all}
use Rattle.lsr_lines.proofs.run.run_all.Goals as goal

pub next_line-requires-text-text : goal.next_line-requires-text-text
next_line-requires-text-text g c = λ _. c.lines.invariant.utf8

pub returns-in_default : goal.returns-in_default
returns-in_default g c =
    let before = c.lines.invariant in
    let all = served_all c.args.text.now c.lines.rest.now before.served before.parts (c.next_line.ensures.end.0 (none_by c.next_line.result c.in_default.not-Some)) in (
      before.printed,
      before.told,
      (subst (λ (lines : List (List ℕ)). Prints (answers_while g.S.Serves.serves g.S.Serves.over) c.args.echo c.args.session lines before.printed c.lines.session) (sym all) before.prints, sym c.is_over.ensures ∙ c.lines-test.true),
    )

pub returns-in-NoRequest : goal.returns-in-NoRequest
returns-in-NoRequest g c =
    let before = c.lines.invariant in
    let became = rw c.in-NoRequest.is at c.in_ok-next.ensures in
    let some : PrintsSome (answers_while g.S.Serves.serves g.S.Serves.over) c.args.echo c.args.session (lines_of c.args.text.now) before.printed =
    record { served = before.served; left = lines_of c.lines.rest.now; after = c.lines.session; parts = before.parts; prints = before.prints } in (
      before.printed,
      told_none _ _ _ _ _ before.told became.1 became.2.0,
      (some, lines_of c.in-Some.others.now, sym c.is_over.ensures ∙ c.lines-test.true, c.in-Some.ensures.line, ap (λ n. n + 1) before.count, became.2.1, became.2.2),
    )

pub returns-in-Memory : goal.returns-in-Memory
returns-in-Memory g c =
    let before = c.lines.invariant in
    let became = rw c.in-Memory.is at c.in_ok-next.ensures in
    let some : PrintsSome (answers_while g.S.Serves.serves g.S.Serves.over) c.args.echo c.args.session (lines_of c.args.text.now) before.printed =
    record { served = before.served; left = lines_of c.lines.rest.now; after = c.lines.session; parts = before.parts; prints = before.prints } in (
      before.printed,
      told_none _ _ _ _ _ before.told became.1 became.2.0,
      (some, c.in-Some.line.now, lines_of c.in-Some.others.now, sym c.is_over.ensures ∙ c.lines-test.true, c.in-Some.ensures.line, became.2.1, became.2.2),
    )

pub lines-preserved : goal.lines-preserved
lines-preserved g c =
    let before = c.lines.invariant in
    let became = rw c.in-Done.is at c.in_ok-next.ensures in
    let line = c.in-Some.line.now in
    record {
      served = before.served ++ (line ∷ []);
      printed = before.printed ++ became.0;
      parts = before.parts ∙ ap (λ l. before.served ++ l) c.in-Some.ensures.line ∙ sym (append_assoc before.served (line ∷ []) (lines_of c.in-Some.others.now));
      prints = prints_push _ _ _ _ _ _ _ _ _ before.prints (served_while g.S.Serves.serves g.S.Serves.over c.args.echo c.lines.session line became.0 c.in_ok-next.next (sym c.is_over.ensures ∙ c.lines-test.true) became.2);
      told = Appends-trans _ _ _ _ _ before.told became.1;
      count = ap (λ n. n + 1) before.count ∙ sym (length-append before.served (line ∷ []));
      room = omega (arith, before.room, c.in-Some.ensures.shorter);
      utf8 = search rules;
    }

pub returns : goal.returns
returns g c =
    let before = c.lines.invariant in
    let some : PrintsSome (answers_while g.S.Serves.serves g.S.Serves.over) c.args.echo c.args.session (lines_of c.args.text.now) before.printed =
    record { served = before.served; left = lines_of c.lines.rest.now; after = c.lines.session; parts = before.parts; prints = before.prints } in (
      before.printed,
      before.told,
      (some, refl, sym c.is_over.ensures ∙ c.lines-test.false),
    )
