-- The line that was asked for stands before its answer.
use Rattle.std.proofs.Common.{rules, refl, sym, ◌∙◌, ◌++◌, [], inl, inr}
use Rattle.std.proofs.KnownBytes.{Appends-nil, Appends-trans}
use Rattle.lsr_lines.specs.Runs.{answers_of}
use Rattle.lsr_lines.specs.Steps.{echo_text}
use Rattle.lsr_lines.proofs.Stepping.{answered_line, untold_line}
use Rattle.lsr_lines.proofs.run.serve_one.Goals as goal

pub returns-in_default-Ok-Some : goal.returns-in_default-Ok-Some
returns-in_default-Ok-Some g c =
    let line = c.args.line.now in
    let kept = sym c.is_passed.ensures ∙ c.if-is_passed.false in
    let asks = rw c.in-Ok-Some.field-0-is at c.in-Ok-Some.ensures.request in (
      echo_text c.args.echo line ++ c.as_bytes.result.now,
      Appends-trans _ _ _ _ _ (search rules) c.in_ok-write_all-in_default-Ok-Some.ensures.bytes,
      inl (answered_line (answers_of g.S.Serves.serves) c.args.echo c.args.session line c.serve.result.0 c.in-Ok-Some.request c.as_bytes.result.now kept asks (search rules)),
    )

pub returns : goal.returns
returns g c =
    let line = c.args.line.now in
    let kept = sym c.is_passed.ensures ∙ c.if-is_passed.false in
    let asks = rw c.in-Ok-Some.field-0-is at c.in-Ok-Some.ensures.request in (
      [],
      Appends-nil _,
      (refl, inr (c.in-Ok-Some.request, asks), untold_line (answers_of g.S.Serves.serves) c.args.echo c.args.session line c.serve.result.0 c.in-Ok-Some.request kept asks (search rules)),
    )
