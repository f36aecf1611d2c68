-- The text that was read is answered by the session that begins; or none begins.
use Rattle.std.proofs.Common.{ℕ, List, [], sym, subst}
use Rattle.std.proofs.KnownBytes.{Appends-nil}
use Rattle.std.specs.Option.{option_map}
use Rattle.lsr_runs.specs.Sessions.{IsReady}
use Rattle.lsr_runs.specs.declared.endings.RunEnding.TheVariants as endings
use Rattle.lsr_runs.proofs.Sessions.{never_steps}
use Rattle.lsr_runs.proofs.session.run_step.Goals as goal

pub returns-in_ok-tell_ending-in-Ok : goal.returns-in_ok-tell_ending-in-Ok
returns-in_ok-tell_ending-in-Ok g c =
    let stream = option_map g.C.ByteStream.stream c.args.config in
    let input = g.R.ByteStream.stream c.args.input.now in
    let ready = subst (λ (text : List ℕ). IsReady stream input c.in-Ok.session text) (sym c.as_str.ensures.value) c.in-Ok.ensures.ready in
    let lines = c.in_ok-step_lines-in-Ok in (
      endings.Ran lines.field-0,
      lines.ensures.0,
      c.status_of.ensures,
      record { session = c.in-Ok.session; text = c.as_str.result.now; ready = ready; ends = lines.ensures.2 },
      lines.ensures.1,
      c.in_ok-tell_ending-in-Ok.ensures,
    )

pub returns-in_ok-tell_ending-in-Err : goal.returns-in_ok-tell_ending-in-Err
returns-in_ok-tell_ending-in-Err g c =
    let never = never_steps c.args.echo (option_map g.C.ByteStream.stream c.args.config) (g.R.ByteStream.stream c.args.input.now) c.in-Err.ending c.in-Err.ensures.fault in
    (c.in-Err.ending, [], c.status_of-in-Err.ensures, never, Appends-nil _, c.in_ok-tell_ending-in-Err.ensures)
