-- The session that begins serves the lines, and its journal is written.
use Rattle.std.proofs.Common.{ℕ, List, inl, string_bytes, subst, sym}
use Rattle.std.proofs.KnownBytes.{Appends-trans}
use Rattle.std.specs.Option.{option_map}
use Rattle.lsr_runs.specs.Recording.{IsRecordable}
use Rattle.lsr_runs.proofs.Recorded.{ran_recorded}
use Rattle.lsr_runs.proofs.recording.run_recorded.Goals as goal

pub returns : goal.returns
returns g c =
    let stream = option_map g.C.ByteStream.stream c.args.config in
    let input = g.R.ByteStream.stream c.args.input.now in
    let ready = c.in-Ok.ensures.ready in
    let said = subst (λ (configured : List ℕ). IsRecordable stream input c.in-Ok.ready.0 configured (string_bytes c.in-Ok.ready.2)) (sym c.said.ensures) ready in
    let recordable = subst (λ (text : List ℕ). IsRecordable stream input c.in-Ok.ready.0 c.said.result.now text) (sym c.as_str.ensures.value) said in
    let ran = c.in_ok-session.ensures in
    inl (
      c.in_ok-session.stop,
      c.keep_journal-kept.result,
      ran.0,
      ran_recorded (g.F.WritesFiles.holds c.args.files.now) c.args.journal.now c.args.echo stream input ran.0 c.in_ok-session.stop c.keep_journal-kept.result c.in-Ok.ready.0 c.in_ok-session.session c.said.result.now c.as_str.result.now
          recordable ran.2 c.keep_journal-kept.ensures,
      c.recorded_status.ensures,
      ran.1,
      Appends-trans _ _ _ _ _ c.in_ok-tell_stop.ensures c.in_ok-tell_kept.ensures,
    )
