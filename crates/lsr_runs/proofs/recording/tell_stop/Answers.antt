-- Where all lines were served, and where the journal is full, nothing is told.
use Rattle.std.proofs.Common.{sym, subst}
use Rattle.std.proofs.KnownBytes.{Appends-nil}
use Rattle.std.specs.Io.KnownBytes.{Appends}
use Rattle.lsr_lines.specs.declared.run.RunStop.{RunStop}
use Rattle.lsr_runs.specs.Recording.{stop_text}
use Rattle.lsr_runs.proofs.recording.tell_stop.Goals as goal

pub returns-in-Lines-Done : goal.returns-in-Lines-Done
returns-in-Lines-Done g c =
    let done = rw c.in-Lines-Done.is at c.in-Lines-Done.field-0-is in
    rw (c.in-Lines-Done.is, done) (Appends-nil _)

pub returns-in-Session : goal.returns-in-Session
returns-in-Session g c =
    let error = g.E.Write.contents c.args.error.now in
    subst (λ (stop : RunStop). Appends error error (stop_text stop)) (sym c.in-Session.is) (Appends-nil _)
