-- The file that is written holds what the session recorded.
use Rattle.std.proofs.lemmas.Result.{on_ok_weaker}
use Rattle.lsr_runs.proofs.Recorded.{holds_written}
use Rattle.lsr_runs.proofs.recording.keep_journal.Goals as goal

pub returns : goal.returns
returns g c =
    on_ok_weaker c.write.result
    (λ held. holds_written (g.F.WritesFiles.holds c.args.files.now) c.args.name.now c.args.text.now c.args.session.now.journal c.new-bytes.result.items c.write_journal.new.out.items c.as_slice.result.now
    c.new-bytes.ensures.items c.in_ok-write_journal.ensures.ok c.as_slice.ensures.value held) c.write.ensures
