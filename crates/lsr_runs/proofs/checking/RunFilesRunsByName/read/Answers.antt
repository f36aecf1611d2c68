-- Its bytes spell no run.
use Rattle.lsr_runs.proofs.Checked.{unread_fails}
use Rattle.lsr_runs.proofs.checking.RunFilesRunsByName.read.Goals as goal

pub returns-in-Ok-clause-fault : goal.returns-in-Ok-clause-fault
returns-in-Ok-clause-fault g c =
    unread_fails (g.F.FilesByName.opens c.args.self.now.files.now) (g.F.FilesByName.fails c.args.self.now.files.now) g.F.File.ByteStream.stream c.args.name.now c.in-Ok.bytes.items c.as_slice.result.now c.run_in.result
    c.as_slice.ensures.value c.in-Ok.ensures.bytes c.run_in.ensures.fault
