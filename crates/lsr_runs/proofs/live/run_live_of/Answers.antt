-- A file that isn't opened is unread.
use Rattle.lsr_runs.proofs.Living.{unopened_live}
use Rattle.lsr_runs.proofs.live.run_live_of.Goals as goal

pub returns-in_ok-tell_ending-in-Err : goal.returns-in_ok-tell_ending-in-Err
returns-in_ok-tell_ending-in-Err g c =
    unopened_live (g.F.FilesByName.opens c.args.files.now) (g.F.FilesByName.fails c.args.files.now) g.F.File.ByteStream.stream c.args.echo c.args.file c.in-Some.name _ _ _ _ c.in-Err.fault c.in-Some.is c.in-Err.ensures.fault c.in_ok-tell_ending-in-Err.ensures
