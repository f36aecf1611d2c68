-- What follows the format's number.
use Rattle.journal_files.proofs.Recorded.{file_read}
use Rattle.journal_files.proofs.recordings.read_segment.Goals as goal

pub returns : goal.returns
returns c = file_read c.in-Some.format c.args.bytes.now c.in-Some.body.now c.in-Some.ensures c.read_body.result c.read_body.ensures
