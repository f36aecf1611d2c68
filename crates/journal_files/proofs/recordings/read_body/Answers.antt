-- The recording of what takes all the bytes.
use Rattle.std.proofs.lemmas.Result.{err_from_is_err_and}
use Rattle.journal_files.proofs.Recorded.{body_read, body_unread, fits_untold}
use Rattle.journal_files.proofs.recordings.read_body.Goals as goal

pub returns-in_err-stored : goal.returns-in_err-stored
returns-in_err-stored c =
    let p = err_from_is_err_and c.from_residual.result c.from_residual.ensures.1 in
    rw (p.1, p.2) (body_unread c.args.format c.args.body.now _ c.in_err-stored.ensures)

pub recording_of-requires : goal.recording_of-requires
recording_of-requires c = fits_untold c.args.format c.in_ok-stored.stored c.in_ok-stored.ensures.1

pub returns : goal.returns
returns c = body_read c.args.format c.args.body.now c.in_ok-stored.stored c.in_ok-stored.ensures c.recording_of.result c.recording_of.ensures
