use Rattle.journal_files.proofs.Recorded.{one_in_each, one_recording}
use Rattle.journal_files.proofs.laws.files_spell_one_recording.Goals as goal

pub returns : goal.returns
returns c = one_recording (one_in_each c.bytes_tell_apart.ensures c.bytes_tell_apart-2.ensures c.bytes_tell_apart-3.ensures)
