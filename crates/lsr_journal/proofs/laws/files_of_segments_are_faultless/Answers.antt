use Rattle.lsr_journal.proofs.Faultless.{file_faultless}
use Rattle.lsr_journal.proofs.laws.files_of_segments_are_faultless.Goals as goal

pub returns : goal.returns
returns c = file_faultless c.files_spell_one_recording.ensures
