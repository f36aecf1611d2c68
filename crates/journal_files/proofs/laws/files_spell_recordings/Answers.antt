use Rattle.std.proofs.Common.{refl}
use Rattle.journal_files.proofs.laws.files_spell_recordings.Goals as goal

pub returns : goal.returns
returns c = λ format r is fits. record { format = format; parts = refl; fits = fits; recording = is }
