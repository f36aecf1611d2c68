use Rattle.journal_files.proofs.Standing.{standing_told}
use Rattle.journal_files.proofs.laws.standing_routers_are_told.Goals as goal

pub returns : goal.returns
returns c = standing_told
