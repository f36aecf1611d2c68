-- The laws are lemmas.
use Rattle.internet_checksum.proofs.WrittenFields.{checksum_of-sent, checksum_of-with_checksum, written_is_good}
use Rattle.internet_checksum.proofs.laws.written_checksums_are_good.Goals as goal

pub returns-clause-sent : goal.returns-clause-sent
returns-clause-sent c = checksum_of-sent

pub returns-clause-ignored : goal.returns-clause-ignored
returns-clause-ignored c = checksum_of-with_checksum

pub returns-clause-good : goal.returns-clause-good
returns-clause-good c = written_is_good
