-- The law is a lemma.
use Rattle.internet_checksum.proofs.ModularSums.{checksum_of-modular}
use Rattle.internet_checksum.proofs.laws.checksums_are_modular.Goals as goal

pub returns : goal.returns
returns c = checksum_of-modular
