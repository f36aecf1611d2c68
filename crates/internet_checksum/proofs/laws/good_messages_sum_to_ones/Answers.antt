-- The law is a lemma.
use Rattle.internet_checksum.proofs.SummedMessages.{good_sums_to_ones}
use Rattle.internet_checksum.proofs.laws.good_messages_sum_to_ones.Goals as goal

pub returns : goal.returns
returns c = good_sums_to_ones
