use Rattle.std.proofs.Common.{◌≡◌, length, fold}
use Rattle.internet_checksum.specs.OnesSums.{ones_add, words_of}
use Rattle.internet_checksum.proofs.ones.add_each.Given as goal

abbrev pub invariant-loop-rest : goal.invariant-loop-rest
invariant-loop-rest l = fold ones_add l.total (words_of l.rest) ≡ fold ones_add l.sum (words_of l.bytes)

abbrev pub decreases-loop-rest : goal.decreases-loop-rest
decreases-loop-rest l = length l.rest
