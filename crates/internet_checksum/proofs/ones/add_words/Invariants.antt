use Rattle.std.proofs.Common.{◌≡◌, ◌<◌, ◌^◌, ℕ, length, fold, get_or}
use Rattle.internet_checksum.specs.OnesSums.{ones_add, words_of}
use Rattle.internet_checksum.specs.WideSums.{narrowed}
use Rattle.internet_checksum.proofs.ones.add_words.Given as goal

-- what is left comes to the same, behind the words that the total stands for
abbrev pub invariant-loop-rest : goal.invariant-loop-rest
invariant-loop-rest l =
    (fold ones_add (narrowed l.total) (words_of l.rest) ≡ fold ones_add l.sum (words_of l.bytes))
    × (l.total < 2 ^ 64)
    × ((i : ℕ) → get_or l.rest i 0 < 256)

abbrev pub decreases-loop-rest : goal.decreases-loop-rest
decreases-loop-rest l = length l.rest
