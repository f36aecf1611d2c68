use Rattle.std.proofs.Common.{◌+◌, ℕ, arith, ap, fold, ◌∙◌}
use Rattle.internet_checksum.specs.OnesSums.{ones_add, words_of}
use Rattle.internet_checksum.proofs.WideSums.{eight, narrowed_word}
use Rattle.internet_checksum.proofs.ones.add_words.Goals as goal

pub loop-rest-init : goal.loop-rest-init
loop-rest-init c =
    let start = narrowed_word c.args.sum (omega (arith, c.ranges.sum.fits)) in (
      rw c.from-total.ensures (ap (λ (s : ℕ). fold ones_add s (words_of c.args.bytes.now)) start),
      c.from-total.type_inv,
      λ i. let byte = c.type_inv.bytes i in omega (arith, byte.fits),
    )

pub loop-rest-preserved : goal.loop-rest-preserved
loop-rest-preserved c =
    let rest = c.loop-rest.rest.now in
    let more = eight c.loop-rest.total c.read_u64.result rest c.loop-rest-test.true c.loop-rest.invariant.1 c.loop-rest.invariant.2 c.read_u64.ensures in (
      rw (c.split_at.ensures.back, c.add_wide-total.ensures) (more ∙ c.loop-rest.invariant.0),
      c.add_wide-total.type_inv,
      λ i. let place = c.split_at.ensures.by_index.2 i 0 in let byte = c.loop-rest.invariant.2 (8 + i) in omega (arith, place, byte),
    )
