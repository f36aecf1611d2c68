-- One key more.
use Rattle.std.proofs.Common.{◌<◌, arith, length, refl}
use Rattle.plain_soundness.proofs.Telling.{other_key, same_key}
use Rattle.plain_soundness.proofs.keys.have_same_keys.Goals as goal

pub returns-then-not-is_same : goal.returns-then-not-is_same
returns-then-not-is_same g c =
    let within : c.loop-i.i < length c.args.others.now = omega arith in (
      λ passes. absurd (let e = passes in cc),
      λ same. absurd (other_key c.args.rows.now c.args.others.now c.loop-i.i c.index-rows-i.result c.index-others-i.result c.loop-i-test.true within c.index-rows-i.is c.index-others-i.is
          (λ e. let f = c.is_same.ensures.1 e in let not = c.if-not-is_same.true in cc) c.loop-i.invariant same),
    )

pub loop-i-preserved : goal.loop-i-preserved
loop-i-preserved g c =
    let within : c.loop-i.i < length c.args.others.now = omega arith in
    same_key c.args.rows.now c.args.others.now c.loop-i.i c.index-rows-i.result c.index-others-i.result c.loop-i-test.true within c.index-rows-i.is c.index-others-i.is (c.if-not-is_same.ensures.0 refl) c.loop-i.invariant
