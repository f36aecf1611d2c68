-- The word's bytes were decoded.
use Rattle.std.proofs.Common.{List, ℕ, subst}
use Rattle.lsr_decode.specs.Decoding.{Decodes}
use Rattle.lsr_decode.proofs.Showing.{told_for}
use Rattle.lsr_decode.proofs.decoding.run_decode.Goals as goal

pub returns : goal.returns
returns g c =
    let decoded = c.decode_digits-decoded.result in
    let decodes = subst (λ (w : List ℕ). Decodes c.args.fields w decoded) c.as_bytes.ensures.value c.decode_digits-decoded.ensures in
    told_for c.tell_decoded.result c.args.fields c.args.word.now decoded _ _ _ _ decodes c.tell_decoded.ensures.status c.tell_decoded.ensures.shown c.tell_decoded.ensures.told
