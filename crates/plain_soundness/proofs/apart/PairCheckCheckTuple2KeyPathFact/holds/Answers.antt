use Rattle.std.proofs.Common.{◌≡◌, false, is_eq}
use Rattle.lsr_facts.specs.Orders.{key_cmp}
use Rattle.plain_soundness.specs.Apart.{IsNoStackOf}
use Rattle.plain_soundness.proofs.Pairs.{no_stack}
use Rattle.plain_bandwidth.proofs.Telling.{told}
use Rattle.plain_soundness.proofs.apart.PairCheckCheckTuple2KeyPathFact.holds.Goals as goal

pub returns : goal.returns
returns c =
    let path = c.args.self.now.path.now in
    let other = c.args.other.now in
    let two : is_eq (key_cmp path.0 other.0) ≡ false = cc in
    told (IsNoStackOf path.0 other) _ _ _ _ c.as_slice.ensures.rows c.holds_of_all.ensures (no_stack path other c.as_slice.ensures.sorted two)
