-- Claims but for the priorities that they are kept at.
use Rattle.lsr_facts.specs.declared.key.Key.{Key}
use Rattle.lsr_facts.specs.declared.claim.Claim.{Claim}

-- the claim as if it were kept at the best priority: two that are alike so differ in their holding priorities alone
abbrev pub but_holding : Key × Claim → Key × Claim
but_holding claim = (claim.0, record claim.1 { holding = 0 })
