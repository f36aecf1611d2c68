-- Two reservations, and the styles in which they are.
use Rattle.std.specs.Prelude.{◌≡◌, true}
use Rattle.lsr_facts.specs.Claims.{is_same_session}
use Rattle.lsr_facts.specs.Conflicts.{is_same_style}
use Rattle.lsr_facts.specs.declared.key.Key.{Key}
use Rattle.lsr_facts.specs.declared.resv_fact.ResvFact.{ResvFact}

-- they are of one style, if they are of one session on one link (RFC 2205, 1.3)
abbrev pub ArePairOfOneStyle : Key × ResvFact → Key × ResvFact → Type 0
ArePairOfOneStyle resv other = is_same_session resv.0.session other.0.session ≡ true → resv.1.link ≡ other.1.link → is_same_style resv.1.style other.1.style ≡ true
