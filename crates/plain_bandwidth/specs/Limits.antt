-- What is reserved of links, and their limits.
use Rattle.std.specs.Prelude.{ℕ, ◌≤◌, List}
use Rattle.lsr_facts.specs.Claims.{reserved_of}
use Rattle.lsr_facts.specs.declared.claim.Claim.{Claim}
use Rattle.lsr_facts.specs.declared.key.Key.{Key}
use Rattle.lsr_facts.specs.declared.router.Link.{Link}
use Rattle.lsr_facts.specs.declared.router.Router.{Router}
use Rattle.abstract_router.specs.Preempting.{claims_of, limit_of}
use Rattle.abstract_router.specs.States.{State}

-- on each link, at each priority, no more is reserved than its limit (RFC 3209, 4.7.3)
abbrev pub AreWithinLimits : Router → State → Type 0
AreWithinLimits r s = (link priority : ℕ) → priority ≤ 7 → reserved_of link priority (claims_of s.facts.paths s.resvs) ≤ limit_of r link

-- on this link, at each priority, no more is reserved than its limit
pub record IsWithinAt (claims : List (Key × Claim)) (link : ℕ × Link) : Type 0 where
  pub within : (priority : ℕ) → priority ≤ 7 → reserved_of link.0 priority claims ≤ link.1.limit
