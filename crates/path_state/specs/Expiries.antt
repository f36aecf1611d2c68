-- When a path is to be looked at.
use Rattle.std.specs.Prelude.{ℕ, min, if◌then◌else◌, List, [], ◌∷◌, Option, None, Some}
use Rattle.std.specs.declared.net.ipv4_addr.Ipv4Addr.{Ipv4Addr}
use Rattle.lsr_facts.specs.Lifetimes.{begins_here}
use Rattle.lsr_facts.specs.declared.path_fact.Origin.{Origin}
use Rattle.lsr_facts.specs.declared.path_fact.PathFact.{PathFact}
use Rattle.lsr_facts.specs.declared.path_fact.Role.{Role}

-- the least of a moment and the expiries of origins
abbrev pub earliest : ℕ → List (Ipv4Addr × Origin) → ℕ
earliest moment [] = moment
earliest moment (origin ∷ origins) = earliest (min moment origin.1.expiry) origins

-- when the first origin expires; where there is none, a path that doesn't begin here goes at any moment
abbrev pub first_of : Role → List (Ipv4Addr × Origin) → Option ℕ
first_of role [] = if begins_here role then None else Some 0
first_of role (origin ∷ origins) = Some (earliest origin.1.expiry origins)

-- the first moment that takes something away from a path
abbrev pub first_expiry : PathFact → Option ℕ
first_expiry fact = first_of fact.role fact.origins
