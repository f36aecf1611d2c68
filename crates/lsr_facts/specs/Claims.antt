-- The bandwidth that is reserved on a link: the sum over sessions (RFC 2205, 1.3 and 2.2; RFC 3209, 2.4 and 4.7.3).
use Rattle.std.specs.Prelude.{ℕ, ◌+◌, ◌==◌, ◌&&◌, nat_le, nat_lt, Bool, true, false, if◌then◌else◌, List, [], ◌∷◌, filter, map}
use Rattle.std.specs.List.{dedup, sum_by}
use Rattle.std.specs.Ordering.{is_eq}
use Rattle.std.specs.Result.{result_unwrap_or}
use Rattle.rsvp_objects.specs.declared.values.Session.{Session}
use Rattle.rsvp_bodies.specs.Traffic.{flowspec_rate}
use Rattle.lsr_facts.specs.Orders.{session_cmp}
use Rattle.lsr_facts.specs.declared.key.Key.{Key}
use Rattle.lsr_facts.specs.declared.claim.Claim.{Claim}
use Rattle.lsr_facts.specs.declared.resv_fact.ResvFact.{ResvFact}
use Rattle.lsr_facts.specs.declared.resv_fact.ResvStyle.{ResvStyle}
use Rattle.lsr_facts.specs.declared.resv_fact.ResvStyle.TheVariants.{FixedFilter, SharedExplicit}

-- what a reservation claims that is kept at this priority
abbrev pub claim_of : ResvFact → ℕ → Claim
claim_of fact holding = record { link = fact.link; style = fact.style; rate = result_unwrap_or (flowspec_rate fact.flowspec) 0; holding = holding }

-- the LSPs of the session share what is reserved (SE)
abbrev pub is_shared : ResvStyle → Bool
is_shared FixedFilter = false
is_shared SharedExplicit = true

-- the LSPs of the session have bandwidth of their own (FF)
abbrev pub is_fixed : ResvStyle → Bool
is_fixed FixedFilter = true
is_fixed SharedExplicit = false

-- they are one session
abbrev pub is_same_session : Session → Session → Bool
is_same_session a b = is_eq (session_cmp a b)

-- the claim is one of the session's
abbrev pub is_of : Session → Key × Claim → Bool
is_of session claim = is_same_session session claim.0.session

-- the greatest of numbers, 0 of none
abbrev pub greatest : List ℕ → ℕ
greatest [] = 0
greatest (n ∷ more) = if nat_lt n (greatest more) then greatest more else n

-- what its shared claims take together: the greatest rate (RFC 2205, 1.3 and 2.2)
abbrev pub shared_rate : Session → List (Key × Claim) → ℕ
shared_rate session claims = greatest (map (λ claim. claim.1.rate) (filter (λ claim. is_of session claim && is_shared claim.1.style) claims))

-- what its fixed claims take: the sum of their rates
abbrev pub fixed_rate : Session → List (Key × Claim) → ℕ
fixed_rate session claims = sum_by (λ claim. claim.1.rate) (filter (λ claim. is_of session claim && is_fixed claim.1.style) claims)

-- what a session takes
abbrev pub session_rate : List (Key × Claim) → Session → ℕ
session_rate claims session = shared_rate session claims + fixed_rate session claims

-- the sessions that have claims, each once: in the order of keys those of a session stand together
abbrev pub sessions_of : List (Key × Claim) → List Session
sessions_of claims = dedup is_same_session (map (λ claim. claim.0.session) claims)

-- what claims take together: the sum over sessions
unfoldable pub rate_of_all : List (Key × Claim) → ℕ
rate_of_all claims = sum_by (session_rate claims) (sessions_of claims)

-- the claim is on the link, and is kept at this priority or a better one
abbrev pub counts : ℕ → ℕ → Key × Claim → Bool
counts link priority claim = (claim.1.link == link) && nat_le claim.1.holding priority

-- The bandwidth that is reserved on a link at a priority, in bytes per second.
unfoldable pub reserved_of : ℕ → ℕ → List (Key × Claim) → ℕ
reserved_of link priority claims = rate_of_all (filter (counts link priority) claims)
