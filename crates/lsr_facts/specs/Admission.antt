-- Which requests fit, and who gives way to them (RFC 2205, 2.5 and B, 1; RFC 3209, 4.7.3).
use Rattle.std.specs.Prelude.{ℕ, ◌==◌, ◌&&◌, ◌++◌, not, nat_le, nat_lt, Bool, if◌then◌else◌, List, [], ◌∷◌, filter, map, reverse}
use Rattle.std.specs.FinMap.Entries.{put, where_key}
use Rattle.std.specs.List.{list_any}
use Rattle.std.specs.Ordering.{is_eq}
use Rattle.lsr_facts.specs.Orders.{key_cmp}
use Rattle.lsr_facts.specs.declared.key.Key.{Key}
use Rattle.lsr_facts.specs.declared.claim.Claim.{Claim}
use Rattle.lsr_facts.specs.declared.claim.Request.{Request}
use Rattle.lsr_facts.specs.Claims.{reserved_of}

-- the claims once the request is granted
abbrev pub granted : Request → List (Key × Claim) → List (Key × Claim)
granted request claims = put key_cmp request.key request.claim claims

-- A request fits a link's limit where what is reserved at its setup priority, itself with it, is within that: what is
-- kept at worse priorities can be taken away.
unfoldable pub fits : ℕ → Request → List (Key × Claim) → Bool
fits limit request claims = nat_le (reserved_of request.claim.link request.setup (granted request claims)) limit

-- The claim can be taken away for the request: it is another LSP's, on the same link, and kept at a worse priority
-- than the request is set up at.
abbrev pub can_give_way : Request → Key × Claim → Bool
can_give_way request claim =
    (claim.1.link == request.claim.link) && nat_lt request.setup claim.1.holding && not (is_eq (key_cmp request.key claim.0))

-- those of a holding priority, the greater keys first
abbrev pub held_at : ℕ → List (Key × Claim) → List (Key × Claim)
held_at holding claims = reverse (filter (λ claim. claim.1.holding == holding) claims)

-- The worst priority first (RFC 3209, 4.7.3), and of one priority the greater key: so it is here, where the RFC leaves it open.
abbrev pub by_worst : List (Key × Claim) → List (Key × Claim)
by_worst claims =
    held_at 7 claims ++ held_at 6 claims ++ held_at 5 claims ++ held_at 4 claims ++ held_at 3 claims ++ held_at 2 claims ++ held_at 1 claims ++ held_at 0 claims

-- those who may have to give way to the request, in this order
abbrev pub in_turn : Request → List (Key × Claim) → List Key
in_turn request claims = map (λ claim. claim.0) (by_worst (filter (can_give_way request) claims))

-- the claims without those of these LSPs
abbrev pub without : List Key → List (Key × Claim) → List (Key × Claim)
without keys claims = where_key key_cmp (λ key. not (list_any (λ gone. is_eq (key_cmp gone key)) keys)) claims

-- it is enough for the request that these give way: what is reserved then is within the limit at every priority
unfoldable pub is_enough : ℕ → Request → List (Key × Claim) → List Key → Bool
is_enough limit request claims gone = nat_le (reserved_of request.claim.link 7 (granted request (without gone claims))) limit

-- those, and of the rest as many from its front as are needed
abbrev pub shortest : (List Key → Bool) → List Key → List Key → List Key
shortest enough gone [] = gone
shortest enough gone (next ∷ rest) = if enough gone then gone else shortest enough (gone ++ next ∷ []) rest

-- Who gives way to a request: the shortest beginning of that order that is enough.
unfoldable pub victims_of : ℕ → Request → List (Key × Claim) → List Key
victims_of limit request claims = shortest (is_enough limit request claims) [] (in_turn request claims)
