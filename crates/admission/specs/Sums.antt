-- What a sum of claims says, which are added to it in the order of their keys.
use Rattle.std.specs.Prelude.{◌≡◌, ℕ, if◌then◌else◌, T, List, [], ◌∷◌, ◌++◌, Option, Some, None}
use Rattle.std.specs.FinMap.Entries.{is_sorted}
use Rattle.std.specs.Option.{option_map_or, option_or}
use Rattle.rsvp_objects.specs.declared.values.Session.{Session}
use Rattle.lsr_facts.specs.Orders.{key_cmp}
use Rattle.lsr_facts.specs.declared.key.Key.{Key}
use Rattle.lsr_facts.specs.Claims.{fixed_rate, is_same_session, rate_of_all, shared_rate}
use Rattle.lsr_facts.specs.declared.claim.Claim.{Claim}
use Rattle.admission.specs.declared.run.SessionRate.{SessionRate}
use Rattle.admission.specs.declared.sum.Sum.{Sum}

-- the session of the last claim: of those behind the first, or else of the first
abbrev pub last_session : List (Key × Claim) → Option Session
last_session [] = None
last_session (claim ∷ claims) = option_or (last_session claims) (Some claim.0.session)

-- The sum is that of these claims: what they take together, and of the last one's session what it shares.
pub record IsSumOf (claims : List (Key × Claim)) (sum : Sum) : Type 0 where
  pub total : sum.total ≡ rate_of_all claims
  pub session : sum.session ≡ last_session claims
  pub shared : sum.shared ≡ option_map_or (λ session. shared_rate session claims) (last_session claims) 0

-- The rate is that of these claims, which are of this session.
pub record IsRateOf (session : Session) (claims : List (Key × Claim)) (rate : SessionRate) : Type 0 where
  pub shared : rate.shared ≡ shared_rate session claims
  pub fixed : rate.fixed ≡ fixed_rate session claims

-- These claims were added to a sum: it is that of the claims before and these, where they stand in the order of keys.
abbrev pub AddsClaims : Sum → List (Key × Claim) → Sum → Type 0
AddsClaims before added after =
    (claims : List (Key × Claim)) → T (is_sorted key_cmp (claims ++ added)) → IsSumOf claims before → IsSumOf (claims ++ added) after

-- what a session shares by a sum: nothing, if it isn't the one of the last claim
abbrev pub shared_by : Sum → Session → ℕ
shared_by sum session = option_map_or (λ last. if is_same_session last session then sum.shared else 0) sum.session 0
