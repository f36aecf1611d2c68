-- What some of a Resv's flow descriptors have led to, as it is kept.
use Rattle.std.specs.Prelude.{◌≡◌, ℕ, ◌^◌, ◌≤◌, ◌++◌, ◌||◌, ◌∷◌, [], not, Bool, true, T, List, length, Option, Some, None, is_some, IsOk}
use Rattle.std.specs.FinMap.Entries.{find, is_sorted, put, where_key}
use Rattle.std.specs.List.{AllByRecursion}
use Rattle.std.specs.Option.{option_and_then, option_to_list, unwrap_or}
use Rattle.std.specs.Ordering.{is_eq}
use Rattle.rsvp_bodies.specs.Traffic.{flowspec_rate}
use Rattle.sorted_rows.specs.Edits.{edited}
use Rattle.lsr_facts.specs.Orders.{key_cmp}
use Rattle.lsr_facts.specs.declared.key.Key.{Key}
use Rattle.lsr_facts.specs.declared.claim.Claim.{Claim}
use Rattle.lsr_facts.specs.declared.resv_fact.ResvFact.{ResvFact}
use Rattle.lsr_facts.specs.declared.router.Router.{Router}
use Rattle.abstract_paths.specs.declared.events.Output.{Output}
use Rattle.admission.specs.Bandwidths.{AreRated}
use Rattle.abstract_router.specs.Preempting.{claims_of, giving_way, request_of, told_preempted}
use Rattle.abstract_router.specs.Reserving as reserving
use Rattle.abstract_router.specs.Reserving.{key_in, resv_by}
use Rattle.abstract_router.specs.Soundness.{AreHeld}
use Rattle.abstract_router.specs.States.{State}
use Rattle.resv_arrivals.specs.declared.asked.Asked.{Asked}
use Rattle.resv_arrivals.specs.declared.progress.Progress.{Progress}
use Rattle.resv_arrivals.specs.declared.verdicts.Verdict.{Verdict}
use Rattle.resv_arrivals.specs.declared.verdicts.Verdict.TheVariants as verdicts

-- the LSP is that of the flow descriptor
abbrev pub IsOwn : Asked → Type 0
IsOwn asked = asked.key ≡ key_in asked.resv.now asked.descriptor.now

-- the reservation that it asks for at a moment
abbrev pub fact_at : ℕ → Asked → ResvFact
fact_at moment asked = resv_by moment asked.link asked.style asked.resv.now asked.descriptor.now

-- what is reserved now
abbrev pub resvs_at : State → Progress → List (Key × ResvFact)
resvs_at s p = edited key_cmp p.edits s.resvs

-- what that claims
abbrev pub claims_at : State → Progress → List (Key × Claim)
claims_at s p = claims_of s.facts.paths (resvs_at s p)

-- what the flow descriptors have led to
abbrev pub reached : State → Progress → reserving.Progress
reached s p = record { state = record s { resvs = resvs_at s p }; errors = p.errors; first = p.first; has_granted = p.has_granted }

-- the claims without that of an LSP
unfoldable pub without_row : List (Key × Claim) → Key → List (Key × Claim)
without_row claims key = where_key key_cmp (λ other. not (is_eq (key_cmp key other))) claims

-- the edits, and then these LSPs have no reservation, the last of them first
abbrev pub without_edits : List (Key × Option ResvFact) → List Key → List (Key × Option ResvFact)
without_edits edits [] = edits
without_edits edits (key ∷ gone) = put key_cmp key None (without_edits edits gone)

-- errors, and then that of an LSP that loses its reservation to another
unfoldable pub told_of : Router → List (Key × ResvFact) → List Output → Key → List Output
told_of r resvs errors key = errors ++ option_to_list (option_and_then (told_preempted r key) (find key_cmp key resvs))

-- a flow descriptor was in error, or was granted
abbrev pub is_heard : reserving.Progress → Bool
is_heard p = is_some p.first || p.has_granted

-- What is kept is as it should be: reservations were held as they should be, the claims are those of the reservations
-- now, and each of these has a rate, and a path.
pub record IsReached (r : Router) (s : State) (p : Progress) : Type 0 where
  pub moment : s.facts.moment ≤ 2 ^ 62
  pub paths_in_order : T (is_sorted key_cmp s.facts.paths)
  pub few : length s.facts.paths ≤ 1024
  pub held : AreHeld r s
  pub claimed : unwrap_or p.claims (claims_of s.facts.paths s.resvs) ≡ claims_at s p
  pub rated : AllByRecursion (λ resv. IsOk (flowspec_rate resv.1.flowspec)) (resvs_at s p)
  pub on_paths : AllByRecursion (λ resv. is_some (find key_cmp resv.0 s.facts.paths) ≡ true) (resvs_at s p)

-- These are the claims now: they are in order, and can be added up.
pub record AreClaimed (s : State) (p : Progress) (claims : List (Key × Claim)) : Type 0 where
  pub claimed : claims ≡ claims_at s p
  pub sorted : T (is_sorted key_cmp claims)
  pub rated : AreRated claims
  pub few : length claims ≤ 1024

-- What the LSP asks for it claims already: so nobody gives way to it.
pub record IsRenewed (r : Router) (s : State) (p : Progress) (asked : Asked) : Type 0 where
  pub claimed : find key_cmp asked.key (claims_at s p) ≡ Some (request_of s.facts.paths asked.key (fact_at s.facts.moment asked)).claim
  pub alone : giving_way r (reached s p).state asked.key (fact_at s.facts.moment asked) ≡ []

-- The verdict is this one of the abstract router's; what is granted is what the LSP asks for.
abbrev pub IsVerdict : Router → State → Progress → Asked → Verdict → reserving.Verdict → Type 0
IsVerdict r s p asked (verdicts.Failed e) verdict = verdict ≡ reserving.Failed e
IsVerdict r s p asked verdicts.PassedOver verdict = verdict ≡ reserving.PassedOver
IsVerdict r s p asked verdicts.Renewed verdict = (verdict ≡ reserving.Granted) × IsRenewed r s p asked
IsVerdict r s p asked (verdicts.Granted request) verdict = (verdict ≡ reserving.Granted) × (request ≡ request_of s.facts.paths asked.key (fact_at s.facts.moment asked))
