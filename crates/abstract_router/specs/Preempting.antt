-- What the router's reservations claim of its links, and which of them give way to a request (RFC 3209, 4.7.3).
use Rattle.std.specs.Prelude.{ℕ, Bool, false, List, [], ◌∷◌, filter_map, map, Option, Some}
use Rattle.std.specs.FinMap.Entries.{find}
use Rattle.std.specs.Option.{option_and_then, option_map_or}
use Rattle.rsvp_bodies.specs.declared.attr.Attr.{Attr}
use Rattle.lsr_facts.specs.Orders.{key_cmp}
use Rattle.lsr_facts.specs.Routers.{link_at}
use Rattle.lsr_facts.specs.declared.key.Key.{Key}
use Rattle.lsr_facts.specs.declared.path_fact.PathFact.{PathFact}
use Rattle.lsr_facts.specs.declared.router.Router.{Router}
use Rattle.lsr_facts.specs.Admission.{victims_of}
use Rattle.lsr_facts.specs.Admission as admission
use Rattle.lsr_facts.specs.Claims.{claim_of}
use Rattle.lsr_facts.specs.Priorities.{holding_of, setup_of}
use Rattle.lsr_facts.specs.declared.claim.Claim.{Claim}
use Rattle.lsr_facts.specs.declared.claim.Request.{Request}
use Rattle.lsr_facts.specs.declared.resv_fact.ResvFact.{ResvFact}
use Rattle.abstract_paths.specs.declared.events.Output.{Output}
use Rattle.lsr_facts.specs.Reservations.{style_word}
use Rattle.lsr_facts.specs.Errors.{preempted}
use Rattle.abstract_router.specs.Outcomes.{reservation_error, told_downstream}
use Rattle.abstract_router.specs.States.{State}

-- the SESSION_ATTRIBUTE of an LSP's path, if it has one
abbrev pub attr_at : List (Key × PathFact) → Key → Option Attr
attr_at paths key = option_and_then (λ fact. fact.attr) (find key_cmp key paths)

-- What reservations claim: each at the priority at which its LSP's path has it kept.
unfoldable pub claims_of : List (Key × PathFact) → List (Key × ResvFact) → List (Key × Claim)
claims_of paths resvs = map (λ resv. (resv.0, claim_of resv.1 (holding_of (attr_at paths resv.0)))) resvs

-- what an LSP asks for that is to have this reservation
abbrev pub request_of : List (Key × PathFact) → Key → ResvFact → Request
request_of paths key fact = record { key = key; claim = claim_of fact (holding_of (attr_at paths key)); setup = setup_of (attr_at paths key) }

-- how much of a link may be reserved
abbrev pub limit_of : Router → ℕ → ℕ
limit_of r link = option_map_or (λ l. l.limit) (link_at r link) 0

-- the reservation fits its link
abbrev pub fits_link : Router → State → Key → ResvFact → Bool
fits_link r s key fact = admission.fits (limit_of r fact.link) (request_of s.facts.paths key fact) (claims_of s.facts.paths s.resvs)

-- those who give way to it
abbrev pub giving_way : Router → State → Key → ResvFact → List Key
giving_way r s key fact = victims_of (limit_of r fact.link) (request_of s.facts.paths key fact) (claims_of s.facts.paths s.resvs)

-- An LSP loses its reservation to another: its next hop is told, in the style and for the traffic that were reserved
-- (RFC 2205, 3.1.8 and B, 12). RFC 3209, 4.7.3 would rather have code 2; this router's is 12.
abbrev pub told_preempted : Router → Key → ResvFact → Option Output
told_preempted r key fact =
    told_downstream r fact.link key.session (reservation_error r false preempted) (style_word fact.style)
    (record { flowspec = Some fact.flowspec; filter = key.sender } ∷ [])

-- and so of each of these, in their order
abbrev pub all_told_preempted : Router → State → List Key → List Output
all_told_preempted r s keys = filter_map (λ key. option_and_then (told_preempted r key) (find key_cmp key s.resvs)) keys
