-- The parts of paths.
use Rattle.std.specs.Prelude.{◌≡◌, ◌≢◌, ◌==◌, ◌++◌, ◌∷◌, [], ℕ, List, Option, if◌then◌else◌, refl}
use Rattle.std.specs.declared.net.ipv4_addr.Ipv4Addr.{Ipv4Addr}
use Rattle.std.proofs.Common.{sym}
use Rattle.byteorder.specs.Endian.{big_bytes}
use Rattle.field_bytes.specs.Making.{IsToldApart, told_by}
use Rattle.field_bytes.specs.OptionLaws.{option_bytes}
use Rattle.field_bytes.specs.Spelling.{list_bytes}
use Rattle.rsvp_bodies.specs.declared.attr.Attr.{Attr}
use Rattle.rsvp_bodies.specs.declared.step.Step.{Step}
use Rattle.rsvp_bodies.specs.declared.trace.Trace.{Trace}
use Rattle.rsvp_objects.specs.Raw.{Raw}
use Rattle.rsvp_objects.specs.Values.{fast_reroute_body}
use Rattle.rsvp_objects.specs.declared.values.FastReroute.{FastReroute}
use Rattle.lsr_facts.specs.declared.path_fact.Origin.{Origin}
use Rattle.lsr_facts.specs.declared.path_fact.PathFact.{PathFact}
use Rattle.lsr_facts.specs.declared.path_fact.Role.{Role}
use Rattle.lsr_facts.specs.declared.path_fact.Role.TheVariants as roles
use Rattle.journal_bytes.specs.Events.{attr_bytes, route_bytes}
use Rattle.body_fields.specs.Passing.{passing_bytes}
use Rattle.body_fields.specs.Routes.{record_bytes}
use Rattle.fact_fields.specs.Origins.{origin_row_bytes}
use Rattle.fact_fields.specs.declared.paths.PathRequest.{PathRequest}
use Rattle.fact_fields.specs.declared.paths.PathWay.{PathWay}

-- The role of a router on an LSP's way, in 1 byte: 0 where the LSP goes on, 1 where it ends, 2 where it begins.
abbrev pub role_number : Role → ℕ
role_number roles.Transit = 0
role_number roles.Tail = 1
role_number roles.Head = 2

abbrev pub role_bytes : Role → List ℕ
role_bytes role = role_number role ∷ []

-- the role of this number
abbrev pub role_of : ℕ → Role
role_of number = if number == 0 then roles.Transit else if number == 1 then roles.Tail else roles.Head

role_again : (role : Role) → role_of (role_number role) ≡ role
role_again roles.Transit = refl
role_again roles.Tail = refl
role_again roles.Head = refl

pub role_told : IsToldApart (λ (r : Role). Unit {0}) role_number
role_told = told_by (λ (r : Role). Unit {0}) role_number role_of role_again

-- no role has another number
pub no_role : (number : ℕ) → number ≢ 0 → number ≢ 1 → number ≢ 2 → (role : Role) → Unit {0} → role_number role ≡ number → ⊥
no_role number transit tail head roles.Transit _ e = transit (sym e)
no_role number transit tail head roles.Tail _ e = tail (sym e)
no_role number transit tail head roles.Head _ e = head (sym e)

-- What follows a path's traffic: attributes, protection, and objects that are passed on.
abbrev pub asked_bytes : PathRequest → List ℕ
asked_bytes q = option_bytes attr_bytes q.attr ++ (option_bytes fast_reroute_body q.fast_reroute ++ passing_bytes q.passing)

-- What a path asks for: the protocol that it is to carry, its traffic, and what follows.
abbrev pub request_bytes : PathRequest → List ℕ
request_bytes q = big_bytes 2 q.l3pid ++ (q.tspec ++ asked_bytes q)

abbrev pub AskedOf : Type 0
AskedOf = Option Attr × (Option FastReroute × List Raw)

abbrev pub RequestOf : Type 0
RequestOf = ℕ × (List ℕ × AskedOf)

abbrev pub asked_parts : PathRequest → AskedOf
asked_parts q = (q.attr, (q.fast_reroute, q.passing))

abbrev pub request_parts : PathRequest → RequestOf
request_parts q = (q.l3pid, (q.tspec, asked_parts q))

-- what is asked for by these
abbrev pub request_by : RequestOf → PathRequest
request_by parts = record { l3pid = parts.0; tspec = parts.1.0; attr = parts.1.1.0; fast_reroute = parts.1.1.1.0; passing = parts.1.1.1.1 }

pub request_told : IsToldApart (λ (q : PathRequest). Unit {0}) request_parts
request_told = told_by (λ (q : PathRequest). Unit {0}) request_parts request_by (λ q. refl)

-- what a path asks for
abbrev pub request_of : PathFact → PathRequest
request_of p = record { l3pid = p.label_request.l3pid; tspec = p.tspec; attr = p.attr; fast_reroute = p.fast_reroute; passing = p.passing }

-- The route that its Path came with, what is left of that for the next hop, and the route that it took.
abbrev pub way_bytes : PathWay → List ℕ
way_bytes w = option_bytes route_bytes w.given ++ (option_bytes route_bytes w.rest ++ option_bytes record_bytes w.recorded)

abbrev pub WayOf : Type 0
WayOf = Option (List Step) × (Option (List Step) × Option (List Trace))

abbrev pub way_parts : PathWay → WayOf
way_parts w = (w.given, (w.rest, w.recorded))

-- the way of these
abbrev pub way_by : WayOf → PathWay
way_by parts = record { given = parts.0; rest = parts.1.0; recorded = parts.1.1 }

pub way_told : IsToldApart (λ (w : PathWay). Unit {0}) way_parts
way_told = told_by (λ (w : PathWay). Unit {0}) way_parts way_by (λ w. refl)

-- the way of a path
abbrev pub way_of : PathFact → PathWay
way_of p = record { given = p.given; rest = p.rest; recorded = p.recorded }

-- A path: its role, its origins by their senders, the link that it leaves by, its way and what it asks for.
abbrev pub path_bytes : PathFact → List ℕ
path_bytes p = role_number p.role ∷ (list_bytes origin_row_bytes p.origins ++ (big_bytes 2 p.out_link ++ (way_bytes (way_of p) ++ request_bytes (request_of p))))

abbrev pub PathOf : Type 0
PathOf = Role × (List (Ipv4Addr × Origin) × (ℕ × (PathWay × PathRequest)))

abbrev pub path_parts : PathFact → PathOf
path_parts p = (p.role, (p.origins, (p.out_link, (way_of p, request_of p))))

-- the path of these
abbrev pub path_of : PathOf → PathFact
path_of parts =
    let way = parts.1.1.1.0 in
    let request = parts.1.1.1.1 in
    record {
      role = parts.0;
      origins = parts.1.0;
      out_link = parts.1.1.0;
      given = way.given;
      rest = way.rest;
      recorded = way.recorded;
      label_request = record { l3pid = request.l3pid };
      tspec = request.tspec;
      attr = request.attr;
      fast_reroute = request.fast_reroute;
      passing = request.passing;
    }

pub path_told : IsToldApart (λ (p : PathFact). Unit {0}) path_parts
path_told = told_by (λ (p : PathFact). Unit {0}) path_parts path_of (λ p. refl)
