-- What a Path does (RFC 2205, 3.1.3 and 3.7; RFC 3209, 4.3 and 4.4).
use Rattle.std.specs.Prelude.{ℕ, ◌+◌, ◌*◌, ◌&&◌, ◌==◌, not, nat_eq, nat_le, Bool, true, false, if◌then◌else◌, List, [], ◌∷◌, length, Option, Some, None, is_none, Result, Ok, Err}
use Rattle.std.specs.Cmp.Lexicographic.{pointwise}
use Rattle.std.specs.FinMap.Entries.{find, put}
use Rattle.std.specs.Int.{div_ceil}
use Rattle.std.specs.List.{list_any}
use Rattle.std.specs.Option.{option_map_or, option_eq}
use Rattle.std.specs.declared.net.ipv4_addr.Ipv4Addr.{Ipv4Addr}
use Rattle.rsvp_objects.specs.Kinds.{kind_of}
use Rattle.rsvp_objects.specs.declared.kind.Kind.{Kind}
use Rattle.rsvp_objects.specs.declared.kind.Kind.TheVariants as kinds
use Rattle.rsvp_bodies.specs.Steps.{route_bytes}
use Rattle.rsvp_bodies.specs.Traces.{record_bytes}
use Rattle.rsvp_bodies.specs.declared.step.Step.{Step}
use Rattle.rsvp_bodies.specs.declared.trace.Trace.{Trace}
use Rattle.rsvp_bodies.specs.declared.trace.Trace.TheVariants.{Ipv4, Label, Other}
use Rattle.rsvp_bodies.specs.TokenBuckets.{token_rate}
use Rattle.rsvp_contents.specs.Limits.{is_short_record}
use Rattle.rsvp_contents.specs.declared.messages.Path.{Path}
use Rattle.lsr_facts.specs.Errors.{bad_tspec, system_error, routing_loop, unsupported_l3pid, record_too_long}
use Rattle.lsr_facts.specs.Limits.{max_lsps}
use Rattle.lsr_facts.specs.Orders.{address_cmp, key_cmp}
use Rattle.lsr_facts.specs.Tunnels.{is_head}
use Rattle.lsr_facts.specs.declared.choice.Choice.{Choice}
use Rattle.lsr_facts.specs.declared.choice.Choice.TheVariants.{Link, Tail}
use Rattle.lsr_facts.specs.declared.errors.RsvpError.{RsvpError}
use Rattle.lsr_facts.specs.declared.facts.Facts.{Facts}
use Rattle.lsr_facts.specs.declared.key.Key.{Key}
use Rattle.lsr_facts.specs.declared.path_fact.Origin.{Origin}
use Rattle.lsr_facts.specs.declared.path_fact.PathFact.{PathFact}
use Rattle.lsr_facts.specs.declared.path_fact.Role.{Role}
use Rattle.lsr_facts.specs.declared.path_fact.Via.TheVariants as vias
use Rattle.lsr_facts.specs.declared.path_fact.Role.TheVariants as roles
use Rattle.lsr_facts.specs.declared.refusal.Refusal.TheVariants.{NoMatch}
use Rattle.lsr_facts.specs.declared.reply.Reply.TheVariants as replies
use Rattle.lsr_facts.specs.declared.router.Router.{Router}
use Rattle.abstract_paths.specs.declared.events.Output.{Output}
use Rattle.abstract_paths.specs.Changes.{with_path}
use Rattle.abstract_paths.specs.Outcomes.{PathOutcome, done, lsp, sent_by, found_here, path_err, refused, told_upstream}
use Rattle.abstract_paths.specs.Places.{Place, is_own, place_of}
use Rattle.abstract_paths.specs.Routing.{next_hop}

-- the LSP that a Path is for
abbrev pub key_of : Path → Key
key_of p = lsp p.session p.sender

-- how long state lives after a message that is refreshed so often: (3 + 0.5) * 1.5 times as long, rounded up
-- (RFC 2205, 3.7)
abbrev pub lifetime : ℕ → ℕ
lifetime refresh_ms = div_ceil (21 * refresh_ms) 4

-- An entry of a record names this router (RFC 3209, 4.4.4). Addresses alone are compared, whatever the prefix
-- length.
abbrev pub names_here : Router → Trace → Bool
names_here r (Ipv4 prefix flags) = is_own r prefix.address
names_here r (Label flags label) = false
names_here r (Other bytes) = false

-- the path has been here before (RFC 3209, 4.4.4)
unfoldable pub has_loop : Router → Option (List Trace) → Bool
has_loop r recorded = option_map_or (list_any (names_here r)) recorded false

-- explicit routes are equal: their bytes are, or both are absent
abbrev pub is_same_route : Option (List Step) → Option (List Step) → Bool
is_same_route = option_eq (λ a b. pointwise nat_eq (route_bytes a) (route_bytes b))

-- and so are recorded routes
abbrev pub is_same_record : Option (List Trace) → Option (List Trace) → Bool
is_same_record = option_eq (λ a b. pointwise nat_eq (record_bytes a) (record_bytes b))

-- the entry of a record that names this router: its id alone, without flags (RFC 3209, 4.4.1.1)
abbrev pub own_entry : Router → Trace
own_entry r = Ipv4 (record { address = r.id; length = 32 }) 0

-- a record, where it is within this router's limit of 64 entries and 1,024 bytes
abbrev pub short_only : List Trace → Option (List Trace)
short_only entries = if is_short_record entries then Some entries else None

-- The record that a path goes on with: this router in front (RFC 3209, 4.4.3).
unfoldable pub grown : Router → List Trace → Option (List Trace)
grown r entries = short_only (own_entry r ∷ entries)

-- a path that doesn't end here
abbrev pub goes_on : Role → Bool
goes_on roles.Tail = false
goes_on roles.Transit = true
goes_on roles.Head = true

-- the way of a path that is known
abbrev pub way_of : PathFact → Choice
way_of fact = if goes_on fact.role then Link fact.out_link fact.rest else Tail

-- The way of a Path: that of the path which stands, where the explicit route is the same, be its link up or down (RFC 2205,
-- 3.6 would have routing asked again); else the next hop.
unfoldable pub way_for : Place → Option PathFact → Path → Result Choice RsvpError
way_for n known p =
    option_map_or (λ fact. if is_same_route fact.given p.route then Ok (way_of fact) else next_hop n p.route p.session.endpoint)
    known (next_hop n p.route p.session.endpoint)

-- what a way makes of a path: its role, its link out, what is left of its route
abbrev pub role_of : Choice → Role
role_of Tail = roles.Tail
role_of (Link link rest) = roles.Transit

abbrev pub link_of : Choice → ℕ
link_of Tail = 0
link_of (Link link rest) = link

abbrev pub rest_of : Choice → Option (List Step)
rest_of Tail = None
rest_of (Link link rest) = rest

-- the origin that a Path is which comes at a moment: the neighbour that sent it
abbrev pub origin_of : ℕ → ℕ → Path → Origin
origin_of moment link p = record { via = vias.Link link; hop = p.hop; expiry = moment + lifetime p.time.refresh_ms }

-- the origins of a path that may be known
abbrev pub origins_of : Option PathFact → List (Ipv4Addr × Origin)
origins_of known = option_map_or (λ fact. fact.origins) known []

-- The path that a Path makes or renews: what the message says, its origin put among those that stand (RFC 2205, 2.3).
abbrev pub path_by : ℕ → Option PathFact → ℕ → Path → Choice → PathFact
path_by moment known link p way = record {
  role = role_of way;
  origins = put address_cmp p.sender.sender (origin_of moment link p) (origins_of known);
  out_link = link_of way;
  given = p.route;
  rest = rest_of way;
  recorded = p.recorded;
  label_request = p.label_request;
  tspec = p.tspec;
  attr = p.attr;
  fast_reroute = p.fast_reroute;
  passing = p.passing;
}

-- the path goes on, and its record can't grow
abbrev pub drops_record : Router → PathFact → Bool
drops_record r fact = goes_on fact.role && option_map_or (λ entries. is_none (grown r entries)) fact.recorded false

-- That a record is dropped is told upstream (RFC 3209, 4.4.3). It is this router's choice to tell it where the
-- path is new, or its record another than before.
unfoldable pub record_errors : Place → Key → Option PathFact → PathFact → List Output
record_errors n key known fact =
    if drops_record n.router fact && not (option_map_or (λ old. is_same_record old.recorded fact.recorded) known false)
    then told_upstream n key fact (Some fact.tspec) (found_here n.router record_too_long)
    else []

-- A Path that meets an error: it is told to the neighbour that sent it, and changes nothing (RFC 2205, 3.1.7).
abbrev pub failed : Router → Facts → ℕ → Path → RsvpError → PathOutcome
failed r s link p e = record {
  reply = replies.Error e;
  errors = sent_by link (path_err p.session p.sender (Some p.tspec) (found_here r e)) ∷ [];
  due = [];
  after = s;
  is_silent = false;
}

-- A Path that is taken.
abbrev pub taken : Router → Facts → Option PathFact → ℕ → Path → Choice → PathOutcome
taken r s known link p way =
    let fact = path_by s.moment known link p way in
    done (record_errors (place_of r s) (key_of p) known fact) (with_path (key_of p) fact s)

-- A Path whose way is asked for: no way leads on; there is no room for another LSP (RFC 2205, B, 23); or it is taken.
unfoldable pub path_on_its_way : Router → Facts → Option PathFact → ℕ → Path → Result Choice RsvpError → PathOutcome
path_on_its_way r s known link p (Err e) = failed r s link p e
path_on_its_way r s known link p (Ok way) =
    if is_none known && nat_le max_lsps (length s.paths) then failed r s link p system_error else taken r s known link p way

-- A Path that is read whole: the first of these that holds (the type of what it is to carry: RFC 3209, 4.2.4; its Tspec:
-- RFC 2210, 3.1; its record: RFC 3209, 4.4.4). One of an LSP that begins here is refused first: no neighbour sends it.
unfoldable pub path_arrival : Router → Facts → ℕ → Path → PathOutcome
path_arrival r s link p =
    let known = find key_cmp (key_of p) s.paths in
    if is_head r s.tunnels (key_of p) then refused s NoMatch
    else if not (p.label_request.l3pid == 0x0800) then failed r s link p unsupported_l3pid
    else if is_none (token_rate 1 p.tspec) then failed r s link p bad_tspec
    else if has_loop r p.recorded then failed r s link p routing_loop
    else path_on_its_way r s known link p (way_for (place_of r s) known p)

-- the error of an object that a Path doesn't know: 13 for an unknown class, 14 for an unknown C-Type of a known
-- one (RFC 2205, B, 13 and 14)
abbrev pub unknown_code : Kind → ℕ
unknown_code (kinds.Unknown treatment) = 13
unknown_code _ = 14

abbrev pub unknown_object : ℕ → ℕ → RsvpError
unknown_object class ctype = record { code = unknown_code (kind_of class ctype); value = class * 256 + ctype }
