-- What a PathTear and a PathErr do (RFC 2205, 3.1.5 and 3.1.7).
use Rattle.std.specs.Prelude.{ℕ, ◌&&◌, ◌==◌, not, Bool, false, if◌then◌else◌, List, [], Option, Some, None}
use Rattle.std.specs.FinMap.Entries.{find, where_key}
use Rattle.std.specs.Option.{option_map_or}
use Rattle.std.specs.Ordering.{is_eq}
use Rattle.std.specs.declared.net.ipv4_addr.Ipv4Addr.{Ipv4Addr}
use Rattle.rsvp_contents.specs.declared.messages.PathErr.{PathErr}
use Rattle.rsvp_contents.specs.declared.messages.PathTear.{PathTear}
use Rattle.lsr_facts.specs.Orders.{address_cmp, key_cmp}
use Rattle.lsr_facts.specs.Lifetimes.{begins_here}
use Rattle.lsr_facts.specs.Origins.{via_link}
use Rattle.lsr_facts.specs.declared.facts.Facts.{Facts}
use Rattle.lsr_facts.specs.declared.key.Key.{Key}
use Rattle.lsr_facts.specs.declared.path_fact.Origin.{Origin}
use Rattle.lsr_facts.specs.declared.path_fact.Via.{Via}
use Rattle.lsr_facts.specs.declared.path_fact.PathFact.{PathFact}
use Rattle.lsr_facts.specs.declared.refusal.Refusal.TheVariants.{NoMatch}
use Rattle.abstract_paths.specs.Changes.{with_path, without_path}
use Rattle.abstract_paths.specs.Heads.{with_noted}
use Rattle.abstract_paths.specs.Outcomes.{PathOutcome, done, lsp, refused, told_upstream}
use Rattle.abstract_paths.specs.Paths.{goes_on}
use Rattle.abstract_paths.specs.Places.{place_of}
use Rattle.lsr_facts.specs.Routers.{is_same}
use Rattle.lsr_facts.specs.declared.router.Router.{Router}

-- the origin is a neighbour over this link
abbrev pub is_over : ℕ → Via → Bool
is_over link via = option_map_or (λ number. number == link) (via_link via) false

-- the origin is the neighbour of this address, over this link; its interface handle doesn't count
abbrev pub is_from : ℕ → Ipv4Addr → Origin → Bool
is_from link neighbour origin = is_over link origin.via && is_same origin.hop.address neighbour

-- the path has the origin that a PathTear speaks of
abbrev pub is_torn_by : ℕ → PathTear → PathFact → Bool
is_torn_by link t fact = option_map_or (is_from link t.hop.address) (find address_cmp t.sender.sender fact.origins) false

-- the origins but that of the sender
abbrev pub origins_without : Ipv4Addr → PathFact → List (Ipv4Addr × Origin)
origins_without sender fact = where_key address_cmp (λ k. not (is_eq (address_cmp sender k))) fact.origins

-- The path is left with these origins: with none, it goes (RFC 2205, 2.3).
abbrev pub left_with : Key → PathFact → List (Ipv4Addr × Origin) → Facts → Facts
left_with key fact [] s = without_path key s
left_with key fact origins s = with_path key (record fact { origins = origins }) s

-- A PathTear takes its origin from the path that is known; one that matches none is refused.
abbrev pub torn : Facts → ℕ → PathTear → Option PathFact → PathOutcome
torn s link t None = refused s NoMatch
torn s link t (Some fact) =
    if is_torn_by link t fact
    then done [] (left_with (lsp t.session t.sender) fact (origins_without t.sender.sender fact) s)
    else refused s NoMatch

-- What a PathTear does (RFC 2205, 3.1.5).
unfoldable pub path_tear_arrival : Facts → ℕ → PathTear → PathOutcome
path_tear_arrival s link t = torn s link t (find key_cmp (lsp t.session t.sender) s.paths)

-- the path leaves by this link
unfoldable pub leaves_by : ℕ → PathFact → Bool
leaves_by link fact = goes_on fact.role && (fact.out_link == link)

-- the error of a path that begins here is noted in its tunnel
abbrev pub noted_of : PathErr → PathFact → Facts → Facts
noted_of e fact s = if begins_here fact.role then with_noted e.error e.session.tunnel s else s

-- what a PathErr does that is for the LSP of this path: it is told to the path's origins
abbrev pub err_of_path : Router → Facts → Key → PathErr → PathFact → PathOutcome
err_of_path r s key e fact = done (told_upstream (place_of r s) key fact e.tspec e.error) (noted_of e fact s)

-- A PathErr that comes by the link that its path leaves by goes on upstream with its error unchanged, and where the path
-- begins here, it has come to its end and is noted; one that matches none is refused.
abbrev pub path_err_passed_on : Router → Facts → ℕ → PathErr → Option PathFact → PathOutcome
path_err_passed_on r s link e None = refused s NoMatch
path_err_passed_on r s link e (Some fact) =
    if leaves_by link fact then err_of_path r s (lsp e.session e.sender) e fact else refused s NoMatch

-- What a PathErr does (RFC 2205, 3.1.7).
unfoldable pub path_err_arrival : Router → Facts → ℕ → PathErr → PathOutcome
path_err_arrival r s link e = path_err_passed_on r s link e (find key_cmp (lsp e.session e.sender) s.paths)
