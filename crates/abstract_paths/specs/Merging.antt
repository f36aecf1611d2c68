-- What a router at the end of others' bypasses does: Paths that come through a stack of labels join the path of their LSP
-- (RFC 4090, 7).
use Rattle.std.specs.Prelude.{ℕ, ◌+◌, ◌&&◌, not, nat_le, Bool, false, if◌then◌else◌, List, [], ◌∷◌, filter, find as find_first, is_none, length, option_to_list, Some}
use Rattle.std.specs.FinMap.Entries.{find, put}
use Rattle.std.specs.Option.{option_map_or}
use Rattle.std.specs.Ordering.{is_eq}
use Rattle.std.specs.declared.net.ipv4_addr.Ipv4Addr.{Ipv4Addr}
use Rattle.rsvp_contents.specs.declared.messages.Path.{Path}
use Rattle.rsvp_contents.specs.declared.messages.PathTear.{PathTear}
use Rattle.lsr_facts.specs.Lifetimes.{begins_here}
use Rattle.lsr_facts.specs.Orders.{address_cmp, key_cmp}
use Rattle.lsr_facts.specs.Origins.{via_link}
use Rattle.lsr_facts.specs.declared.errors.RsvpError.{RsvpError}
use Rattle.lsr_facts.specs.declared.facts.Facts.{Facts}
use Rattle.lsr_facts.specs.declared.key.Key.{Key}
use Rattle.lsr_facts.specs.declared.path_fact.Origin.{Origin}
use Rattle.lsr_facts.specs.declared.path_fact.PathFact.{PathFact}
use Rattle.lsr_facts.specs.declared.path_fact.Via.{Via}
use Rattle.lsr_facts.specs.declared.path_fact.Via.TheVariants as vias
use Rattle.lsr_facts.specs.declared.refusal.Refusal.TheVariants.{NoMatch, NoMerge}
use Rattle.lsr_facts.specs.declared.reply.Reply.TheVariants as replies
use Rattle.lsr_facts.specs.declared.router.Router.{Router}
use Rattle.abstract_paths.specs.Changes.{with_path}
use Rattle.abstract_paths.specs.Outcomes.{PathOutcome, done, found_here, lsp, path_err, refused, sent_back}
use Rattle.abstract_paths.specs.Paths.{key_of, lifetime}
use Rattle.abstract_paths.specs.Places.{place_of}
use Rattle.abstract_paths.specs.Tears.{left_with, origins_without}

-- Paths come through stacks of labels, not over a link
abbrev pub is_stack : Via → Bool
is_stack via = is_none (via_link via)

-- the LSP, under another sender
abbrev pub under : Ipv4Addr → Key → Key
under sender key = record key { sender = record key.sender { sender = sender } }

-- two LSPs are of one session, with one LSP ID: they are one LSP, but for their senders (RFC 4090, 6.4.3)
abbrev pub is_beside : Key → Key → Bool
is_beside key other = is_eq (key_cmp (under other.sender.sender key) other)

-- a Path of this LSP that comes through a stack joins the path: it is the path of the same LSP under another sender, and
-- doesn't begin here
abbrev pub may_join : Key → Key × PathFact → Bool
may_join key path = is_beside key path.0 && not (is_eq (key_cmp key path.0)) && not (begins_here path.1.role)

-- the origin that such a Path is: the head of the bypass that it came through
abbrev pub stack_origin : ℕ → Path → Origin
stack_origin moment p = record { via = vias.Stack; hop = p.hop; expiry = moment + lifetime p.time.refresh_ms }

-- the origins whose Paths come through stacks
abbrev pub stacks_in : List (Ipv4Addr × Origin) → List (Ipv4Addr × Origin)
stacks_in origins = filter (λ origin. is_stack origin.1.via) origins

-- those of a path, but that of a sender
abbrev pub other_stacks : Ipv4Addr → PathFact → List (Ipv4Addr × Origin)
other_stacks sender fact = stacks_in (origins_without sender fact)

-- the path, with that origin put among those that stand
abbrev pub with_stack : ℕ → Path → PathFact → PathFact
with_stack moment p fact = record fact { origins = put address_cmp p.sender.sender (stack_origin moment p) fact.origins }

-- The path has the Path's origin from now on. Beside its neighbour it has three such origins at most: a fourth is refused.
abbrev pub joined : Facts → Path → Key × PathFact → PathOutcome
joined s p path =
    if nat_le 3 (length (other_stacks p.sender.sender path.1))
    then refused s NoMerge
    else done [] (with_path path.0 (with_stack s.moment p path.1) s)

-- It joins the path where that is the one: with none, or with several, it is refused.
abbrev pub joined_one : Facts → Path → List (Key × PathFact) → PathOutcome
joined_one s p (path ∷ []) = joined s p path
joined_one s p paths = refused s NoMerge

-- A Path that comes through a stack (RFC 4090, 7.1). Of what it says only who sent it and how often are used.
unfoldable pub stack_path_arrival : Facts → Path → PathOutcome
stack_path_arrival s p = joined_one s p (filter (may_join (key_of p)) s.paths)

-- One with an error: it is told to the head of the bypass, and changes nothing.
abbrev pub stack_path_failed : Router → Facts → Path → RsvpError → PathOutcome
stack_path_failed r s p e = record {
  reply = replies.Error e;
  errors = option_to_list (sent_back (place_of r s) vias.Stack p.hop.address (path_err p.session p.sender (Some p.tspec) (found_here r e)));
  due = [];
  after = s;
  is_silent = false;
}

-- the path has an origin whose Paths come through a stack, under this LSP's sender
abbrev pub came_through : Key → Key × PathFact → Bool
came_through key path = is_beside key path.0 && option_map_or (λ origin. is_stack origin.via) (find address_cmp key.sender.sender path.1.origins) false

-- A PathTear that comes through a stack takes its origin; one that matches none is refused.
unfoldable pub stack_tear_arrival : Facts → PathTear → PathOutcome
stack_tear_arrival s t =
    option_map_or (λ path. done [] (left_with path.0 path.1 (origins_without t.sender.sender path.1) s)) (find_first (came_through (lsp t.session t.sender)) s.paths)
    (refused s NoMatch)
