-- What becomes of a message for another router, which came in a Routed frame.
use Rattle.std.specs.Prelude.{ℕ, ◌-◌, ◌&&◌, not, nat_le, Bool, false, if◌then◌else◌, [], ◌∷◌, is_none, is_some}
use Rattle.std.specs.Option.{option_map_or}
use Rattle.lsr_facts.specs.Routers.{link_at}
use Rattle.lsr_facts.specs.declared.facts.Facts.{Facts}
use Rattle.lsr_facts.specs.declared.refusal.Refusal.TheVariants.{LinkDown, NoMatch, UnknownLink}
use Rattle.lsr_facts.specs.declared.router.Router.{Router}
use Rattle.abstract_paths.specs.Frame.TheVariants as frames
use Rattle.abstract_paths.specs.declared.events.Event.{Event}
use Rattle.abstract_paths.specs.declared.events.Event.TheVariants as events
use Rattle.abstract_paths.specs.declared.events.Output.{Output}
use Rattle.abstract_paths.specs.declared.ways.Relay.{Relay}
use Rattle.abstract_paths.specs.Outcomes.{PathOutcome, done, refused}
use Rattle.abstract_paths.specs.Places.{is_up, place_of}
use Rattle.abstract_paths.specs.Routing.{route_to}

-- No further router may pass a message on that comes over a link which is up: its limit ran out, as a TTL does
-- (RFC 791, 3.2). It is dropped, and that is no step.
abbrev pub is_limit_exceeded : Router → Facts → Relay → Bool
is_limit_exceeded r s m = is_some (link_at r m.link) && is_up s.up m.link && nat_le m.limit 1

abbrev pub exceeds_hop_limit : Router → Facts → Event → Bool
exceeds_hop_limit r s (events.Relay m) = is_limit_exceeded r s m
exceeds_hop_limit r s event = false

-- the frame in which it goes on by a link: as it came, its limit less 1, as a TTL is (RFC 791, 3.2)
abbrev pub relayed_by : Relay → ℕ → Output
relayed_by m link = record { link = link; frame = frames.Relayed m.to (m.limit - 1) m.message }

-- It goes on over the link that leads to its address, also back where it came from. Where none does, nothing matches.
unfoldable pub relay : Router → Facts → Relay → PathOutcome
relay r s m =
    if is_none (link_at r m.link) then refused s UnknownLink
    else if not (is_up s.up m.link) then refused s LinkDown
    else option_map_or (λ link. done (relayed_by m link ∷ []) s) (route_to (place_of r s) m.to) (refused s NoMatch)
