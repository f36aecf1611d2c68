-- What an event is answered, which errors it meets, and what is known after it.
use Rattle.std.specs.Prelude.{ℕ, Bool, true, false, List, [], filter_map, Option, Some}
use Rattle.std.specs.Option.{option_map}
use Rattle.std.specs.declared.net.ipv4_addr.Ipv4Addr.{Ipv4Addr}
use Rattle.rsvp_objects.specs.declared.values.ErrorSpec.{ErrorSpec}
use Rattle.rsvp_objects.specs.declared.values.Session.{Session}
use Rattle.rsvp_objects.specs.declared.values.Template.{Template}
use Rattle.rsvp_contents.specs.declared.messages.Content.{Content}
use Rattle.rsvp_contents.specs.declared.messages.Content.TheVariants as contents
use Rattle.abstract_paths.specs.Frame.TheVariants as frames
use Rattle.lsr_facts.specs.declared.errors.RsvpError.{RsvpError}
use Rattle.lsr_facts.specs.declared.facts.Facts.{Facts}
use Rattle.lsr_facts.specs.declared.key.Item.{Item}
use Rattle.lsr_facts.specs.declared.key.Key.{Key}
use Rattle.lsr_facts.specs.declared.path_fact.Origin.{Origin}
use Rattle.lsr_facts.specs.declared.path_fact.PathFact.{PathFact}
use Rattle.lsr_facts.specs.declared.path_fact.Via.{Via}
use Rattle.lsr_facts.specs.declared.path_fact.Via.TheVariants as vias
use Rattle.lsr_facts.specs.declared.refusal.Refusal.{Refusal}
use Rattle.lsr_facts.specs.declared.reply.Reply.{Reply}
use Rattle.lsr_facts.specs.declared.reply.Reply.TheVariants as replies
use Rattle.lsr_facts.specs.declared.router.Router.{Router}
use Rattle.abstract_paths.specs.declared.events.Output.{Output}
use Rattle.abstract_paths.specs.Places.{Place}
use Rattle.abstract_paths.specs.Routing.{route_to}

-- the LSP of a session that has this head and LSP ID (RFC 3209, 4.6)
abbrev pub lsp : Session → Template → Key
lsp session sender = record { session = session; sender = sender }

-- What an event does of itself: the answer, the errors in the order found, the items that are due again though
-- nothing about them changed, the facts after, and whether it is silent: then nothing is sent for it, and nothing follows
-- from it.
pub record PathOutcome : Type 0 where
  pub reply : Reply
  pub errors : List Output
  pub due : List Item
  pub after : Facts
  pub is_silent : Bool

-- done, with these errors told to others
abbrev pub done : List Output → Facts → PathOutcome
done errors after = record { reply = replies.Done; errors = errors; due = []; after = after; is_silent = false }

-- answered, and silent
abbrev pub silent : Reply → Facts → PathOutcome
silent reply after = record { reply = reply; errors = []; due = []; after = after; is_silent = true }

-- refused: nothing changes
abbrev pub refused : Facts → Refusal → PathOutcome
refused s refusal = silent (replies.Refused refusal) s

-- a message that goes out by a link
abbrev pub sent_by : ℕ → Content → Output
sent_by link content = record { link = link; frame = frames.Hop content }

-- a message that goes out by a link, towards the router of an address, with the limit 64: each router that passes it on takes
-- one off, and one that it comes to with 1 doesn't pass it on
abbrev pub routed_by : ℕ → Ipv4Addr → Content → Output
routed_by link to content = record { link = link; frame = frames.Routed to 64 content }

-- A message that goes back to an origin: to a neighbour over its link; to the head of a bypass, whose Paths come through a
-- stack of labels, by the way that leads to its address, and nothing where none does.
abbrev pub sent_back : Place → Via → Ipv4Addr → Content → Option Output
sent_back n (vias.Link link) to content = Some (sent_by link content)
sent_back n vias.Stack to content = option_map (λ link. routed_by link to content) (route_to n to)

-- an error that this router found (RFC 2205, A.5)
abbrev pub found_here : Router → RsvpError → ErrorSpec
found_here r e = record { node = r.id; flags = 0; code = e.code; value = e.value }

-- a PathErr (RFC 2205, 3.1.7)
abbrev pub path_err : Session → Template → Option (List ℕ) → ErrorSpec → Content
path_err session sender tspec error =
    contents.PathErr (record { session = session; error = error; sender = sender; tspec = tspec })

-- An error of a path, told to one of its origins, under the sender that the origin's Paths name (RFC 2205, 3.1.7).
abbrev pub told_to : Place → Key → Option (List ℕ) → ErrorSpec → Ipv4Addr × Origin → Option Output
told_to n key tspec error origin =
    sent_back n origin.1.via origin.1.hop.address (path_err key.session (record key.sender { sender = origin.0 }) tspec error)

-- and to each of them, in the order of their senders
abbrev pub told_upstream : Place → Key → PathFact → Option (List ℕ) → ErrorSpec → List Output
told_upstream n key fact tspec error = filter_map (told_to n key tspec error) fact.origins
