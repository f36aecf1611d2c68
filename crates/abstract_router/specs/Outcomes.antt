-- What an event does of itself: its reply, the errors that it meets, and what is known after it.
use Rattle.std.specs.Prelude.{ℕ, Bool, true, false, if◌then◌else◌, List, [], Option}
use Rattle.std.specs.Option.{option_map}
use Rattle.rsvp_contents.specs.declared.messages.Content.TheVariants as contents
use Rattle.rsvp_contents.specs.declared.descriptors.ErrorDescriptor.{ErrorDescriptor}
use Rattle.rsvp_objects.specs.declared.values.ErrorSpec.{ErrorSpec}
use Rattle.rsvp_objects.specs.declared.values.Session.{Session}
use Rattle.rsvp_objects.specs.declared.values.Style.{Style}
use Rattle.lsr_facts.specs.Routers.{link_at}
use Rattle.lsr_facts.specs.declared.errors.RsvpError.{RsvpError}
use Rattle.lsr_facts.specs.declared.key.Item.{Item}
use Rattle.lsr_facts.specs.declared.refusal.Refusal.{Refusal}
use Rattle.lsr_facts.specs.declared.reply.Reply.{Reply}
use Rattle.lsr_facts.specs.declared.reply.Reply.TheVariants as replies
use Rattle.lsr_facts.specs.declared.router.Router.{Router}
use Rattle.abstract_paths.specs.declared.events.Output.{Output}
use Rattle.abstract_paths.specs.Outcomes as paths
use Rattle.abstract_paths.specs.Outcomes.{sent_by}
use Rattle.lsr_facts.specs.declared.upstream.Upstream.{Upstream}
use Rattle.abstract_router.specs.States.{State, with_facts}

-- The reply, the errors in the order found, the Paths and the Resvs that are due again though nothing about them
-- changed, what is known after, and whether the event is silent: then nothing is sent for it.
pub record Outcome : Type 0 where
  pub reply : Reply
  pub errors : List Output
  pub due : List Item
  pub upstream_due : List Upstream
  pub after : State
  pub is_silent : Bool

-- this reply, and these errors told to others
abbrev pub replied : Reply → List Output → State → Outcome
replied reply errors after = record { reply = reply; errors = errors; due = []; upstream_due = []; after = after; is_silent = false }

-- refused: nothing changes
abbrev pub refused : State → Refusal → Outcome
refused s refusal = record { reply = replies.Refused refusal; errors = []; due = []; upstream_due = []; after = s; is_silent = true }

-- what the event does to paths, links and time, and no more
abbrev pub of_paths : State → paths.PathOutcome → Outcome
of_paths s o = record { reply = o.reply; errors = o.errors; due = o.due; upstream_due = []; after = with_facts o.after s; is_silent = o.is_silent }

-- A reservation that stands as it was in spite of an error is said to be in place (RFC 2205, A.5).
abbrev pub in_place : ℕ
in_place = 0x01

-- an error that this router found, of an LSP that is reserved still, or isn't
abbrev pub reservation_error : Router → Bool → RsvpError → ErrorSpec
reservation_error r is_reserved e = record (paths.found_here r e) { flags = if is_reserved then in_place else 0 }

-- A ResvErr that goes downstream by a link, from this router's address there (RFC 2205, 3.1.8).
abbrev pub told_downstream : Router → ℕ → Session → ErrorSpec → Style → List ErrorDescriptor → Option Output
told_downstream r link session error style descriptors =
    option_map (λ l.
    sent_by link (contents.ResvErr (record { session = session; hop = record { address = l.address; interface = link }; error = error; style = style; descriptors = descriptors })))
    (link_at r link)
