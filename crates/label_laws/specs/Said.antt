-- What the Resvs that a router sends say.
use Rattle.std.specs.Prelude.{◌≡◌, ◌⊎◌, ◌++◌, ◌-◌, ℕ, if◌then◌else◌, Bool, true, false, Contains, List, [], ◌∷◌, Option, Some, None, option_map, unwrap_or}
use Rattle.std.specs.FinMap.Entries.{find}
use Rattle.std.specs.Option.{option_and_then, option_or}
use Rattle.rsvp_bodies.specs.declared.trace.Trace.{Trace}
use Rattle.rsvp_bodies.specs.declared.trace.Trace.TheVariants as traces
use Rattle.rsvp_contents.specs.declared.descriptors.FlowDescriptor.{FlowDescriptor}
use Rattle.rsvp_contents.specs.declared.messages.Content.{Content}
use Rattle.rsvp_contents.specs.declared.messages.Content.TheVariants as contents
use Rattle.rsvp_contents.specs.declared.messages.Resv.{Resv}
use Rattle.lsr_facts.specs.Orders.{key_cmp}
use Rattle.lsr_facts.specs.Routers.{own_addresses}
use Rattle.lsr_facts.specs.declared.key.Key.{Key}
use Rattle.lsr_facts.specs.declared.path_fact.PathFact.{PathFact}
use Rattle.lsr_facts.specs.declared.repair.Repair.{Repair}
use Rattle.lsr_facts.specs.declared.resv_fact.ResvFact.{ResvFact}
use Rattle.lsr_facts.specs.declared.router.Router.{Router}
use Rattle.abstract_paths.specs.Paths.{goes_on}
use Rattle.abstract_paths.specs.Frame.TheVariants as frames
use Rattle.abstract_paths.specs.declared.events.Event.{Event}
use Rattle.abstract_paths.specs.declared.events.Event.TheVariants as events
use Rattle.abstract_paths.specs.declared.events.Output.{Output}
use Rattle.abstract_paths.specs.declared.ways.Relay.{Relay}
use Rattle.abstract_router.specs.States.{State}
use Rattle.abstract_router.specs.Upstreams.{records_labels}
use Rattle.router_laws.specs.Sending.{content_of}

-- a reservation is asked for (RFC 2205, 3.1.4)
abbrev pub is_resv : Content → Bool
is_resv (contents.Resv v) = true
is_resv content = false

-- what holds the label of the LSP at the router after this one: its reservation, or what its repair keeps
abbrev pub held_after : State → Key → Option ResvFact
held_after s key = option_or (find key_cmp key s.resvs) (option_map (λ (repair : Repair). repair.resv) (find key_cmp key s.repairs))

-- the record that came with it, and none where the LSP ends here
abbrev pub recorded_after : State → Key → PathFact → List Trace
recorded_after s key path = if goes_on path.role then unwrap_or (option_and_then (λ (resv : ResvFact). resv.recorded) (held_after s key)) [] else []

-- what this router puts before it: its id, and after that the label that it gives where the Path asks for labels (RFC 3209, 4.4.1
-- and 4.4.3)
abbrev pub put_before : Router → ℕ → PathFact → ℕ → List Trace
put_before r flags path label = traces.Ipv4 (record { address = r.id; length = 32 }) flags ∷ (if records_labels path.attr then traces.Label 0x01 label ∷ [] else [])

-- A Resv is for an LSP that is known, from an address of this router, and gives the label that the LSP holds here. Where it
-- has a record, that is the one which came to this router, with this router's own entries before it (RFC 3209, 4.4.3).
pub record SaysWhatIsHeld (r : Router) (s : State) (output : Output) : Type 0 where
  pub key : Key
  pub path : PathFact
  pub label : ℕ
  pub message : Resv
  pub descriptor : FlowDescriptor
  pub known : find key_cmp key s.facts.paths ≡ Some path
  pub held : find key_cmp key s.labels ≡ Some label
  pub says : content_of output.frame ≡ Some (contents.Resv message)
  pub hop : Contains (own_addresses r) message.hop.address
  pub session : message.session ≡ key.session
  pub only : message.descriptors ≡ descriptor ∷ []
  pub lsp : descriptor.filter.lsp ≡ key.sender.lsp
  pub gives : descriptor.label.number ≡ label
  pub flags : ℕ
  pub recorded : (descriptor.recorded ≡ None) ⊎ (descriptor.recorded ≡ Some (put_before r flags path label ++ recorded_after s key path))

-- It is the message for another router that came, unread, its limit one less (RFC 791, 3.2).
abbrev pub IsPassedOn : Event → Output → Type 0
IsPassedOn event output = (came : Relay) × (event ≡ events.Relay came) × (output.frame ≡ frames.Relayed came.to (came.limit - 1) came.message)
