-- What a Resv does, descriptor by descriptor (RFC 2205, 3.1.4 and 3.7; RFC 3209, 2.4, 4.1 and 4.6.3).
use Rattle.std.specs.Prelude.{ℕ, ◌+◌, ◌||◌, ◌++◌, not, Bool, true, false, if◌then◌else◌, List, [], ◌∷◌, fold, Option, Some, None, Result, Ok, Err, find as find_first}
use Rattle.std.specs.FinMap.Entries.{find}
use Rattle.std.specs.List.{list_any}
use Rattle.std.specs.Option.{option_map_or, option_or, option_to_list}
use Rattle.rsvp_contents.specs.declared.messages.Resv.{Resv}
use Rattle.rsvp_contents.specs.declared.descriptors.ErrorDescriptor.{ErrorDescriptor}
use Rattle.rsvp_contents.specs.declared.descriptors.FlowDescriptor.{FlowDescriptor}
use Rattle.rsvp_bodies.specs.Traffic.{flowspec_rate}
use Rattle.rsvp_bodies.specs.declared.traffic_fault.TrafficFault.{TrafficFault}
use Rattle.rsvp_bodies.specs.declared.traffic_fault.TrafficFault.TheVariants.{ServiceUnsupported, BadFlowspec, BadTspec}
use Rattle.lsr_facts.specs.Orders.{key_cmp}
use Rattle.lsr_facts.specs.declared.errors.RsvpError.{RsvpError}
use Rattle.lsr_facts.specs.declared.key.Key.{Key}
use Rattle.lsr_facts.specs.declared.path_fact.PathFact.{PathFact}
use Rattle.lsr_facts.specs.declared.refusal.Refusal.TheVariants.{NoMatch}
use Rattle.lsr_facts.specs.declared.reply.Reply.TheVariants as replies
use Rattle.lsr_facts.specs.declared.router.Router.{Router}
use Rattle.lsr_facts.specs.Claims.{is_same_session}
pub use Rattle.lsr_facts.specs.Conflicts.{conflicts, is_same_style}
use Rattle.lsr_facts.specs.Reservations.{style_of}
use Rattle.lsr_facts.specs.declared.resv_fact.ResvFact.{ResvFact}
use Rattle.lsr_facts.specs.declared.resv_fact.ResvStyle.{ResvStyle}
use Rattle.abstract_paths.specs.declared.events.Output.{Output}
use Rattle.abstract_paths.specs.Outcomes.{lsp}
use Rattle.abstract_paths.specs.Paths.{has_loop, lifetime, unknown_object}
use Rattle.abstract_paths.specs.Tears.{leaves_by}
use Rattle.lsr_facts.specs.Errors.{no_bandwidth, no_path, no_sender, style_conflict, unknown_style, unsupported_service, bad_flowspec, unacceptable_label}
use Rattle.abstract_router.specs.Outcomes.{Outcome, replied, reservation_error, refused, told_downstream}
use Rattle.abstract_router.specs.Preempting.{all_told_preempted, fits_link, giving_way}
use Rattle.forwarding_table.specs.Labels.{is_label}
use Rattle.abstract_router.specs.States.{State, is_held, is_repaired, with_resv, without_resvs}

-- the LSP that a descriptor is for
abbrev pub key_in : Resv → FlowDescriptor → Key
key_in v d = lsp v.session d.filter

-- the reservation that a descriptor asks for (RFC 2205, 2.3 and 3.7)
abbrev pub resv_by : ℕ → ℕ → ResvStyle → Resv → FlowDescriptor → ResvFact
resv_by moment link style v d = record {
  link = link;
  style = style;
  flowspec = d.flowspec;
  label = d.label.number;
  recorded = d.recorded;
  passing = v.passing;
  expiry = moment + lifetime v.time.refresh_ms;
}

-- the error of a FLOWSPEC that has no rate
abbrev pub traffic_error : TrafficFault → RsvpError
traffic_error ServiceUnsupported = unsupported_service
traffic_error BadFlowspec = bad_flowspec
traffic_error BadTspec = bad_flowspec

-- What becomes of a descriptor: it is in error, and that is told; it is passed over, and nothing is told; or it is
-- granted.
pub data Verdict : Type 0 where
  Failed : RsvpError → Verdict
  PassedOver : Verdict
  Granted : Verdict

-- What becomes of a descriptor that asks for this reservation, by what its FLOWSPEC's rate is, and whether there is room for
-- it (RFC 2205, B, 1 and 21; its label: RFC 3209, 7.3; its record: RFC 3209, 4.4.4).
abbrev pub verdict_by_rate : Router → ResvFact → Bool → Result ℕ TrafficFault → Verdict
verdict_by_rate r fact has_room (Err fault) = Failed (traffic_error fault)
verdict_by_rate r fact has_room (Ok rate) =
    if not (is_label fact.label) then Failed unacceptable_label
    else if has_loop r fact.recorded then PassedOver
    else if not has_room then Failed no_bandwidth
    else Granted

-- and by the other reservations of its session on the link
abbrev pub verdict_by_style : Router → State → Key → ResvFact → Bool → Verdict
verdict_by_style r s key fact has_room =
    option_map_or (λ other. Failed (style_conflict other.1.style)) (find_first (conflicts fact.link fact.style key) s.resvs)
    (verdict_by_rate r fact has_room (flowspec_rate fact.flowspec))

-- What becomes of it where its LSP has this path (RFC 2205, B, 5). One for a repaired LSP comes through no bypass here.
abbrev pub verdict_on_path : Router → State → Key → ResvFact → PathFact → Verdict
verdict_on_path r s key fact path =
    if not (leaves_by fact.link path) || is_repaired s key then PassedOver
    else verdict_by_style r s key fact (fits_link r s key fact)

-- What becomes of it: the first of these that holds (RFC 2205, B, 3 and 4).
unfoldable pub verdict_of : Router → State → Key → ResvFact → Verdict
verdict_of r s key fact =
    if not (list_any (λ path. is_same_session key.session path.0.session) s.facts.paths) then Failed no_path
    else option_map_or (verdict_on_path r s key fact) (find key_cmp key s.facts.paths) (Failed no_sender)

-- What some of a Resv's descriptors have led to: the state, the errors in the order found, the first error of a
-- descriptor, and whether one was granted.
pub record Progress : Type 0 where
  pub state : State
  pub errors : List Output
  pub first : Option RsvpError
  pub has_granted : Bool

-- a descriptor as an error names it
abbrev pub named : FlowDescriptor → ErrorDescriptor
named d = record { flowspec = Some d.flowspec; filter = d.filter }

-- The error of a descriptor goes back over the link that the Resv came by; it says in place where the LSP is reserved or
-- repaired (RFC 2205, 3.1.8 and A.5).
abbrev pub told_failed : Router → State → ℕ → Resv → FlowDescriptor → RsvpError → List Output
told_failed r s link v d e = option_to_list (told_downstream r link v.session (reservation_error r (is_held s (key_in v d)) e) v.style (named d ∷ []))

-- What comes of a descriptor. One that is granted has its reservation put, once those who give way have lost theirs.
abbrev pub carried_on : Router → ℕ → Resv → FlowDescriptor → ResvFact → Progress → Verdict → Progress
carried_on r link v d fact progress (Failed e) =
    record progress { errors = progress.errors ++ told_failed r progress.state link v d e; first = option_or progress.first (Some e) }
carried_on r link v d fact progress PassedOver = progress
carried_on r link v d fact progress Granted =
    let gone = giving_way r progress.state (key_in v d) fact in
    record progress {
      state = with_resv (key_in v d) fact (without_resvs gone progress.state);
      errors = progress.errors ++ all_told_preempted r progress.state gone;
      has_granted = true;
    }

-- and so the next descriptor is taken
abbrev pub next_descriptor : Router → ℕ → ResvStyle → Resv → Progress → FlowDescriptor → Progress
next_descriptor r link style v progress d =
    let fact = resv_by progress.state.facts.moment link style v d in
    carried_on r link v d fact progress (verdict_of r progress.state (key_in v d) fact)

-- all of them, in their order
abbrev pub all_descriptors : Router → State → ℕ → ResvStyle → Resv → Progress
all_descriptors r s link style v =
    fold (next_descriptor r link style v) (record { state = s; errors = []; first = None; has_granted = false }) v.descriptors

-- The reply to a Resv: the first error found; with none, done where one was granted; else it matches nothing.
abbrev pub resv_replied : State → Progress → Option RsvpError → Outcome
resv_replied s progress (Some e) = replied (replies.Error e) progress.errors progress.state
resv_replied s progress None = if progress.has_granted then replied replies.Done progress.errors progress.state else refused s NoMatch

-- A Resv that is in error as a whole: that is told back, and changes nothing.
abbrev pub resv_failed : Router → State → ℕ → Resv → Bool → List ErrorDescriptor → RsvpError → Outcome
resv_failed r s link v in_place descriptors e =
    replied (replies.Error e) (option_to_list (told_downstream r link v.session (reservation_error r in_place e) v.style descriptors)) s

-- What a Resv does: one of another style than FF and SE is in error (RFC 2205, B, 6).
unfoldable pub resv_arrival : Router → State → ℕ → Resv → Outcome
resv_arrival r s link v =
    option_map_or (λ style. let progress = all_descriptors r s link style v in resv_replied s progress progress.first)
    (style_of v.style) (resv_failed r s link v false [] unknown_style)

-- the first descriptor, as an error names it
abbrev pub first_named : List FlowDescriptor → List ErrorDescriptor
first_named [] = []
first_named (d ∷ ds) = named d ∷ []

-- its LSP is reserved or repaired
abbrev pub first_is_held : State → Resv → List FlowDescriptor → Bool
first_is_held s v [] = false
first_is_held s v (d ∷ ds) = is_held s (key_in v d)

-- A Resv with an object that it doesn't know is in error, for the first descriptor (RFC 2205, 3.10 and B, 13 and 14).
unfoldable pub unknown_resv : Router → State → ℕ → Resv → ℕ → ℕ → Outcome
unknown_resv r s link v class ctype =
    resv_failed r s link v (first_is_held s v v.descriptors) (first_named v.descriptors) (unknown_object class ctype)
