-- What was given stays given, and what was true of it true.
use Rattle.std.specs.Prelude.{◌≡◌, ℕ, List, [], ◌∷◌, Contains, unwrap_or}
use Rattle.std.specs.List.{AllByRecursion}
use Rattle.std.specs.declared.net.ipv4_addr.Ipv4Addr.{Ipv4Addr}
use Rattle.std.proofs.Common.{ap, ◌∙◌}
use Rattle.rsvp_bodies.specs.declared.trace.Trace.{Trace}
use Rattle.rsvp_bodies.specs.declared.trace.Trace.TheVariants as traces
use Rattle.rsvp_contents.specs.declared.descriptors.FlowDescriptor.{FlowDescriptor}
use Rattle.rsvp_contents.specs.declared.messages.Content.{Content}
use Rattle.rsvp_contents.specs.declared.messages.Content.TheVariants as contents
use Rattle.rsvp_contents.specs.declared.messages.Resv.{Resv}
use Rattle.link_frames.specs.declared.frame.Frame.{Frame}
use Rattle.link_frames.specs.declared.frame.Frame.TheVariants as frames
use Rattle.link_frames.specs.declared.payload.Payload.{Payload}
use Rattle.link_frames.specs.declared.payload.Payload.TheVariants as payloads
use Rattle.link_frames.specs.declared.payload.ReceivedPayload.TheVariants as received_payloads
use Rattle.sorted_rows.specs.ListLaws.{all-weaker}
use Rattle.lsr_facts.specs.declared.router.Router.{Router}
use Rattle.abstract_router.specs.Reserving.{key_in}
use Rattle.abstract_router.specs.States.{State}
use Rattle.abstract_world.specs.Wires.{other_end, router_at}
use Rattle.abstract_world.specs.Worlds.{WorldState, routers_in}
use Rattle.abstract_world.specs.declared.joint.End.{End}
use Rattle.abstract_world.specs.declared.joint.Joint.{Joint}
use Rattle.abstract_world.specs.declared.sent.Given.{Given}
use Rattle.abstract_world.specs.declared.sent.Sent.{Sent}
use Rattle.world_laws.specs.Given.{AreGiven, Gave, IsGivenBy, IsGivenFrom, IsGivenOver, IsNextGiven, IsTrueRecord, LspName, name_of, row_of}
use Rattle.world_laws.specs.Truths.{IsFrom, IsTrueDescriptor, IsTrueFrame, IsTrueMessage, IsTruePayload, IsTrueRouter, IsTruthful}

-- a world as it is later: the same routers and wires, and what was given
pub record IsLater (w after : WorldState) : Type 0 where
  pub routers : routers_in after.routers ≡ routers_in w.routers
  pub joints : after.joints ≡ w.joints
  pub given : (row : Given) → Contains w.given row → Contains after.given row

module _ (w after : WorldState) (later : IsLater w after) where
  there_later : (place : ℕ) → router_at (routers_in after.routers) place ≡ router_at (routers_in w.routers) place
  there_later place = ap (λ (routers : List Router). router_at routers place) later.routers

  pub gave_later : (place : ℕ) (lsp : LspName) (label : ℕ) → Gave w place lsp label → Gave after place lsp label
  gave_later place lsp label is = later.given (row_of place lsp label) is

  pub from_later : (address : Ipv4Addr) (lsp : LspName) (label : ℕ) → IsGivenFrom w address lsp label → IsGivenFrom after address lsp label
  from_later address lsp label is = record { place = is.place; router = is.router; there = there_later is.place ∙ is.there; own = is.own; gave = gave_later is.place lsp label is.gave }

  pub by_later : (id : Ipv4Addr) (lsp : LspName) (label : ℕ) → IsGivenBy w id lsp label → IsGivenBy after id lsp label
  by_later id lsp label is = record { place = is.place; router = is.router; there = there_later is.place ∙ is.there; named = is.named; gave = gave_later is.place lsp label is.gave }

  pub over_later : (link : End) (lsp : LspName) (label : ℕ) → IsGivenOver w link lsp label → IsGivenOver after link lsp label
  over_later link lsp label is = record { other = is.other; leads = ap (λ (joints : List Joint). other_end joints link) later.joints ∙ is.leads; gave = gave_later is.other.router lsp label is.gave }

  next_later : (lsp : LspName) (id : Ipv4Addr) (entries : List Trace) → IsNextGiven w lsp id entries → IsNextGiven after lsp id entries
  next_later lsp id [] is = tt
  next_later lsp id (traces.Label flags label ∷ entries) is = by_later id lsp label is
  next_later lsp id (traces.Ipv4 prefix flags ∷ entries) is = tt
  next_later lsp id (traces.Other bytes ∷ entries) is = tt

  given_later : (lsp : LspName) (entries : List Trace) → AreGiven w lsp entries → AreGiven after lsp entries
  given_later lsp [] is = tt
  given_later lsp (traces.Ipv4 prefix flags ∷ entries) is = (next_later lsp prefix.address entries is.0, given_later lsp entries is.1)
  given_later lsp (traces.Label flags label ∷ entries) is = given_later lsp entries is
  given_later lsp (traces.Other bytes ∷ entries) is = given_later lsp entries is

  pub record_later : (lsp : LspName) (entries : List Trace) → IsTrueRecord w lsp entries → IsTrueRecord after lsp entries
  record_later lsp entries is = (is.0, given_later lsp entries is.1)

  descriptor_later : (v : Resv) (d : FlowDescriptor) → IsTrueDescriptor w v d → IsTrueDescriptor after v d
  descriptor_later v d is = record {
    label = from_later v.hop.address (name_of (key_in v d)) d.label.number is.label;
    recorded = record_later (name_of (key_in v d)) (unwrap_or d.recorded []) is.recorded;
  }

  pub message_later : (content : Content) → IsTrueMessage w content → IsTrueMessage after content
  message_later (contents.Path p) is = tt
  message_later (contents.Resv v) is = all-weaker (IsTrueDescriptor w v) (IsTrueDescriptor after v) (descriptor_later v) v.descriptors is
  message_later (contents.PathErr e) is = tt
  message_later (contents.ResvErr e) is = tt
  message_later (contents.PathTear t) is = tt
  message_later (contents.ResvTear t) is = tt

  from_here_later : (place : ℕ) (content : Content) → IsFrom w place content → IsFrom after place content
  from_here_later place (contents.Path p) is = tt
  from_here_later place (contents.Resv v) is = (is.0, there_later place ∙ is.1, is.2)
  from_here_later place (contents.PathErr e) is = tt
  from_here_later place (contents.ResvErr e) is = tt
  from_here_later place (contents.PathTear t) is = tt
  from_here_later place (contents.ResvTear t) is = tt

  payload_later : (payload : Payload) → IsTruePayload w payload → IsTruePayload after payload
  payload_later (payloads.Received (received_payloads.Bytes content)) is = tt
  payload_later (payloads.Received (received_payloads.Message message)) is = λ content spells. message_later content (is content spells)
  payload_later (payloads.Message content) is = message_later content is

  pub frame_later : (place : ℕ) (frame : Frame) → IsTrueFrame w place frame → IsTrueFrame after place frame
  frame_later place (frames.Hop content) is = (from_here_later place content is.0, message_later content is.1)
  frame_later place (frames.Labelled stack payload) is = payload_later payload is
  frame_later place (frames.Routed to limit content) is = message_later content is
  frame_later place (frames.Relayed to limit message) is = λ content spells. message_later content (is content spells)

  pub frames_later : (sents : List Sent) → AllByRecursion (IsTruthful w) sents → AllByRecursion (IsTruthful after) sents
  frames_later sents is = all-weaker (IsTruthful w) (IsTruthful after) (λ sent. frame_later sent.router sent.output.frame) sents is

  -- a router that knows what it knew
  pub router_later : (place : ℕ) (r : Router) (s : State) → IsTrueRouter w place r s → IsTrueRouter after place r s
  router_later place r s is = record {
    router = is.router;
    sound = is.sound;
    settled = is.settled;
    resvs = λ key resv found.
        let old = is.resvs key resv found in record {
          label = over_later (record { router = place; link = resv.link }) (name_of key) resv.label old.label;
          recorded = record_later (name_of key) (unwrap_or resv.recorded []) old.recorded;
        };
    repairs = λ key repair found.
        let old = is.repairs key repair found in record {
          bypass_tunnel = old.bypass_tunnel;
          known = old.known;
          label = by_later old.bypass_tunnel.ends_at (name_of key) repair.resv.label old.label;
          recorded = record_later (name_of key) (unwrap_or repair.resv.recorded []) old.recorded;
        };
    labels = λ key label found. gave_later place (name_of key) label (is.labels key label found);
  }
