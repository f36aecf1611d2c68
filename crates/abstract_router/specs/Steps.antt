-- One step of the abstract router, and runs of steps.
use Rattle.std.specs.Prelude.{◌≡◌, ◌≢◌, ◌++◌, ◌+◌, ℕ, true, if◌then◌else◌, Bool, false, List, [], ◌∷◌, filter, map}
use Rattle.std.specs.List.{AllByRecursion}
use Rattle.std.specs.Option.{option_map_or}
use Rattle.rsvp_bodies.specs.declared.prefix.Prefix.{Prefix}
use Rattle.lsr_facts.specs.Tunnels.{current_key, pending_key}
use Rattle.lsr_facts.specs.declared.bypass.Bypass.{Bypass}
use Rattle.lsr_facts.specs.declared.key.Key.{Key}
use Rattle.lsr_facts.specs.declared.path_fact.PathFact.{PathFact}
use Rattle.lsr_facts.specs.declared.router.Router.{Router}
use Rattle.lsr_facts.specs.declared.tunnel.Tunnel.{Tunnel}
use Rattle.lsr_facts.specs.Changes.{switched}
use Rattle.lsr_facts.specs.declared.refusal.Refusal.{Refusal}
use Rattle.lsr_facts.specs.declared.refusal.Refusal.TheVariants.{HopLimit, IsCold}
use Rattle.abstract_paths.specs.declared.events.Event.TheVariants as events
use Rattle.abstract_paths.specs.declared.events.Event.{Event}
use Rattle.abstract_paths.specs.declared.events.Made.{Made}
use Rattle.abstract_paths.specs.declared.events.Output.{Output}
use Rattle.abstract_paths.specs.Changes.{without_paths}
use Rattle.abstract_paths.specs.Relays.{exceeds_hop_limit}
use Rattle.abstract_paths.specs.Restarts.{opening_facts}
pub use Rattle.abstract_paths.specs.Events.{IsCommand, IsEvent}
use Rattle.abstract_router.specs.Arrivals.{outcome}
use Rattle.label_space.specs.Rests.{rested}
use Rattle.abstract_router.specs.Assigning.{assigned_anew, assignments_left}
use Rattle.abstract_router.specs.Labels.{IsLabelling, freed, labels_after}
use Rattle.abstract_router.specs.Outcomes.{Outcome}
use Rattle.abstract_router.specs.Outputs.{item_stamps, outputs_of, upstream_stamps}
use Rattle.abstract_router.specs.Repairing.{repaired, repairs_left, told_repaired}
pub use Rattle.abstract_router.specs.Standing.{stands}
use Rattle.abstract_router.specs.States.{State, bare, is_reserved, with_facts, with_resvs_where}

-- a router as it is opened: nothing is known of LSPs
abbrev pub opening : Router → List (Prefix × ℕ) → List (ℕ × Tunnel) → List (ℕ × Bypass) → State
opening r routes tunnels bypasses = bare (opening_facts r routes tunnels bypasses)

-- the LSP that is to take the place of the tunnel's current one is reserved
abbrev pub is_ready : Router → State → ℕ × Tunnel → Bool
is_ready r s tunnel = option_map_or (is_reserved s) (pending_key r tunnel) false

-- the LSPs that tunnels give up then: their current ones
abbrev pub given_up : Router → State → List Key
given_up r s = map (current_key r) (filter (is_ready r s) s.facts.tunnels)

-- the tunnel, with its new LSP in its current one's place where that is reserved
abbrev pub switched_where : (ℕ × Tunnel → Bool) → ℕ × Tunnel → ℕ × Tunnel
switched_where test tunnel = if test tunnel then (tunnel.0, switched tunnel.1) else tunnel

-- First each tunnel whose new LSP is reserved goes over to it, and the LSP that carried its traffic goes (RFC 3209, 2.5).
unfoldable pub taken_over : Router → State → State
taken_over r s = with_facts (without_paths (given_up r s) (record s.facts { tunnels = map (switched_where (is_ready r s)) s.facts.tunnels })) s

-- No tunnel's new LSP is reserved. So it is after each step, since the tunnel goes over to it in the step that reserves it.
abbrev pub AreSettled : Router → State → Type 0
AreSettled r s = AllByRecursion (λ tunnel. is_ready r s tunnel ≡ false) s.facts.tunnels

-- reservations go that stand no more: their path went, or leaves by another link, or ends here now; or their link went
-- down (RFC 2205, 2.3 and 3.6)
abbrev pub resvs_left : State → State
resvs_left s = with_resvs_where (stands s.facts) s

-- Then reservations go that stand no more, and by what is left of them repairs: a bypass that lost its own reservation
-- isn't up.
abbrev pub left_standing : Router → State → State
left_standing r s = repairs_left r (resvs_left s)

-- At last each LSP that is new has the label that was chosen for it, and the labels of those that went rest, from this moment
-- on, for as long as the router has them rest.
abbrev pub labelled : Router → List (Key × ℕ) → State → State
labelled r chosen s = record s {
  labels = labels_after s.labels chosen s.facts.paths;
  resting = rested s.facts.moment (s.facts.moment + r.label_rest_ms) (freed s.labels s.facts.paths) s.resting;
}

-- tunnels go over to new LSPs, and the bandwidth of bypasses is promised anew
abbrev pub promised : Router → State → State
promised r s = assigned_anew r (taken_over r s)

-- What follows from an event's own change, in this order: tunnels go over to new LSPs, the bandwidth of bypasses is promised
-- anew, what a lost link takes away is repaired, what stands no more goes, and labels are given.
abbrev pub settled : Router → List (Key × ℕ) → State → State
settled r chosen s = labelled r chosen (assignments_left (left_standing r (repaired r (promised r s))))

-- and when each message was sent last
abbrev pub with_moments : Router → State → Outcome → State → State
with_moments r before o after =
    record after { facts = record after.facts { sent = item_stamps r before o.due after }; sent_upstream = upstream_stamps r before o.upstream_due after }

-- What is known after a step.
abbrev pub known_after : Router → State → List (Key × ℕ) → Outcome → State
known_after r before chosen o = if o.is_silent then o.after else with_moments r before o (settled r chosen o.after)

-- What a step sends.
abbrev pub sent_in : Router → State → Outcome → State → List Output
sent_in r before o after =
    if o.is_silent then [] else outputs_of r before (o.errors ++ told_repaired r (promised r o.after)) o.due o.upstream_due after

-- The labels that a step may choose: a silent one gives none.
abbrev pub MayChooseBy : Bool → Router → State → List (Key × PathFact) → List (Key × ℕ) → Type 0
MayChooseBy true r before paths chosen = chosen ≡ []
MayChooseBy false r before paths chosen = IsLabelling r before paths chosen

abbrev pub MayChoose : Router → State → Outcome → List (Key × ℕ) → Type 0
MayChoose r before o chosen = MayChooseBy o.is_silent r before o.after.facts.paths chosen

-- One step, made: what the event does and what follows from it, its answer, and what is sent. While the router is
-- cold, no event but Start is one; nor is a message for another router whose limit ran out.
pub record Step (r : Router) (before : State) (made : Made) (after : State) : Type 0 where
  pub possible : IsEvent made.event
  pub awake : before.facts.cold ≡ true → made.event ≡ events.Start
  pub passes : exceeds_hop_limit r before.facts made.event ≡ false
  pub chosen : MayChoose r before (outcome r before made.event) made.labels
  pub replied : made.reply ≡ (outcome r before made.event).reply
  pub changed : after ≡ known_after r before made.labels (outcome r before made.event)
  pub sent : made.outputs ≡ sent_in r before (outcome r before made.event) after

-- Steps, one after the other.
abbrev pub Run : Router → State → List Made → State → Type 0
Run r before [] after = after ≡ before
Run r before (made ∷ more) after = (between : State) × Step r before made between × Run r between more after

-- What an event is refused for without a step: a cold router refuses all but its start; a running one drops a message
-- for another router whose limit ran out.
abbrev pub IsNoStep : Router → State → Event → Refusal → Type 0
IsNoStep r before event IsCold = (before.facts.cold ≡ true) × (event ≢ events.Start)
IsNoStep r before event HopLimit = (before.facts.cold ≡ false) × (exceeds_hop_limit r before.facts event ≡ true)
IsNoStep r before event refusal = ⊥
