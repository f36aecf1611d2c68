-- The change of the label table that a step makes.
use Rattle.std.proofs.Common.{◌≡◌, ◌≤◌, ◌+◌, ◌++◌, ◌∷◌, ℕ, Bool, true, false, List, [], All, IfSome, Option, ap, arith, length, refl, sym, subst, ◌∙◌}
use Rattle.std.proofs.lemmas.List.{append-nil, length-append}
use Rattle.std.specs.Prelude.{filter_map}
use Rattle.std.proofs.lemmas.List.Elements.{All-nil}
use Rattle.forwarding_table.specs.Actions.{WritesLabels}
use Rattle.forwarding_table.specs.declared.action.Action.{Action}
use Rattle.lsr_facts.specs.declared.facts.Facts.{Facts}
use Rattle.lsr_facts.specs.declared.router.Router.{Router}
use Rattle.lsr_facts.specs.declared.tunnel.Tunnel.{Tunnel}
use Rattle.abstract_paths.specs.declared.events.Event.{Event}
use Rattle.abstract_router.specs.BypassTunnels.{bypass_tunnels_of}
use Rattle.abstract_router.specs.Lsps.{lsps_of}
use Rattle.abstract_router.specs.Soundness.{IsSound}
use Rattle.abstract_router.specs.States.{State, bare}
use Rattle.abstract_router.specs.Tables.{ForwardAlike, TellsChange, look, look_tunnel, table_of, tunnel_entry, tunnel_table_of}
use Rattle.abstract_paths.specs.Restarts.{opening_facts}
use Rattle.router_core.specs.Plans.{IsPlanOf, after_plan}
use Rattle.router_core.specs.declared.plan.Plan.{Plan}
use Rattle.router_core.specs.Below.labels.Rows.{AreTableEdits}
use Rattle.router_core.specs.Below.labels.TunnelRows.{AreTunnelEdits}
use Rattle.router_core.specs.Readies.{IsReady, after_ready, with_cold}
use Rattle.router_core.proofs.Cooling.{told_started}
use Rattle.router_core.specs.States.{RouterState, emptied}
use Rattle.router_core.specs.declared.ready.Ready.{Ready}
use Rattle.router_core.specs.declared.ready.Ready.TheVariants as readies
use Rattle.lookup_plane.specs.Changes as planes
use Rattle.lookup_plane.specs.Changes.{Changes, IsChangeOf}
use Rattle.lookup_plane.specs.ChangesLaws.{look_added, look_none, look_tunnel_added, look_tunnel_none}
use Rattle.lookup_plane.specs.declared.change.TableChange.{TableChange}
use Rattle.run_journal.specs.Journals.{IsAnnounced, IsChangeFor, IsOpening, IsShownMore, LeadToTable}
use Rattle.run_journal.specs.Marks.{one_if}
use Rattle.run_journal.proofs.Leading.{edited_are, in_range}

-- a state that knows these facts, but no path and nothing of LSPs
abbrev pathless : Facts → State
pathless facts = bare (record facts { paths = [] })

-- has no tunnel with an action
no_pushes : (r : Router) (facts : Facts) (tunnels : List (ℕ × Tunnel)) → filter_map (tunnel_entry r (pathless facts)) tunnels ≡ []
no_pushes r facts [] = refl
no_pushes r facts (tunnel ∷ tunnels) = no_pushes r facts tunnels

pathless_look : (r : Router) (facts : Facts) (label : ℕ) → look r (pathless facts) label ≡ planes.look [] label
unfolding look table_of lsps_of bypass_tunnels_of planes.look
pathless_look r facts label = refl

pathless_tunnel : (r : Router) (facts : Facts) (number : ℕ) → look_tunnel r (pathless facts) number ≡ planes.look_tunnel [] number
unfolding look_tunnel tunnel_table_of planes.look_tunnel
pathless_tunnel r facts number = rw (no_pushes r facts facts.tunnels) refl

-- no change leads to the table of a router as it is opened
pub lead_opening : (r : Router) (s : State) → IsOpening r s → LeadToTable r s []
lead_opening r s is = subst (λ (t : State). LeadToTable r t []) (sym is.3) (record {
  labels = λ label. sym (pathless_look r (opening_facts r is.0 is.1 is.2) label);
  tunnels = λ number. sym (pathless_tunnel r (opening_facts r is.0 is.1 is.2) number);
})

-- what leads to a table leads to one that forwards alike
pub lead_alike : (r : Router) (before after : State) (changes : List TableChange) → ForwardAlike r before after → LeadToTable r before changes → LeadToTable r after changes
lead_alike r before after changes alike lead = record { labels = λ label. lead.labels label ∙ alike.0 label; tunnels = λ number. lead.tunnels number ∙ alike.1 number }

-- no change
abbrev still : TableChange
still = record { cleared = false; labels = []; tunnels = [] }

-- all actions go
abbrev gone : TableChange
gone = record { cleared = true; labels = []; tunnels = [] }

still_more : (r : Router) (s : State) (changes : List TableChange) → LeadToTable r s changes → LeadToTable r s (changes ++ still ∷ [])
still_more r s changes lead = record {
  labels = λ label. look_added changes still label ∙ lead.labels label;
  tunnels = λ number. look_tunnel_added changes still number ∙ lead.tunnels number;
}

bare_of : (r : Router) (change : TableChange) → change.labels ≡ [] → IsChangeOf r.labels.first r.labels.last change
bare_of r change none = record {
  range = subst (All (λ (row : ℕ × Option Action). (r.labels.first ≤ row.0) × (row.0 ≤ r.labels.last))) (sym none) (All-nil (λ (row : ℕ × Option Action). (r.labels.first ≤ row.0) × (row.0 ≤ r.labels.last)));
  labels = subst (All (λ (row : ℕ × Option Action). IfSome row.1 WritesLabels)) (sym none) (All-nil (λ (row : ℕ × Option Action). IfSome row.1 WritesLabels));
}

-- a plan's edits
pub for_plan : (plan : Plan) (labels tunnels : List (ℕ × Option Action))
    → ((s : RouterState) (event : Event) → IsPlanOf s event plan → AreTableEdits s.router s.state (after_plan plan s.state) labels × AreTunnelEdits s.router s.state (after_plan plan s.state) tunnels × IsSound s.router (after_plan plan s.state))
    → IsChangeFor (readies.Plan plan) (record { cleared = false; labels = labels; tunnels = tunnels })
for_plan plan labels tunnels edits = record {
  leads = λ s event changes is lead. edited_are s.router s.state (after_plan plan s.state) changes labels tunnels lead (edits s event is.1).0 (edits s event is.1).1;
  labels = λ s event is sound. record {
    range = in_range s.router s.state (after_plan plan s.state) labels sound (edits s event is.1).2 (edits s event is.1).0.changes;
    labels = (edits s event is.1).0.labels;
  };
}

-- a plan that changes nothing
pub for_still : (plan : Plan) → ((s : RouterState) (event : Event) → IsPlanOf s event plan → after_plan plan s.state ≡ s.state) → IsChangeFor (readies.Plan plan) still
for_still plan same = record {
  leads = λ s event changes is lead. subst (λ (t : State). LeadToTable s.router t (changes ++ still ∷ [])) (sym (same s event is.1)) (still_more s.router s.state changes lead);
  labels = λ s event is sound. bare_of s.router still refl;
}

pub for_start : IsChangeFor readies.Start still
for_start = record {
  leads = λ s event changes is lead. still_more s.router (with_cold false s.state) changes (lead_alike s.router s.state (with_cold false s.state) changes (told_started s.router s.state) lead);
  labels = λ s event is sound. bare_of s.router still refl;
}

gone_more : (r : Router) (s : State) (changes : List TableChange) → LeadToTable r (with_cold true (emptied s)) (changes ++ gone ∷ [])
gone_more r s changes =
    let facts : Facts = (with_cold true (emptied s)).facts in
    record {
      labels = λ label. look_added changes gone label ∙ sym (look_none label) ∙ sym (pathless_look r facts label);
      tunnels = λ number. look_tunnel_added changes gone number ∙ sym (look_tunnel_none number) ∙ sym (pathless_tunnel r facts number);
    }

pub for_restart : (changes_table : Bool) → IsChangeFor (readies.Restart changes_table) gone
for_restart changes_table = record {
  leads = λ s event changes is lead. gone_more s.router s.state changes;
  labels = λ s event is sound. bare_of s.router gone refl;
}

-- What is announced of a step's change leads to the table after it, and is as many changes as are counted of its entry.
pub announced_leads : (changes_table : Bool) (ready : Ready) (old new : Changes) (s : RouterState) (event : Event) → IsAnnounced changes_table ready old new → old.pending ≡ [] → IsReady s event ready
    → TellsChange changes_table s.router s.state (after_ready ready s.state) → LeadToTable s.router s.state old.published
    → LeadToTable s.router (after_ready ready s.state) (old.published ++ new.pending) × (length (old.published ++ new.pending) ≡ length old.published + one_if changes_table) × IsShownMore changes_table old.published (old.published ++ new.pending)
announced_leads false ready old new s event is none ready_is told lead =
    let same : old.published ++ new.pending ≡ old.published = ap (λ (p : Changes). old.published ++ p.pending) is ∙ ap (λ (cs : List TableChange). old.published ++ cs) none ∙ append-nil old.published in (
      subst (LeadToTable s.router (after_ready ready s.state)) (sym same) (lead_alike s.router s.state (after_ready ready s.state) old.published told lead),
      omega (arith, ap length same),
      same,
    )
announced_leads true ready old new s event is none ready_is told lead =
    let same : old.published ++ new.pending ≡ old.published ++ is.0 ∷ [] =
    ap (λ (p : Changes). old.published ++ p.pending) is.2 ∙ ap (λ (cs : List TableChange). old.published ++ (cs ++ is.0 ∷ [])) none in (
      subst (LeadToTable s.router (after_ready ready s.state)) (sym same) (is.1.leads s event old.published ready_is lead),
      omega (arith, ap length same, length-append old.published (is.0 ∷ [])),
      (is.0, same),
    )

-- Announcing a change leaves what is published as it was, and announces one change at most.
pub announced_parts : (changes_table : Bool) (ready : Ready) (old new : Changes) → IsAnnounced changes_table ready old new → old.pending ≡ []
    → (new.published ≡ old.published) × (new.first_label ≡ old.first_label) × (new.last_label ≡ old.last_label) × (length new.pending ≤ 1) × (changes_table ≡ false → new.pending ≡ [])
announced_parts false ready old new is none =
    let nothing : new.pending ≡ [] = ap (λ (p : Changes). p.pending) is ∙ none in
    (ap (λ (p : Changes). p.published) is, ap (λ (p : Changes). p.first_label) is, ap (λ (p : Changes). p.last_label) is, omega (arith, ap length nothing), λ still_is. nothing)
announced_parts true ready old new is none =
    let one : new.pending ≡ is.0 ∷ [] = ap (λ (p : Changes). p.pending) is.2 ∙ ap (λ (cs : List TableChange). cs ++ is.0 ∷ []) none in
    (ap (λ (p : Changes). p.published) is.2, ap (λ (p : Changes). p.first_label) is.2, ap (λ (p : Changes). p.last_label) is.2, omega (arith, ap length one), λ still_is. absurd cc)
