-- The edits of a step, with what becomes of bandwidth and of what is forwarded, are a change of the tables.
use Rattle.std.specs.Prelude.{◌≡◌, ◌≢◌, ℕ, All, List, Option, IsOk}
use Rattle.std.specs.List.{AllByRecursion}
use Rattle.std.specs.Ordering.{nat_cmp}
use Rattle.std.proofs.Common.{ap, refl, subst, sym, ◌∙◌}
use Rattle.sorted_rows.specs.Edits as rows
use Rattle.sorted_rows.specs.ListLaws.{all-weaker}
use Rattle.admission.specs.Bandwidths.{AreEdits, Edit, claim_edits, resv_edits}
use Rattle.forwarding_table.specs.declared.action.Action.{Action}
use Rattle.lsr_facts.specs.Orders.{key_cmp}
use Rattle.lsr_facts.specs.declared.key.Key.{Key}
use Rattle.lsr_facts.specs.declared.resv_fact.ResvFact.{ResvFact}
use Rattle.lsr_facts.specs.declared.router.Router.{Router}
use Rattle.rsvp_bodies.specs.Traffic.{flowspec_rate}
use Rattle.abstract_router.specs.BypassTunnels.{bypass_tunnels_of}
use Rattle.abstract_router.specs.LspLaws.{AreAlike, look-alike}
use Rattle.abstract_router.specs.Preempting.{claims_of}
use Rattle.abstract_router.specs.Soundness.{AreLabelled, IsResv, IsSound}
use Rattle.abstract_router.specs.States.{State}
use Rattle.abstract_router.specs.Tables.{look, look_tunnel}
use Rattle.event_steps.specs.EventSteps.{AreStepEdits, after_edits}
use Rattle.event_steps.specs.declared.step.StepEdits.{StepEdits}
use Rattle.router_soundness.specs.Assigned.{AreStanding}
use Rattle.router_tables.specs.Below.labels.RowLaws.{bypass_tunnels-alike, table-alike}
use Rattle.router_tables.specs.Below.labels.Rows.{AreTableEdits}
use Rattle.router_tables.specs.Below.labels.TunnelLaws.{look_tunnel-alike, tunnel_table-alike}
use Rattle.router_tables.specs.Below.labels.TunnelRows.{AreTunnelEdits}
use Rattle.router_tables.specs.Below.views.Edits.{edited}
use Rattle.router_tables.specs.Below.views.KnownLsps.{AreLsps, sound_lsps}
use Rattle.router_tables.specs.Changes.{IsChange, changed}
use Rattle.router_tables.specs.declared.change.Change.{Change}

module _ (r : Router) (s : State) (e : StepEdits) (is : AreStepEdits r s e) where
  -- all is as it should be that is known of LSPs after them
  pub next_lsps : AreLsps r (edited e.edits s)
  next_lsps = let lsps = sound_lsps r (after_edits e s) is.sound in record { paths = lsps.paths; resvs = lsps.resvs; repairs = lsps.repairs }

  pub next_labels : AreLabelled r (edited e.edits s)
  next_labels = let l = is.sound.labels in record { of_lsps = l.of_lsps; from_first = l.from_first; to_last = l.to_last; apart = l.apart }

  pub next_rates : AllByRecursion (λ (resv : Key × ResvFact). IsOk (flowspec_rate resv.1.flowspec)) (edited e.edits s).resvs
  next_rates = all-weaker (IsResv (edited e.edits s).facts.moment) (λ (resv : Key × ResvFact). IsOk (flowspec_rate resv.1.flowspec)) (λ resv is. is.has_rate) (edited e.edits s).resvs next_lsps.resvs

  module _ (gone : List (Key × Option ResvFact)) (bandwidth : List (Key × Edit)) (table tunnel_table : List (ℕ × Option Action))
      (resvs : rows.edited key_cmp (resv_edits bandwidth) s.resvs ≡ (edited e.edits s).resvs) where
    abbrev change : Change
    change = record { edits = record e.edits { resvs = gone }; bandwidth = bandwidth; moments = e.moments; upstream = e.upstream; table = table; tunnel_table = tunnel_table }

    abbrev x : State
    x = edited e.edits s

    -- what is known after the change is what is known after the step
    pub changed_is : changed change s ≡ after_edits e s
    changed_is = λ i. record (after_edits e s) { resvs = resvs i }

    -- the same is known of LSPs after both, and bypasses run over the same
    alike : AreAlike x (changed change s)
    alike = record { resvs = sym resvs; repairs = refl; labels = refl; assignments = refl }

    bypass_tunnels : bypass_tunnels_of r x ≡ bypass_tunnels_of r (changed change s)
    bypass_tunnels = bypass_tunnels-alike r x (changed change s) refl refl refl refl (sym resvs)

    -- labels have the same actions after both
    looks : (label : ℕ) → look r x label ≡ look r (changed change s) label
    looks label = look-alike r x (changed change s) label bypass_tunnels refl alike

    -- and so have tunnels
    looks_tunnel : (number : ℕ) → look_tunnel r x number ≡ look_tunnel r (changed change s) number
    looks_tunnel number = look_tunnel-alike r x (changed change s) number bypass_tunnels refl (sym resvs) refl

    pub change_is : AreEdits bandwidth → rows.edited key_cmp (claim_edits bandwidth) (claims_of s.facts.paths s.resvs) ≡ claims_of x.facts.paths x.resvs → AreTableEdits r s x table → AreTunnelEdits r s x tunnel_table → IsChange r s change
    change_is edits claims are are_tunnels = record {
      sound = subst (IsSound r) (sym changed_is) is.sound;
      standing = subst (AreStanding r) (sym changed_is) is.standing;
      later = is.later;
      edits = edits;
      claims = claims ∙ ap (λ held. claims_of x.facts.paths held) (sym resvs);
      table = record {
        table = λ was of_before. table-alike r x (changed change s) (rows.edited nat_cmp table was) bypass_tunnels refl alike (are.table was of_before);
        room = are.room;
        labels = are.labels;
        changes = subst (λ (f : ℕ → Option Action). All (λ edit. look r s edit.0 ≢ f edit.0) table) (λ i label. looks label i) are.changes;
        none = λ same. are.none (λ label. same label ∙ sym (looks label));
      };
      tunnel_table = record {
        table = are_tunnels.table ∙ tunnel_table-alike r x (changed change s) bypass_tunnels refl (sym resvs) refl;
        labels = are_tunnels.labels;
        changes = subst (λ (f : ℕ → Option Action). All (λ edit. look_tunnel r s edit.0 ≢ f edit.0) tunnel_table) (λ i number. looks_tunnel number i) are_tunnels.changes;
        none = λ same. are_tunnels.none (λ number. same number ∙ sym (looks_tunnel number));
      };
    }
