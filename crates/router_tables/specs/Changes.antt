-- What a change makes of what a router knows.
use Rattle.std.specs.Prelude.{◌≡◌, ◌≤◌, ℕ, max, List, Option}
use Rattle.std.specs.Option.{unwrap_or}
use Rattle.sorted_rows.specs.Edits as rows
use Rattle.lsr_facts.specs.Orders.{item_cmp, key_cmp}
use Rattle.lsr_facts.specs.declared.key.Key.{Key}
use Rattle.lsr_facts.specs.declared.router.Router.{Router}
use Rattle.lsr_facts.specs.Upstreams.{upstream_cmp}
use Rattle.abstract_router.specs.Preempting.{claims_of}
use Rattle.abstract_router.specs.Soundness.{IsSound}
use Rattle.abstract_router.specs.States.{State}
use Rattle.admission.specs.Bandwidths.{AreEdits, claim_edits, resv_edits}
use Rattle.label_space.specs.Bindings.{Bindings}
use Rattle.label_space.specs.Rests.{freed_by, rested, resting_past}
use Rattle.label_table.specs.Rows.{AreTableEdits}
use Rattle.label_table.specs.TunnelRows.{AreTunnelEdits}
use Rattle.router_soundness.specs.Assigned.{AreStanding}
use Rattle.state_views.specs.Edits.{edited}
use Rattle.router_tables.specs.declared.change.Change.{Change}

-- the labels that rest once a moment has come and edits of labels are made, where those that they free rest until another moment,
-- if there is one
abbrev pub rests_with_edits : ℕ → List (Key × Option ℕ) → Option ℕ → Bindings → List (ℕ × ℕ)
rests_with_edits moment edits rest_until labels =
    rested (max labels.moment moment) (unwrap_or rest_until 0) (freed_by edits labels.labels) (resting_past moment labels.resting)

-- what is known after a change: after its edits, with the reservations that it keeps, and with the moments at which messages were
-- sent
abbrev pub changed : Change → State → State
changed c s = record (edited c.edits s) {
  facts = record (edited c.edits s).facts { sent = rows.edited item_cmp c.moments s.facts.sent };
  resvs = rows.edited key_cmp (resv_edits c.bandwidth) s.resvs;
  sent_upstream = rows.edited upstream_cmp c.upstream s.sent_upstream;
}

-- The change is one of a router that knows this: what is known after it is sound, with nothing left to promise of the bandwidth of
-- bypasses, and no earlier; what reservations claim then is what its edits make of their claims, and the label table and the table
-- of tunnels after it are what its edits make of those before.
pub record IsChange (r : Router) (s : State) (c : Change) : Type 0 where
  pub sound : IsSound r (changed c s)
  pub standing : AreStanding r (changed c s)
  pub later : s.facts.moment ≤ (changed c s).facts.moment
  pub edits : AreEdits c.bandwidth
  pub claims : rows.edited key_cmp (claim_edits c.bandwidth) (claims_of s.facts.paths s.resvs) ≡ claims_of (changed c s).facts.paths (changed c s).resvs
  pub table : AreTableEdits r s (changed c s) c.table
  pub tunnel_table : AreTunnelEdits r s (changed c s) c.tunnel_table
