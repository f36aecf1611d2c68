-- What a router is and knows, and the rows that say so.
use Rattle.std.specs.Prelude.{◌≡◌, false, []}
use Rattle.lsr_config.specs.Configs.{IsConfig, Setup}
use Rattle.lsr_facts.specs.Routers.{IsRouter}
use Rattle.lsr_facts.specs.declared.facts.Facts.{Facts}
use Rattle.abstract_router.specs.Preempting.{claims_of}
use Rattle.abstract_router.specs.Soundness.{IsSound}
pub use Rattle.abstract_router.specs.States.{RouterState, emptied}
use Rattle.abstract_router.specs.States.{State, bare}
use Rattle.abstract_router.specs.Steps.{opening}
use Rattle.abstract_router.specs.Tables.{tunnel_table_of}
use Rattle.label_table.specs.Rows.{IsTableOf}
use Rattle.router_soundness.specs.Assigned.{AreStanding}
use Rattle.router_tables.specs.declared.rows.Rows.{Rows}

-- what the rows of a running router say of links, tunnels and paths
abbrev pub facts_of : Rows → Facts
facts_of t = record {
  cold = false;
  moment = t.moment;
  up = t.up;
  routes = t.routes;
  tunnels = t.tunnels;
  bypasses = t.bypasses;
  paths = t.paths;
  sent = t.timers.sent;
}

-- and all that they say
abbrev pub state_of : Rows → State
state_of t = record (bare (facts_of t)) {
  resvs = t.bandwidth.resvs;
  repairs = t.repairs;
  labels = t.labels.labels;
  assignments = t.assignments;
  resting = t.labels.resting;
  sent_upstream = t.upstream.sent;
}

abbrev pub router_state_of : Rows → RouterState
router_state_of t = record { router = t.router; state = state_of t }

-- The rows are those of a sound router with nothing left to promise of the bandwidth of bypasses: claims, free labels and actions
-- are what its state says, labels rest by its moment, and messages are refreshed as often as it says.
pub record AreTables (t : Rows) : Type 0 where
  pub router : IsRouter t.router
  pub sound : IsSound t.router (state_of t)
  pub standing : AreStanding t.router (state_of t)
  pub period : t.timers.refresh_ms ≡ t.router.refresh_ms
  pub upstream_period : t.upstream.refresh_ms ≡ t.router.refresh_ms
  pub claims : t.bandwidth.claims ≡ claims_of t.paths t.bandwidth.resvs
  pub range : t.labels.range ≡ t.router.labels
  pub moment : t.labels.moment ≡ t.moment
  pub table : IsTableOf t.router (state_of t) t.table.labels
  pub tunnel_table : t.table.tunnels ≡ tunnel_table_of t.router (state_of t)

-- the router of a configuration as it is opened
abbrev pub opened : Setup → RouterState
opened c = record { router = c.router; state = opening c.router c.routes c.tunnels c.bypasses }

-- The rows of a router of a configuration as it is opened: they say what is known then, and nothing is claimed or forwarded.
pub record AreOpened (c : Setup) (t : Rows) : Type 0 where
  pub config : IsConfig c
  pub is : router_state_of t ≡ opened c
  pub period : t.timers.refresh_ms ≡ c.router.refresh_ms
  pub upstream_period : t.upstream.refresh_ms ≡ c.router.refresh_ms
  pub claims : t.bandwidth.claims ≡ []
  pub range : t.labels.range ≡ c.router.labels
  pub moment : t.labels.moment ≡ t.moment
  pub table : t.table ≡ record { labels = []; tunnels = [] }
