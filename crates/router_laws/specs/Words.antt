-- What the laws speak of.
use Rattle.std.specs.Prelude.{◌<◌, ◌≢◌, ℕ, Bool, true, false, is_some, Option}
use Rattle.std.specs.Bool.{then_some}
use Rattle.std.specs.List.{AllByRecursion}
use Rattle.std.specs.declared.net.ipv4_addr.Ipv4Addr.{Ipv4Addr}
use Rattle.lsr_facts.specs.declared.key.Key.{Key}
use Rattle.lsr_facts.specs.declared.path_fact.Origin.{Origin}
use Rattle.lsr_facts.specs.declared.path_fact.PathFact.{PathFact}
use Rattle.lsr_facts.specs.declared.router.Router.{Router}
use Rattle.lsr_facts.specs.declared.repair.Repair.{Repair}
pub use Rattle.abstract_paths.specs.Arrivals.{comes}
use Rattle.abstract_paths.specs.declared.events.Event.{Event}
use Rattle.abstract_paths.specs.declared.events.Event.TheVariants as events
use Rattle.abstract_paths.specs.declared.events.Made.{Made}
use Rattle.abstract_router.specs.BypassTunnels.{bypass_tunnels_of, over_at}
use Rattle.abstract_router.specs.States.{State}

-- what happened isn't a restart
abbrev pub IsNoRestart : Made → Type 0
IsNoRestart made = made.event ≢ events.Restart

-- a link comes up, or it goes down
abbrev pub link_event : ℕ → Bool → Event
link_event number true = events.LinkUp number
link_event number false = events.LinkDown number

-- each origin of the path has its expiry above the moment
abbrev pub IsUnexpired : ℕ → Key × PathFact → Type 0
IsUnexpired moment path = AllByRecursion (λ (origin : Ipv4Addr × Origin). moment < origin.1.expiry) path.1.origins

-- a repair, where its bypass is up
abbrev pub where_up : Router → State → Repair → Option Repair
where_up r s repair = then_some (is_some (over_at (bypass_tunnels_of r s) repair.bypass)) repair
