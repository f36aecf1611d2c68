-- What stands under reservations, in two parts.
use Rattle.std.specs.Prelude.{◌≡◌, ◌≤◌, ◌^◌, true, []}
use Rattle.std.specs.List.{AllByRecursion}
use Rattle.sorted_rows.specs.Rows.{keys_of}
use Rattle.lsr_facts.specs.Bypasses.{AreBypasses}
use Rattle.lsr_facts.specs.Routers.{AreRoutes}
use Rattle.lsr_facts.specs.Tunnels.{AreTunnels}
use Rattle.lsr_facts.specs.declared.facts.Facts.{Facts}
use Rattle.lsr_facts.specs.declared.router.Router.{Router}
use Rattle.abstract_paths.specs.Soundness.{ArePaths, IsHeadOf, IsPendingSignalled}

-- links, static routes, time, tunnels and bypasses
pub record AreSurroundings (r : Router) (s : Facts) : Type 0 where
  pub moment : s.moment ≤ 2 ^ 62
  pub links : keys_of s.up ≡ keys_of r.links
  pub routes : AreRoutes r s.routes
  pub tunnels : AreTunnels r s.tunnels
  pub bypasses : AreBypasses r s.tunnels s.bypasses

-- paths, and those of the tunnels among them
pub record ArePathsOfTunnels (r : Router) (s : Facts) : Type 0 where
  pub paths : ArePaths r s.moment s.paths
  pub heads : AllByRecursion (IsHeadOf r s.tunnels) s.paths
  pub pending : AllByRecursion (IsPendingSignalled r s.paths) s.tunnels
  pub cold : s.cold ≡ true → s.paths ≡ []
