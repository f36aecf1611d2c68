-- Each repair of a sound state stands: on its path, and on a bypass that is up.
use Rattle.std.specs.Prelude.{◌≡◌, true, false, Option, Some, None, is_some, IfSome}
use Rattle.std.specs.FinMap.Entries.{find}
use Rattle.std.specs.Option.{option_map_or}
use Rattle.std.proofs.Common.{refl, subst}
use Rattle.std.proofs.lemmas.Bool.{and_parts}
use Rattle.sorted_rows.specs.RowsLaws.{find-all_row}
use Rattle.lsr_facts.specs.OrderLaws.{key_exact}
use Rattle.lsr_facts.specs.Orders.{key_cmp}
use Rattle.lsr_facts.specs.declared.key.Key.{Key}
use Rattle.lsr_facts.specs.declared.path_fact.PathFact.{PathFact}
use Rattle.lsr_facts.specs.declared.router.Router.{Router}
use Rattle.lsr_facts.specs.declared.repair.Over.{Over}
use Rattle.lsr_facts.specs.declared.repair.Repair.{Repair}
use Rattle.abstract_paths.specs.Places.{is_up}
use Rattle.abstract_paths.specs.Tears.{leaves_by}
use Rattle.router_soundness.proofs.Selecting.{over_at-up}
use Rattle.abstract_router.specs.BypassTunnels.{bypass_tunnels_of, over_at}
use Rattle.abstract_router.specs.Repairing.{repair_stands}
use Rattle.abstract_router.specs.Soundness.{IsSound}
use Rattle.abstract_router.specs.States.{State}

module _ (r : Router) (s : State) (key : Key) (repair : Repair) where
  -- its LSP leaves by the link that the bypass protects, and the bypass runs over a link that is up
  abbrev pub StandsOnBypass : Type 0
  StandsOnBypass =
      (path : PathFact) × (over : Over) × (find key_cmp key s.facts.paths ≡ Some path) × (leaves_by repair.resv.link path ≡ true)
      × (over_at (bypass_tunnels_of r s) repair.bypass ≡ Some over) × (is_up s.facts.up over.link ≡ true)

  -- so it is where it passes the test
  by_tests : (path : Option PathFact) (over : Option Over) → find key_cmp key s.facts.paths ≡ path → over_at (bypass_tunnels_of r s) repair.bypass ≡ over
      → is_some over ≡ true → option_map_or (leaves_by repair.resv.link) path false ≡ true → StandsOnBypass
  by_tests None over known at some leaves = absurd (let e = leaves in cc)
  by_tests (Some path) None known at some leaves = absurd (let e = some in cc)
  by_tests (Some path) (Some over) known at some leaves = (path, over, known, leaves, at, over_at-up r s repair.bypass over at)

  pub repair_on_bypass : IsSound r s → find key_cmp key s.repairs ≡ Some repair → StandsOnBypass
  repair_on_bypass is found =
      let stands : repair_stands r s (key, repair) ≡ true = subst (λ o. IfSome o (λ v. repair_stands r s (key, v) ≡ true)) found (find-all_row key_cmp key_exact (λ v. repair_stands r s v ≡ true) key s.repairs is.repairs_standing) in
      let parts = and_parts (is_some (over_at (bypass_tunnels_of r s) repair.bypass)) (option_map_or (leaves_by repair.resv.link) (find key_cmp key s.facts.paths) false) stands in
      by_tests (find key_cmp key s.facts.paths) (over_at (bypass_tunnels_of r s) repair.bypass) refl refl parts.0 parts.1
