-- What is known of the paths of a router goes on as messages.
use Rattle.std.specs.Prelude.{◌≡◌, ℕ, ◌+◌, ◌≤◌, ◌==◌, not, Bool, true, List, Option, Some, None, IfSome, IsTrue, count_by}
use Rattle.std.specs.FinMap.Entries.{find}
use Rattle.std.specs.List.{AllByRecursion}
use Rattle.std.specs.Option.{option_and_then, option_map, option_map_or}
use Rattle.std.specs.Ordering.{nat_cmp}
use Rattle.std.specs.declared.net.ipv4_addr.Ipv4Addr.{Ipv4Addr}
use Rattle.std.proofs.Common.{ap, arith, refl, ◌∙◌}
use Rattle.std.proofs.lemmas.Bool.{and_from, and_parts, le-leb, leb-true}
use Rattle.sorted_rows.specs.RowsLaws.{find-all_row}
use Rattle.rsvp_objects.specs.Ranges.{IsAddress}
use Rattle.rsvp_objects.specs.Raw.{Raw}
use Rattle.rsvp_objects.specs.declared.values.FastReroute.{FastReroute}
use Rattle.rsvp_bodies.specs.declared.step.Step.{Step}
use Rattle.rsvp_contents.specs.Fitting.{are_passed_on, fits_path, has_adspec_last, has_one_fast_reroute}
use Rattle.rsvp_contents.specs.Limits.{is_short_passing, is_short_record, is_short_route}
use Rattle.rsvp_contents.specs.declared.messages.Path.{Path}
use Rattle.lsr_facts.specs.OrderLaws.{key_exact}
use Rattle.lsr_facts.specs.Orders.{key_cmp}
use Rattle.lsr_facts.specs.declared.key.Key.{Key}
use Rattle.lsr_facts.specs.declared.path_fact.PathFact.{PathFact}
use Rattle.lsr_facts.specs.declared.router.Link.{Link}
use Rattle.lsr_facts.specs.declared.router.Router.{Router}
use Rattle.lsr_facts.specs.declared.repair.BypassTunnel.{BypassTunnel}
use Rattle.lsr_facts.specs.declared.repair.Over.{Over}
use Rattle.lsr_facts.specs.declared.repair.Repair.{Repair}
use Rattle.forwarding_table.specs.Labels.{is_label}
use Rattle.abstract_paths.proofs.BackupRoutes.{route_after-short}
use Rattle.abstract_paths.specs.BackupRoutes.{route_after}
use Rattle.abstract_paths.specs.MessageLaws.{onward_fits, onward_has_room}
use Rattle.abstract_paths.specs.Paths.{grown}
use Rattle.abstract_paths.specs.Soundness.{ArePaths, IsPath, IsWithinLimits, begins_with_ipv4}
use Rattle.abstract_router.specs.BypassTunnels.{bypass_tunnels_of}
use Rattle.abstract_router.specs.Soundness.{IsResv}
use Rattle.abstract_router.specs.States.{State}
use Rattle.abstract_router.specs.Through.{backup_path, passing_through}
use Rattle.facility_backup.specs.OverLaws.{over_is}
use Rattle.wanted_messages.specs.Fitting.{CanGoOn, CanGoThrough}
use Rattle.wanted_messages.specs.PassingLaws.{some_adspec_last, some_count, some_passed_on, some_short}

-- what is known of a path, if it is, goes on as messages
goes_on : (r : Router) (moment : ℕ) (key : Key) (known : Option PathFact) → IfSome known (λ fact. IsPath r moment (key, fact)) → IfSome known (CanGoOn r key)
goes_on r moment key None path = tt
goes_on r moment key (Some fact) path = λ link. (onward_fits r key fact link path.limits, onward_has_room r key fact link path.whole_tspec)

-- what is known under a key is a path
pub known_is_path : (r : Router) (moment : ℕ) (key : Key) (paths : List (Key × PathFact)) → ArePaths r moment paths → IfSome (find key_cmp key paths) (λ fact. IsPath r moment (key, fact))
known_is_path r moment key paths are = find-all_row key_cmp key_exact (IsPath r moment) key paths are.each

-- so it goes on as messages
pub known_goes_on : (r : Router) (moment : ℕ) (key : Key) (paths : List (Key × PathFact)) → ArePaths r moment paths → IfSome (find key_cmp key paths) (CanGoOn r key)
known_goes_on r moment key paths are = goes_on r moment key (find key_cmp key paths) (known_is_path r moment key paths are)

-- the route of a Path whose parts fit does
pub route_fits : (p : Path) → IsTrue (fits_path p) → IsTrue (option_map_or is_short_route p.route true)
route_fits p fits = (and_parts (option_map_or is_short_route p.route true) _ fits).0

-- what is left of a route is within the limits from a bypass's end on
rest_fits : (endpoint far : Ipv4Addr) (is_nnhop : Bool) (rest : Option (List Step)) → IsAddress endpoint → IsAddress far → IsTrue (option_map_or is_short_route rest true) → IsTrue (option_map_or begins_with_ipv4 rest true)
    → IsTrue (option_map_or is_short_route (option_map (route_after endpoint far is_nnhop) rest) true)
rest_fits endpoint far is_nnhop None endpoint_four far_four short begins = refl
rest_fits endpoint far is_nnhop (Some steps) endpoint_four far_four short begins = route_after-short endpoint far is_nnhop steps endpoint_four far_four short begins

-- through a bypass goes one object of class FAST_REROUTE at most: none
none_more : (own : Option FastReroute) (passing : List Raw) → IsTrue (has_one_fast_reroute own passing) → IsTrue (has_one_fast_reroute None (passing_through passing))
none_more own passing one =
    let passed = count_by (λ (o : Raw). o.class == 205) passing in
    let few : option_map_or (λ (f : FastReroute). 1) own 0 + passed ≤ 1 = leb-true (option_map_or (λ (f : FastReroute). 1) own 0 + passed) 1 one in
    le-leb (0 + count_by (λ (o : Raw). o.class == 205) (passing_through passing)) 1 (omega (arith, few, some_count (λ o. not (o.class == 205)) (λ o. o.class == 205) passing))

-- The parts of the Path fit that goes through a bypass, where the path is within the limits.
backup_fits : (r : Router) (key : Key) (fact : PathFact) (repair : Repair) (bypass_tunnel : BypassTunnel) (link : Link) → IsAddress key.session.endpoint → IsAddress bypass_tunnel.ends_at → IsWithinLimits fact
    → IsTrue (fits_path (backup_path r key fact repair bypass_tunnel link))
backup_fits r key fact repair bypass_tunnel link endpoint far is =
    let onward = and_parts (option_map_or is_short_route fact.rest true) _ (onward_fits r key fact link is) in
    let recorded = and_parts (option_map_or is_short_record (option_and_then (grown r) fact.recorded) true) _ onward.1 in
    and_from (option_map_or is_short_route (option_map (route_after key.session.endpoint bypass_tunnel.ends_at repair.is_nnhop) fact.rest) true) _
    (rest_fits key.session.endpoint bypass_tunnel.ends_at repair.is_nnhop fact.rest endpoint far is.rest is.begins)
    (and_from (option_map_or is_short_record (option_and_then (grown r) fact.recorded) true) _ recorded.0
    (and_from (is_short_passing (passing_through fact.passing)) _ (some_short (λ o. not (o.class == 205)) fact.passing is.passing)
    (and_from (are_passed_on (passing_through fact.passing)) _ (some_passed_on (λ o. not (o.class == 205)) fact.passing is.passed_on)
    (and_from (has_adspec_last (passing_through fact.passing)) _ (some_adspec_last (λ o. not (o.class == 205)) fact.passing is.adspec_last) (none_more fact.fast_reroute fact.passing is.one_fast_reroute)))))

-- So a path of a router goes through a bypass as messages. All addresses have four octets.
pub goes_through : (r : Router) (moment : ℕ) (key : Key) (fact : PathFact) (repair : Repair) (bypass_tunnel : BypassTunnel) → IsAddress key.session.endpoint → IsAddress bypass_tunnel.ends_at → IsPath r moment (key, fact) → CanGoThrough r key fact repair bypass_tunnel
goes_through r moment key fact repair bypass_tunnel endpoint far is =
    λ link. (backup_fits r key fact repair bypass_tunnel link endpoint far is.limits, omega (arith, is.whole_tspec))

-- What a bypass runs over has a label, where each reservation is as it should be.
pub has_label : (r : Router) (s : State) (moment number : ℕ) (bypass_tunnel : BypassTunnel) → find nat_cmp number (bypass_tunnels_of r s) ≡ Some bypass_tunnel → AllByRecursion (IsResv moment) s.resvs → IfSome bypass_tunnel.over (λ over. is_label over.label ≡ true)
has_label r s moment number bypass_tunnel found resvs = by bypass_tunnel.over refl
  where
    by : (o : Option Over) → bypass_tunnel.over ≡ o → IfSome o (λ over. is_label over.label ≡ true)
    by None is = tt
    by (Some over) is = (over_is moment r s number over (ap (option_and_then (λ (d : BypassTunnel). d.over)) found ∙ is) resvs).label
