-- What is so where a command isn't refused.
use Rattle.std.specs.Prelude.{◌≡◌, ◌==◌, ◌||◌, ℕ, nat_lt, not, Bool, true, false, cond, IsTrue, List, [], ◌∷◌, Some, None, option_map, find as find_first}
use Rattle.std.specs.FinMap.Entries.{find}
use Rattle.std.specs.List.{AllByRecursion}
use Rattle.std.specs.Option.{option_map_or}
use Rattle.std.specs.Ordering.{nat_cmp}
use Rattle.std.specs.Result.{is_err}
use Rattle.std.specs.declared.net.ipv4_addr.Ipv4Addr.{Ipv4Addr}
use Rattle.std.proofs.Common.{refl, sym, ap, ◌∙◌}
use Rattle.rsvp_contents.specs.Limits.{is_short_route}
use Rattle.rsvp_bodies.specs.declared.step.Step.{Step}
use Rattle.lsr_facts.specs.Tunnels.{route_from}
use Rattle.lsr_facts.specs.declared.facts.Facts.{Facts}
use Rattle.lsr_facts.specs.declared.refusal.Refusal.{Refusal}
use Rattle.lsr_facts.specs.declared.router.Router.{Router}
use Rattle.lsr_facts.specs.declared.tunnel.Tunnel.{Tunnel}
use Rattle.abstract_paths.specs.declared.commands.Command.TheVariants.{AddTunnel, ChangeTunnel}
use Rattle.abstract_paths.specs.declared.tunnels.NewTunnel.{NewTunnel}
use Rattle.abstract_paths.specs.declared.tunnels.TunnelChange.{TunnelChange}
use Rattle.abstract_paths.specs.Commands.{has_rate, is_bad_request, refusal_of, tests_of}
use Rattle.abstract_paths.specs.Heads.{head_hop}
use Rattle.abstract_paths.specs.Places.{is_own, place_of}
use Rattle.state_views.specs.EditLaws.{neither}

-- where none is the first of the tests that hold, none holds
none_holds : (tests : List (Bool × Refusal)) → option_map (λ test. test.1) (find_first (λ test. test.0) tests) ≡ None → AllByRecursion (λ test. test.0 ≡ false) tests
none_holds [] none = tt
none_holds (test ∷ tests) none =
    elim test.0 as (λ b. option_map (λ (test : Bool × Refusal). test.1) (cond b (Some test) (find_first (λ (test : Bool × Refusal). test.0) tests)) ≡ None → (b ≡ false) × AllByRecursion (λ (test : Bool × Refusal). test.0 ≡ false) tests) [
      | true ↦ λ e. absurd (let f = e in cc)
      | false ↦ λ e. (refl, none_holds tests e)
    ] none

holds : (short rate wayless : Bool) → (not short || not rate || wayless) ≡ false → IsTrue short
holds true rate wayless e = refl
holds false rate wayless e = absurd (let f = e in cc)

-- an LSP that can be asked for has a short route
short_request : (r : Router) (s : Facts) (endpoint : Ipv4Addr) (route : List Step) (tspec : List ℕ) → is_bad_request r s endpoint route tspec ≡ false → IsTrue (is_short_route (route_from r route))
unfolding is_bad_request
short_request r s endpoint route tspec e = holds (is_short_route (route_from r route)) (has_rate tspec) (is_err (head_hop (place_of r s) route endpoint)) e

-- A tunnel that is added has a short route.
pub short_new : (r : Router) (s : Facts) (t : NewTunnel) → refusal_of r s (AddTunnel t) ≡ None → IsTrue (is_short_route (route_from r t.route))
short_new r s t none =
    let bad = (none_holds (tests_of r s (AddTunnel t)) none).1.1.0 in
    short_request r s t.endpoint t.route t.tspec ((neither (is_own r t.endpoint || nat_lt 7 t.attr.setup || nat_lt 7 t.attr.hold) _ bad).1)

-- So is the route of a change,
pub short_change : (r : Router) (s : Facts) (c : TunnelChange) (tunnel : Tunnel) → find nat_cmp c.number s.tunnels ≡ Some tunnel → refusal_of r s (ChangeTunnel c) ≡ None → IsTrue (is_short_route (route_from r c.route))
short_change r s c tunnel found none =
    let bad = (none_holds (tests_of r s (ChangeTunnel c)) none).1.1.1.0 in
    short_request r s tunnel.endpoint c.route c.tspec (sym (ap (λ o. option_map_or (λ (x : Tunnel). is_bad_request r s x.endpoint c.route c.tspec) o false) found) ∙ bad)

-- and an LSP ID is left for it.
pub left_for_change : (r : Router) (s : Facts) (c : TunnelChange) (tunnel : Tunnel) → find nat_cmp c.number s.tunnels ≡ Some tunnel → refusal_of r s (ChangeTunnel c) ≡ None → (tunnel.last == 65535) ≡ false
left_for_change r s c tunnel found none =
    let full = (neither _ _ ((none_holds (tests_of r s (ChangeTunnel c)) none).1.1.0)).0 in
    sym (ap (λ o. option_map_or (λ (x : Tunnel). x.last == 65535) o false) found) ∙ full
