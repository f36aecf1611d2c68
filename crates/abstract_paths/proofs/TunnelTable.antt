-- The table of tunnels keeps what holds of it, whichever change is made of it.
use Rattle.std.specs.Prelude.{◌≡◌, ℕ, ◌+◌, ◌≤◌, Bool, true, false, cond, nat_le, IsTrue, List, length, map, Option, Some, None, is_some, IfSome, T}
use Rattle.std.specs.FinMap.Entries.{find, put, where_key, is_sorted-put, is_sorted-where_key, length-put}
use Rattle.std.specs.Ordering.{nat_cmp}
use Rattle.std.proofs.Common.{ap, sym, subst, arith}
use Rattle.std.proofs.lemmas.Bool.{leb-false}
use Rattle.std.proofs.lemmas.Cmp.{nat_cmp_total}
use Rattle.std.proofs.lemmas.List.{length-map}
use Rattle.std.proofs.lemmas.Map.Lookups.{exact_unsigned}
use Rattle.rsvp_contents.specs.Limits.{is_short_route}
use Rattle.rsvp_objects.specs.declared.values.ErrorSpec.{ErrorSpec}
use Rattle.rsvp_bodies.specs.declared.step.Step.{Step}
use Rattle.sorted_rows.specs.ListLaws.{all-filter, all-map, all-weaker}
use Rattle.sorted_rows.specs.RowsLaws.{all-put_row, find-all_row, is_sorted-both}
use Rattle.lsr_facts.specs.Tunnels.{AreTunnels, IsPendingAs, IsTunnel, route_from}
use Rattle.lsr_facts.specs.declared.router.Router.{Router}
use Rattle.lsr_facts.specs.declared.tunnel.Tunnel.{Tunnel}
use Rattle.lsr_facts.specs.declared.tunnel.TunnelLsp.{TunnelLsp}
use Rattle.lsr_facts.specs.Changes.{begun, cancelled, switched, switched_to}
use Rattle.abstract_paths.specs.Heads.{noted}
use Rattle.abstract_paths.specs.Restarts.{all_cancelled}
use Rattle.abstract_paths.specs.RowLaws.{keys-map, length-filter_most}

-- There are at most so many rows after a put as there may be, where there were fewer.
pub room_for_one : {X : Type 0} (most : ℕ) (known : Option X) (n m : ℕ) → m ≡ cond (is_some known) n (n + 1) → nat_le most n ≡ false → m ≤ most
room_for_one most None n m is room = omega (arith, leb-false most n room, is)
room_for_one most (Some x) n m is room = omega (arith, leb-false most n room, is)

module _ (r : Router) where
  -- the tunnel of a number, if there is one
  pub tunnel_known : (number : ℕ) (t : Tunnel) (tunnels : List (ℕ × Tunnel)) → AreTunnels r tunnels → find nat_cmp number tunnels ≡ Some t → IsTunnel r (number, t)
  tunnel_known number t tunnels are found = subst (λ o. IfSome o (λ tunnel. IsTunnel r (number, tunnel))) found (find-all_row nat_cmp exact_unsigned (IsTunnel r) number tunnels are.each)

  -- A tunnel is put.
  pub tunnels_put : (number : ℕ) (t : Tunnel) (tunnels : List (ℕ × Tunnel)) → AreTunnels r tunnels → IsTunnel r (number, t) → length (put nat_cmp number t tunnels) ≤ 256 → AreTunnels r (put nat_cmp number t tunnels)
  tunnels_put number t tunnels are is few = record {
    in_order = is_sorted-put nat_cmp nat_cmp_total number t tunnels are.in_order;
    few = few;
    each = all-put_row nat_cmp (IsTunnel r) number t (λ k tied. subst (λ n. IsTunnel r (n, t)) (exact_unsigned number k tied) is) is tunnels are.each;
  }

  -- the tunnels are as many then as before, where one of the number was there
  as_many : (known : Option Tunnel) (n m : ℕ) → is_some known ≡ true → m ≡ cond (is_some known) n (n + 1) → n ≤ 256 → m ≤ 256
  as_many None n m some is few = absurd (let e = some in cc)
  as_many (Some t) n m some is few = omega (arith, is, few)

  pub tunnels_put_known : (number : ℕ) (old t : Tunnel) (tunnels : List (ℕ × Tunnel)) → AreTunnels r tunnels → find nat_cmp number tunnels ≡ Some old → IsTunnel r (number, t) → AreTunnels r (put nat_cmp number t tunnels)
  tunnels_put_known number old t tunnels are found is =
      tunnels_put number t tunnels are is (as_many (find nat_cmp number tunnels) (length tunnels) (length (put nat_cmp number t tunnels)) (ap is_some found) (length-put nat_cmp nat_cmp_total number t tunnels are.in_order) are.few)

  -- or one more, where there is room
  pub tunnels_put_room : (number : ℕ) (t : Tunnel) (tunnels : List (ℕ × Tunnel)) → AreTunnels r tunnels → nat_le 256 (length tunnels) ≡ false → IsTunnel r (number, t) → AreTunnels r (put nat_cmp number t tunnels)
  tunnels_put_room number t tunnels are room is =
      tunnels_put number t tunnels are is (room_for_one 256 (find nat_cmp number tunnels) (length tunnels) (length (put nat_cmp number t tunnels)) (length-put nat_cmp nat_cmp_total number t tunnels are.in_order) room)

  -- Tunnels go, by a test of their numbers.
  pub tunnels_where : (p : ℕ → Bool) (tunnels : List (ℕ × Tunnel)) → AreTunnels r tunnels → AreTunnels r (where_key nat_cmp p tunnels)
  tunnels_where p tunnels are = record {
    in_order = is_sorted-where_key nat_cmp p tunnels are.in_order;
    few = omega (arith, are.few, length-filter_most (λ (tunnel : ℕ × Tunnel). p tunnel.0) tunnels);
    each = all-filter (IsTunnel r) (λ tunnel. p tunnel.0) tunnels are.each;
  }

  -- Tunnels change, each under its number.
  pub tunnels_map : (f : ℕ × Tunnel → Tunnel) → ((tunnel : ℕ × Tunnel) → IsTunnel r tunnel → IsTunnel r (tunnel.0, f tunnel)) → (tunnels : List (ℕ × Tunnel)) → AreTunnels r tunnels → AreTunnels r (map (λ tunnel. (tunnel.0, f tunnel)) tunnels)
  tunnels_map f keeps tunnels are =
      let changed : List (ℕ × Tunnel) = map (λ (tunnel : ℕ × Tunnel). (tunnel.0, f tunnel)) tunnels in
      record {
        in_order = subst T (sym (is_sorted-both nat_cmp changed tunnels (keys-map f tunnels))) are.in_order;
        few = omega (arith, are.few, length-map {B = ℕ × Tunnel} tunnels (λ (tunnel : ℕ × Tunnel). (tunnel.0, f tunnel)));
        each = all-map (IsTunnel r) (λ tunnel. (tunnel.0, f tunnel)) tunnels (all-weaker (IsTunnel r) (λ tunnel. IsTunnel r (tunnel.0, f tunnel)) keeps tunnels are.each);
      }

  -- A change of a tunnel begins.
  pub begun_stands : (number : ℕ) (route : List Step) (tspec : List ℕ) (t : Tunnel) → IsTunnel r (number, t) → IsTrue (is_short_route (route_from r route)) → length tspec ≡ 32 → IsTunnel r (number, begun route tspec t)
  begun_stands number route tspec t is short whole = record {
    endpoint = is.endpoint;
    elsewhere = is.elsewhere;
    current = record { route = is.current.route; whole_tspec = is.current.whole_tspec; numbered = is.current.numbered; given = omega (arith, is.current.given) };
    pending = (record { route = short; whole_tspec = whole; numbered = omega arith; given = omega arith }, λ same. omega (arith, same, is.current.given));
  }

  -- It is given up.
  pub cancelled_stands : (tunnel : ℕ × Tunnel) → IsTunnel r tunnel → IsTunnel r (tunnel.0, cancelled tunnel.1)
  cancelled_stands tunnel is = record { endpoint = is.endpoint; elsewhere = is.elsewhere; current = is.current; pending = tt }

  -- It is over.
  pub switched_stands : (tunnel : ℕ × Tunnel) → IsTunnel r tunnel → IsTunnel r (tunnel.0, switched tunnel.1)
  switched_stands tunnel is = by tunnel.1.pending is.pending
    where
      by : (lsp : Option TunnelLsp) → IsPendingAs r tunnel.1 lsp → IsTunnel r (tunnel.0, switched_to lsp tunnel.1)
      by None pending = is
      by (Some lsp) pending = record { endpoint = is.endpoint; elsewhere = is.elsewhere; current = pending.0; pending = tt }

  -- An error is noted of it.
  pub noted_stands : (e : ErrorSpec) (tunnel : ℕ × Tunnel) → IsTunnel r tunnel → IsTunnel r (tunnel.0, noted e tunnel.1)
  noted_stands e tunnel is = record { endpoint = is.endpoint; elsewhere = is.elsewhere; current = is.current; pending = by tunnel.1.pending is.pending }
    where
      by : (lsp : Option TunnelLsp) → IsPendingAs r tunnel.1 lsp → IsPendingAs r (noted e tunnel.1) lsp
      by None pending = tt
      by (Some lsp) pending = pending

  -- All changes are given up.
  pub all_cancelled_stand : (tunnels : List (ℕ × Tunnel)) → AreTunnels r tunnels → AreTunnels r (all_cancelled tunnels)
  all_cancelled_stand = tunnels_map (λ tunnel. cancelled tunnel.1) cancelled_stands
