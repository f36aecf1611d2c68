-- Whatever an operator tells a router leaves its tunnels, its bypasses, its static routes and its paths as they should be.
use Rattle.std.specs.Prelude.{◌≡◌, ℕ, ◌+◌, ◌-◌, ◌%◌, ◌^◌, ◌≤◌, ◌==◌, Bool, true, false, cond, not, ◌&&◌, ◌||◌, nat_le, nat_lt, IsTrue, List, [], ◌∷◌, length, Option, Some, None, is_none, is_some, option_map, option_to_list, find as find_first, Result, Ok, Err}
use Rattle.std.specs.FinMap.Entries.{find, put, where_key, is_sorted-put, is_sorted-where_key, length-put}
use Rattle.std.specs.List.{AllByRecursion, list_any}
use Rattle.std.specs.Net.Addr.{ipv4_bits}
use Rattle.std.specs.Option.{option_map_or}
use Rattle.std.specs.Ordering.{is_eq, nat_cmp}
use Rattle.std.specs.Result.{is_err}
use Rattle.std.specs.declared.net.ipv4_addr.Ipv4Addr.{Ipv4Addr}
use Rattle.std.proofs.Common.{refl, sym, subst, ap, arith}
use Rattle.std.proofs.lemmas.Bool.{leb-false, ltb-false, not-false, not-true, or_parts}
use Rattle.std.proofs.lemmas.Cmp.{nat_cmp_total}
use Rattle.std.proofs.lemmas.Option.{same_Some}
use Rattle.rsvp_objects.specs.Ranges.{IsAddress}
use Rattle.rsvp_contents.specs.Limits.{is_short_route}
use Rattle.rsvp_bodies.specs.declared.prefix.Prefix.{Prefix}
use Rattle.rsvp_bodies.specs.declared.step.Step.{Step}
use Rattle.rsvp_bodies.specs.Traffic.{rate_asked}
use Rattle.sorted_rows.specs.ListLaws.{all-filter}
use Rattle.sorted_rows.specs.RowsLaws.{all-put, all-put_row, find-put_same}
use Rattle.lsr_facts.specs.OrderLaws.{prefix_exact, prefix_total}
use Rattle.lsr_facts.specs.Orders.{is_one_of, key_cmp, prefix_cmp}
use Rattle.lsr_facts.specs.Routers.{AreRoutes, HasLink, IsRouter, is_same, own_addresses}
use Rattle.lsr_facts.specs.Bypasses.{AreBypasses, carries, is_above_rate, is_for_bypass}
use Rattle.lsr_facts.specs.Tunnels.{AreTunnels, IsTunnel, IsTunnelLsp, head_key, heads_of, is_head, pending_key, route_from}
use Rattle.lsr_facts.specs.declared.choice.Choice.{Choice}
use Rattle.lsr_facts.specs.declared.errors.RsvpError.{RsvpError}
use Rattle.lsr_facts.specs.declared.facts.Facts.{Facts}
use Rattle.lsr_facts.specs.declared.key.Key.{Key}
use Rattle.lsr_facts.specs.declared.refusal.Refusal.{Refusal}
use Rattle.lsr_facts.specs.declared.router.Router.{Router}
use Rattle.lsr_facts.specs.declared.tunnel.Tunnel.{Tunnel}
use Rattle.lsr_facts.specs.declared.tunnel.TunnelLsp.{TunnelLsp}
use Rattle.lsr_facts.specs.Changes.{begun, cancelled}
use Rattle.abstract_paths.specs.declared.commands.Command.{Command}
use Rattle.abstract_paths.specs.declared.commands.Command.TheVariants.{AddTunnel, ChangeTunnel, CancelChange, DropTunnel, AddBypass, DropBypass, AddRoute, DropRoute}
use Rattle.abstract_paths.specs.declared.tunnels.NewBypass.{NewBypass}
use Rattle.abstract_paths.specs.declared.tunnels.NewTunnel.{NewTunnel}
use Rattle.abstract_paths.specs.declared.tunnels.TunnelChange.{TunnelChange}
use Rattle.abstract_paths.proofs.Bypasses.{bypasses_put, bypasses_tunnel_begun, bypasses_tunnel_gone, bypasses_tunnel_new, bypasses_tunnel_put, bypasses_where, cancelled_carries}
use Rattle.abstract_paths.proofs.EventStanding.{LeavesStanding}
use Rattle.abstract_paths.proofs.Heads.{heads_begun, heads_cancelled, heads_changed, heads_dropped, heads_where, is_head-current, is_head-pending}
use Rattle.abstract_paths.proofs.Masked.{masked_past}
use Rattle.abstract_paths.proofs.NextHops.{Leads}
use Rattle.abstract_paths.proofs.PathTable.{paths_where}
use Rattle.abstract_paths.proofs.Pending.{pending_begun, pending_cancelled, pending_dropped}
use Rattle.abstract_paths.proofs.Primitives.{sound_with_bypasses, sound_with_heads}
use Rattle.abstract_paths.proofs.Signalling.{HopGoesOn, head-leads, head_put-stands, not_own, route-goes_on}
use Rattle.abstract_paths.proofs.TunnelTable.{begun_stands, cancelled_stands, tunnel_known, tunnels_put_known, tunnels_put_room, tunnels_where}
use Rattle.abstract_paths.specs.Commands.{bypass_by, command, commanded, has_rate, is_bad_request, is_bad_tunnel, masked_prefix, refusal_of, tests_of, tunnel_by, with_cancelled, with_change, with_dropped}
use Rattle.abstract_paths.specs.Changes.{with_tunnel}
use Rattle.abstract_paths.specs.Heads.{head_hop, is_full, with_head, with_head_by}
use Rattle.abstract_paths.specs.Events.{IsCommand}
use Rattle.abstract_paths.specs.Outcomes.{done, refused}
use Rattle.abstract_paths.specs.Places.{is_own, place_of}
use Rattle.abstract_paths.specs.RowLaws.{length-filter_most}
use Rattle.abstract_paths.specs.Soundness.{IsStanding}

-- where no test of a command holds, each fails
pub all_fail : (tests : List (Bool × Refusal)) → option_map (λ test. test.1) (find_first (λ test. test.0) tests) ≡ None → AllByRecursion (λ test. test.0 ≡ false) tests
all_fail [] none = tt
all_fail (test ∷ tests) none =
    elim test.0 as (λ b. test.0 ≡ b → option_map (λ (found : Bool × Refusal). found.1) (cond b (Some test) (find_first (λ (t : Bool × Refusal). t.0) tests)) ≡ None → (test.0 ≡ false) × AllByRecursion (λ t. t.0 ≡ false) tests) [
      | true ↦ λ holds some. absurd (let e = some in cc)
      | false ↦ λ fails rest. (fails, all_fail tests rest)
    ] refl none

-- what isn't there
none-is : {A : Type 0} (o : Option A) → is_none o ≡ true → o ≡ None
none-is None is = refl
none-is (Some x) is = absurd (let e = is in cc)

-- What isn't bad of a request: its route is short, and a way leads on.
record IsGood (r : Router) (s : Facts) (endpoint : Ipv4Addr) (route : List Step) : Type 0 where
  short : IsTrue (is_short_route (route_from r route))
  leads : is_err (head_hop (place_of r s) route endpoint) ≡ false

good_request : (r : Router) (s : Facts) (endpoint : Ipv4Addr) (route : List Step) (tspec : List ℕ) → is_bad_request r s endpoint route tspec ≡ false → IsGood r s endpoint route
unfolding is_bad_request
good_request r s endpoint route tspec good =
    let short = is_short_route (route_from r route) in
    let parts = or_parts (not short || not (has_rate tspec)) (is_err (head_hop (place_of r s) route endpoint)) good in
    record { short = not-false short (or_parts (not short) (not (has_rate tspec)) parts.0).0; leads = parts.1 }

-- What isn't bad of a tunnel: it ends elsewhere, and its request is good.
record IsGoodTunnel (r : Router) (s : Facts) (t : NewTunnel) : Type 0 where
  elsewhere : list_any (is_same t.endpoint) (own_addresses r) ≡ false
  request : IsGood r s t.endpoint t.route

good_tunnel : (r : Router) (s : Facts) (t : NewTunnel) → is_bad_tunnel r s t ≡ false → IsGoodTunnel r s t
unfolding is_own
good_tunnel r s t good =
    let parts = or_parts _ (is_bad_request r s t.endpoint t.route t.tspec) good in
    record {
      elsewhere = (or_parts (is_own r t.endpoint) _ (or_parts (is_own r t.endpoint || nat_lt 7 t.attr.setup) _ parts.0).0).0;
      request = good_request r s t.endpoint t.route t.tspec parts.1;
    }

-- there are at most 256 rows of a put where there was a row or there were fewer
grown_few : (there : Bool) (n m : ℕ) → n ≤ 256 → (not there && nat_le 256 n) ≡ false → m ≡ cond there n (n + 1) → m ≤ 256
grown_few true n m few room is = omega (arith, few, is)
grown_few false n m few room is = omega (arith, leb-false 256 n room, is)

-- a static route that is put
routes_put : (r : Router) (prefix : Prefix) (link : ℕ) (routes : List (Prefix × ℕ)) → AreRoutes r routes → prefix.length ≤ 32 → HasLink r link → (not (is_some (find prefix_cmp (masked_prefix prefix) routes)) && nat_le 256 (length routes)) ≡ false
    → AreRoutes r (put prefix_cmp (masked_prefix prefix) link routes)
routes_put r prefix link routes are short there room =
    let own = masked_prefix prefix in
    record {
      in_order = is_sorted-put prefix_cmp prefix_total own link routes are.in_order;
      few = grown_few (is_some (find prefix_cmp own routes)) (length routes) _ are.few room (length-put prefix_cmp prefix_total own link routes are.in_order);
      prefixes = all-put_row prefix_cmp (λ (route : Prefix × ℕ). route.0.length ≤ 32) own link (λ p tied. subst (λ (q : Prefix). q.length ≤ 32) (prefix_exact own p tied) short) short routes are.prefixes;
      masked = all-put_row prefix_cmp (λ (route : Prefix × ℕ). ipv4_bits route.0.address % 2 ^ (32 - route.0.length) ≡ 0) own link
          (λ p tied. subst (λ (q : Prefix). ipv4_bits q.address % 2 ^ (32 - q.length) ≡ 0) (prefix_exact own p tied) (masked_past prefix.address prefix.length short))
          (masked_past prefix.address prefix.length short) routes are.masked;
      over_links = all-put prefix_cmp (HasLink r) own link there routes are.over_links;
    }

-- and one that goes
routes_where : (r : Router) (p : Prefix → Bool) (routes : List (Prefix × ℕ)) → AreRoutes r routes → AreRoutes r (where_key prefix_cmp p routes)
routes_where r p routes are = record {
  in_order = is_sorted-where_key prefix_cmp p routes are.in_order;
  few = omega (arith, are.few, length-filter_most (λ (route : Prefix × ℕ). p route.0) routes);
  prefixes = all-filter (λ (route : Prefix × ℕ). route.0.length ≤ 32) (λ route. p route.0) routes are.prefixes;
  masked = all-filter (λ (route : Prefix × ℕ). ipv4_bits route.0.address % 2 ^ (32 - route.0.length) ≡ 0) (λ route. p route.0) routes are.masked;
  over_links = all-filter (λ (route : Prefix × ℕ). HasLink r route.1) (λ route. p route.0) routes are.over_links;
}

module _ (r : Router) (s : Facts) (router : IsRouter r) (runs : s.cold ≡ false) (is : IsStanding r s) where
  -- A tunnel is put, and one of its LSPs is signalled that is one of a tunnel's from now on.
  begun-stands : (number : ℕ) (tunnel : Tunnel) (lsp : TunnelLsp) → AreTunnels r (put nat_cmp number tunnel s.tunnels) → AreBypasses r (put nat_cmp number tunnel s.tunnels) s.bypasses → IsTunnel r (number, tunnel) → IsTunnelLsp r tunnel.last lsp → is_full s ≡ false
      → is_head r (put nat_cmp number tunnel s.tunnels) (head_key r number tunnel.endpoint lsp.id) ≡ true
      → ((q : Key) → is_eq (key_cmp q (head_key r number tunnel.endpoint lsp.id)) ≡ false → is_head r (put nat_cmp number tunnel s.tunnels) q ≡ is_head r s.tunnels q)
      → is_err (head_hop (place_of r s) lsp.route tunnel.endpoint) ≡ false → ((pending : TunnelLsp) → tunnel.pending ≡ Some pending → pending ≡ lsp) → IsStanding r (with_tunnel number tunnel (with_head r (number, tunnel) lsp s))
  unfolding with_head
  begun-stands number tunnel lsp are protect its asked room head others fine only =
      by (head_hop (place_of r s) lsp.route tunnel.endpoint) (head-leads r s (number, tunnel) lsp router is asked.route) (route-goes_on (place_of r s) tunnel.endpoint (not_own r (number, tunnel) its) (route_from r lsp.route)) fine
    where
      by : (way : Result Choice RsvpError) → Leads r way → HopGoesOn way → is_err way ≡ false → IsStanding r (with_tunnel number tunnel (with_head_by r (number, tunnel) lsp s way))
      by (Err e) leads goes fine = absurd (let f = fine in cc)
      by (Ok way) leads goes fine = head_put-stands r s runs is room number tunnel lsp tunnel.last (put nat_cmp number tunnel s.tunnels) way are protect asked leads goes head others
          (pending_begun r s.tunnels s.paths is.pending number tunnel lsp way are.in_order only)

  -- A tunnel begins.
  add-stands : (t : NewTunnel) → IsAddress t.endpoint → length t.tspec ≡ 32 → refusal_of r s (AddTunnel t) ≡ None → IsStanding r (commanded r s (AddTunnel t))
  add-stands t four whole none =
      let fail = all_fail (tests_of r s (AddTunnel t)) none in
      let room = or_parts (nat_le 256 (length s.tunnels)) (is_full s) fail.1.0 in
      let good = good_tunnel r s t fail.1.1.0 in
      let new : find nat_cmp t.number s.tunnels ≡ None = none-is _ (not-false _ fail.0) in
      let tunnel = tunnel_by t in
      let asked : IsTunnelLsp r 1 tunnel.current = record { route = good.request.short; whole_tspec = whole; numbered = omega arith; given = omega arith } in
      let its : IsTunnel r (t.number, tunnel) = record { endpoint = four; elsewhere = good.elsewhere; current = asked; pending = tt } in
      begun-stands t.number tunnel tunnel.current (tunnels_put_room r t.number tunnel s.tunnels is.tunnels room.0 its) (bypasses_tunnel_new r s.tunnels s.bypasses t.number tunnel new is.bypasses) its asked room.1
      (is_head-current r (put nat_cmp t.number tunnel s.tunnels) t.number tunnel (find-put_same nat_cmp nat_cmp_total t.number tunnel s.tunnels))
      (λ q apart. heads_begun r t.number s.tunnels tunnel q new refl apart)
      good.request.leads
      (λ pending some. absurd (let e = some in cc))

  -- A change of a tunnel begins.
  change-stands : (c : TunnelChange) → length c.tspec ≡ 32 → refusal_of r s (ChangeTunnel c) ≡ None → IsStanding r (commanded r s (ChangeTunnel c))
  change-stands c whole none =
      let fail = all_fail (tests_of r s (ChangeTunnel c)) none in
      by (find nat_cmp c.number s.tunnels) refl fail.1.0 fail.1.1.0 fail.1.1.1.0 fail.1.1.1.1.1.0
    where
      by : (known : Option Tunnel) → find nat_cmp c.number s.tunnels ≡ known → option_map_or (λ tunnel. is_some tunnel.pending) known false ≡ false → (option_map_or (λ tunnel. tunnel.last == 65535) known false || is_full s) ≡ false
          → option_map_or (λ tunnel. is_bad_request r s tunnel.endpoint c.route c.tspec) known false ≡ false → is_above_rate s.bypasses c.number (rate_asked c.tspec) ≡ false → IsStanding r (option_map_or (λ tunnel. with_change r c.number (begun c.route c.tspec tunnel) s) known s)
      by None found settled room good most = is
      by (Some t) found settled room good most =
          let fine = good_request r s t.endpoint c.route c.tspec good in
          let changed = begun c.route c.tspec t in
          let its : IsTunnel r (c.number, changed) = begun_stands r c.number c.route c.tspec t (tunnel_known r c.number t s.tunnels is.tunnels found) fine.short whole in
          let lsp : TunnelLsp = record { id = t.last + 1; route = c.route; tspec = c.tspec } in
          begun-stands c.number changed lsp (tunnels_put_known r c.number t changed s.tunnels is.tunnels found its) (bypasses_tunnel_begun r s.tunnels s.bypasses c.number t c.route c.tspec found most is.bypasses) its its.pending.0 (or_parts _ (is_full s) room).1
          (is_head-pending r (put nat_cmp c.number changed s.tunnels) c.number changed lsp (find-put_same nat_cmp nat_cmp_total c.number changed s.tunnels) refl)
          (λ q apart. heads_changed r c.number s.tunnels t found c.route c.tspec q (none-is t.pending (ap not settled)) apart)
          fine.leads
          (λ pending some. same_Some pending lsp (sym some))

  -- A change is given up.
  cancel-stands : (number : ℕ) → IsStanding r (commanded r s (CancelChange number))
  cancel-stands number = by (find nat_cmp number s.tunnels) refl
    where
      by : (known : Option Tunnel) → find nat_cmp number s.tunnels ≡ known → IsStanding r (option_map_or (λ tunnel. with_cancelled r number tunnel s) known s)
      by None found = is
      by (Some t) found =
          let keys = option_to_list (pending_key r (number, t)) in
          sound_with_heads r s s.routes (put nat_cmp number (cancelled t) s.tunnels) (where_key key_cmp (λ k. not (is_one_of keys k)) s.paths) runs is is.routes
          (tunnels_put_known r number t (cancelled t) s.tunnels is.tunnels found (cancelled_stands r (number, t) (tunnel_known r number t s.tunnels is.tunnels found)))
          (bypasses_tunnel_put r s.tunnels s.bypasses number t (cancelled t) found (λ capacity. cancelled_carries capacity t) is.bypasses)
          (paths_where r s.moment (λ k. not (is_one_of keys k)) s.paths is.paths)
          (heads_where r s.tunnels (put nat_cmp number (cancelled t) s.tunnels) (λ k. not (is_one_of keys k)) s.paths (λ q kept. heads_cancelled r number s.tunnels t found q (not-true _ kept)) is.heads)
          (pending_cancelled r s.tunnels s.paths is.pending number t (is_sorted-put nat_cmp nat_cmp_total number (cancelled t) s.tunnels is.tunnels.in_order))

  -- A tunnel goes that no bypass runs in.
  drop-stands : (number : ℕ) → is_for_bypass s.bypasses number ≡ false → IsStanding r (commanded r s (DropTunnel number))
  drop-stands number free = by (find nat_cmp number s.tunnels) refl
    where
      by : (known : Option Tunnel) → find nat_cmp number s.tunnels ≡ known → IsStanding r (option_map_or (λ tunnel. with_dropped r number tunnel s) known s)
      by None found = is
      by (Some t) found =
          let keys = heads_of r (number, t) in
          let left = where_key nat_cmp (λ k. not (is_eq (nat_cmp number k))) s.tunnels in
          sound_with_heads r s s.routes left (where_key key_cmp (λ k. not (is_one_of keys k)) s.paths) runs is is.routes
          (tunnels_where r (λ k. not (is_eq (nat_cmp number k))) s.tunnels is.tunnels)
          (bypasses_tunnel_gone r s.tunnels s.bypasses number free is.bypasses)
          (paths_where r s.moment (λ k. not (is_one_of keys k)) s.paths is.paths)
          (heads_where r s.tunnels left (λ k. not (is_one_of keys k)) s.paths (λ q kept. heads_dropped r number s.tunnels t found q (not-true _ kept)) is.heads)
          (pending_dropped r s.tunnels s.paths is.pending number t (is_sorted-where_key nat_cmp (λ k. not (is_eq (nat_cmp number k))) s.tunnels is.tunnels.in_order))

  -- A bypass is added.
  protect-stands : (b : NewBypass) → refusal_of r s (AddBypass b) ≡ None → IsStanding r (commanded r s (AddBypass b))
  protect-stands b none =
      let fail = all_fail (tests_of r s (AddBypass b)) none in
      sound_with_bypasses r s (put nat_cmp b.number (bypass_by b) s.bypasses) is
      (bypasses_put r s.tunnels s.bypasses b.number (bypass_by b) is.bypasses
      (record { protects = not-false _ fail.0; runs = not-false _ fail.1.0; carried = carried-by (find nat_cmp b.tunnel s.tunnels) (not-false _ fail.1.1.1.1.1.0) })
      fail.1.1.1.0)
    where
      carried-by : (known : Option Tunnel) → option_map_or (carries b.capacity) known false ≡ true → option_map_or (carries b.capacity) known true ≡ true
      carried-by None is = refl
      carried-by (Some t) is = is

  -- What a command changes that isn't refused.
  pub commanded-stands : (c : Command) → IsCommand c → refusal_of r s c ≡ None → IsStanding r (commanded r s c)
  commanded-stands (AddTunnel t) may none = add-stands t may.endpoint may.whole_tspec none
  commanded-stands (ChangeTunnel c) may none = change-stands c may.whole_tspec none
  commanded-stands (CancelChange number) may none = cancel-stands number
  commanded-stands (DropTunnel number) may none = drop-stands number (all_fail (tests_of r s (DropTunnel number)) none).1.0
  commanded-stands (AddBypass b) may none = protect-stands b none
  commanded-stands (DropBypass number) may none =
      sound_with_bypasses r s (where_key nat_cmp (λ k. not (is_eq (nat_cmp number k))) s.bypasses) is (bypasses_where r s.tunnels s.bypasses (λ k. not (is_eq (nat_cmp number k))) is.bypasses)
  commanded-stands (AddRoute prefix link) may none =
      let fail = all_fail (tests_of r s (AddRoute prefix link)) none in
      sound_with_heads r s (put prefix_cmp (masked_prefix prefix) link s.routes) s.tunnels s.paths runs is (routes_put r prefix link s.routes is.routes (ltb-false 32 prefix.length fail.0) (not-false _ fail.1.0) fail.1.1.0) is.tunnels is.bypasses is.paths is.heads is.pending
  commanded-stands (DropRoute prefix) may none =
      sound_with_heads r s (where_key prefix_cmp (λ k. not (is_eq (prefix_cmp (masked_prefix prefix) k))) s.routes) s.tunnels s.paths runs is (routes_where r (λ k. not (is_eq (prefix_cmp (masked_prefix prefix) k))) s.routes is.routes) is.tunnels is.bypasses is.paths is.heads is.pending

  -- A command.
  pub command-stands : (c : Command) → IsCommand c → LeavesStanding r (command r s c)
  unfolding command
  command-stands c may = by (refusal_of r s c) refl
    where
      by : (refusal : Option Refusal) → refusal_of r s c ≡ refusal → LeavesStanding r (option_map_or (refused s) refusal (done [] (commanded r s c)))
      by None none = commanded-stands c may none
      by (Some refusal) some = is
