-- The facts keep what holds of them, whichever primitive changes them.
use Rattle.std.specs.Prelude.{◌≡◌, ℕ, ◌≤◌, ◌^◌, Bool, true, false, List, [], length, Some, is_some, option_map, T}
use Rattle.std.specs.Cmp.{nat_cmp_total}
use Rattle.std.specs.FinMap.Entries.{find, put, where_key}
use Rattle.std.specs.List.{AllByRecursion}
use Rattle.std.specs.Ordering.{nat_cmp}
use Rattle.std.proofs.Common.{refl, ap, sym, subst, ◌∙◌, arith}
use Rattle.sorted_rows.specs.RowsLaws.{is_some-find_both, is_sorted-both, keys-put_found}
use Rattle.lsr_facts.specs.Orders.{key_cmp}
use Rattle.rsvp_bodies.specs.declared.prefix.Prefix.{Prefix}
use Rattle.lsr_facts.specs.Routers.{AreRoutes, HasLink, IsRouter, link_at}
use Rattle.lsr_facts.specs.Bypasses.{AreBypasses}
use Rattle.lsr_facts.specs.Tunnels.{AreTunnels, AreUnchanging, is_head}
use Rattle.lsr_facts.specs.declared.bypass.Bypass.{Bypass}
use Rattle.lsr_facts.specs.declared.facts.Facts.{Facts}
use Rattle.lsr_facts.specs.declared.key.Item.{Item}
use Rattle.lsr_facts.specs.declared.key.Key.{Key}
use Rattle.lsr_facts.specs.declared.path_fact.PathFact.{PathFact}
use Rattle.lsr_facts.specs.declared.router.Router.{Router}
use Rattle.lsr_facts.specs.declared.tunnel.Tunnel.{Tunnel}
use Rattle.abstract_paths.specs.Changes.{with_link, with_path}
use Rattle.abstract_paths.specs.Restarts.{all_cancelled, opening_facts, restarted}
use Rattle.abstract_paths.specs.RowLaws.{keys-map}
use Rattle.abstract_paths.specs.Soundness.{AreApart, ArePaths, IsHeadOf, IsPath, IsPendingSignalled, IsStanding, asked_of}
use Rattle.lsr_facts.specs.Lifetimes.{expire}
use Rattle.abstract_paths.proofs.Apart.{none_apart}
use Rattle.abstract_paths.proofs.Bypasses.{bypasses_cancelled}
use Rattle.abstract_paths.proofs.Heads.{heads_expire, heads_put, heads_where}
use Rattle.abstract_paths.proofs.PathTable.{paths_expire, paths_put, paths_where}
use Rattle.abstract_paths.proofs.Pending.{pending_all_cancelled, pending_expire, pending_none, pending_put_head, pending_where}
use Rattle.abstract_paths.proofs.TunnelTable.{all_cancelled_stand}

-- A router is opened so.
pub opening_stands : (r : Router) (routes : List (Prefix × ℕ)) (tunnels : List (ℕ × Tunnel)) (bypasses : List (ℕ × Bypass)) → AreRoutes r routes → AreTunnels r tunnels → AreUnchanging tunnels → AreBypasses r tunnels bypasses → IsStanding r (opening_facts r routes tunnels bypasses)
opening_stands r routes tunnels bypasses are begin unchanging protect = record {
  moment = omega arith;
  links = keys-map (λ l. l.1.up) r.links;
  routes = are;
  tunnels = begin;
  bypasses = protect;
  paths = record { apart = none_apart; in_order = tt; few = omega arith; each = tt };
  heads = tt;
  pending = pending_none r [] tunnels unchanging;
  cold = λ cold. refl;
}

-- Tunnels and static routes change, and with them the paths that begin here.
pub sound_with_heads : (r : Router) (s : Facts) (routes : List (Prefix × ℕ)) (tunnels : List (ℕ × Tunnel)) (paths : List (Key × PathFact)) → s.cold ≡ false → IsStanding r s → AreRoutes r routes → AreTunnels r tunnels → AreBypasses r tunnels s.bypasses → ArePaths r s.moment paths → AllByRecursion (IsHeadOf r tunnels) paths
    → AllByRecursion (IsPendingSignalled r paths) tunnels → IsStanding r (record s { routes = routes; tunnels = tunnels; paths = paths })
sound_with_heads r s routes tunnels paths runs is are_routes are_tunnels are_bypasses are_paths heads pending = record {
  moment = is.moment;
  links = is.links;
  routes = are_routes;
  tunnels = are_tunnels;
  bypasses = are_bypasses;
  paths = are_paths;
  heads = heads;
  pending = pending;
  cold = λ cold. absurd (let e = sym runs ∙ cold in cc);
}

-- A path is put, by a router that runs: it begins here where its LSP is a tunnel's, and is asked for what it was then, and
-- messages that come through stacks are of one path at most still.
pub sound_with_path : (r : Router) (s : Facts) (key : Key) (fact : PathFact) → s.cold ≡ false → IsStanding r s → IsPath r s.moment (key, fact) → IsHeadOf r s.tunnels (key, fact) → length (put key_cmp key fact s.paths) ≤ 1024 → AreApart (put key_cmp key fact s.paths) → (is_head r s.tunnels key ≡ true → Some (asked_of fact) ≡ option_map asked_of (find key_cmp key s.paths)) → IsStanding r (with_path key fact s)
sound_with_path r s key fact runs is path head few apart same =
    sound_with_heads r s s.routes s.tunnels (put key_cmp key fact s.paths) runs is is.routes is.tunnels is.bypasses (paths_put r s.moment key fact s.paths is.paths path few apart)
    (heads_put r s.tunnels s.tunnels key fact s.paths head (λ q apart. refl) is.paths.in_order is.heads)
    (pending_put_head r s.tunnels s.paths is.tunnels.in_order is.pending key fact same)

-- Bypasses change.
pub sound_with_bypasses : (r : Router) (s : Facts) (bypasses : List (ℕ × Bypass)) → IsStanding r s → AreBypasses r s.tunnels bypasses → IsStanding r (record s { bypasses = bypasses })
sound_with_bypasses r s bypasses is are = record {
  moment = is.moment;
  links = is.links;
  routes = is.routes;
  tunnels = is.tunnels;
  bypasses = are;
  paths = is.paths;
  heads = is.heads;
  pending = is.pending;
  cold = is.cold;
}

-- Paths are taken away by a test of their keys that each tunnel's LSP passes.
pub sound_where : (r : Router) (s : Facts) (p : Key → Bool) → IsStanding r s → ((key : Key) → is_head r s.tunnels key ≡ true → p key ≡ true) → IsStanding r (record s { paths = where_key key_cmp p s.paths })
sound_where r s p is keeps = record {
  moment = is.moment;
  links = is.links;
  routes = is.routes;
  tunnels = is.tunnels;
  bypasses = is.bypasses;
  paths = paths_where r s.moment p s.paths is.paths;
  heads = heads_where r s.tunnels s.tunnels p s.paths (λ q kept. refl) is.heads;
  pending = pending_where r s.tunnels s.paths is.tunnels.in_order is.pending p keeps;
  cold = λ cold. ap (where_key key_cmp p) (is.cold cold);
}

-- A moment comes that isn't below the last one.
pub sound_expire : (r : Router) (s : Facts) (n : ℕ) → IsStanding r s → s.moment ≤ n → n ≤ 2 ^ 62 → IsStanding r (record s { moment = n; paths = expire n s.paths })
unfolding expire
sound_expire r s n is later most = record {
  moment = most;
  links = is.links;
  routes = is.routes;
  tunnels = is.tunnels;
  bypasses = is.bypasses;
  paths = paths_expire r s.moment n s.paths is.paths;
  heads = heads_expire r s.tunnels n s.paths is.heads;
  pending = pending_expire r s.tunnels s.paths is.tunnels.in_order is.pending n is.paths.in_order is.heads;
  cold = λ cold. ap (expire n) (is.cold cold);
}

-- The router is started.
pub sound_started : (r : Router) (s : Facts) → IsStanding r s → IsStanding r (record s { cold = false })
sound_started r s is = record { moment = is.moment; links = is.links; routes = is.routes; tunnels = is.tunnels; bypasses = is.bypasses; paths = is.paths; heads = is.heads; pending = is.pending; cold = λ cold. absurd (let e = cold in cc) }

-- The router is restarted.
pub sound_restarted : (r : Router) (s : Facts) → IsStanding r s → IsStanding r (restarted s).after
sound_restarted r s is = record {
  moment = is.moment;
  links = is.links;
  routes = is.routes;
  tunnels = all_cancelled_stand r s.tunnels is.tunnels;
  bypasses = bypasses_cancelled r s.tunnels s.bypasses is.bypasses;
  paths = record { apart = none_apart; in_order = tt; few = omega arith; each = tt };
  heads = tt;
  pending = pending_all_cancelled r [] s.tunnels;
  cold = λ cold. refl;
}

-- All is lost that messages set up, be the router cold or not.
pub sound_emptied : (r : Router) (s : Facts) → IsStanding r s → IsStanding r (record s { tunnels = all_cancelled s.tunnels; paths = []; sent = [] })
sound_emptied r s is =
    let lost = sound_restarted r s is in
    record { moment = lost.moment; links = lost.links; routes = lost.routes; tunnels = lost.tunnels; bypasses = lost.bypasses; paths = lost.paths; heads = tt; pending = lost.pending; cold = λ cold. refl }

-- A router that knows no path is cold from now on.
pub sound_stopped : (r : Router) (s : Facts) → s.paths ≡ [] → IsStanding r s → IsStanding r (record s { cold = true })
sound_stopped r s none is = record { moment = is.moment; links = is.links; routes = is.routes; tunnels = is.tunnels; bypasses = is.bypasses; paths = is.paths; heads = is.heads; pending = is.pending; cold = λ cold. none }

-- Items were sent.
pub sound_sent : (r : Router) (s : Facts) (sent : List (Item × ℕ)) → IsStanding r s → IsStanding r (record s { sent = sent })
sound_sent r s sent is = record { moment = is.moment; links = is.links; routes = is.routes; tunnels = is.tunnels; bypasses = is.bypasses; paths = is.paths; heads = is.heads; pending = is.pending; cold = is.cold }

-- of each link of the router it is known whether it is up
link_known : (r : Router) (s : Facts) (number : ℕ) → IsStanding r s → HasLink r number → is_some (find nat_cmp number s.up) ≡ true
unfolding link_at
link_known r s number is there = is_some-find_both nat_cmp number s.up r.links is.links ∙ there

-- A link of the router comes up or goes down.
pub sound_with_link : (r : Router) (s : Facts) (number : ℕ) (is_up : Bool) → IsRouter r → IsStanding r s → HasLink r number → IsStanding r (with_link number is_up s)
sound_with_link r s number is_up router is there = record {
  moment = is.moment;
  links = keys-put_found nat_cmp nat_cmp_total number is_up s.up (subst T (sym (is_sorted-both nat_cmp s.up r.links is.links)) router.in_order) (link_known r s number is there) ∙ is.links;
  routes = is.routes;
  tunnels = is.tunnels;
  bypasses = is.bypasses;
  paths = is.paths;
  heads = is.heads;
  pending = is.pending;
  cold = is.cold;
}
