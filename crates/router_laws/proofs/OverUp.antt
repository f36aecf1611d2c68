-- What a step sends goes over links that are up.
use Rattle.std.specs.Prelude.{◌≡◌, ◌&&◌, ◌++◌, ℕ, Bool, true, false, List, [], ◌∷◌, filter_map, Option, Some, None, IfSome, is_none, nat_lt}
use Rattle.std.specs.FinMap.Entries.{find}
use Rattle.std.specs.List.{All, AllByRecursion, cons_option, flat_map, reduce}
use Rattle.std.specs.Option.{option_and_then, option_map, option_map_or}
use Rattle.std.specs.Ordering.{nat_cmp}
use Rattle.std.specs.declared.cmp.Ordering.{Ordering}
use Rattle.std.specs.declared.net.ipv4_addr.Ipv4Addr.{Ipv4Addr}
use Rattle.std.proofs.Common.{refl, subst, sym}
use Rattle.std.proofs.lemmas.Bool.{and_parts, cond_both}
use Rattle.std.proofs.lemmas.List.Elements.{All-from_recursion}
use Rattle.std.proofs.lemmas.Option.{IfSome_then}
use Rattle.rsvp_contents.specs.declared.messages.Content.TheVariants as contents
use Rattle.sorted_rows.specs.ListLaws.{all-append, all-filter_passes}
use Rattle.sorted_rows.specs.RowsLaws.{find-all}
use Rattle.lsr_facts.specs.Orders.{item_cmp, key_cmp}
use Rattle.lsr_facts.specs.Routers.{is_same, link_at}
use Rattle.lsr_facts.specs.Tunnels.{current_key}
use Rattle.lsr_facts.specs.Upstreams.{upstream_cmp}
use Rattle.lsr_facts.specs.declared.bypass.Bypass.{Bypass}
use Rattle.lsr_facts.specs.declared.key.Item.{Item}
use Rattle.lsr_facts.specs.declared.key.Key.{Key}
use Rattle.lsr_facts.specs.declared.path_fact.Origin.{Origin}
use Rattle.lsr_facts.specs.declared.path_fact.Via.{Via}
use Rattle.lsr_facts.specs.declared.path_fact.Via.TheVariants as vias
use Rattle.lsr_facts.specs.declared.repair.BypassTunnel.{BypassTunnel}
use Rattle.lsr_facts.specs.declared.repair.Over.{Over}
use Rattle.lsr_facts.specs.declared.repair.Repair.{Repair}
use Rattle.lsr_facts.specs.declared.router.Link.{Link}
use Rattle.lsr_facts.specs.declared.router.Router.{Router}
use Rattle.lsr_facts.specs.declared.tunnel.Tunnel.{Tunnel}
use Rattle.lsr_facts.specs.declared.upstream.Upstream.{Upstream}
use Rattle.abstract_paths.specs.declared.events.Made.{Made}
use Rattle.abstract_paths.specs.declared.events.Output.{Output}
use Rattle.abstract_paths.specs.Frame.{Frame}
use Rattle.abstract_paths.specs.Frame.TheVariants as frames
use Rattle.abstract_paths.specs.Payload.TheVariants as payloads
use Rattle.abstract_paths.specs.Outcomes.{sent_by}
use Rattle.abstract_paths.specs.Outputs.{between, errors_out, rests, send_for, tear_by, tear_for, tear_of}
use Rattle.abstract_paths.specs.Paths.{goes_on}
use Rattle.abstract_paths.specs.Places.{Place, is_up, neighbour, up_links}
use Rattle.abstract_paths.specs.RowLaws.{find-holds, option_map-holds, option_or-holds, reduce-holds}
use Rattle.abstract_paths.specs.Routing.{longer, route_to, routes_to}
use Rattle.abstract_paths.specs.Tears.{leaves_by}
use Rattle.abstract_router.specs.Arrivals.{outcome}
use Rattle.abstract_router.specs.BypassTunnels.{bypass_tunnel_by, bypass_tunnel_of, bypass_tunnels_of, over_by, over_of}
use Rattle.abstract_router.specs.Lsps.{Around, Lsp, around_of, lsps_of}
use Rattle.abstract_router.specs.Outputs.{outputs_of}
use Rattle.abstract_router.specs.Standing.{stands}
use Rattle.abstract_router.specs.States.{State}
use Rattle.abstract_router.specs.Steps.{Step}
use Rattle.abstract_router.specs.Through.{backup_of, backup_over, backup_path, labelled_by}
use Rattle.abstract_router.specs.UpstreamLaws.{all-filter_map}
use Rattle.abstract_router.specs.Upstreams.{Reserved, reserved_for, upstream_of, upstream_row, upstream_rows, upstream_via}
use Rattle.abstract_router.specs.Wanted.{backup_row, downstream_row, items_of}

-- it goes over a link that is up
abbrev IsOverUp : List (ℕ × Bool) → Output → Type 0
IsOverUp up output = is_up up output.link ≡ true

-- and so does what is sent for a row
abbrev IsRowOverUp : {I : Type 0} → List (ℕ × Bool) → I × Output → Type 0
IsRowOverUp up wants = IsOverUp up wants.1

-- what holds of all that f gives of each holds of all of these
pub all-flat_map : {A B : Type 0} (P : B → Type 0) (f : A → List B) → ((x : A) → AllByRecursion P (f x)) → (xs : List A) → AllByRecursion P (flat_map f xs)
all-flat_map P f holds [] = tt
all-flat_map P f holds (x ∷ xs) = all-append P (f x) (flat_map f xs) (holds x) (all-flat_map P f holds xs)

-- what holds of each that may follow holds of the one that does
pub and_then-holds : {A B : Type 0} (P : B → Type 0) (f : A → Option B) → ((x : A) → IfSome (f x) P) → (o : Option A) → IfSome (option_and_then f o) P
and_then-holds P f holds None = tt
and_then-holds P f holds (Some x) = holds x

pub always : {A : Type 0} (P : A → Type 0) → ((x : A) → P x) → (o : Option A) → IfSome o P
always P holds None = tt
always P holds (Some x) = holds x

-- ---- what is sent again, and tears

-- the tear of a message goes over its link
tear-over : (link : ℕ) (frame : Frame) → IfSome (tear_by link frame) (λ output. output.link ≡ link)
tear-over link (frames.Hop content) = option_map-holds (λ (output : Output). output.link ≡ link) (sent_by link) (tear_of content) (always (λ tear. link ≡ link) (λ tear. refl) (tear_of content))
tear-over link (frames.Labelled stack (payloads.Message content)) =
    option_map-holds (λ (output : Output). output.link ≡ link) (λ tear. record { link = link; frame = frames.Labelled stack (payloads.Message tear) }) (tear_of content) (always (λ tear. link ≡ link) (λ tear. refl) (tear_of content))
tear-over link (frames.Labelled stack (payloads.Received payload)) = tt
tear-over link (frames.Routed to limit content) =
    option_map-holds (λ (output : Output). output.link ≡ link) (λ tear. record { link = link; frame = frames.Routed to limit tear }) (tear_of content) (always (λ tear. link ≡ link) (λ tear. refl) (tear_of content))
tear-over link (frames.Relayed to limit message) = tt

module _ {I : Type 0} (up : List (ℕ × Bool)) where
  tear_for-up : (now : Option Output) (was : I × Output) → IfSome (tear_for up now was) (IsOverUp up)
  tear_for-up now was =
      cond_both (is_none now && is_up up was.1.link) (tear_by was.1.link was.1.frame) None (λ o. IfSome o (IsOverUp up))
      (λ goes. IfSome_then (tear_by was.1.link was.1.frame) (tear-over was.1.link was.1.frame) (λ output same. subst (λ (link : ℕ). is_up up link ≡ true) (sym same) (and_parts (is_none now) (is_up up was.1.link) goes).1))
      (λ stays. tt)

  tears-up : (cmp : I → I → Ordering) (before after : List (I × Output)) → AllByRecursion (IsOverUp up) (between cmp (tear_for up) before after)
  tears-up cmp before after = all-filter_map (IsOverUp up) (λ row. tear_for up (find cmp row.0 after) row) (λ row. tear_for-up (find cmp row.0 after) row) before

  -- what is sent is what is wanted
  send_for-up : (cmp : I → I → Ordering) (due : List I) (was : Option Output) (wants : I × Output) → IsRowOverUp up wants → IfSome (send_for cmp due was wants) (IsOverUp up)
  send_for-up cmp due was wants goes = cond_both (rests cmp due was wants) None (Some wants.1) (λ o. IfSome o (IsOverUp up)) (λ rest. tt) (λ sent. goes)

  sends-up : (cmp : I → I → Ordering) (due : List I) (before after : List (I × Output)) → AllByRecursion (IsRowOverUp up) after → AllByRecursion (IsOverUp up) (between cmp (send_for cmp due) after before)
  sends-up cmp due before [] each = tt
  sends-up cmp due before (wants ∷ more) each = by (send_for cmp due (find cmp wants.0 before) wants) (send_for-up cmp due (find cmp wants.0 before) wants each.0) (sends-up cmp due before more each.1)
    where
      by : (o : Option Output) → IfSome o (IsOverUp up) → AllByRecursion (IsOverUp up) (between cmp (send_for cmp due) more before) → AllByRecursion (IsOverUp up) (cons_option o (between cmp (send_for cmp due) more before))
      by None is rest = rest
      by (Some output) is rest = (is, rest)

-- ---- what is wanted

-- a way to an address goes over a link that is up
neighbour-up : (n : Place) (test : Ipv4Addr → Bool) → IfSome (neighbour test n) (λ l. is_up n.up l.0 ≡ true)
unfolding neighbour
neighbour-up n test = find-holds (λ (l : ℕ × Link). is_up n.up l.0 ≡ true) _ (up_links n) (all-filter_passes (λ (l : ℕ × Link). is_up n.up l.0 ≡ true) (λ l. is_up n.up l.0) (λ l up. up) n.router.links)

route_to-up : (n : Place) (a : Ipv4Addr) → IfSome (route_to n a) (λ link. is_up n.up link ≡ true)
unfolding route_to
route_to-up n a =
    option_or-holds (λ link. is_up n.up link ≡ true) _ _
    (option_map-holds (λ link. is_up n.up link ≡ true) (λ l. l.0) (neighbour (is_same a) n) (neighbour-up n (is_same a)))
    (option_map-holds (λ link. is_up n.up link ≡ true) (λ route. route.1) (reduce longer (routes_to n a))
    (reduce-holds (λ route. is_up n.up route.1 ≡ true) longer
    (λ p q g h. cond_both (nat_lt p.0.length q.0.length) q p (λ route. is_up n.up route.1 ≡ true) (λ t. h) (λ t. g))
    (routes_to n a)
    (all-filter_passes (λ route. is_up n.up route.1 ≡ true) _ (λ route passes. (and_parts _ _ passes).1) n.routes)))

-- what bypasses run over is up
abbrev AreUp : List (ℕ × Bool) → List (ℕ × BypassTunnel) → Type 0
AreUp up bypass_tunnels = AllByRecursion (λ (bypass : ℕ × BypassTunnel). IfSome bypass.1.over (λ over. is_up up over.link ≡ true)) bypass_tunnels

module _ (r : Router) (s : State) where
  over_of-up : (tunnel : ℕ × Tunnel) → IfSome (over_of r s tunnel) (λ over. is_up s.facts.up over.link ≡ true)
  over_of-up tunnel =
      and_then-holds (λ (over : Over). is_up s.facts.up over.link ≡ true) (over_by s.facts (current_key r tunnel))
      (λ resv.
      cond_both (stands s.facts (current_key r tunnel, resv)) (Some (record { link = resv.link; label = resv.label })) None (λ o. IfSome o (λ (over : Over). is_up s.facts.up over.link ≡ true))
      (λ standing. (and_parts (is_up s.facts.up resv.link) (option_map_or (leaves_by resv.link) (find key_cmp (current_key r tunnel) s.facts.paths) false) standing).0) (λ gone. tt))
      (find key_cmp (current_key r tunnel) s.resvs)

  bypasses-up : AreUp s.facts.up (bypass_tunnels_of r s)
  unfolding bypass_tunnels_of
  bypasses-up = all-filter_map Up (λ bypass. option_map (λ bypass_tunnel. (bypass.0, bypass_tunnel)) (bypass_tunnel_by r s bypass)) (λ bypass. by bypass (find nat_cmp bypass.1.tunnel s.facts.tunnels)) s.facts.bypasses
    where
      Up : ℕ × BypassTunnel → Type 0
      Up bypass = IfSome bypass.1.over (λ over. is_up s.facts.up over.link ≡ true)

      by : (bypass : ℕ × Bypass) (o : Option Tunnel) → IfSome (option_map (λ bypass_tunnel. (bypass.0, bypass_tunnel)) (option_map (bypass_tunnel_of r s bypass.1) o)) Up
      by bypass None = tt
      by bypass (Some tunnel) = over_of-up (bypass.1.tunnel, tunnel)

module _ (a : Around) where
  -- at the next hop
  downstream-up : (lsp : Key × Lsp) → IfSome (downstream_row a lsp) (IsRowOverUp a.place.up)
  downstream-up lsp =
      cond_both (goes_on lsp.1.path.role && is_none lsp.1.repair && is_up a.place.up lsp.1.path.out_link) _ None (λ o. IfSome o (IsRowOverUp a.place.up))
      (λ goes. option_map-holds (IsRowOverUp a.place.up) _ (link_at a.place.router lsp.1.path.out_link)
      (always (λ link. is_up a.place.up lsp.1.path.out_link ≡ true) (λ link. (and_parts (goes_on lsp.1.path.role && is_none lsp.1.repair) (is_up a.place.up lsp.1.path.out_link) goes).1) (link_at a.place.router lsp.1.path.out_link)))
      (λ stays. tt)

  -- through a bypass
  backup-up : AreUp a.place.up a.bypass_tunnels → (lsp : Key × Lsp) → IfSome (backup_row a lsp) (IsRowOverUp a.place.up)
  backup-up over lsp = and_then-holds (IsRowOverUp a.place.up) _ (λ repair. option_map-holds (IsRowOverUp a.place.up) _ (backup_of a lsp.0 lsp.1.path repair) (through repair)) lsp.1.repair
    where
      sent : (repair : Repair) (bypass_tunnel : BypassTunnel) → (o : Option Over) → IfSome o (λ over. is_up a.place.up over.link ≡ true) → (link : Link)
          → IfSome (option_map (λ over. labelled_by over (contents.Path (backup_path a.place.router lsp.0 lsp.1.path repair bypass_tunnel link))) o) (IsOverUp a.place.up)
      sent repair bypass_tunnel None is link = tt
      sent repair bypass_tunnel (Some over) is link = is

      by : (repair : Repair) (o : Option BypassTunnel) → IfSome o (λ bypass_tunnel. IfSome bypass_tunnel.over (λ over. is_up a.place.up over.link ≡ true)) → IfSome (option_and_then (backup_over a.place.router lsp.0 lsp.1.path repair) o) (IsOverUp a.place.up)
      by repair None is = tt
      by repair (Some bypass_tunnel) is = and_then-holds (IsOverUp a.place.up) _ (sent repair bypass_tunnel bypass_tunnel.over is) (link_at a.place.router repair.resv.link)

      through : (repair : Repair) → IfSome (backup_of a lsp.0 lsp.1.path repair) (IsOverUp a.place.up)
      through repair = by repair (find nat_cmp repair.bypass a.bypass_tunnels) (find-all nat_cmp (λ bypass_tunnel. IfSome bypass_tunnel.over (λ over. is_up a.place.up over.link ≡ true)) repair.bypass a.bypass_tunnels over)

  -- to an origin
  upstream-up : (lsp : Key × Lsp) (label : ℕ) (said : Reserved) (origin : Ipv4Addr × Origin) (via : Via) → IfSome (upstream_via a lsp label said origin via) (IsRowOverUp a.place.up)
  upstream-up lsp label said origin (vias.Link number) =
      cond_both (is_up a.place.up number) _ None (λ o. IfSome o (IsRowOverUp a.place.up))
      (λ up. option_map-holds (IsRowOverUp a.place.up) _ (link_at a.place.router number) (always (λ link. is_up a.place.up number ≡ true) (λ link. up) (link_at a.place.router number))) (λ down. tt)
  upstream-up lsp label said origin vias.Stack = option_map-holds (IsRowOverUp a.place.up) _ (route_to a.place origin.1.hop.address) (route_to-up a.place origin.1.hop.address)

  rows-up : (lsp : Key × Lsp) → AllByRecursion (IsRowOverUp a.place.up) (upstream_rows a lsp)
  rows-up lsp = by_label lsp.1.label
    where
      by_said : (label : ℕ) (o : Option Reserved) → AllByRecursion (IsRowOverUp a.place.up) (option_map_or (λ said. filter_map (upstream_row a lsp label said) lsp.1.path.origins) o [])
      by_said label None = tt
      by_said label (Some said) = all-filter_map (IsRowOverUp a.place.up) (upstream_row a lsp label said) (λ origin. upstream-up lsp label said origin origin.1.via) lsp.1.path.origins

      by_label : (o : Option ℕ) → AllByRecursion (IsRowOverUp a.place.up) (option_map_or (λ label. option_map_or (λ said. filter_map (upstream_row a lsp label said) lsp.1.path.origins) (reserved_for a lsp) []) o [])
      by_label None = tt
      by_label (Some label) = by_said label (reserved_for a lsp)

module _ (r : Router) (s : State) where
  items-up : AllByRecursion (IsRowOverUp s.facts.up) (items_of r s)
  unfolding items_of
  items-up =
      all-append (IsRowOverUp s.facts.up) (filter_map (downstream_row (around_of r s)) (lsps_of s)) (filter_map (backup_row (around_of r s)) (lsps_of s))
      (all-filter_map (IsRowOverUp s.facts.up) (downstream_row (around_of r s)) (downstream-up (around_of r s)) (lsps_of s))
      (all-filter_map (IsRowOverUp s.facts.up) (backup_row (around_of r s)) (backup-up (around_of r s) (bypasses-up r s)) (lsps_of s))

  resvs-up : AllByRecursion (IsRowOverUp s.facts.up) (upstream_of r s)
  unfolding upstream_of
  resvs-up = all-flat_map (IsRowOverUp s.facts.up) (upstream_rows (around_of r s)) (rows-up (around_of r s)) (lsps_of s)

-- ---- a step

outputs-up : (r : Router) (before : State) (errors : List Output) (due : List Item) (upstream_due : List Upstream) (after : State) → AllByRecursion (IsOverUp after.facts.up) (outputs_of r before errors due upstream_due after)
unfolding outputs_of
outputs-up r before errors due upstream_due after =
    let up = after.facts.up in
    let told = errors_out up errors in
    let tears = between item_cmp (tear_for up) (items_of r before) (items_of r after) in
    let resv_tears = between upstream_cmp (tear_for up) (upstream_of r before) (upstream_of r after) in
    let sends = between item_cmp (send_for item_cmp due) (items_of r after) (items_of r before) in
    let resv_sends = between upstream_cmp (send_for upstream_cmp upstream_due) (upstream_of r after) (upstream_of r before) in
    all-append (IsOverUp up) (told ++ tears ++ resv_tears ++ sends) resv_sends
    (all-append (IsOverUp up) (told ++ tears ++ resv_tears) sends
    (all-append (IsOverUp up) (told ++ tears) resv_tears
    (all-append (IsOverUp up) told tears (all-filter_passes (IsOverUp up) (λ output. is_up up output.link) (λ output is. is) errors) (tears-up up item_cmp (items_of r before) (items_of r after)))
    (tears-up up upstream_cmp (upstream_of r before) (upstream_of r after)))
    (sends-up up item_cmp due (items_of r before) (items_of r after) (items-up r after)))
    (sends-up up upstream_cmp upstream_due (upstream_of r before) (upstream_of r after) (resvs-up r after))

-- All that a step sends goes over links that are up.
pub all_over_up : (r : Router) (before after : State) (made : Made) → Step r before made after → All (λ output. is_up after.facts.up output.link ≡ true) made.outputs
all_over_up r before after made step =
    let o = outcome r before made.event in
    All-from_recursion (IsOverUp after.facts.up) made.outputs
    (subst (AllByRecursion (IsOverUp after.facts.up)) (sym step.sent)
    (cond_both o.is_silent [] _ (AllByRecursion (IsOverUp after.facts.up)) (λ silent. tt) (λ loud. outputs-up r before _ o.due o.upstream_due after)))
