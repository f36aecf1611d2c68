-- Bypasses as they are asked for one by one, and all of them.
use Rattle.std.specs.Prelude.{◌≡◌, ◌+◌, ◌<◌, ◌==◌, ◌&&◌, ◌||◌, ◌++◌, not, ℕ, Bool, true, false, cond, if◌then◌else◌, T, List, [], ◌∷◌, filter, filter_map, find as find_first, is_some, length, Option, Some, None}
use Rattle.std.specs.FinMap.Entries.{find, is_sorted}
use Rattle.std.specs.List.{cons_option, list_any}
use Rattle.std.specs.Option.{option_and_then, option_map, option_map_or, option_or, unwrap_or}
use Rattle.std.specs.Net.Addr.{ipv4_octets}
use Rattle.std.specs.Ordering.{eq_by_cmp, nat_cmp}
use Rattle.std.specs.declared.cmp.Ordering.{Ordering}
use Rattle.std.specs.declared.cmp.Ordering.TheVariants.{Equal}
use Rattle.std.proofs.Common.{refl, sym, ap, subst, ◌∙◌, get_or, take}
use Rattle.std.proofs.lemmas.Bool.{and_parts, eq-eqb, eqb-true}
use Rattle.std.proofs.lemmas.Cmp.{nat_list_eq_equiv}
use Rattle.std.proofs.lemmas.List.{take_more}
use Rattle.std.proofs.lemmas.List.Elements.{filter_map-append}
use Rattle.std.proofs.lemmas.List.Folds.{find-append}
use Rattle.std.proofs.lemmas.Map.Lookups.{exact_unsigned}
use Rattle.sorted_rows.specs.Edits as rows
use Rattle.sorted_rows.specs.RowsLaws.{ties}
use Rattle.lsr_facts.specs.OrderLaws.{key_exact}
use Rattle.lsr_facts.specs.Orders.{key_cmp}
use Rattle.lsr_facts.specs.Routers.{is_same}
use Rattle.lsr_facts.specs.Timeless.{timeless_path}
use Rattle.lsr_facts.specs.Tunnels.{current_key}
use Rattle.lsr_facts.specs.declared.assignment.Assignment.{Assignment}
use Rattle.lsr_facts.specs.declared.bypass.Bypass.{Bypass}
use Rattle.lsr_facts.specs.declared.key.Key.{Key}
use Rattle.lsr_facts.specs.declared.path_fact.PathFact.{PathFact}
use Rattle.lsr_facts.specs.declared.router.Router.{Router}
use Rattle.lsr_facts.specs.declared.tunnel.Tunnel.{Tunnel}
use Rattle.lsr_facts.specs.Reservations.{timeless_resv}
use Rattle.lsr_facts.specs.declared.repair.BypassTunnel.{BypassTunnel}
use Rattle.lsr_facts.specs.declared.repair.Selected.{Selected}
use Rattle.lsr_facts.specs.declared.repair.Repair.{Repair}
use Rattle.lsr_facts.specs.declared.resv_fact.ResvFact.{ResvFact}
use Rattle.abstract_paths.specs.Places.{is_up}
use Rattle.abstract_paths.specs.StampLaws.{none-is}
use Rattle.abstract_paths.specs.Tears.{leaves_by}
use Rattle.abstract_router.specs.BypassTunnels.{bypass_tunnel_by, bypass_tunnel_of, bypass_tunnels_of, over_of}
use Rattle.abstract_router.specs.Lsps.{Around, Lsp, around_of, lsp_of}
use Rattle.abstract_router.specs.Protecting.{candidates_of, is_preferred, is_protected, may_serve, selected, ways_around}
use Rattle.abstract_router.specs.States.{State}
use Rattle.abstract_router.specs.Upstreams.{flags_ready, protection_flags}
use Rattle.state_views.specs.EditLaws.{neither, row_edited, tunnel_edited}
use Rattle.state_views.specs.Edits.{edited}
use Rattle.state_views.specs.declared.edits.Edits.{Edits}
use Rattle.facility_backup.specs.Asking.{candidate_by, candidates, find-bypass_tunnels, row_by}
use Rattle.facility_backup.specs.Carrying.{leaves_tunnels, names_tunnel, runs_bypass}
use Rattle.facility_backup.specs.Choosing.{best, best_of}
use Rattle.facility_backup.specs.Serving.{bypass_flags, serves, serves_told, serving_by}

-- the bypass of a number, where its row is found
pub found_bypass_tunnel : (r : Router) (s : State) (number : ℕ) (row : Option Bypass) (bypasses : List (ℕ × Bypass)) → T (is_sorted nat_cmp bypasses) → bypasses ≡ s.facts.bypasses → row ≡ find nat_cmp number bypasses
    → option_and_then (λ bypass. bypass_tunnel_by r s (number, bypass)) row ≡ find nat_cmp number (bypass_tunnels_of r s)
found_bypass_tunnel r s number row bypasses sorted are found =
    ap (option_and_then (λ bypass. bypass_tunnel_by r s (number, bypass))) (found ∙ ap (find nat_cmp number) are)
    ∙ sym (find-bypass_tunnels r s number (subst (λ (rows : List (ℕ × Bypass)). T (is_sorted nat_cmp rows)) are sorted))

-- when a path or a reservation expires is nothing to the choice
pub selected_timeless : (a : Around) (key : Key) (path : PathFact) (given : Option Assignment) (resv : ResvFact) → selected a key (timeless_path path) given resv ≡ selected a key path given resv
unfolding selected candidates_of
selected_timeless a key path given resv = refl

pub flags_ready_timeless : (a : Around) (lsp : Key × Lsp) (resv : ResvFact) → flags_ready a lsp (timeless_resv resv) ≡ flags_ready a lsp resv
unfolding selected candidates_of ways_around
flags_ready_timeless a lsp resv = refl

-- so how an LSP is protected whose reservation is found
pub own_ready : (a : Around) (s : State) (key : Key) (path : PathFact) (resv : ResvFact) → Some resv ≡ find key_cmp key s.resvs
    → flags_ready a (key, lsp_of s key path) resv ≡ bypass_flags a (key, lsp_of s key path)
own_ready a s key path resv found =
    let lsp : Key × Lsp = (key, lsp_of s key path) in
    sym (flags_ready_timeless a lsp resv)
    ∙ ap (λ o. option_map_or (flags_ready a lsp) (option_map timeless_resv o) (option_map_or (λ (repair : Repair). protection_flags true repair.is_nnhop) lsp.1.repair 0)) found

-- where no tunnel is there, no bypass runs in it
without : (same known any : Bool) → (same ≡ true → false ≡ known) → (known && any) ≡ (known && (same || any))
without true known any h = subst (λ k. (k && any) ≡ (k && (true || any))) (h refl) refl
without false known any h = refl

-- where one is, one may
within : (same known any : Bool) → (same ≡ true → true ≡ known) → (same || (known && any)) ≡ (known && (same || any))
within true known any h = subst (λ k. (true || (k && any)) ≡ (k && (true || any))) (h refl) refl
within false known any h = refl

-- no bypasses, no test of one
and-false : (known : Bool) → false ≡ (known && false)
and-false true = refl
and-false false = refl

-- A bypass runs in a tunnel where that is there, and a bypass names it.
carrying_each : (r : Router) (s : State) (number : ℕ) (bypasses : List (ℕ × Bypass))
    → list_any (λ (bypass_tunnel : ℕ × BypassTunnel). bypass_tunnel.1.tunnel == number) (filter_map (row_by r s) bypasses) ≡ (is_some (find nat_cmp number s.facts.tunnels) && list_any (λ (bypass : ℕ × Bypass). bypass.1.tunnel == number) bypasses)
carrying_each r s number [] = and-false (is_some (find nat_cmp number s.facts.tunnels))
carrying_each r s number (bypass ∷ bypasses) =
    by (find nat_cmp bypass.1.tunnel s.facts.tunnels) (λ same. ap (λ n. is_some (find nat_cmp n s.facts.tunnels)) (eqb-true bypass.1.tunnel number same)) (carrying_each r s number bypasses)
  where
    by : (tunnel : Option Tunnel) → ((bypass.1.tunnel == number) ≡ true → is_some tunnel ≡ is_some (find nat_cmp number s.facts.tunnels))
        → list_any (λ (bypass_tunnel : ℕ × BypassTunnel). bypass_tunnel.1.tunnel == number) (filter_map (row_by r s) bypasses) ≡ (is_some (find nat_cmp number s.facts.tunnels) && list_any (λ (bypass : ℕ × Bypass). bypass.1.tunnel == number) bypasses)
        → list_any (λ (bypass_tunnel : ℕ × BypassTunnel). bypass_tunnel.1.tunnel == number) (cons_option (option_map {U = ℕ × BypassTunnel} (λ bypass_tunnel. (bypass.0, bypass_tunnel)) (option_map (bypass_tunnel_of r s bypass.1) tunnel)) (filter_map (row_by r s) bypasses))
        ≡ (is_some (find nat_cmp number s.facts.tunnels) && ((bypass.1.tunnel == number) || list_any (λ (bypass : ℕ × Bypass). bypass.1.tunnel == number) bypasses))
    by None same rest = rest ∙ without _ _ _ same
    by (Some tunnel) same rest = ap (λ b. (bypass.1.tunnel == number) || b) rest ∙ within _ _ _ same

pub carried : (r : Router) (s : State) (number : ℕ) (bypasses : List (ℕ × Bypass)) (tunnel : Option Tunnel) → bypasses ≡ s.facts.bypasses → tunnel ≡ find nat_cmp number s.facts.tunnels
    → (is_some tunnel && list_any (λ (bypass : ℕ × Bypass). bypass.1.tunnel == number) bypasses) ≡ list_any (λ (bypass_tunnel : ℕ × BypassTunnel). bypass_tunnel.1.tunnel == number) (bypass_tunnels_of r s)
unfolding bypass_tunnels_of
carried r s number bypasses tunnel are found =
    (λ i. is_some (found i) && list_any (λ (bypass : ℕ × Bypass). bypass.1.tunnel == number) (are i))
    ∙ sym (carrying_each r s number s.facts.bypasses)

-- An LSP that isn't protected is repaired over no bypass;
pub unprotected : (a : Around) (key : Key) (path : PathFact) (given : Option Assignment) (resv : ResvFact) → is_protected a key path ≡ false → None ≡ selected a key path given resv
unfolding selected candidates_of
unprotected a key path given resv isnt =
    sym (ap (λ b. find_first (may_serve given) (cond b (filter (is_preferred path) (ways_around a resv) ++ filter (λ choice. not (is_preferred path choice)) (ways_around a resv)) [])) isnt)

-- another over the best of those that may serve.
pub chosen : (r : Router) (s : State) (key : Key) (path : PathFact) (given : Option Assignment) (resv : ResvFact) (bypasses : List (ℕ × Bypass)) → bypasses ≡ s.facts.bypasses → is_protected (around_of r s) key path ≡ true
    → best_of (is_preferred path) (serving_by r s given resv) bypasses None ≡ selected (around_of r s) key path given resv
unfolding selected candidates_of
chosen r s key path given resv bypasses are is =
    let parts = λ (choices : List Selected). filter (is_preferred path) choices ++ filter (λ choice. not (is_preferred path choice)) choices in
    let ways = ways_around (around_of r s) resv in
    ap (λ all. best_of (is_preferred path) (serving_by r s given resv) all None) are
    ∙ best (is_preferred path) (may_serve given) (serves given) (candidate_by r s resv) (serves_told r s given resv) s.facts.bypasses None
    ∙ ap (λ choices. option_or (find_first (may_serve given) (filter (is_preferred path) choices)) (find_first (may_serve given) (filter (λ choice. not (is_preferred path choice)) choices))) (sym (candidates r s resv))
    ∙ sym (find-append (may_serve given) (filter (is_preferred path) ways) (filter (λ choice. not (is_preferred path choice)) ways))
    ∙ sym (ap (λ b. find_first (may_serve given) (cond b (parts ways) [])) is)

-- one more bypass is as it was
pub leaves_more : (r : Router) (s t : State) (bypasses : List (ℕ × Bypass)) (i : ℕ) (d : ℕ × Bypass) (was now : Option BypassTunnel) → i < length bypasses
    → was ≡ bypass_tunnel_by r s (get_or bypasses i d) → was ≡ now → now ≡ bypass_tunnel_by r t (get_or bypasses i d)
    → filter_map (row_by r s) (take i bypasses) ≡ filter_map (row_by r t) (take i bypasses) → filter_map (row_by r s) (take (i + 1) bypasses) ≡ filter_map (row_by r t) (take (i + 1) bypasses)
leaves_more r s t bypasses i d was now more before same after so_far =
    let one = get_or bypasses i d in
    let taken = take_more bypasses i d more in
    ap (filter_map (row_by r s)) taken
    ∙ filter_map-append (row_by r s) (take i bypasses) (one ∷ [])
    ∙ (λ k. so_far k ++ cons_option (option_map {U = ℕ × BypassTunnel} (λ bypass_tunnel. (one.0, bypass_tunnel)) ((sym before ∙ same ∙ after) k)) [])
    ∙ sym (filter_map-append (row_by r t) (take i bypasses) (one ∷ []))
    ∙ sym (ap (filter_map (row_by r t)) taken)

-- a row isn't found under a key that passes a test, where no row's key does
none_such : {K E : Type 0} (cmp : K → K → Ordering) (exact : (a b : K) → cmp a b ≡ Equal → a ≡ b) (test : K → Bool) (es : List (K × E)) → list_any (λ e. test e.0) es ≡ false → (q : K) → test q ≡ true → find cmp q es ≡ None
none_such cmp exact test [] none q passes = refl
none_such cmp exact test (e ∷ es) none q passes =
    elim (eq_by_cmp cmp q e.0) as (λ b. eq_by_cmp cmp q e.0 ≡ b → cond b (Some e.1) (find cmp q es) ≡ None) [
      | true ↦ λ tie. absurd (let f = sym passes ∙ ap test (exact q e.0 (ties _ tie)) ∙ (neither (test e.0) _ none).0 in cc)
      | false ↦ λ tie. none_such cmp exact test es (neither (test e.0) _ none).1 q passes
    ] refl

-- a number is the same as itself
same_number : (n : ℕ) → (n == n) ≡ true
same_number n = eq-eqb n n refl

-- what one of more passes
one_of_more : (first rest : Bool) → rest ≡ true → (first || rest) ≡ true
one_of_more true rest so = refl
one_of_more false rest so = so

-- An LSP of a tunnel in which one of these runs.
runs_more : (r : Router) (bypass : ℕ × Bypass) (bypasses : List (ℕ × Bypass)) (key : Key) → runs_bypass r bypasses key ≡ true → runs_bypass r (bypass ∷ bypasses) key ≡ true
runs_more r bypass bypasses key so = by (is_same key.session.extended r.id) (names_tunnel bypasses key.session.tunnel) so
  where
    by : (here named : Bool) → (here && named) ≡ true → (here && ((bypass.1.tunnel == key.session.tunnel) || named)) ≡ true
    by true named so = one_of_more (bypass.1.tunnel == key.session.tunnel) named so
    by false named so = so

module _ (r : Router) (s : State) (e : Edits) (up : e.up ≡ None) where
  -- neither path nor reservation of an LSP is edited
  abbrev IsLeft : Key → Type 0
  IsLeft key = (find key_cmp key e.paths ≡ None) × (find key_cmp key e.resvs ≡ None)

  -- a tunnel runs over the same, where its current LSP is left
  same_over : (tunnel : ℕ × Tunnel) → IsLeft (current_key r tunnel) → over_of r s tunnel ≡ over_of r (edited e s) tunnel
  same_over tunnel none =
      let key = current_key r tunnel in
      let path = row_edited key e.paths s.facts.paths ∙ ap (λ edit. rows.over edit (find key_cmp key s.facts.paths)) none.0 in
      let resv = row_edited key e.resvs s.resvs ∙ ap (λ edit. rows.over edit (find key_cmp key s.resvs)) none.1 in
      λ i. option_and_then (λ resv.
      if is_up (unwrap_or (sym up i) s.facts.up) resv.link && option_map_or (leaves_by resv.link) (sym path i) false then Some (record { link = resv.link; label = resv.label }) else None)
      (sym resv i)

  -- a bypass is the same, where its tunnel isn't edited either
  same_row : (bypass : ℕ × Bypass) → find nat_cmp bypass.1.tunnel e.tunnels ≡ None → ((tunnel : Tunnel) → IsLeft (current_key r (bypass.1.tunnel, tunnel))) → row_by r s bypass ≡ row_by r (edited e s) bypass
  same_row bypass none left =
      by (find nat_cmp bypass.1.tunnel s.facts.tunnels)
      ∙ ap (λ tunnel. option_map {U = ℕ × BypassTunnel} (λ bypass_tunnel. (bypass.0, bypass_tunnel)) (option_map (bypass_tunnel_of r (edited e s) bypass.1) tunnel))
      (sym (tunnel_edited bypass.1.tunnel e.tunnels s.facts.tunnels ∙ ap (λ edit. rows.over edit (find nat_cmp bypass.1.tunnel s.facts.tunnels)) none))
    where
      by : (tunnel : Option Tunnel) → option_map {U = ℕ × BypassTunnel} (λ bypass_tunnel. (bypass.0, bypass_tunnel)) (option_map (bypass_tunnel_of r s bypass.1) tunnel) ≡ option_map {U = ℕ × BypassTunnel} (λ bypass_tunnel. (bypass.0, bypass_tunnel)) (option_map (bypass_tunnel_of r (edited e s) bypass.1) tunnel)
      by None = refl
      by (Some tunnel) = λ i. Some (bypass.0, record { tunnel = bypass.1.tunnel; protects = bypass.1.link; ends_at = tunnel.endpoint; capacity = bypass.1.capacity; over = same_over (bypass.1.tunnel, tunnel) (left tunnel) i })

  -- So each of these is, where no tunnel is edited in which one runs, and its LSPs are left.
  same_rows : (bypasses : List (ℕ × Bypass)) → ((number : ℕ) → names_tunnel bypasses number ≡ true → find nat_cmp number e.tunnels ≡ None) → ((key : Key) → runs_bypass r bypasses key ≡ true → IsLeft key)
      → filter_map (row_by r s) bypasses ≡ filter_map (row_by r (edited e s)) bypasses
  same_rows [] tunnels lsps = refl
  same_rows (bypass ∷ bypasses) tunnels lsps =
      let number = bypass.1.tunnel in
      let named = ap (λ same. same || names_tunnel bypasses number) (same_number number) in
      let one = same_row bypass (tunnels number named) (λ tunnel. lsps (current_key r (number, tunnel)) ((λ i. nat_list_eq_equiv.refl (ipv4_octets r.id) i && names_tunnel (bypass ∷ bypasses) number) ∙ named)) in
      let more = same_rows bypasses (λ other so. tunnels other (one_of_more (number == other) _ so)) (λ key so. lsps key (runs_more r bypass bypasses key so)) in
      λ i. cons_option (one i) (more i)

-- Edits that leave each bypass as it is, and no link or route comes or goes, leave all that LSPs share.
pub same_around : (r : Router) (s : State) (e : Edits) → e.up ≡ None → e.routes ≡ None → e.bypasses ≡ None
    → filter_map (row_by r s) s.facts.bypasses ≡ filter_map (row_by r (edited e s)) s.facts.bypasses → around_of r s ≡ around_of r (edited e s)
unfolding bypass_tunnels_of
same_around r s e up routes bypasses same =
    let bypass_tunnels = same ∙ sym (ap (λ o. filter_map (row_by r (edited e s)) (unwrap_or o s.facts.bypasses)) bypasses) in
    λ i. record {
      place = record { router = r; up = unwrap_or (sym up i) s.facts.up; routes = unwrap_or (sym routes i) s.facts.routes };
      bypass_tunnels = bypass_tunnels i;
    }

-- what fails to be so
not_so : (b : Bool) → not b ≡ true → b ≡ false
not_so true so = absurd (let f = so in cc)
not_so false so = refl

-- So do edits of no tunnel in which a bypass runs.
pub untouched_around : (r : Router) (s : State) (e : Edits) (bypasses : List (ℕ × Bypass)) → is_some e.up ≡ false → is_some e.routes ≡ false → is_some e.bypasses ≡ false
    → bypasses ≡ s.facts.bypasses → leaves_tunnels r bypasses e ≡ true → around_of r s ≡ around_of r (edited e s)
untouched_around r s e bypasses up routes same are leaves =
    let up_still = none-is e.up up in
    let known : leaves_tunnels r s.facts.bypasses e ≡ true = subst (λ (all : List (ℕ × Bypass)). leaves_tunnels r all e ≡ true) are leaves in
    let tunnels = and_parts _ _ known in
    let lsps = and_parts _ _ tunnels.1 in
    same_around r s e up_still (none-is e.routes routes) (none-is e.bypasses same)
    (same_rows r s e up_still s.facts.bypasses (none_such nat_cmp exact_unsigned (names_tunnel s.facts.bypasses) e.tunnels (not_so _ tunnels.0)) (λ key runs.
    (none_such key_cmp key_exact (runs_bypass r s.facts.bypasses) e.paths (not_so _ lsps.1) key runs, none_such key_cmp key_exact (runs_bypass r s.facts.bypasses) e.resvs (not_so _ lsps.0) key runs)))
