-- After each step no tunnel's new LSP is reserved, and where none is, tunnels stay as they are.
use Rattle.std.specs.Prelude.{◌≡◌, ◌≢◌, ℕ, Bool, true, false, cond, not, if◌then◌else◌, List, [], ◌∷◌, filter, map, Option, Some, None, is_some, option_map}
use Rattle.std.specs.FinMap.Entries.{find}
use Rattle.std.specs.List.{AllByRecursion}
use Rattle.std.specs.Option.{option_map_or}
use Rattle.std.specs.Ordering.{eq_by_cmp}
use Rattle.std.specs.declared.net.ipv4_addr.Ipv4Addr.{Ipv4Addr}
use Rattle.std.proofs.Common.{refl, sym, ap, subst, ◌∙◌}
use Rattle.sorted_rows.specs.ListLaws.{all-always, all-map, all-weaker, filter-all_pass}
use Rattle.rsvp_bodies.specs.declared.prefix.Prefix.{Prefix}
use Rattle.lsr_facts.specs.Orders.{is_one_of, key_cmp}
use Rattle.lsr_facts.specs.Tunnels.{current_key, head_key}
use Rattle.lsr_facts.specs.declared.bypass.Bypass.{Bypass}
use Rattle.lsr_facts.specs.declared.key.Key.{Key}
use Rattle.lsr_facts.specs.declared.path_fact.PathFact.{PathFact}
use Rattle.lsr_facts.specs.declared.router.Router.{Router}
use Rattle.lsr_facts.specs.declared.tunnel.Tunnel.{Tunnel}
use Rattle.lsr_facts.specs.declared.tunnel.TunnelLsp.{TunnelLsp}
use Rattle.lsr_facts.specs.Changes.{cancelled, switched, switched_to}
use Rattle.abstract_paths.specs.declared.events.Event.{Event}
use Rattle.abstract_paths.specs.declared.events.Event.TheVariants as events
use Rattle.abstract_paths.specs.declared.events.Made.{Made}
use Rattle.router_soundness.proofs.Silence.{silent_keeps}
use Rattle.abstract_router.specs.Arrivals.{lost, outcome}
use Rattle.abstract_router.specs.Outcomes.{Outcome}
use Rattle.abstract_router.specs.Repairing.{repaired, repairs_left}
use Rattle.abstract_router.specs.States.{State, is_reserved, with_facts}
use Rattle.abstract_router.specs.Steps.{AreSettled, Run, Step, given_up, is_ready, known_after, opening, settled, stands, switched_where, taken_over, with_moments}

-- where no element passes a test, none is left
pub filter-none_pass : {A : Type 0} (p : A → Bool) (xs : List A) → AllByRecursion (λ x. p x ≡ false) xs → filter p xs ≡ []
filter-none_pass p [] h = refl
filter-none_pass p (x ∷ xs) h = ap (λ b. cond b (x ∷ filter p xs) (filter p xs)) h.0 ∙ filter-none_pass p xs h.1

-- where f leaves each element, it leaves the list
map-same : {A : Type 0} (f : A → A) (xs : List A) → AllByRecursion (λ x. f x ≡ x) xs → map f xs ≡ xs
map-same f [] h = refl
map-same f (x ∷ xs) h = λ i. h.0 i ∷ map-same f xs h.1 i

module _ (r : Router) (s : State) where
  -- Where no tunnel's new LSP is reserved, no tunnel goes over to it.
  pub taken_over-same : AreSettled r s → taken_over r s ≡ s
  unfolding taken_over
  taken_over-same rests =
      let gone : given_up r s ≡ [] = ap (map (current_key r)) (filter-none_pass (is_ready r s) s.facts.tunnels rests) in
      let stay : map (switched_where (is_ready r s)) s.facts.tunnels ≡ s.facts.tunnels =
      map-same (switched_where (is_ready r s)) s.facts.tunnels
      (all-weaker (λ tunnel. is_ready r s tunnel ≡ false) (λ tunnel. switched_where (is_ready r s) tunnel ≡ tunnel) (λ tunnel waits. ap (λ b. if b then (tunnel.0, switched tunnel.1) else tunnel) waits) s.facts.tunnels rests) in
      let left : filter (λ (path : Key × PathFact). not (is_one_of (given_up r s) path.0)) s.facts.paths ≡ s.facts.paths =
      ap (λ keys. filter (λ (path : Key × PathFact). not (is_one_of keys path.0)) s.facts.paths) gone
      ∙ filter-all_pass (λ path. true) s.facts.paths (all-always (λ path. true ≡ true) (λ path. refl) s.facts.paths) in
      λ i. with_facts (record s.facts { tunnels = stay i; paths = left i }) s

-- what isn't found among rows isn't found among some of them
pub none_of_fewer : {X : Type 0} (test : Key × X → Bool) (key : Key) (rows : List (Key × X)) → is_some (find key_cmp key rows) ≡ false → is_some (find key_cmp key (filter test rows)) ≡ false
none_of_fewer test key [] none = refl
none_of_fewer test key (row ∷ rows) none =
    elim (eq_by_cmp key_cmp key row.0) as (λ b. eq_by_cmp key_cmp key row.0 ≡ b → is_some (cond b (Some row.1) (find key_cmp key rows)) ≡ false → is_some (find key_cmp key (cond (test row) (row ∷ filter test rows) (filter test rows))) ≡ false) [
      | true ↦ λ tie some. absurd (let e = some in cc)
      | false ↦ λ apart other. elim (test row) as (λ b. is_some (find key_cmp key (cond b (row ∷ filter test rows) (filter test rows))) ≡ false) [
        | true ↦ ap (λ b. is_some (cond b (Some row.1) (find key_cmp key (filter test rows)))) apart ∙ none_of_fewer test key rows other
        | false ↦ none_of_fewer test key rows other
      ]
    ] refl none

-- a tunnel isn't ready where its new LSP was none that is reserved, and no reservation came since
pub still_waits : (r : Router) (before after : State) (number : ℕ) (t : Tunnel) → ((key : Key) → is_reserved before key ≡ false → is_reserved after key ≡ false) → is_ready r before (number, t) ≡ false → is_ready r after (number, t) ≡ false
still_waits r before after number t fewer = by t.pending
  where
    by : (lsp : Option TunnelLsp) → option_map_or (is_reserved before) (option_map (λ l. head_key r number t.endpoint l.id) lsp) false ≡ false → option_map_or (is_reserved after) (option_map (λ l. head_key r number t.endpoint l.id) lsp) false ≡ false
    by None waits = refl
    by (Some lsp) waits = fewer (head_key r number t.endpoint lsp.id) waits

-- nor is one that went over
switched_waits : (r : Router) (s : State) (number : ℕ) (t : Tunnel) → is_ready r s (number, switched t) ≡ false
switched_waits r s number t = by t.pending t refl
  where
    by : (lsp : Option TunnelLsp) (u : Tunnel) → u.pending ≡ lsp → is_ready r s (number, switched_to lsp u) ≡ false
    by None u none = ap (λ o. option_map_or (is_reserved s) (option_map (λ (l : TunnelLsp). head_key r number u.endpoint l.id) o) false) none
    by (Some lsp) u some = refl

-- A router runs that is awake for another event than its start.
pub runs_for : (cold : Bool) (event : Event) → (event ≡ events.Start → ⊥) → (cold ≡ true → event ≡ events.Start) → cold ≡ false
runs_for true event other wakes = absurd (other (wakes refl))
runs_for false event other wakes = refl

module _ (r : Router) where
  -- a silent event leaves a running router as it was, but for a restart
  kept : (s : State) (event : Event) → AreSettled r s → s.facts.cold ≡ false → event ≢ events.Restart → (outcome r s event).is_silent ≡ true → AreSettled r (outcome r s event).after
  kept s event rests runs other silent = subst (AreSettled r) (sym (silent_keeps r s event runs other silent)) rests

  -- What follows from an event's own change leaves no tunnel whose new LSP is reserved.
  settled-settles : (chosen : List (Key × ℕ)) (s : State) → AreSettled r (settled r chosen s)
  unfolding taken_over repaired repairs_left
  settled-settles chosen s =
      let after = settled r chosen s in
      all-map (λ tunnel. is_ready r after tunnel ≡ false) (switched_where (is_ready r s)) s.facts.tunnels
      (all-always (λ tunnel. is_ready r after (switched_where (is_ready r s) tunnel) ≡ false)
      (λ tunnel. elim (is_ready r s tunnel) as (λ b. is_ready r s tunnel ≡ b → is_ready r after (if b then (tunnel.0, switched tunnel.1) else tunnel) ≡ false) [
        | true ↦ λ over. switched_waits r after tunnel.0 tunnel.1
        | false ↦ λ waits. still_waits r s after tunnel.0 tunnel.1 (λ key none. none_of_fewer (stands (taken_over r s).facts) key s.resvs none) waits
      ] refl) s.facts.tunnels)

  -- So it is after an outcome that isn't silent.
  pub heard-settles : (before : State) (o : Outcome) (chosen : List (Key × ℕ)) → o.is_silent ≡ false → AreSettled r (known_after r before chosen o)
  heard-settles before o chosen heard =
      subst (λ silent. AreSettled r (if silent then o.after else with_moments r before o (settled r chosen o.after))) (sym heard) (settled-settles chosen o.after)

  -- A silent one leaves it so.
  silent-settles : (s : State) (event : Event) → AreSettled r s → (s.facts.cold ≡ true → event ≡ events.Start) → (outcome r s event).is_silent ≡ true → AreSettled r (outcome r s event).after
  silent-settles s events.Start rests awake silent = rests
  silent-settles s events.Restart rests awake silent = all-map (λ tunnel. is_ready r (lost s).after tunnel ≡ false) (λ tunnel. (tunnel.0, cancelled tunnel.1)) s.facts.tunnels (all-always (λ tunnel. is_ready r (lost s).after (tunnel.0, cancelled tunnel.1) ≡ false) (λ tunnel. refl) s.facts.tunnels)
  silent-settles s (events.Arrive a) rests awake silent = kept s (events.Arrive a) rests (runs_for s.facts.cold (events.Arrive a) (λ e. cc) awake) (λ e. cc) silent
  silent-settles s (events.Relay m) rests awake silent = kept s (events.Relay m) rests (runs_for s.facts.cold (events.Relay m) (λ e. cc) awake) (λ e. cc) silent
  silent-settles s (events.Tick n) rests awake silent = kept s (events.Tick n) rests (runs_for s.facts.cold (events.Tick n) (λ e. cc) awake) (λ e. cc) silent
  silent-settles s (events.LinkUp number) rests awake silent = kept s (events.LinkUp number) rests (runs_for s.facts.cold (events.LinkUp number) (λ e. cc) awake) (λ e. cc) silent
  silent-settles s (events.LinkDown number) rests awake silent = kept s (events.LinkDown number) rests (runs_for s.facts.cold (events.LinkDown number) (λ e. cc) awake) (λ e. cc) silent
  silent-settles s (events.Command c) rests awake silent = kept s (events.Command c) rests (runs_for s.facts.cold (events.Command c) (λ e. cc) awake) (λ e. cc) silent

  -- A router is opened so.
  pub opening-settled : (routes : List (Prefix × ℕ)) (tunnels : List (ℕ × Tunnel)) (bypasses : List (ℕ × Bypass)) → AreSettled r (opening r routes tunnels bypasses)
  opening-settled routes tunnels bypasses = all-always (λ tunnel. is_ready r (opening r routes tunnels bypasses) tunnel ≡ false) (λ tunnel. by tunnel.0 tunnel.1.endpoint tunnel.1.pending) tunnels
    where
      by : (number : ℕ) (endpoint : Ipv4Addr) (lsp : Option TunnelLsp) → option_map_or (is_reserved (opening r routes tunnels bypasses)) (option_map (λ l. head_key r number endpoint l.id) lsp) false ≡ false
      by number endpoint None = refl
      by number endpoint (Some lsp) = refl

  -- Each step leaves it so.
  pub step-settled : (before : State) (made : Made) (after : State) → AreSettled r before → Step r before made after → AreSettled r after
  step-settled before made after rests x =
      let o = outcome r before made.event in
      subst (AreSettled r) (sym x.changed)
      (elim o.is_silent as (λ b. o.is_silent ≡ b → AreSettled r (known_after r before made.labels o)) [
        | true ↦ λ silent. subst (λ b. AreSettled r (if b then o.after else with_moments r before o (settled r made.labels o.after))) (sym silent) (silent-settles before made.event rests x.awake silent)
        | false ↦ λ heard. heard-settles before o made.labels heard
      ] refl)

  -- And so do steps, one after the other.
  pub run-settled : (before : State) (run : List Made) (after : State) → AreSettled r before → Run r before run after → AreSettled r after
  run-settled before [] after rests ran = subst (AreSettled r) (sym ran) rests
  run-settled before (made ∷ more) after rests ran = run-settled ran.0 more after (step-settled before made ran.0 rests ran.1) ran.2
