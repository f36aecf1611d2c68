-- What a moment that comes changes, and what is sent for it.
use Rattle.std.specs.Prelude.{◌≡◌, ◌<◌, ◌≤◌, ◌^◌, ◌+◌, ◌&&◌, ◌||◌, ◌++◌, ℕ, suc, not, nat_lt, nat_le, Bool, true, false, cond, if◌then◌else◌, T, List, [], ◌∷◌, filter, filter_map, length, Option, Some, None, IfSome}
use Rattle.std.specs.Bool.{then_some}
use Rattle.std.specs.Cmp.{IsTotalOrder}
use Rattle.std.specs.FinMap.Entries.{find, is_sorted}
use Rattle.std.specs.List.{AllByRecursion, Contains, cons_option, list_any}
use Rattle.std.specs.Option.{option_and_then, option_map, option_map_or, unwrap_or}
use Rattle.std.specs.Ordering.{eq_by_cmp}
use Rattle.std.specs.declared.cmp.Ordering.{Ordering}
use Rattle.std.specs.declared.cmp.Ordering.TheVariants.{Equal}
use Rattle.std.specs.declared.net.ipv4_addr.Ipv4Addr.{Ipv4Addr}
use Rattle.std.proofs.Common.{refl, ap, arith, sym, subst, zero, ◌∙◌}
use Rattle.std.proofs.lemmas.Bool.{cond_both, le-leb, le-ltb, lt-ltb, ltb-true}
use Rattle.std.proofs.lemmas.List.Elements.{Contains-append_left, Contains-append_right}
use Rattle.sorted_rows.specs.ListLaws.{all-always, all-filter, all-filter_passes, all-map, all-weaker}
use Rattle.sorted_rows.specs.RowsLaws.{find-filter, find-map, is_sorted-both}
use Rattle.lsr_facts.specs.Lifetimes.{begins_here, due_items, expire, lives_on, lives_past, living, with_living}
use Rattle.lsr_facts.specs.OrderLaws.{address_total, item_exact, item_total, key_total}
use Rattle.lsr_facts.specs.Orders.{address_cmp, is_one_of, item_cmp, key_cmp}
use Rattle.lsr_facts.specs.Tunnels.{AreTunnels, is_head}
use Rattle.lsr_facts.specs.declared.facts.Facts.{Facts}
use Rattle.lsr_facts.specs.declared.key.Item.{Item}
use Rattle.lsr_facts.specs.declared.key.Key.{Key}
use Rattle.lsr_facts.specs.declared.path_fact.Origin.{Origin}
use Rattle.lsr_facts.specs.declared.path_fact.PathFact.{PathFact}
use Rattle.lsr_facts.specs.declared.path_fact.Role.{Role}
use Rattle.lsr_facts.specs.declared.path_fact.Role.TheVariants as roles
use Rattle.lsr_facts.specs.declared.refusal.Refusal.TheVariants.{BadMoment, Late}
use Rattle.lsr_facts.specs.declared.reply.Reply.TheVariants as replies
use Rattle.lsr_facts.specs.declared.router.Router.{Router}
use Rattle.lsr_facts.specs.declared.tunnel.Tunnel.{Tunnel}
use Rattle.lsr_facts.specs.Reservations as reservations
use Rattle.lsr_facts.specs.UpstreamOrder.{upstream_exact, upstream_total}
use Rattle.lsr_facts.specs.Upstreams.{upstream_cmp}
use Rattle.lsr_facts.specs.declared.repair.Repair.{Repair}
use Rattle.lsr_facts.specs.declared.repair.Selected.{Selected}
use Rattle.lsr_facts.specs.declared.resv_fact.ResvFact.{ResvFact}
use Rattle.lsr_facts.specs.declared.upstream.Upstream.{Upstream}
use Rattle.abstract_paths.specs.declared.events.Event.TheVariants as events
use Rattle.abstract_paths.specs.declared.events.Made.{Made}
use Rattle.abstract_paths.specs.declared.events.Output.{Output}
use Rattle.abstract_paths.specs.Outcomes as paths
use Rattle.abstract_paths.specs.Outputs.{between, errors_out, is_same_frame, rests, send_for, tear_for}
use Rattle.abstract_paths.specs.Places.{is_up}
use Rattle.abstract_paths.specs.Soundness.{IsCountAs, IsHeadOf, IsPath}
use Rattle.abstract_paths.specs.StampLaws.{find-stamps, is_due-due_items, ties}
use Rattle.abstract_paths.specs.Stamps.{stamp, stamps}
use Rattle.abstract_paths.specs.Heads.{signalled}
use Rattle.abstract_paths.specs.Tears.{leaves_by}
use Rattle.abstract_paths.specs.Time.{tick}
use Rattle.abstract_paths.proofs.Alongside.{signalled-all, signalled-other, signalled-same}
use Rattle.abstract_paths.proofs.Heads.{head_known}
use Rattle.abstract_paths.proofs.PathTable.{path_known}
use Rattle.label_space.specs.Rests.{resting_past}
use Rattle.abstract_router.specs.Arrivals.{for_reservations, moment_comes}
use Rattle.abstract_router.specs.BypassTunnels.{bypass_tunnels_of}
use Rattle.abstract_router.specs.Lsps.{around_of, lsps_of}
use Rattle.abstract_router.specs.Outcomes.{Outcome, of_paths}
use Rattle.abstract_router.specs.Outputs.{item_stamps, outputs_of, upstream_stamps}
use Rattle.abstract_router.specs.Protecting.{repair_with, selected}
use Rattle.abstract_router.specs.Repairing.{new_repairs, repair_of, repair_on, repair_stands, repaired, repairs_left, told_repaired}
use Rattle.abstract_router.specs.Soundness.{IsSound}
use Rattle.abstract_router.specs.States.{State}
use Rattle.abstract_router.specs.Steps.{AreSettled, Step, given_up, is_ready, promised, resvs_left, settled, stands, taken_over, with_moments}
use Rattle.abstract_router.specs.UpstreamLaws.{is_sorted-upstream_sound}
use Rattle.abstract_router.specs.Upstreams.{upstream_of}
use Rattle.abstract_router.specs.Wanted.{items_of}
use Rattle.abstract_router.specs.WantedLaws.{is_sorted-items}
use Rattle.router_soundness.proofs.Repairing.{all-filter_map_within, all-put_in}
use Rattle.router_laws.specs.Words.{IsUnexpired}
use Rattle.router_laws.proofs.GivenUp.{not_given_up, path_left}
use Rattle.router_laws.proofs.Led.{answered, led, sends}
use Rattle.router_laws.proofs.NoneRepaired.{AreOverUp}
use Rattle.router_laws.proofs.Settled.{none_of_fewer, still_waits}

-- what has not expired at a moment
unfoldable pub lived : Facts → ℕ → Facts
lived s n = record s { moment = n; paths = expire n s.paths }

-- a moment that is done
unfoldable pub ticked : Router → State → ℕ → Outcome
ticked r s n = record {
  reply = replies.Done;
  errors = [];
  due = due_items r.refresh_ms s.facts.sent n;
  upstream_due = due_items r.refresh_ms s.sent_upstream n;
  after = record s { facts = signalled r (lived s.facts n); resvs = reservations.expire_resvs n s.resvs; repairs = reservations.expire_repairs n s.repairs; resting = resting_past n s.resting };
  is_silent = false;
}

-- and as paths have it
ticked_paths : Router → Facts → ℕ → paths.PathOutcome
ticked_paths r s n = record (paths.done [] (signalled r (lived s n))) { due = due_items r.refresh_ms s.sent n }

-- what a moment does, by what it does to paths
abbrev by_paths : Router → State → ℕ → paths.PathOutcome → Outcome
by_paths r s n o = for_reservations r s n (of_paths s o)

-- a moment that isn't refused is done
tick_done : (r : Router) (s : State) (n : ℕ) → replies.Done ≡ (moment_comes r s n).reply → moment_comes r s n ≡ ticked r s n
unfolding moment_comes tick ticked lived
tick_done r s n =
    cond_both (nat_lt (2 ^ 62) n) _ _ Does (λ above. λ done. absurd (let e = done in cc))
    (λ most. cond_both (nat_lt n s.facts.moment) _ _ Does (λ below. λ done. absurd (let e = done in cc)) (λ later. λ done. refl))
  where
    Does : paths.PathOutcome → Type 0
    Does o = replies.Done ≡ (by_paths r s n o).reply → by_paths r s n o ≡ ticked r s n

-- A moment that is neither late nor above the last one that there is is done.
pub moment_done : (r : Router) (before after : State) (made : Made) (n : ℕ) → Step r before made after → made.event ≡ events.Tick n → before.facts.moment ≤ n → n ≤ 2 ^ 62 → made.reply ≡ replies.Done
unfolding moment_comes tick ticked_paths lived
moment_done r before after made n x is later most =
    let s = before.facts in
    answered r before after made (events.Tick n) (moment_comes r before n) x is refl
    ∙ ap (λ b. (by_paths r before n (cond b (paths.refused s BadMoment) (cond (nat_lt n s.moment) (paths.refused s Late) (ticked_paths r s n)))).reply) (le-ltb (2 ^ 62) n most)
    ∙ ap (λ b. (by_paths r before n (cond b (paths.refused s Late) (ticked_paths r s n))).reply) (le-ltb n s.moment later)

-- A moment above the last one that there is.
pub moment_none : (r : Router) (before after : State) (made : Made) (n : ℕ) → Step r before made after → made.event ≡ events.Tick n → 2 ^ 62 < n → made.reply ≡ replies.Refused BadMoment
unfolding moment_comes tick ticked_paths lived
moment_none r before after made n x is above =
    let s = before.facts in
    answered r before after made (events.Tick n) (moment_comes r before n) x is refl
    ∙ ap (λ b. (by_paths r before n (cond b (paths.refused s BadMoment) (cond (nat_lt n s.moment) (paths.refused s Late) (ticked_paths r s n)))).reply) (lt-ltb (2 ^ 62) n above)

-- A moment below the router's.
pub moment_late : (r : Router) (before after : State) (made : Made) (n : ℕ) → Step r before made after → made.event ≡ events.Tick n → n ≤ 2 ^ 62 → n < before.facts.moment → made.reply ≡ replies.Refused Late
unfolding moment_comes tick ticked_paths lived
moment_late r before after made n x is most below =
    let s = before.facts in
    answered r before after made (events.Tick n) (moment_comes r before n) x is refl
    ∙ ap (λ b. (by_paths r before n (cond b (paths.refused s BadMoment) (cond (nat_lt n s.moment) (paths.refused s Late) (ticked_paths r s n)))).reply) (le-ltb (2 ^ 62) n most)
    ∙ ap (λ b. (by_paths r before n (cond b (paths.refused s Late) (ticked_paths r s n))).reply) (lt-ltb n s.moment below)

module _ (r : Router) (before after : State) (made : Made) (n : ℕ) (x : Step r before made after) (is : made.event ≡ events.Tick n) (is_done : made.reply ≡ replies.Done) where
  does : moment_comes r before n ≡ ticked r before n
  does = tick_done r before n (sym is_done ∙ answered r before after made (events.Tick n) (moment_comes r before n) x is refl)

  -- what is known after it
  pub after_tick : after ≡ with_moments r before (ticked r before n) (settled r made.labels (ticked r before n).after)
  unfolding ticked
  after_tick = led r before after made (events.Tick n) (ticked r before n) x is does

  pub sends_then : made.outputs ≡ outputs_of r before (told_repaired r (promised r (ticked r before n).after)) (due_items r.refresh_ms before.facts.sent n) (due_items r.refresh_ms before.sent_upstream n) after
  unfolding ticked
  sends_then = sends r before after made (events.Tick n) (ticked r before n) x is does

  -- the moment
  moment_signalled : (signalled r (lived before.facts n)).moment ≡ n
  unfolding lived
  moment_signalled = ap (λ (s : Facts). s.moment) (signalled-same r (lived before.facts n))

  moment_then : after.facts.moment ≡ n
  unfolding ticked taken_over repaired repairs_left
  moment_then = ap (λ (s : State). s.facts.moment) after_tick ∙ moment_signalled

  -- the tunnels are the same when they have been tried
  tunnels_signalled : (ticked r before n).after.facts.tunnels ≡ before.facts.tunnels
  unfolding ticked lived
  tunnels_signalled = ap (λ (s : Facts). s.tunnels) (signalled-same r (lived before.facts n))

  -- so each path is there that was there then and isn't given up
  path_then : (key : Key) → AreTunnels r before.facts.tunnels → is_head r before.facts.tunnels key ≡ false → find key_cmp key after.facts.paths ≡ find key_cmp key (signalled r (lived before.facts n)).paths
  unfolding ticked repaired repairs_left
  path_then key are other =
      let s = (ticked r before n).after in
      ap (λ (s : State). find key_cmp key s.facts.paths) after_tick
      ∙ path_left r s key (not_given_up r s (subst (AreTunnels r) (sym tunnels_signalled) are) key (ap (λ tunnels. is_head r tunnels key) tunnels_signalled ∙ other))

  -- Nothing stands that has expired.
  pub none_expired : (after.facts.moment ≡ n) × AllByRecursion (IsUnexpired n) after.facts.paths
  unfolding ticked taken_over expire lived repaired repairs_left
  none_expired =
      let left = filter (lives_on n) before.facts.paths in
      let s = (ticked r before n).after in (
        moment_then,
        subst (λ (t : State). AllByRecursion (IsUnexpired n) t.facts.paths) (sym after_tick)
            (all-filter (IsUnexpired n) (λ path. not (is_one_of (given_up r s) path.0)) s.facts.paths
            (signalled-all r (IsUnexpired n) (λ key tunnel lsp way. tt) (lived before.facts n)
            (all-map (IsUnexpired n) (with_living n) left
            (all-always (λ path. IsUnexpired n (with_living n path)) (λ path. all-filter_passes (λ (o : Ipv4Addr × Origin). n < o.1.expiry) (lives_past n) (λ o lives. ltb-true n o.1.expiry lives) path.1.origins) left)))),
      )

  -- no reservation either
  pub no_resv_expired : AllByRecursion (λ resv. n < resv.1.expiry) after.resvs
  unfolding ticked reservations.expire_resvs taken_over repaired repairs_left
  no_resv_expired =
      let then_facts : Facts = (taken_over r (ticked r before n).after).facts in
      subst (λ (s : State). AllByRecursion (λ resv. n < resv.1.expiry) s.resvs) (sym after_tick)
      (all-filter (λ resv. n < resv.1.expiry) (stands then_facts) (filter (λ resv. reservations.resv_lives_past n resv.1) before.resvs)
      (all-filter_passes (λ resv. n < resv.1.expiry) (λ resv. reservations.resv_lives_past n resv.1) (λ resv lives. ltb-true n resv.1.expiry lives) before.resvs))

  -- what is repaired in its step was reserved, and lives past it
  new_lives : (s : State) (resv : Key × ResvFact) → n < resv.1.expiry → IfSome (option_map {U = Key × Repair} (λ repair. (resv.0, repair)) (repair_of r s resv)) (λ repair. n < repair.1.resv.expiry)
  new_lives s resv lives = by (find key_cmp resv.0 s.facts.paths)
    where
      Lives : Option Repair → Type 0
      Lives o = IfSome (option_map {U = Key × Repair} (λ repair. (resv.0, repair)) o) (λ repair. n < repair.1.resv.expiry)

      chosen : (o : Option Selected) → Lives (option_map (repair_with resv.1) o)
      chosen None = tt
      chosen (Some choice) = lives

      by : (path : Option PathFact) → Lives (option_and_then (repair_on r s resv.0 resv.1) path)
      by None = tt
      by (Some path) = cond_both (leaves_by resv.1.link path && not (is_up s.facts.up resv.1.link)) _ _ Lives (λ lost. chosen (selected (around_of r s) resv.0 path (find key_cmp resv.0 s.assignments) resv.1)) (λ other. tt)

  -- and no repair
  pub no_repair_expired : AllByRecursion (λ repair. n < repair.1.resv.expiry) after.repairs
  unfolding ticked reservations.expire_resvs reservations.expire_repairs taken_over repaired repairs_left new_repairs
  no_repair_expired =
      let s = promised r (ticked r before n).after in
      let Lives : Key × Repair → Type 0 = λ repair. n < repair.1.resv.expiry in
      let again = λ (resv : Key × ResvFact). option_map {U = Key × Repair} (λ repair. (resv.0, repair)) (repair_of r s resv) in
      subst (λ (t : State). AllByRecursion Lives t.repairs) (sym after_tick)
      (all-filter Lives (repair_stands r (resvs_left (repaired r s))) (repaired r s).repairs
      (all-put_in Lives (new_repairs r s) s.repairs
      (all-filter_map_within Lives again s.resvs
      (all-filter_passes (λ resv. IfSome (again resv) Lives) (λ resv. reservations.resv_lives_past n resv.1) (λ resv lives. new_lives s resv (ltb-true n resv.1.expiry lives)) before.resvs))
      (all-filter_passes Lives (λ repair. reservations.resv_lives_past n repair.1.resv) (λ repair lives. ltb-true n repair.1.resv.expiry lives) before.repairs)))

-- After a moment no tunnel's new LSP is reserved that was none before.
pub ticked-settled : (r : Router) (before : State) (n : ℕ) → AreSettled r before → AreSettled r (ticked r before n).after
unfolding ticked lived reservations.expire_resvs
ticked-settled r before n rests =
    let after = (ticked r before n).after in
    subst (λ (tunnels : List (ℕ × Tunnel)). AllByRecursion (λ tunnel. is_ready r after tunnel ≡ false) tunnels) (sym (ap (λ (s : Facts). s.tunnels) (signalled-same r (lived before.facts n))))
    (all-weaker (λ tunnel. is_ready r before tunnel ≡ false) (λ tunnel. is_ready r after tunnel ≡ false)
    (λ tunnel waits. still_waits r before after tunnel.0 tunnel.1 (λ key none. none_of_fewer (λ resv. reservations.resv_lives_past n resv.1) key before.resvs none) waits)
    before.facts.tunnels rests)

-- Where each reservation was over a link that is up, it is so after a moment.
pub up_ticked : (r : Router) (before : State) (n : ℕ) → AreOverUp before → AreOverUp (ticked r before n).after
unfolding ticked lived reservations.expire_resvs
up_ticked r before n up =
    subst (λ links. AllByRecursion (λ resv. is_up links resv.1.link ≡ true) (filter (λ resv. reservations.resv_lives_past n resv.1) before.resvs)) (sym (ap (λ (s : Facts). s.up) (signalled-same r (lived before.facts n))))
    (all-filter (λ resv. is_up before.facts.up resv.1.link ≡ true) (λ resv. reservations.resv_lives_past n resv.1) before.resvs up)

-- what is known of an LSP when a moment has come
pub find-expire : (n : ℕ) (key : Key) (paths : List (Key × PathFact)) → T (is_sorted key_cmp paths) → find key_cmp key (expire n paths) ≡ option_map (living n) (option_and_then (λ fact. then_some (lives_on n (key, fact)) fact) (find key_cmp key paths))
unfolding expire
find-expire n key paths h =
    find-map key_cmp (living n) key (filter (lives_on n) paths) ∙ ap (option_map (living n)) (find-filter key_cmp key_total (lives_on n) key (λ y v tied. refl) paths h)

-- where all origins have expired, none lives past the moment
none_lives : (n : ℕ) (origins : List (Ipv4Addr × Origin)) → AllByRecursion (λ (origin : Ipv4Addr × Origin). origin.1.expiry ≤ n) origins → list_any (lives_past n) origins ≡ false
none_lives n [] old = refl
none_lives n (o ∷ os) old = ap (λ b. b || list_any (lives_past n) os) (le-ltb n o.1.expiry old.0) ∙ none_lives n os old.1

-- whether a path that is known begins here
begins_as : (r : Router) (s : State) (key : Key) (fact : PathFact) → IsSound r s → find key_cmp key s.facts.paths ≡ Some fact → begins_here fact.role ≡ is_head r s.facts.tunnels key
begins_as r s key fact is known = subst (λ (o : Option PathFact). IfSome o (λ f. IsHeadOf r s.facts.tunnels (key, f))) known (head_known r s.facts.tunnels key s.facts.paths is.paths.heads)

-- what is known, when tunnels have been tried, of an LSP that is no head
signalled_elsewhere : (r : Router) (s : State) (n : ℕ) (key : Key) → IsSound r s → is_head r s.facts.tunnels key ≡ false → find key_cmp key (signalled r (lived s.facts n)).paths ≡ find key_cmp key (expire n s.facts.paths)
unfolding lived
signalled_elsewhere r s n key is other = signalled-other r key (lived s.facts n) is.paths.tunnels other

-- A path goes whose origins have all expired.
pub path_goes : (r : Router) (before after : State) (made : Made) (n : ℕ) (key : Key) (fact : PathFact) → IsSound r before → Step r before made after → made.event ≡ events.Tick n → made.reply ≡ replies.Done → find key_cmp key before.facts.paths ≡ Some fact → begins_here fact.role ≡ false → AllByRecursion (λ (origin : Ipv4Addr × Origin). origin.1.expiry ≤ n) fact.origins → find key_cmp key after.facts.paths ≡ None
path_goes r before after made n key fact sound x is is_done known elsewhere old =
    let other = sym (begins_as r before key fact sound known) ∙ elsewhere in
    path_then r before after made n x is is_done key sound.paths.tunnels other
    ∙ signalled_elsewhere r before n key sound other
    ∙ find-expire n key before.facts.paths sound.paths.paths.in_order
    ∙ ap (λ o. option_map (living n) (option_and_then (λ f. then_some (lives_on n (key, f)) f) o)) known
    ∙ (λ i. option_map (living n) (then_some (elsewhere i || none_lives n fact.origins old i) fact))

-- a path with an origin doesn't begin here
has_origin : (role : Role) (sender : Ipv4Addr) (origin : Origin) (origins : List (Ipv4Addr × Origin)) → IsCountAs role (length origins) → find address_cmp sender origins ≡ Some origin → begins_here role ≡ false
has_origin roles.Tail sender origin origins counts found = refl
has_origin roles.Transit sender origin origins counts found = refl
has_origin roles.Head sender origin [] counts found = absurd (let e = found in cc)
has_origin roles.Head sender origin (o ∷ os) counts found = absurd (omega (arith, counts))

-- an origin that is found and lives past a moment is one that does
found_lives : (n : ℕ) (sender : Ipv4Addr) (origin : Origin) (origins : List (Ipv4Addr × Origin)) → find address_cmp sender origins ≡ Some origin → nat_lt n origin.expiry ≡ true → list_any (lives_past n) origins ≡ true
found_lives n sender origin [] found lives = absurd (let e = found in cc)
found_lives n sender origin (o ∷ os) found lives =
    elim (eq_by_cmp address_cmp sender o.0) as (λ b. cond b (Some o.1) (find address_cmp sender os) ≡ Some origin → (nat_lt n o.1.expiry || list_any (lives_past n) os) ≡ true) [
      | true ↦ λ is. let same : o.1 ≡ origin = cc in ap (λ (first : Origin). nat_lt n first.expiry || list_any (lives_past n) os) same ∙ ap (λ b. b || list_any (lives_past n) os) lives
      | false ↦ λ is. either_true (nat_lt n o.1.expiry) (list_any (lives_past n) os) (found_lives n sender origin os is lives)
    ] found
  where
    either_true : (a b : Bool) → b ≡ true → (a || b) ≡ true
    either_true true b p = refl
    either_true false b p = p

-- A path that was refreshed in time stays.
pub path_stays : (r : Router) (before after : State) (made : Made) (n : ℕ) (key : Key) (fact : PathFact) (sender : Ipv4Addr) (origin : Origin) → IsSound r before → Step r before made after → made.event ≡ events.Tick n → made.reply ≡ replies.Done → find key_cmp key before.facts.paths ≡ Some fact → find address_cmp sender fact.origins ≡ Some origin → n < origin.expiry → (still : PathFact) × (find key_cmp key after.facts.paths ≡ Some still) × (find address_cmp sender still.origins ≡ Some origin) × (still ≡ record fact { origins = still.origins })
path_stays r before after made n key fact sender origin sound x is is_done known found lives =
    let past = lt-ltb n origin.expiry lives in
    let h = sound.paths.paths.in_order in
    let knows : IsPath r before.facts.moment (key, fact) = subst (λ (o : Option PathFact). IfSome o (λ f. IsPath r before.facts.moment (key, f))) known (path_known r before.facts.moment key before.facts.paths sound.paths.paths) in
    let other = sym (begins_as r before key fact sound known) ∙ has_origin fact.role sender origin fact.origins knows.origins.count found in (
      living n fact,
      path_then r before after made n x is is_done key sound.paths.tunnels other
          ∙ signalled_elsewhere r before n key sound other
          ∙ find-expire n key before.facts.paths h
          ∙ ap (λ o. option_map (living n) (option_and_then (λ f. then_some (lives_on n (key, f)) f) o)) known
          ∙ ap (λ b. option_map (living n) (then_some b fact)) (lives_as fact.role (list_any (lives_past n) fact.origins) (found_lives n sender origin fact.origins found past)),
      find-filter address_cmp address_total (lives_past n) sender (λ y v tied. refl) fact.origins knows.origins.in_order
          ∙ ap (option_and_then (λ v. then_some (lives_past n (sender, v)) v)) found
          ∙ ap (λ b. then_some b origin) past,
      refl,
    )
  where
    lives_as : (role : Role) (b : Bool) → b ≡ true → (begins_here role || b) ≡ true
    lives_as roles.Tail b p = p
    lives_as roles.Transit b p = p
    lives_as roles.Head b p = refl

-- what f gives of a row that is found is among what it gives of all
pub found_among : {K C O : Type 0} (cmp : K → K → Ordering) (exact : (a b : K) → cmp a b ≡ Equal → a ≡ b) (f : K × C → Option O) (key : K) (value : C) (output : O) (rows : List (K × C)) → find cmp key rows ≡ Some value → f (key, value) ≡ Some output → Contains (filter_map f rows) output
found_among cmp exact f key value output [] found gives = absurd (let e = found in cc)
found_among {K} {C} {O} cmp exact f key value output (row ∷ rows) found gives =
    elim (eq_by_cmp cmp key row.0) as (λ b. eq_by_cmp cmp key row.0 ≡ b → cond b (Some row.1) (find cmp key rows) ≡ Some value → Contains (cons_option (f row) (filter_map f rows)) output) [
      | true ↦ λ t is.
          let same : row.1 ≡ value = cc in
          here (f row) ((λ i. f (sym (exact key row.0 (ties _ t)) i, same i)) ∙ gives)
      | false ↦ λ t is. later (f row) (found_among cmp exact f key value output rows is gives)
    ] refl found
  where
    here : (o : Option O) → o ≡ Some output → Contains (cons_option o (filter_map f rows)) output
    here None is = absurd (let e = is in cc)
    here (Some y) is = let same : y ≡ output = cc in (zero, omega arith, same)

    later : (o : Option O) → Contains (filter_map f rows) output → Contains (cons_option o (filter_map f rows)) output
    later None there = there
    later (Some y) there = (suc there.0, omega (arith, there.1), there.2)

-- An item that was sent last a refresh period ago or longer is due, whatever kind it is.
module _ {I : Type 0} (cmp : I → I → Ordering) (total : IsTotalOrder cmp) (exact : (a b : I) → cmp a b ≡ Equal → a ≡ b) (refresh_ms n at : ℕ) (was is : List (I × Output)) (sent : List (I × ℕ)) (item : I) (output : Output)
    (in_order : T (is_sorted cmp sent)) (wanted : find cmp item is ≡ Some output) (found : find cmp item sent ≡ Some at) (waited : at + refresh_ms ≤ n) where
  abbrev due : List I
  due = due_items refresh_ms sent n

  -- so it doesn't rest
  none_rests : (o : Option Output) → rests cmp due o (item, output) ≡ false
  none_rests o =
      ap (λ b. not b && option_map_or (λ was. is_same_frame output.frame was.frame) o false)
      (is_due-due_items cmp total refresh_ms sent n item in_order ∙ ap (λ o. option_map_or (λ last. nat_le (last + refresh_ms) n) o false) found ∙ le-leb (at + refresh_ms) n waited)

  -- it is sent
  goes_out : Contains (between cmp (send_for cmp due) is was) output
  goes_out = found_among cmp exact (λ row. send_for cmp due (find cmp row.0 was) row) item output output is wanted (ap (λ b. if b then None else Some output) (none_rests (find cmp item was)))

  -- and that is its moment then
  moment_is : find cmp item (stamps cmp due was sent n is) ≡ Some n
  moment_is =
      find-stamps cmp exact due was sent n is item
      ∙ ap (option_map (λ o. stamp cmp due was sent n (item, o))) wanted
      ∙ ap (λ b. Some (if b then unwrap_or (find cmp item sent) n else n)) (none_rests (find cmp item was))

module _ (r : Router) (before after : State) (made : Made) (n at : ℕ) (sound : IsSound r before) (x : Step r before made after) (is : made.event ≡ events.Tick n) (is_done : made.reply ≡ replies.Done) where
  -- what is known after what follows from the moment, but for when messages were sent
  unstamped : State
  unstamped = settled r made.labels (ticked r before n).after

  -- its moment
  moment_unstamped : unstamped.facts.moment ≡ n
  unfolding unstamped ticked taken_over repaired repairs_left
  moment_unstamped = moment_signalled r before after made n x is is_done

  -- A Path that is due is sent.
  pub due_path : (item : Item) (output : Output) → find item_cmp item (items_of r after) ≡ Some output → find item_cmp item before.facts.sent ≡ Some at → at + r.refresh_ms ≤ n → Contains made.outputs output × (find item_cmp item after.facts.sent ≡ Some n)
  unfolding outputs_of item_stamps items_of lsps_of bypass_tunnels_of ticked unstamped taken_over repaired repairs_left
  due_path item output wanted sent waited =
      let came = after_tick r before after made n x is is_done in
      let in_order = subst T (sym (is_sorted-both item_cmp before.facts.sent (items_of r before) sound.sent)) (is_sorted-items r before sound.paths.paths.in_order) in
      let due = due_items r.refresh_ms before.facts.sent n in
      let upstream_due = due_items r.refresh_ms before.sent_upstream n in
      let out = goes_out item_cmp item_total item_exact r.refresh_ms n at (items_of r before) (items_of r after) before.facts.sent item output in_order wanted sent waited in
      let errors = errors_out after.facts.up (told_repaired r (promised r (ticked r before n).after)) in
      let tears = between item_cmp (tear_for after.facts.up) (items_of r before) (items_of r after) in
      let resv_tears = between upstream_cmp (tear_for after.facts.up) (upstream_of r before) (upstream_of r after) in
      let sends = between item_cmp (send_for item_cmp due) (items_of r after) (items_of r before) in
      let resv_sends = between upstream_cmp (send_for upstream_cmp upstream_due) (upstream_of r after) (upstream_of r before) in (
        subst (λ outputs. Contains outputs output) (sym (sends_then r before after made n x is is_done))
            (Contains-append_left (errors ++ tears ++ resv_tears ++ sends) resv_sends output (Contains-append_right (errors ++ tears ++ resv_tears) sends output out)),
        ap (λ (s : State). find item_cmp item s.facts.sent) came
            ∙ ap (λ (m : ℕ). find item_cmp item (stamps item_cmp due (items_of r before) before.facts.sent m (items_of r unstamped))) moment_unstamped
            ∙ moment_is item_cmp item_total item_exact r.refresh_ms n at (items_of r before) (items_of r unstamped) before.facts.sent item output in_order
            (subst (λ (s : State). find item_cmp item (items_of r s) ≡ Some output) came wanted) sent waited,
      )

  -- So is a Resv.
  pub due_resv : (upstream : Upstream) (output : Output) → find upstream_cmp upstream (upstream_of r after) ≡ Some output → find upstream_cmp upstream before.sent_upstream ≡ Some at → at + r.refresh_ms ≤ n → Contains made.outputs output × (find upstream_cmp upstream after.sent_upstream ≡ Some n)
  unfolding outputs_of upstream_stamps upstream_of lsps_of bypass_tunnels_of ticked unstamped taken_over repaired repairs_left
  due_resv upstream output wanted sent waited =
      let came = after_tick r before after made n x is is_done in
      let in_order = subst T (sym (is_sorted-both upstream_cmp before.sent_upstream (upstream_of r before) sound.sent_upstream)) (is_sorted-upstream_sound r before before.facts.moment sound.paths.paths) in
      let due = due_items r.refresh_ms before.facts.sent n in
      let upstream_due = due_items r.refresh_ms before.sent_upstream n in
      let out = goes_out upstream_cmp upstream_total upstream_exact r.refresh_ms n at (upstream_of r before) (upstream_of r after) before.sent_upstream upstream output in_order wanted sent waited in
      let errors = errors_out after.facts.up (told_repaired r (promised r (ticked r before n).after)) in
      let tears = between item_cmp (tear_for after.facts.up) (items_of r before) (items_of r after) in
      let resv_tears = between upstream_cmp (tear_for after.facts.up) (upstream_of r before) (upstream_of r after) in
      let sends = between item_cmp (send_for item_cmp due) (items_of r after) (items_of r before) in
      let resv_sends = between upstream_cmp (send_for upstream_cmp upstream_due) (upstream_of r after) (upstream_of r before) in (
        subst (λ outputs. Contains outputs output) (sym (sends_then r before after made n x is is_done))
            (Contains-append_right (errors ++ tears ++ resv_tears ++ sends) resv_sends output out),
        ap (λ (s : State). find upstream_cmp upstream s.sent_upstream) came
            ∙ ap (λ (m : ℕ). find upstream_cmp upstream (stamps upstream_cmp upstream_due (upstream_of r before) before.sent_upstream m (upstream_of r unstamped))) moment_unstamped
            ∙ moment_is upstream_cmp upstream_total upstream_exact r.refresh_ms n at (upstream_of r before) (upstream_of r unstamped) before.sent_upstream upstream output in_order
            (subst (λ (s : State). find upstream_cmp upstream (upstream_of r s) ≡ Some output) came wanted) sent waited,
      )
