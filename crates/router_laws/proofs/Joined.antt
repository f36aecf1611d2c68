-- Where a path has other origins, and all else of it is as it was, nothing else changes: all that follows from a path but
-- what its origins are sent is the same whatever these are.
use Rattle.std.specs.Prelude.{◌≡◌, ◌&&◌, ◌+◌, ◌++◌, ℕ, not, Bool, true, false, cond, T, List, [], ◌∷◌, filter, filter_map, map, Option, Some, None, is_none, is_some, option_map}
use Rattle.std.specs.FinMap.Entries.{find, find-put, is_sorted, is_sorted-put, put, same_entries}
use Rattle.std.specs.List.{cons_option}
use Rattle.std.specs.Option.{option_and_then, option_map_or, option_or}
use Rattle.std.specs.Ordering.{eq_by_cmp, nat_cmp}
use Rattle.std.proofs.Common.{refl, sym, ap, subst, ◌∙◌}
use Rattle.std.proofs.lemmas.Bool.{cond_both}
use Rattle.std.proofs.lemmas.List.Elements.{filter_agree}
use Rattle.rsvp_contents.specs.declared.message.Reading.{Reading}
use Rattle.rsvp_contents.specs.declared.message.Reading.TheVariants as readings
use Rattle.rsvp_contents.specs.declared.messages.Content.TheVariants as contents
use Rattle.rsvp_contents.specs.declared.messages.Path.{Path}
use Rattle.sorted_rows.specs.ListLaws.{all-always, all-weaker, filter-all_pass, filter_map_agree_within}
use Rattle.sorted_rows.specs.Rows.{values_of}
use Rattle.sorted_rows.specs.RowsLaws.{find-map, is_sorted-both, ties}
use Rattle.bypass_shares.specs.Shares.{assigned}
use Rattle.label_space.specs.Rests.{rested}
use Rattle.lsr_facts.specs.Lifetimes.{begins_here}
use Rattle.lsr_facts.specs.OrderLaws.{key_exact, key_total}
use Rattle.lsr_facts.specs.Orders.{address_cmp, item_cmp, key_cmp}
use Rattle.lsr_facts.specs.Routers.{link_at}
use Rattle.lsr_facts.specs.Tunnels.{current_key}
use Rattle.lsr_facts.specs.declared.assignment.Assignment.{Assignment}
use Rattle.lsr_facts.specs.declared.bypass.Bypass.{Bypass}
use Rattle.lsr_facts.specs.declared.key.Item.{Item}
use Rattle.lsr_facts.specs.declared.key.Key.{Key}
use Rattle.lsr_facts.specs.declared.path_fact.PathFact.{PathFact}
use Rattle.lsr_facts.specs.declared.refusal.Refusal.TheVariants.{LinkDown, UnknownLink}
use Rattle.lsr_facts.specs.declared.repair.BypassTunnel.{BypassTunnel}
use Rattle.lsr_facts.specs.declared.repair.Over.{Over}
use Rattle.lsr_facts.specs.declared.repair.Repair.{Repair}
use Rattle.lsr_facts.specs.declared.reply.Reply.TheVariants as replies
use Rattle.lsr_facts.specs.declared.resv_fact.ResvFact.{ResvFact}
use Rattle.lsr_facts.specs.declared.router.Router.{Router}
use Rattle.lsr_facts.specs.declared.tunnel.Tunnel.{Tunnel}
use Rattle.abstract_paths.proofs.Merging.{joined-beside, joined-found, stack_path_by}
use Rattle.abstract_paths.specs.Changes.{with_path}
use Rattle.abstract_paths.specs.Merging.{is_beside, may_join, stack_origin, stack_path_arrival, with_stack}
use Rattle.abstract_paths.specs.Outcomes as paths
use Rattle.abstract_paths.specs.Paths.{key_of}
use Rattle.abstract_paths.specs.Places.{is_up, place_of}
use Rattle.abstract_paths.specs.RowLaws.{keys-map}
use Rattle.abstract_paths.specs.Stamps.{stamps}
use Rattle.abstract_paths.specs.Tears.{leaves_by}
use Rattle.abstract_paths.specs.declared.events.Event.TheVariants as events
use Rattle.abstract_paths.specs.declared.events.Made.{Made}
use Rattle.abstract_paths.specs.declared.events.Output.{Output}
use Rattle.abstract_paths.specs.declared.ways.ArrivalWay.{ArrivalWay}
use Rattle.abstract_paths.specs.declared.ways.ArrivalWay.TheVariants as ways
use Rattle.abstract_paths.specs.declared.ways.Arrive.{Arrive}
use Rattle.abstract_router.specs.Arrivals.{arrival, arrival_by}
use Rattle.abstract_router.specs.Assigning.{assigned_anew, assignments_left, assignments_of, capacity_in, is_in_use, wish_of, wish_on, wishes_of}
use Rattle.abstract_router.specs.BypassTunnels.{bypass_tunnel_by, bypass_tunnel_of, bypass_tunnels_of, over_at, over_by, over_of}
use Rattle.abstract_router.specs.Labels.{freed, is_labelled, labelled_keys, labels_after}
use Rattle.abstract_router.specs.Lsps.{Around, Lsp, around_of, lsp_of, lsps_of}
use Rattle.abstract_router.specs.Outcomes.{Outcome, of_paths, refused, replied}
use Rattle.abstract_router.specs.Outputs.{item_stamps, upstream_stamps}
use Rattle.abstract_router.specs.Protecting.{candidates_of}
use Rattle.abstract_router.specs.Repairing.{repair_stands, repaired, repairs_left}
use Rattle.abstract_router.specs.Soundness.{IsSound}
use Rattle.abstract_router.specs.States.{State, with_facts, with_repairs_where}
use Rattle.abstract_router.specs.Steps.{AreSettled, Step, known_after, labelled, left_standing, settled, stands, with_moments}
use Rattle.abstract_router.specs.Wanted.{backup_row, downstream_row, item_rows, items_of}
use Rattle.router_soundness.specs.Assigned.{AreStanding}
use Rattle.router_laws.proofs.Led.{answered, led}
use Rattle.router_laws.proofs.NoneRepaired.{over-up, repaired-same}
use Rattle.router_laws.proofs.Settled.{taken_over-same}
use Rattle.router_laws.proofs.Still.{labels-held, none-rests, sent-same, shares-held}

-- ---- paths, whatever their origins

abbrev pub bare_path : PathFact → PathFact
bare_path path = record path { origins = [] }

abbrev bared : List (Key × PathFact) → List (Key × PathFact)
bared = map (λ path. (path.0, bare_path path.1))

is_sorted-bared : (paths : List (Key × PathFact)) → T (is_sorted key_cmp paths) → T (is_sorted key_cmp (bared paths))
is_sorted-bared paths in_order = subst T (sym (is_sorted-both key_cmp (bared paths) paths (keys-map (λ (row : Key × PathFact). bare_path row.1) paths))) in_order

-- what doesn't ask for origins is the same
unbare : {X : Type 0} (f : PathFact → X) (d : X) → ((path : PathFact) → f (bare_path path) ≡ f path) → (o : Option PathFact) → option_map_or f (option_map bare_path o) d ≡ option_map_or f o d
unbare f d says None = refl
unbare f d says (Some path) = says path

unbare_then : {X : Type 0} (f : PathFact → Option X) → ((path : PathFact) → f (bare_path path) ≡ f path) → (o : Option PathFact) → option_and_then f (option_map bare_path o) ≡ option_and_then f o
unbare_then f says None = refl
unbare_then f says (Some path) = says path

made_of_bared : {X Y : Type 0} (g : X → Option Y) (h : Key × PathFact → X) → ((row : Key × PathFact) → g (h (row.0, bare_path row.1)) ≡ g (h row)) → (paths : List (Key × PathFact)) → filter_map g (map h (bared paths)) ≡ filter_map g (map h paths)
made_of_bared g h says [] = refl
made_of_bared g h says (row ∷ rows) = λ i. cons_option (says row i) (made_of_bared g h says rows i)

labelled-bared : (paths : List (Key × PathFact)) → labelled_keys (bared paths) ≡ labelled_keys paths
labelled-bared [] = refl
labelled-bared (row ∷ rows) = by (not (begins_here row.1.role)) (labelled-bared rows)
  where
    ours : Key × PathFact → Bool
    ours path = not (begins_here path.1.role)

    by : (b : Bool) → labelled_keys (bared rows) ≡ labelled_keys rows
        → map (λ (path : Key × PathFact). path.0) (cond b ((row.0, bare_path row.1) ∷ filter ours (bared rows)) (filter ours (bared rows))) ≡ map (λ (path : Key × PathFact). path.0) (cond b (row ∷ filter ours rows) (filter ours rows))
    by true rest = ap (λ keys. row.0 ∷ keys) rest
    by false rest = rest

module _ (paths : List (Key × PathFact)) (in_order : T (is_sorted key_cmp paths)) (key : Key) (was now : PathFact) (found : find key_cmp key paths ≡ Some was) (same : bare_path now ≡ bare_path was) where
  found_bare : (q : Key) → option_map bare_path (find key_cmp q (put key_cmp key now paths)) ≡ option_map bare_path (find key_cmp q paths)
  found_bare q = ap (option_map bare_path) (find-put key_cmp key_total q key now paths) ∙ by (eq_by_cmp key_cmp q key) refl
    where
      by : (b : Bool) → eq_by_cmp key_cmp q key ≡ b → option_map bare_path (cond b (Some now) (find key_cmp q paths)) ≡ option_map bare_path (find key_cmp q paths)
      by true tie = ap Some same ∙ sym (ap (option_map bare_path) (ap (λ k. find key_cmp k paths) (key_exact q key (ties _ tie)) ∙ found))
      by false apart = refl

  same_bared : bared (put key_cmp key now paths) ≡ bared paths
  same_bared =
      same_entries key_cmp key_total key_exact (bared (put key_cmp key now paths)) (bared paths)
      (is_sorted-bared (put key_cmp key now paths) (is_sorted-put key_cmp key_total key now paths in_order)) (is_sorted-bared paths in_order)
      (λ q. find-map key_cmp bare_path q (put key_cmp key now paths) ∙ found_bare q ∙ sym (find-map key_cmp bare_path q paths))

-- ---- a state in which a path has other origins

module _ (r : Router) (s : State) (is : IsSound r s) (rests : AreSettled r s) (stand : AreStanding r s) (key : Key) (was now : PathFact) (found : find key_cmp key s.facts.paths ≡ Some was) (same : bare_path now ≡ bare_path was) where
  abbrev pub joined : State
  joined = with_facts (with_path key now s.facts) s

  bare_found : (q : Key) → option_map bare_path (find key_cmp q joined.facts.paths) ≡ option_map bare_path (find key_cmp q s.facts.paths)
  bare_found = found_bare s.facts.paths is.paths.paths.in_order key was now found same

  same_said : {X : Type 0} (f : PathFact → X) (d : X) → ((path : PathFact) → f (bare_path path) ≡ f path) → (q : Key) → option_map_or f (find key_cmp q joined.facts.paths) d ≡ option_map_or f (find key_cmp q s.facts.paths) d
  same_said f d says q = sym (unbare f d says (find key_cmp q joined.facts.paths)) ∙ ap (λ o. option_map_or f o d) (bare_found q) ∙ unbare f d says (find key_cmp q s.facts.paths)

  same_then : {X : Type 0} (f : PathFact → Option X) → ((path : PathFact) → f (bare_path path) ≡ f path) → (q : Key) → option_and_then f (find key_cmp q joined.facts.paths) ≡ option_and_then f (find key_cmp q s.facts.paths)
  same_then f says q = sym (unbare_then f says (find key_cmp q joined.facts.paths)) ∙ ap (option_and_then f) (bare_found q) ∙ unbare_then f says (find key_cmp q s.facts.paths)

  -- paths leave by the same links
  same_leaving : (link : ℕ) (q : Key) → option_map_or (leaves_by link) (find key_cmp q joined.facts.paths) false ≡ option_map_or (leaves_by link) (find key_cmp q s.facts.paths) false
  unfolding leaves_by
  same_leaving link q = same_said (leaves_by link) false (λ path. refl) q

  same_stands : (row : Key × ResvFact) → stands joined.facts row ≡ stands s.facts row
  same_stands row = ap (λ b. is_up s.facts.up row.1.link && b) (same_leaving row.1.link row.0)

  -- bypasses run over the same
  same_over : (tunnel : ℕ × Tunnel) → over_of r joined tunnel ≡ over_of r s tunnel
  same_over tunnel = by (find key_cmp (current_key r tunnel) s.resvs)
    where
      by : (o : Option ResvFact) → option_and_then (over_by joined.facts (current_key r tunnel)) o ≡ option_and_then (over_by s.facts (current_key r tunnel)) o
      by None = refl
      by (Some resv) = ap (λ b. cond {A = Option Over} b (Some (record { link = resv.link; label = resv.label })) None) (same_stands (current_key r tunnel, resv))

  same_tunnels : bypass_tunnels_of r joined ≡ bypass_tunnels_of r s
  unfolding bypass_tunnels_of
  same_tunnels =
      filter_map_agree_within (λ bypass. option_map (λ bypass_tunnel. (bypass.0, bypass_tunnel)) (bypass_tunnel_by r joined bypass)) (λ bypass. option_map (λ bypass_tunnel. (bypass.0, bypass_tunnel)) (bypass_tunnel_by r s bypass)) s.facts.bypasses
      (all-always (λ (bypass : ℕ × Bypass). option_map {U = ℕ × BypassTunnel} (λ (tunnel : BypassTunnel). (bypass.0, tunnel)) (bypass_tunnel_by r joined bypass) ≡ option_map (λ (tunnel : BypassTunnel). (bypass.0, tunnel)) (bypass_tunnel_by r s bypass))
      (λ bypass. by bypass (find nat_cmp bypass.1.tunnel s.facts.tunnels)) s.facts.bypasses)
    where
      by : (bypass : ℕ × Bypass) (o : Option Tunnel)
          → option_map {U = ℕ × BypassTunnel} (λ (tunnel : BypassTunnel). (bypass.0, tunnel)) (option_map (bypass_tunnel_of r joined bypass.1) o) ≡ option_map (λ (tunnel : BypassTunnel). (bypass.0, tunnel)) (option_map (bypass_tunnel_of r s bypass.1) o)
      by bypass None = refl
      by bypass (Some tunnel) = ap (λ (over : Option Over). Some (bypass.0, record { tunnel = bypass.1.tunnel; protects = bypass.1.link; ends_at = tunnel.endpoint; capacity = bypass.1.capacity; over = over })) (same_over (bypass.1.tunnel, tunnel))

  pub same_around : around_of r joined ≡ around_of r s
  same_around = λ i. record { place = place_of r s.facts; bypass_tunnels = same_tunnels i }

  -- and promise the same
  same_in_use : (q : Key) → is_in_use joined q ≡ is_in_use s q
  same_in_use q = by (find key_cmp q s.repairs)
    where
      by : (o : Option Repair) → option_map_or (λ repair. option_map_or (leaves_by repair.resv.link) (find key_cmp q joined.facts.paths) false) o false ≡ option_map_or (λ repair. option_map_or (leaves_by repair.resv.link) (find key_cmp q s.facts.paths) false) o false
      by None = refl
      by (Some repair) = same_leaving repair.resv.link q

  same_wish : (row : Key × ResvFact) → wish_of r joined row ≡ wish_of r s row
  unfolding leaves_by candidates_of
  same_wish row = ap (λ (around : Around). option_and_then (wish_on around row.0 row.1) (find key_cmp row.0 joined.facts.paths)) same_around ∙ same_then (wish_on (around_of r s) row.0 row.1) (λ path. refl) row.0

  pub same_assignments : assignments_of r joined ≡ assignments_of r s
  unfolding assignments_of wishes_of
  same_assignments = λ i. assigned key_cmp (capacity_in s.facts.bypasses) s.assignments
      (filter_agree (λ (row : Key × Assignment). is_in_use joined row.0) (λ row. is_in_use s row.0) (λ row. same_in_use row.0) s.assignments i)
      (filter_map_agree_within (λ resv. option_map (λ wish. (resv.0, wish)) (wish_of r joined resv)) (λ resv. option_map (λ wish. (resv.0, wish)) (wish_of r s resv)) s.resvs
      (all-always (λ (resv : Key × ResvFact). option_map (λ wish. (resv.0, wish)) (wish_of r joined resv) ≡ option_map (λ wish. (resv.0, wish)) (wish_of r s resv)) (λ resv. ap (option_map (λ wish. (resv.0, wish))) (same_wish resv)) s.resvs) i)

  -- all that stood stands
  same_repair_stands : (row : Key × Repair) → repair_stands r joined row ≡ repair_stands r s row
  same_repair_stands row = λ i. is_some (over_at (same_tunnels i) row.1.bypass) && same_leaving row.1.resv.link row.0 i

  left-joined : left_standing r joined ≡ joined
  unfolding repairs_left
  left-joined =
      ap (λ resvs. with_repairs_where (repair_stands r (record joined { resvs = resvs })) (record joined { resvs = resvs }))
      (filter-all_pass (stands joined.facts) s.resvs (all-weaker (λ row. stands s.facts row ≡ true) (λ row. stands joined.facts row ≡ true) (λ row stood. same_stands row ∙ stood) s.resvs is.standing))
      ∙ ap (λ repairs. record joined { repairs = repairs })
      (filter-all_pass (repair_stands r joined) s.repairs (all-weaker (λ row. repair_stands r s row ≡ true) (λ row. repair_stands r joined row ≡ true) (λ row stood. same_repair_stands row ∙ stood) s.repairs is.repairs_standing))

  -- labels stay
  same_labelled : labelled_keys joined.facts.paths ≡ labelled_keys s.facts.paths
  same_labelled = sym (labelled-bared joined.facts.paths) ∙ ap labelled_keys (same_bared s.facts.paths is.paths.paths.in_order key was now found same) ∙ labelled-bared s.facts.paths

  labels-like : (chosen : List (Key × ℕ)) (rows : List (Key × PathFact)) → labelled_keys rows ≡ labelled_keys s.facts.paths → labels_after s.labels chosen rows ≡ labels_after s.labels chosen s.facts.paths
  unfolding labels_after
  labels-like chosen rows alike = ap (filter_map (λ key. option_map (λ label. (key, label)) (option_or (find key_cmp key s.labels) (find key_cmp key chosen)))) alike

  labels-joined : (chosen : List (Key × ℕ)) → labels_after s.labels chosen joined.facts.paths ≡ s.labels
  labels-joined chosen = labels-like chosen joined.facts.paths same_labelled ∙ labels-held r s is rests stand chosen

  none-rests-joined : rested s.facts.moment (s.facts.moment + r.label_rest_ms) (freed s.labels joined.facts.paths) s.resting ≡ s.resting
  none-rests-joined =
      ap (λ (rows : List (Key × ℕ)). rested s.facts.moment (s.facts.moment + r.label_rest_ms) (values_of rows) s.resting)
      (filter_agree (λ (row : Key × ℕ). not (is_labelled joined.facts.paths row.0)) (λ row. not (is_labelled s.facts.paths row.0)) (λ row. ap not (same_said (λ path. not (begins_here path.role)) false (λ path. refl) row.0)) s.labels)
      ∙ none-rests r s is rests stand

  settled-joined : (chosen : List (Key × ℕ)) → settled r chosen joined ≡ joined
  settled-joined chosen =
      ap (λ (t : State). labelled r chosen (assignments_left (left_standing r (repaired r (assigned_anew r t))))) (taken_over-same r joined rests)
      ∙ (λ i. labelled r chosen (assignments_left (left_standing r (repaired r (record joined { assignments = same_assignments i })))))
      ∙ (λ i. labelled r chosen (assignments_left (left_standing r (repaired r (record joined { assignments = stand i })))))
      ∙ ap (λ (t : State). labelled r chosen (assignments_left (left_standing r t))) (repaired-same r joined (over-up r s is))
      ∙ ap (λ (t : State). labelled r chosen (assignments_left t)) left-joined
      ∙ (λ i. labelled r chosen (record joined { assignments = shares-held r s is rests stand i }))
      ∙ (λ i. record joined { labels = labels-joined chosen i; resting = none-rests-joined i })

  -- the same Paths are wanted
  pub same_items : items_of r joined ≡ items_of r s
  unfolding items_of lsps_of
  same_items =
      ap (λ (around : Around). item_rows around (map lsp joined.facts.paths)) same_around
      ∙ (λ i. of (downstream_row (around_of r s)) (λ row. refl) i ++ of (backup_row (around_of r s)) (λ row. refl) i)
    where
      lsp : Key × PathFact → Key × Lsp
      lsp row = (row.0, lsp_of s row.0 row.1)

      of : (g : Key × Lsp → Option (Item × Output)) → ((row : Key × PathFact) → g (lsp (row.0, bare_path row.1)) ≡ g (lsp row)) → filter_map g (map lsp joined.facts.paths) ≡ filter_map g (map lsp s.facts.paths)
      of g says = sym (made_of_bared g lsp says joined.facts.paths) ∙ ap (λ paths. filter_map g (map lsp paths)) (same_bared s.facts.paths is.paths.paths.in_order key was now found same) ∙ made_of_bared g lsp says s.facts.paths

  stamps-like : item_stamps r s [] joined ≡ item_stamps r s [] s
  unfolding item_stamps
  stamps-like = ap (stamps item_cmp [] (items_of r s) s.facts.sent s.facts.moment) same_items

  sent-joined : item_stamps r s [] joined ≡ s.facts.sent
  sent-joined = stamps-like ∙ sent-same r s is rests stand

  pub known-joined : (chosen : List (Key × ℕ)) → known_after r s chosen (replied replies.Done [] joined) ≡ record joined { sent_upstream = upstream_stamps r s [] joined }
  known-joined chosen =
      ap (with_moments r s (replied replies.Done [] joined)) (settled-joined chosen) ∙ (λ i. record joined { facts = record joined.facts { sent = sent-joined i }; sent_upstream = upstream_stamps r s [] joined })

-- ---- a Path through labels

module _ (r : Router) (s : State) (p : Path) where
  pub record Joins (o : Outcome) : Type 0 where
    pub path : Key × PathFact
    pub only : filter (may_join (key_of p)) s.facts.paths ≡ path ∷ []
    pub does : o ≡ replied replies.Done [] (with_facts (with_path path.0 (with_stack s.facts.moment p path.1) s.facts) s)

  abbrev pub JoinsDone : Outcome → Type 0
  JoinsDone o = o.reply ≡ replies.Done → Joins o

  stack-joins : JoinsDone (of_paths s (stack_path_arrival s.facts p))
  stack-joins = stack_path_by (λ (o : paths.PathOutcome). JoinsDone (of_paths s o)) s.facts p (λ done. absurd (let e = done in cc)) (λ path only room done. record { path = path; only = only; does = refl })

  pub arrival-joins : (a : Arrive) → a.way ≡ ways.Stack → a.reading ≡ readings.Whole (contents.Path p) → JoinsDone (arrival r s a)
  unfolding arrival
  arrival-joins a way reading =
      cond_both (is_none (link_at r a.link)) (refused s UnknownLink) _ JoinsDone (λ none done. absurd (let e = done in cc))
      (λ there. cond_both (not (is_up s.facts.up a.link)) (refused s LinkDown) _ JoinsDone (λ down done. absurd (let e = done in cc))
      (λ up. subst (λ (w : ArrivalWay). JoinsDone (arrival_by r s w a.link a.reading)) (sym way) (subst (λ (said : Reading). JoinsDone (arrival_by r s ways.Stack a.link said)) (sym reading) stack-joins)))

-- A Path through labels that is done changes one origin of the path that it joins.
pub joins_path : (r : Router) (before after : State) (made : Made) (arrived : Arrive) (p : Path) → IsSound r before → AreSettled r before → AreStanding r before → Step r before made after → made.event ≡ events.Arrive arrived
    → arrived.way ≡ ways.Stack → arrived.reading ≡ readings.Whole (contents.Path p) → made.reply ≡ replies.Done
    → (key : Key) × (path : PathFact) × (is_beside (key_of p) key ≡ true) × (find key_cmp key before.facts.paths ≡ Some path)
    × (after ≡ record before {
      facts = record before.facts { paths = put key_cmp key (record path { origins = put address_cmp p.sender.sender (stack_origin before.facts.moment p) path.origins }) before.facts.paths };
      sent_upstream = after.sent_upstream;
    })
joins_path r before after made arrived p is rests stand x event way reading is_done =
    let o = arrival r before arrived in
    let its = arrival-joins r before p arrived way reading (sym (answered r before after made (events.Arrive arrived) o x event refl) ∙ is_done) in
    let key : Key = its.path.0 in
    let path : PathFact = its.path.1 in
    let now : PathFact = with_stack before.facts.moment p path in
    let found : find key_cmp key before.facts.paths ≡ Some path = joined-found before.facts.paths p its.path its.only is.paths.paths.in_order in
    let s : State = with_facts (with_path key now before.facts) before in
    let came : after ≡ record s { sent_upstream = upstream_stamps r before [] s } = led r before after made (events.Arrive arrived) (replied replies.Done [] s) x event its.does ∙ known-joined r before is rests stand key path now found refl made.labels in
    (key, path, joined-beside before.facts.paths p its.path its.only, found, came ∙ (λ i. record s { sent_upstream = (sym came i).sent_upstream }))
