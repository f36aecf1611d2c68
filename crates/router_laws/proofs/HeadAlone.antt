-- Where one origin of a path is put, only what that origin is sent may be another than before.
use Rattle.std.specs.Prelude.{◌≡◌, ◌&&◌, ◌++◌, ◌==◌, ℕ, not, Bool, true, false, cond, if◌then◌else◌, T, All, List, [], ◌∷◌, filter, filter_map, length, map, Option, Some, None, IfSome, is_none, option_map}
use Rattle.std.specs.FinMap.Entries.{find, find-put, is_sorted, is_sorted-put, put, same_entries, where_key}
use Rattle.std.specs.List.{AllByRecursion, flat_map}
use Rattle.std.specs.Option.{option_map_or}
use Rattle.std.specs.Ordering.{eq_by_cmp, is_eq}
use Rattle.std.specs.declared.net.ipv4_addr.Ipv4Addr.{Ipv4Addr}
use Rattle.std.proofs.Common.{refl, sym, ap, subst, ◌∙◌}
use Rattle.std.proofs.lemmas.Bool.{and_parts, cond_both}
use Rattle.std.proofs.lemmas.Cmp.{tied_itself}
use Rattle.std.proofs.lemmas.List.Elements.{All-from_recursion, filter-append}
use Rattle.rsvp_contents.specs.declared.message.Reading.TheVariants as readings
use Rattle.rsvp_contents.specs.declared.messages.Content.TheVariants as contents
use Rattle.rsvp_contents.specs.declared.messages.Path.{Path}
use Rattle.rsvp_contents.specs.declared.messages.Resv.{Resv}
use Rattle.sorted_rows.specs.ListLaws.{all-append, all-both, all-filter, all-filter_passes, all-map, all-weaker}
use Rattle.sorted_rows.specs.RowsLaws.{find-all_row, find-put_other, is_sorted-both, ties}
use Rattle.lsr_facts.specs.OrderLaws.{address_exact, address_total, item_total, key_exact, key_total}
use Rattle.lsr_facts.specs.Orders.{address_cmp, item_cmp, key_cmp}
use Rattle.lsr_facts.specs.Routers.{IsRouter, link_at}
use Rattle.lsr_facts.specs.Timeless.{timeless_origin}
use Rattle.lsr_facts.specs.UpstreamOrder.{upstream_exact, upstream_total}
use Rattle.lsr_facts.specs.Upstreams.{upstream_cmp}
use Rattle.lsr_facts.specs.declared.key.Item.{Item}
use Rattle.lsr_facts.specs.declared.key.Key.{Key}
use Rattle.lsr_facts.specs.declared.path_fact.Origin.{Origin}
use Rattle.lsr_facts.specs.declared.path_fact.PathFact.{PathFact}
use Rattle.lsr_facts.specs.declared.path_fact.Via.{Via}
use Rattle.lsr_facts.specs.declared.path_fact.Via.TheVariants as vias
use Rattle.lsr_facts.specs.declared.reply.Reply.TheVariants as replies
use Rattle.lsr_facts.specs.declared.router.Router.{Router}
use Rattle.lsr_facts.specs.declared.upstream.Upstream.{Upstream}
use Rattle.abstract_paths.proofs.Merging.{joined-found, joined-key, joined-sender}
use Rattle.abstract_paths.specs.Changes.{with_path}
use Rattle.abstract_paths.specs.Frame.{Frame}
use Rattle.abstract_paths.specs.Frame.TheVariants as frames
use Rattle.abstract_paths.specs.Merging.{is_stack, stack_origin, under, with_stack}
use Rattle.abstract_paths.specs.Outputs.{between, rests, send_for, tear_by, tear_for}
use Rattle.abstract_paths.specs.Paths.{key_of}
use Rattle.abstract_paths.specs.Places.{is_up, place_of}
use Rattle.abstract_paths.specs.RowLaws.{filter-filter_map, keys-map, option_map-holds}
use Rattle.abstract_paths.specs.Routing.{route_to}
use Rattle.abstract_paths.specs.Soundness.{IsPath, IsSenderAs}
use Rattle.abstract_paths.specs.StampLaws.{find-map_row}
use Rattle.abstract_paths.specs.TouchedLaws.{between-touched, found_elsewhere, rests_same, same_elsewhere}
use Rattle.abstract_paths.specs.declared.events.Event.TheVariants as events
use Rattle.abstract_paths.specs.declared.events.Made.{Made}
use Rattle.abstract_paths.specs.declared.events.Output.{Output}
use Rattle.abstract_paths.specs.declared.ways.ArrivalWay.TheVariants as ways
use Rattle.abstract_paths.specs.declared.ways.Arrive.{Arrive}
use Rattle.abstract_router.specs.Arrivals.{arrival}
use Rattle.abstract_router.specs.Assigning.{assigned_anew}
use Rattle.abstract_router.specs.BypassTunnels.{bypass_tunnels_of}
use Rattle.abstract_router.specs.Lsps.{Around, Lsp, around_of, lsp_of, lsps_of}
use Rattle.abstract_router.specs.Outcomes.{replied}
use Rattle.abstract_router.specs.Outputs.{outputs_of, upstream_stamps}
use Rattle.abstract_router.specs.Protecting.{candidates_of, selected}
use Rattle.abstract_router.specs.Repairing.{told_repaired}
use Rattle.abstract_router.specs.Soundness.{IsSound}
use Rattle.abstract_router.specs.States.{State, with_facts}
use Rattle.abstract_router.specs.Steps.{AreSettled, Step}
use Rattle.abstract_router.specs.UpstreamLaws.{is_sorted-upstream_sound, rows-timeless}
use Rattle.abstract_router.specs.Upstreams.{Reserved, own_flags, record_upstream, reserved_for, resv_to, upstream_of, upstream_row, upstream_rows, upstream_via}
use Rattle.abstract_router.specs.Wanted.{items_of}
use Rattle.abstract_router.specs.WantedLaws.{is_sorted-items}
use Rattle.router_soundness.proofs.Repairing.{all-filter_map_within}
use Rattle.router_soundness.proofs.Running.{sound_step}
use Rattle.router_soundness.specs.Assigned.{AreStanding}
use Rattle.router_laws.specs.Merging.{IsForHead}
use Rattle.router_laws.proofs.Joined.{arrival-joins, known-joined, same_around, same_assignments, same_items}
use Rattle.router_laws.proofs.Led.{answered, led, sends}
use Rattle.router_laws.proofs.NoneRepaired.{over-up, told-none}
use Rattle.router_laws.proofs.OverUp.{always}
use Rattle.router_laws.proofs.Settled.{taken_over-same}
use Rattle.router_laws.proofs.Still.{between-itself, sends-none}

-- what f gives of each of these is such
all-flat_map_rows : {A B : Type 0} (P : B → Type 0) (f : A → List B) (xs : List A) → AllByRecursion (λ x. AllByRecursion P (f x)) xs → AllByRecursion P (flat_map f xs)
all-flat_map_rows P f [] each = tt
all-flat_map_rows P f (x ∷ xs) each = all-append P (f x) (flat_map f xs) each.0 (all-flat_map_rows P f xs each.1)

-- ---- what other origins are sent

-- a Resv of the origin of this sender
abbrev is_of : Key → Ipv4Addr → Upstream → Bool
is_of key sender u = is_eq (key_cmp u.key key) && is_eq (address_cmp u.sender sender)

module _ (s : State) (key : Key) (sender : Ipv4Addr) where
  -- another origin
  abbrev is_other : Key → Ipv4Addr → Bool
  is_other k from = not (is_eq (key_cmp k key) && is_eq (address_cmp from sender))

  abbrev lessened : Key × PathFact → PathFact
  lessened row = record row.1 { origins = filter (λ origin. is_other row.0 origin.0) row.1.origins }

  abbrev all_lessened : List (Key × PathFact) → List (Key × PathFact)
  all_lessened = map (λ row. (row.0, lessened row))

  abbrev lsp : Key × PathFact → Key × Lsp
  lsp row = (row.0, lsp_of s row.0 row.1)

  abbrev for_others : Upstream × Output → Bool
  for_others wants = not (is_of key sender wants.0)

  module _ (a : Around) where
    row-alike : (row : Key × PathFact) (label : ℕ) (said : Reserved) (origin : Ipv4Addr × Origin) → IfSome (upstream_row a (lsp row) label said origin) (λ wants. for_others wants ≡ is_other row.0 origin.0)
    row-alike row label said origin = by origin.1.via
      where
        Alike : Upstream × Output → Type 0
        Alike wants = for_others wants ≡ is_other row.0 origin.0

        by : (via : Via) → IfSome (upstream_via a (lsp row) label said origin via) Alike
        by (vias.Link number) =
            cond_both (is_up a.place.up number) _ None (λ o. IfSome o Alike) (λ up. option_map-holds Alike _ (link_at a.place.router number) (always _ (λ link. refl) (link_at a.place.router number))) (λ down. tt)
        by vias.Stack = option_map-holds Alike _ (route_to a.place origin.1.hop.address) (always _ (λ link. refl) (route_to a.place origin.1.hop.address))

    rows-lessened : (row : Key × PathFact) → filter for_others (upstream_rows a (lsp row)) ≡ upstream_rows a (lsp (row.0, lessened row))
    unfolding record_upstream own_flags selected candidates_of
    rows-lessened row = by (find key_cmp row.0 s.labels) (reserved_for a (lsp row))
      where
        by : (l : Option ℕ) (o : Option Reserved)
            → filter for_others (option_map_or (λ label. option_map_or (λ said. filter_map (upstream_row a (lsp row) label said) (map timeless_origin row.1.origins)) o []) l [])
            ≡ option_map_or (λ label. option_map_or (λ said. filter_map (upstream_row a (lsp row) label said) (map timeless_origin (filter (λ origin. is_other row.0 origin.0) row.1.origins))) o []) l []
        by None o = refl
        by (Some label) None = refl
        by (Some label) (Some said) =
            ap (filter for_others) (rows-timeless a (lsp row) label said row.1.origins)
            ∙ filter-filter_map (upstream_row a (lsp row) label said) (λ origin. is_other row.0 origin.0) for_others (row-alike row label said) row.1.origins
            ∙ sym (rows-timeless a (lsp row) label said (filter (λ origin. is_other row.0 origin.0) row.1.origins))

    others-lessened : (rows : List (Key × PathFact)) → filter for_others (flat_map (upstream_rows a) (map lsp rows)) ≡ flat_map (upstream_rows a) (map lsp (all_lessened rows))
    others-lessened [] = refl
    others-lessened (row ∷ rows) = filter-append for_others (upstream_rows a (lsp row)) (flat_map (upstream_rows a) (map lsp rows)) ∙ (λ i. rows-lessened row i ++ others-lessened rows i)

  module _ (paths : List (Key × PathFact)) (in_order : T (is_sorted key_cmp paths)) (was : PathFact) (origin : Origin) (found : find key_cmp key paths ≡ Some was) (sorted : T (is_sorted address_cmp was.origins)) where
    abbrev now : PathFact
    now = record was { origins = put address_cmp sender origin was.origins }

    same_origins : filter (λ o. is_other key o.0) now.origins ≡ filter (λ o. is_other key o.0) was.origins
    same_origins =
        same_elsewhere address_cmp address_total address_exact (λ from. is_eq (key_cmp key key) && is_eq (address_cmp from sender)) now.origins was.origins (is_sorted-put address_cmp address_total sender origin was.origins sorted) sorted
        (λ from apart. find-put_other address_cmp address_total from sender origin was.origins (sym (ap (λ b. b && is_eq (address_cmp from sender)) (ap is_eq (tied_itself key_total key))) ∙ apart))

    is_sorted-lessened : (rows : List (Key × PathFact)) → T (is_sorted key_cmp rows) → T (is_sorted key_cmp (all_lessened rows))
    is_sorted-lessened rows h = subst T (sym (is_sorted-both key_cmp (all_lessened rows) rows (keys-map lessened rows))) h

    same_lessened : all_lessened (put key_cmp key now paths) ≡ all_lessened paths
    same_lessened =
        same_entries key_cmp key_total key_exact (all_lessened (put key_cmp key now paths)) (all_lessened paths) (is_sorted-lessened (put key_cmp key now paths) (is_sorted-put key_cmp key_total key now paths in_order)) (is_sorted-lessened paths in_order)
        (λ q. find-map_row key_cmp key_exact lessened q (put key_cmp key now paths) ∙ ap (option_map (λ v. lessened (q, v))) (find-put key_cmp key_total q key now paths) ∙ by q (eq_by_cmp key_cmp q key) refl ∙ sym (find-map_row key_cmp key_exact lessened q paths))
      where
        by : (q : Key) (b : Bool) → eq_by_cmp key_cmp q key ≡ b → option_map (λ v. lessened (q, v)) (cond b (Some now) (find key_cmp q paths)) ≡ option_map (λ v. lessened (q, v)) (find key_cmp q paths)
        by q true tie =
            let own : q ≡ key = key_exact q key (ties _ tie) in
            ap (λ k. Some (lessened (k, now))) own ∙ (λ i. Some (record was { origins = same_origins i })) ∙ sym (ap (option_map (λ v. lessened (key, v))) found) ∙ ap (λ k. option_map (λ v. lessened (k, v)) (find key_cmp k paths)) (sym own)
        by q false apart = refl

-- ---- what the head is sent

module _ (p : Path) (key : Key) (named : key_of p ≡ under p.sender.sender key) (other : is_eq (address_cmp key.sender.sender p.sender.sender) ≡ false) where
  abbrev heads : Upstream → Bool
  heads = is_of key p.sender.sender

  -- a Resv in a Routed frame that names the Path's sender
  record IsToHead (output : Output) : Type 0 where
    to : Ipv4Addr
    limit : ℕ
    message : Resv
    framed : output.frame ≡ frames.Routed to limit (contents.Resv message)
    session : message.session ≡ p.session
    names : map (λ d. d.filter) message.descriptors ≡ p.sender ∷ []

  sent-to : (output : Output) → IsToHead output → IsForHead p output
  sent-to output is = record { to = is.to; limit = is.limit; content = contents.Resv is.message; framed = is.framed; names = λ i. Some (is.session i, is.names i) }

  tear-to : (output : Output) → IsToHead output → IfSome (tear_by output.link output.frame) (IsForHead p)
  tear-to output is =
      subst (λ (frame : Frame). IfSome (tear_by output.link frame) (IsForHead p)) (sym is.framed)
      (cond_both (length is.message.descriptors == 0) None _
      (λ o. IfSome (option_map (λ tear. record { link = output.link; frame = frames.Routed is.to is.limit tear }) o) (IsForHead p)) (λ none. tt)
      (λ some. record { to = is.to; limit = is.limit; content = _; framed = refl; names = λ i. Some (is.session i, is.names i) }))

  abbrev Wants : Upstream × Output → Type 0
  Wants wants = heads wants.0 ≡ true → IsToHead wants.1

  module _ (r : Router) (t : State) (k : Key) (path : PathFact) where
    abbrev own : Key × Lsp
    own = (k, lsp_of t k path)

    row-to : (label : ℕ) (said : Reserved) (origin : Ipv4Addr × Origin) → IsSenderAs k origin → IfSome (upstream_row (around_of r t) own label said origin) Wants
    row-to label said origin named_as = by origin.1.via named_as
      where
        both : (is_eq (key_cmp k key) && is_eq (address_cmp origin.0 p.sender.sender)) ≡ true → (k ≡ key) × (origin.0 ≡ p.sender.sender)
        both is =
            let parts = and_parts (is_eq (key_cmp k key)) (is_eq (address_cmp origin.0 p.sender.sender)) is in
            (key_exact k key (ties _ parts.0), address_exact origin.0 p.sender.sender (ties _ parts.1))

        by : (via : Via) → is_eq (address_cmp k.sender.sender origin.0) ≡ not (is_stack via) → IfSome (upstream_via (around_of r t) own label said origin via) Wants
        by (vias.Link number) over =
            cond_both (is_up t.facts.up number) _ None (λ o. IfSome o Wants)
            (λ up. option_map-holds Wants _ (link_at r number)
            (always _ (λ link is. let same = both is in absurd (let e = sym over ∙ (λ i. is_eq (address_cmp (same.0 i).sender.sender (same.1 i))) ∙ other in cc)) (link_at r number))) (λ down. tt)
        by vias.Stack over =
            option_map-holds Wants _ (route_to (place_of r t.facts) origin.1.hop.address)
            (always _
            (λ link is. let same = both is in
            record {
              to = origin.1.hop.address;
              limit = 64;
              message = resv_to r k own.1.path origin r.id label said;
              framed = refl;
              session = ap (λ (q : Key). q.session) (same.0 ∙ refl) ∙ sym (ap (λ (q : Key). q.session) named);
              names = (λ i. record (same.0 i).sender { sender = same.1 i } ∷ []) ∙ sym (ap (λ (q : Key). q.sender ∷ []) named);
            }) (route_to (place_of r t.facts) origin.1.hop.address))

    rows-to : AllByRecursion (IsSenderAs k) path.origins → AllByRecursion Wants (upstream_rows (around_of r t) own)
    rows-to senders = by (find key_cmp k t.labels) (reserved_for (around_of r t) own)
      where
        by : (l : Option ℕ) (o : Option Reserved) → AllByRecursion Wants (option_map_or (λ label. option_map_or (λ said. filter_map (upstream_row (around_of r t) own label said) (map timeless_origin path.origins)) o []) l [])
        by None o = tt
        by (Some label) None = tt
        by (Some label) (Some said) =
            all-filter_map_within Wants (upstream_row (around_of r t) own label said) (map timeless_origin path.origins)
            (all-map (λ origin. IfSome (upstream_row (around_of r t) own label said origin) Wants) timeless_origin path.origins
            (all-weaker (IsSenderAs k) (λ origin. IfSome (upstream_row (around_of r t) own label said (timeless_origin origin)) Wants) (λ origin is. row-to label said (timeless_origin origin) is) path.origins senders))

  all-to : (r : Router) (t : State) → IsSound r t → AllByRecursion Wants (upstream_of r t)
  unfolding upstream_of lsps_of
  all-to r t is =
      all-flat_map_rows Wants (upstream_rows (around_of r t)) (map (λ (row : Key × PathFact). (row.0, lsp_of t row.0 row.1)) t.facts.paths)
      (all-map (λ lsp. AllByRecursion Wants (upstream_rows (around_of r t) lsp)) (λ (row : Key × PathFact). (row.0, lsp_of t row.0 row.1)) t.facts.paths
      (all-weaker (IsPath r t.facts.moment) (λ (row : Key × PathFact). AllByRecursion Wants (upstream_rows (around_of r t) (row.0, lsp_of t row.0 row.1))) (λ row path. rows-to r t row.0 row.1 path.origins.senders) t.facts.paths is.paths.paths.each))

  heads-to : (r : Router) (t : State) → IsSound r t → AllByRecursion (λ wants. IsToHead wants.1) (where_key upstream_cmp heads (upstream_of r t))
  heads-to r t is =
      let rows = filter (λ (wants : Upstream × Output). heads wants.0) (upstream_of r t) in
      all-both Wants (λ wants. heads wants.0 ≡ true) (λ wants. IsToHead wants.1) (λ wants to is. to is) rows (all-filter Wants (λ wants. heads wants.0) (upstream_of r t) (all-to r t is))
      (all-filter_passes (λ (wants : Upstream × Output). heads wants.0 ≡ true) (λ wants. heads wants.0) (λ wants passes. passes) (upstream_of r t))

  -- ---- a step after which what others are sent is the same

  module _ (r : Router) (before after : State) (is : IsSound r before) (sound : IsSound r after)
      (same : where_key upstream_cmp (λ u. not (heads u)) (upstream_of r before) ≡ where_key upstream_cmp (λ u. not (heads u)) (upstream_of r after)) where
    abbrev was : List (Upstream × Output)
    was = upstream_of r before

    abbrev now_wanted : List (Upstream × Output)
    now_wanted = upstream_of r after

    was_in_order : T (is_sorted upstream_cmp was)
    was_in_order = is_sorted-upstream_sound r before before.facts.moment is.paths.paths

    now_in_order : T (is_sorted upstream_cmp now_wanted)
    now_in_order = is_sorted-upstream_sound r after after.facts.moment sound.paths.paths

    tears-to : AllByRecursion (IsForHead p) (between upstream_cmp (tear_for after.facts.up) was now_wanted)
    tears-to =
        subst (AllByRecursion (IsForHead p))
        (sym (between-touched upstream_cmp upstream_total upstream_exact (tear_for after.facts.up) heads was now_wanted was_in_order (found_elsewhere upstream_cmp upstream_total upstream_exact heads was now_wanted same) (λ u o apart. refl)))
        (all-filter_map_within (IsForHead p) (λ row. tear_for after.facts.up (find upstream_cmp row.0 (where_key upstream_cmp heads now_wanted)) row) (where_key upstream_cmp heads was)
        (all-weaker (λ (wants : Upstream × Output). IsToHead wants.1) (λ row. IfSome (tear_for after.facts.up (find upstream_cmp row.0 (where_key upstream_cmp heads now_wanted)) row) (IsForHead p))
        (λ row to.
        cond_both (is_none (find upstream_cmp row.0 (where_key upstream_cmp heads now_wanted)) && is_up after.facts.up row.1.link) (tear_by row.1.link row.1.frame) None (λ o. IfSome o (IsForHead p)) (λ goes. tear-to row.1 to) (λ stays. tt))
        (where_key upstream_cmp heads was) (heads-to r before is)))

    sends-to : AllByRecursion (IsForHead p) (between upstream_cmp (send_for upstream_cmp []) now_wanted was)
    sends-to =
        subst (AllByRecursion (IsForHead p))
        (sym (between-touched upstream_cmp upstream_total upstream_exact (send_for upstream_cmp []) heads now_wanted was now_in_order (found_elsewhere upstream_cmp upstream_total upstream_exact heads now_wanted was (sym same))
        (λ u o apart. ap (λ b. if b then None else Some o) (rests_same upstream_cmp [] u o refl))))
        (all-filter_map_within (IsForHead p) (λ row. send_for upstream_cmp [] (find upstream_cmp row.0 (where_key upstream_cmp heads was)) row) (where_key upstream_cmp heads now_wanted)
        (all-weaker (λ (wants : Upstream × Output). IsToHead wants.1) (λ row. IfSome (send_for upstream_cmp [] (find upstream_cmp row.0 (where_key upstream_cmp heads was)) row) (IsForHead p))
        (λ row to. cond_both (rests upstream_cmp [] (find upstream_cmp row.0 (where_key upstream_cmp heads was)) row) None (Some row.1) (λ o. IfSome o (IsForHead p)) (λ rest. tt) (λ goes. sent-to row.1 to))
        (where_key upstream_cmp heads now_wanted) (heads-to r after sound)))

    outputs-to : items_of r after ≡ items_of r before → AllByRecursion (IsForHead p) (outputs_of r before [] [] [] after)
    unfolding outputs_of
    outputs-to items =
        let up = after.facts.up in
        let in_order = is_sorted-items r before is.paths.paths.in_order in
        let tears = between upstream_cmp (tear_for up) was now_wanted in
        let sends = between upstream_cmp (send_for upstream_cmp []) now_wanted was in
        subst (λ (rows : List (Item × Output)). AllByRecursion (IsForHead p) (between item_cmp (tear_for up) (items_of r before) rows ++ tears ++ between item_cmp (send_for item_cmp []) rows (items_of r before) ++ sends)) (sym items)
        (subst (AllByRecursion (IsForHead p)) (sym (λ i. between-itself item_cmp item_total (tear_for up) (items_of r before) in_order (λ item o. refl) i ++ tears ++ sends-none item_cmp item_total (items_of r before) in_order i ++ sends))
        (all-append (IsForHead p) (tears ++ []) sends (all-append (IsForHead p) tears [] tears-to tt) sends-to))

-- A Path through labels has only its head sent anything.
pub head_alone : (r : Router) (before after : State) (made : Made) (arrived : Arrive) (p : Path) → IsRouter r → IsSound r before → AreSettled r before → AreStanding r before → Step r before made after → made.event ≡ events.Arrive arrived
    → arrived.way ≡ ways.Stack → arrived.reading ≡ readings.Whole (contents.Path p) → made.reply ≡ replies.Done → All (IsForHead p) made.outputs
unfolding upstream_of items_of lsps_of bypass_tunnels_of
head_alone r before after made arrived p router is settles stand x event way reading is_done =
    let o = arrival r before arrived in
    let its = arrival-joins r before p arrived way reading (sym (answered r before after made (events.Arrive arrived) o x event refl) ∙ is_done) in
    let key : Key = its.path.0 in
    let path : PathFact = its.path.1 in
    let now : PathFact = with_stack before.facts.moment p path in
    let found : find key_cmp key before.facts.paths ≡ Some path = joined-found before.facts.paths p its.path its.only is.paths.paths.in_order in
    let s : State = with_facts (with_path key now before.facts) before in
    let sound = sound_step r before made after router is x in
    let came : after ≡ record s { sent_upstream = upstream_stamps r before [] s } = led r before after made (events.Arrive arrived) (replied replies.Done [] s) x event its.does ∙ known-joined r before is settles stand key path now found refl made.labels in
    let sorted = (subst (λ (o : Option PathFact). IfSome o (λ fact. IsPath r before.facts.moment (key, fact))) found (find-all_row key_cmp key_exact (IsPath r before.facts.moment) key before.facts.paths is.paths.paths.each)).origins.in_order in
    let around = same_around r before is settles stand key path now found refl in
    let others = others-lessened before key p.sender.sender (around_of r before) in
    let alike : filter (λ (wants : Upstream × Output). not (is_of key p.sender.sender wants.0)) (upstream_of r s) ≡ filter (λ wants. not (is_of key p.sender.sender wants.0)) (upstream_of r before) = ap (λ (a : Around). filter (λ (wants : Upstream × Output). not (is_of key p.sender.sender wants.0)) (flat_map (upstream_rows a) (map (lsp before key p.sender.sender) s.facts.paths))) around ∙ others s.facts.paths ∙ ap (λ (rows : List (Key × PathFact)). flat_map (upstream_rows (around_of r before)) (map (lsp before key p.sender.sender) rows)) (same_lessened before key p.sender.sender before.facts.paths is.paths.paths.in_order path (stack_origin before.facts.moment p) found sorted) ∙ sym (others before.facts.paths) in
    let same = sym (ap (λ (t : State). filter (λ (wants : Upstream × Output). not (is_of key p.sender.sender wants.0)) (upstream_of r t)) came ∙ alike) in
    let items : items_of r after ≡ items_of r before = ap (items_of r) came ∙ same_items r before is settles stand key path now found refl in
    let sent : made.outputs ≡ outputs_of r before [] [] [] after = sends r before after made (events.Arrive arrived) (replied replies.Done [] s) x event its.does ∙ ap (λ (t : State). outputs_of r before (told_repaired r (assigned_anew r t)) [] [] after) (taken_over-same r s settles) ∙ (λ i. outputs_of r before (told_repaired r (record s { assignments = same_assignments r before is settles stand key path now found refl i })) [] [] after) ∙ (λ i. outputs_of r before (told_repaired r (record s { assignments = stand i })) [] [] after) ∙ ap (λ told. outputs_of r before told [] [] after) (told-none r s (over-up r before is)) in
    All-from_recursion (IsForHead p) made.outputs
    (subst (AllByRecursion (IsForHead p)) (sym sent)
    (outputs-to p key (joined-key before.facts.paths p its.path its.only) (joined-sender before.facts.paths p its.path its.only) r before after is sound same items))
