-- The end of a bypass renews a repair, and what a lost link takes away is repaired. Nothing else makes a repair.
use Rattle.std.specs.Prelude.{◌≡◌, ◌⊎◌, ◌^◌, ◌&&◌, ℕ, not, nat_lt, Bool, true, false, if◌then◌else◌, T, List, [], ◌∷◌, Contains, filter, filter_map, fold, Option, Some, None, IfSome, is_none, option_map, option_to_list, unwrap_or}
use Rattle.std.specs.FinMap.Entries.{find, is_sorted, put}
use Rattle.std.specs.List.{AllByRecursion, cons_option}
use Rattle.std.specs.Option.{option_map_or}
use Rattle.std.specs.Ordering.{nat_cmp}
use Rattle.std.specs.declared.net.ipv4_addr.Ipv4Addr.{Ipv4Addr}
use Rattle.std.proofs.Common.{refl, sym, ap, subst, ◌∙◌, inl, inr, ⊎_elim}
use Rattle.std.proofs.lemmas.Bool.{and_parts, cond_both, not-false}
use Rattle.std.proofs.lemmas.Cmp.{nat_cmp_total}
use Rattle.std.proofs.lemmas.List.Elements.{All-contains_itself, recursion_from_All}
use Rattle.std.proofs.lemmas.Map.Lookups.{exact_unsigned}
use Rattle.rsvp_contents.specs.declared.descriptors.FlowDescriptor.{FlowDescriptor}
use Rattle.rsvp_contents.specs.declared.message.Reading.{Reading}
use Rattle.rsvp_contents.specs.declared.message.Reading.TheVariants as readings
use Rattle.rsvp_contents.specs.declared.messages.Content.{Content}
use Rattle.rsvp_contents.specs.declared.messages.Content.TheVariants as contents
use Rattle.rsvp_contents.specs.declared.messages.Resv.{Resv}
use Rattle.sorted_rows.specs.ListLaws.{all-append, all-both, all-filter, all-filter_passes, all-weaker}
use Rattle.sorted_rows.specs.RowsLaws.{all-put_row, all_found, find-all_row}
use Rattle.lsr_facts.specs.OrderLaws.{key_exact, key_total}
use Rattle.lsr_facts.specs.Orders.{is_one_of, key_cmp}
use Rattle.lsr_facts.specs.Reservations.{expire_repairs, resv_lives_past, style_of}
use Rattle.lsr_facts.specs.Routers.{IsRouter, link_at}
use Rattle.lsr_facts.specs.declared.errors.RsvpError.{RsvpError}
use Rattle.lsr_facts.specs.declared.facts.Facts.{Facts}
use Rattle.lsr_facts.specs.declared.key.Key.{Key}
use Rattle.lsr_facts.specs.declared.path_fact.PathFact.{PathFact}
use Rattle.lsr_facts.specs.declared.refusal.Refusal.TheVariants.{InUse, LinkDown, NoMatch, UnknownLink}
use Rattle.lsr_facts.specs.declared.repair.BypassTunnel.{BypassTunnel}
use Rattle.lsr_facts.specs.declared.repair.Repair.{Repair}
use Rattle.lsr_facts.specs.declared.repair.Selected.{Selected}
use Rattle.lsr_facts.specs.declared.resv_fact.ResvFact.{ResvFact}
use Rattle.lsr_facts.specs.declared.resv_fact.ResvStyle.{ResvStyle}
use Rattle.lsr_facts.specs.declared.router.Router.{Router}
use Rattle.abstract_paths.proofs.Alongside.{with_noted-same}
use Rattle.abstract_paths.specs.Commands.{begun_by, command}
use Rattle.abstract_paths.specs.Outcomes as paths
use Rattle.abstract_paths.specs.Outcomes.{lsp}
use Rattle.abstract_paths.specs.Places.{is_up}
use Rattle.abstract_paths.specs.RowLaws.{find-holds}
use Rattle.abstract_paths.specs.Time.{tick}
use Rattle.abstract_paths.specs.TouchedLaws.{is_sorted-made}
use Rattle.abstract_paths.specs.declared.commands.Command.{Command}
use Rattle.abstract_paths.specs.declared.events.Event.{Event}
use Rattle.abstract_paths.specs.declared.events.Event.TheVariants as events
use Rattle.abstract_paths.specs.declared.events.Made.{Made}
use Rattle.abstract_paths.specs.declared.ways.ArrivalWay.{ArrivalWay}
use Rattle.abstract_paths.specs.declared.ways.ArrivalWay.TheVariants as ways
use Rattle.abstract_paths.specs.declared.ways.Arrive.{Arrive}
use Rattle.abstract_router.specs.Arrivals.{arrival, arrival_by, command_comes, commanded_by, for_reservations, moment_comes, outcome, routed_arrival, takes_used_bypass}
use Rattle.abstract_router.specs.Assigning.{fits_share}
use Rattle.abstract_router.specs.BypassTunnels.{bypass_tunnel_by, bypass_tunnels_of}
use Rattle.abstract_router.specs.Lsps.{around_of}
use Rattle.abstract_router.specs.Outcomes.{Outcome, of_paths, refused}
use Rattle.abstract_router.specs.Protecting.{candidates_of, ends_at_peer, is_preferred, is_protected, label_after, leads_around, may_serve, repair_with, selected, selected_by, ways_around}
use Rattle.abstract_router.specs.Repairing.{repair_stands, repaired, repairs_left}
use Rattle.abstract_router.specs.Reserving.{Failed, Granted, PassedOver, Progress, Verdict, resv_by, resv_replied, verdict_by_style}
use Rattle.abstract_router.specs.Returning.{all_returned, carried_back, ends_at, is_known_as, next_returned, renewed, repair_from, returned_resv}
use Rattle.abstract_router.specs.Soundness.{IsSound}
use Rattle.abstract_router.specs.States.{State}
use Rattle.abstract_router.specs.Steps.{Step, promised, resvs_left, settled, taken_over, with_moments}
use Rattle.router_soundness.proofs.Assigning.{MayPromise, repairs_sorted}
use Rattle.router_soundness.proofs.AssigningRepairs.{IsNewRepair, found_filter, lost, old_or_new}
use Rattle.router_soundness.proofs.AssigningTaken.{may_promise}
use Rattle.router_soundness.proofs.AssigningWays.{tunnels-left}
use Rattle.router_soundness.proofs.Drafting.{outcome-leaves}
use Rattle.router_soundness.proofs.OtherWays.{returned_err_by, returned_tear_by, returned_unknown_by, unknown_stack_by}
use Rattle.router_soundness.proofs.Settling.{LeavesBy}
use Rattle.router_laws.proofs.Arriving.{IsSameButRepairs, arrival_leaves}
use Rattle.router_laws.proofs.Choices.{number_of}
use Rattle.router_laws.proofs.Renewals.{reading-same, stack-same, the_one-holds}
use Rattle.label_laws.specs.Held.{IsAskedFor, IsMadeOf, IsRenewed}
use Rattle.label_laws.proofs.Reserved.{WasOrAsked, all_were, event-rows}

-- ---- what events leave

-- What holds of each repair before an event, and of each that a Resv from the end of its bypass renews, holds of each after it.
module _ (r : Router) (s : State) (Row : Key × Repair → Type 0) (rows : AllByRecursion Row s.repairs) where
  abbrev Has : Outcome → Type 0
  Has o = AllByRecursion Row o.after.repairs

  -- the repair that a message is for
  abbrev IsFor : State → Ipv4Addr → Key → Key × Repair → Type 0
  IsFor t hop key repair = Row repair × (is_known_as r key repair ≡ true) × (ends_at r t hop repair ≡ true)

  repair_from-for : (t : State) (hop : Ipv4Addr) (key : Key) → AllByRecursion Row t.repairs → IfSome (repair_from r t hop key) (IsFor t hop key)
  unfolding repair_from
  repair_from-for t hop key all =
      let test = λ (repair : Key × Repair). is_known_as r key repair && ends_at r t hop repair in
      the_one-holds (IsFor t hop key) (filter test t.repairs)
      (all-both Row (λ repair. test repair ≡ true) (IsFor t hop key) (λ repair row passes. let both = and_parts (is_known_as r key repair) (ends_at r t hop repair) passes in (row, both.0, both.1))
      (filter test t.repairs) (all-filter Row test t.repairs all) (all-filter_passes (λ repair. test repair ≡ true) test (λ repair passes. passes) t.repairs))

  same_end : (t : State) → IsSameButRepairs s t → (hop : Ipv4Addr) (repair : Key × Repair) → ends_at r t hop repair ≡ ends_at r s hop repair
  unfolding bypass_tunnels_of
  same_end t same hop repair = ap (λ (u : State). ends_at r u hop repair) same

  module _ (style : ResvStyle) (v : Resv) where
    -- all is as before but repairs, and so is what holds of each
    abbrev Carries : Progress → Type 0
    Carries progress = IsSameButRepairs s progress.state × AllByRecursion Row progress.state.repairs

    -- it holds of a repair once it is renewed
    abbrev pub Renews : FlowDescriptor → Type 0
    Renews d =
        (repair : Key × Repair) → Row repair → is_known_as r (lsp v.session d.filter) repair ≡ true → ends_at r s v.hop.address repair ≡ true
        → Row (repair.0, record repair.1 { resv = resv_by s.facts.moment repair.1.resv.link style v d })

    verdict-carries : (d : FlowDescriptor) → Renews d → (repair : Key × Repair) (progress : Progress) → Carries progress → IsFor progress.state v.hop.address (lsp v.session d.filter) repair → (verdict : Verdict)
        → Carries (carried_back r v d repair (resv_by progress.state.facts.moment repair.1.resv.link style v d) progress verdict)
    verdict-carries d new repair progress is for (Failed e) = is
    verdict-carries d new repair progress is for PassedOver = is
    verdict-carries d new repair progress is for Granted =
        let fresh : Repair = record repair.1 { resv = resv_by progress.state.facts.moment repair.1.resv.link style v d } in
        let own : Row (repair.0, fresh) = subst (λ (t : State). Row (repair.0, record repair.1 { resv = resv_by t.facts.moment repair.1.resv.link style v d })) (sym is.0) (new repair for.0 for.1 (sym (same_end progress.state is.0 v.hop.address repair) ∙ for.2)) in (
          ap (λ (t : State). record t { repairs = put key_cmp repair.0 fresh progress.state.repairs }) is.0,
          all-put_row key_cmp Row repair.0 fresh (λ k tied. subst (λ (q : Key). Row (q, fresh)) (key_exact repair.0 k tied) own) own progress.state.repairs is.1,
        )

    descriptors-carry : (ds : List FlowDescriptor) → AllByRecursion Renews ds → (progress : Progress) → Carries progress → Carries (fold (next_returned r style v) progress ds)
    descriptors-carry [] new progress is = is
    descriptors-carry (d ∷ ds) new progress is =
        descriptors-carry ds new.1 (next_returned r style v progress d)
        (by (repair_from r progress.state v.hop.address (lsp v.session d.filter)) (repair_from-for progress.state v.hop.address (lsp v.session d.filter) is.1))
      where
        by : (o : Option (Key × Repair)) → IfSome o (IsFor progress.state v.hop.address (lsp v.session d.filter)) → Carries (option_map_or (renewed r style v d progress) o progress)
        by None for = is
        by (Some repair) for =
            let fact = resv_by progress.state.facts.moment repair.1.resv.link style v d in
            verdict-carries d new.0 repair progress is for (verdict_by_style r progress.state repair.0 fact (fits_share progress.state repair.0 fact))

  abbrev AreRenewed : Resv → Type 0
  AreRenewed v = (style : ResvStyle) → style_of v.style ≡ Some style → AllByRecursion (Renews style v) v.descriptors

  resv-has : (v : Resv) → AreRenewed v → Has (returned_resv r s v)
  unfolding returned_resv
  resv-has v new = by_style (style_of v.style) refl
    where
      by_first : (progress : Progress) → AllByRecursion Row progress.state.repairs → (first : Option RsvpError) → Has (resv_replied s progress first)
      by_first progress is (Some e) = is
      by_first progress is None = cond_both progress.has_granted _ (refused s NoMatch) Has (λ some. is) (λ none. rows)

      by_style : (style : Option ResvStyle) → style_of v.style ≡ style → Has (option_map_or (λ style. let progress = all_returned r s style v in resv_replied s progress progress.first) style (refused s NoMatch))
      by_style None of = rows
      by_style (Some style) of =
          let progress = all_returned r s style v in
          by_first progress (descriptors-carry style v v.descriptors (new style of) (record { state = s; errors = []; first = None; has_granted = false }) (refl, rows)).1 progress.first

  routed-has : (content : Content) → ((v : Resv) → content ≡ contents.Resv v → AreRenewed v) → Has (routed_arrival r s content)
  routed-has (contents.Path p) new = rows
  routed-has (contents.Resv v) new = resv-has v (new v refl)
  routed-has (contents.PathErr e) new = returned_err_by Has r s rows e (λ key path. rows)
  routed-has (contents.ResvErr e) new = rows
  routed-has (contents.PathTear t) new = rows
  routed-has (contents.ResvTear t) new = returned_tear_by Has r s rows t (λ test. all-filter Row test s.repairs rows)

  -- what a Resv renews that is read whole
  abbrev AreRenewedBy : Reading → Type 0
  AreRenewedBy reading = (v : Resv) → reading ≡ readings.Whole (contents.Resv v) → AreRenewed v

  kept : (o : Outcome) → o.after.repairs ≡ s.repairs → Has o
  kept o same = subst (AllByRecursion Row) (sym same) rows

  -- with an object that it doesn't know none renews any
  unknown-has : (content : Content) (class ctype : ℕ) → Has (arrival_by r s ways.Routed 0 (readings.Unknown content class ctype))
  unknown-has (contents.Path p) class ctype = rows
  unknown-has (contents.Resv v) class ctype = returned_unknown_by Has r s rows v class ctype (λ repair. rows)
  unknown-has (contents.PathErr e) class ctype = returned_err_by Has r s rows e (λ key path. rows)
  unknown-has (contents.ResvErr e) class ctype = rows
  unknown-has (contents.PathTear t) class ctype = rows
  unknown-has (contents.ResvTear t) class ctype = returned_tear_by Has r s rows t (λ test. all-filter Row test s.repairs rows)

  way-has : (way : ArrivalWay) (link : ℕ) (reading : Reading) → (way ≡ ways.Routed → AreRenewedBy reading) → Has (arrival_by r s way link reading)
  way-has ways.Hop link reading new = kept (arrival_by r s ways.Hop link reading) (reading-same r s link reading)
  way-has ways.Stack link (readings.Whole content) new = kept (arrival_by r s ways.Stack link (readings.Whole content)) (stack-same r s content)
  way-has ways.Stack link (readings.Unknown content class ctype) new = unknown_stack_by Has r s class ctype content (λ p. rows) (kept (arrival_by r s ways.Stack link (readings.Whole content)) (stack-same r s content))
  way-has ways.Routed link (readings.Whole content) new = routed-has content (λ v same. new refl v (ap (λ (c : Content). readings.Whole c) same))
  way-has ways.Routed link (readings.Unknown content class ctype) new = unknown-has content class ctype

  arrival-has : (a : Arrive) → (is_up s.facts.up a.link ≡ true → a.way ≡ ways.Routed → AreRenewedBy a.reading) → Has (arrival r s a)
  unfolding arrival
  arrival-has a new =
      cond_both (is_none (link_at r a.link)) (refused s UnknownLink) _ Has (λ none. rows)
      (λ there. cond_both (not (is_up s.facts.up a.link)) (refused s LinkDown) _ Has (λ down. rows) (λ up. way-has a.way a.link a.reading (new (not-false (is_up s.facts.up a.link) up))))

  tick-has : (n : ℕ) → Has (moment_comes r s n)
  unfolding moment_comes tick expire_repairs
  tick-has n =
      cond_both (nat_lt (2 ^ 62) n) _ _ (λ (o : paths.PathOutcome). Has (for_reservations r s n (of_paths s o))) (λ above. rows)
      (λ most. cond_both (nat_lt n s.facts.moment) _ _ (λ (o : paths.PathOutcome). Has (for_reservations r s n (of_paths s o))) (λ below. rows) (λ later. all-filter Row (λ repair. resv_lives_past n repair.1.resv) s.repairs rows))

  command-has : (c : Command) → Has (command_comes r s c)
  unfolding command_comes
  command-has c =
      cond_both o.is_silent o (commanded_by r s c o) Has (λ silent. rows)
      (λ loud. cond_both (takes_used_bypass s c) (refused s InUse) _ Has (λ used. rows) (λ other. all-filter Row (λ repair. not (is_one_of (option_to_list (begun_by r s.facts c)) repair.0)) s.repairs rows))
    where
      o : Outcome
      o = of_paths s (command r s.facts c)

  event-has : (event : Event) → ((a : Arrive) → event ≡ events.Arrive a → is_up s.facts.up a.link ≡ true → a.way ≡ ways.Routed → AreRenewedBy a.reading) → Has (outcome r s event)
  event-has (events.Arrive a) new = arrival-has a (new a refl)
  event-has (events.Relay m) new = rows
  event-has (events.Tick n) new = tick-has n
  event-has (events.LinkUp number) new = rows
  event-has (events.LinkDown number) new = rows
  event-has (events.Command c) new = command-has c
  event-has events.Restart new = tt
  event-has events.Start new = rows

-- a repair is one of before, or was renewed
abbrev pub WasOrRenewed : Router → State → Event → Key × Repair → Type 0
WasOrRenewed r s event row = (find key_cmp row.0 s.repairs ≡ Some row.1) ⊎ IsRenewed r s event row.0 row.1

pub event-repairs : (r : Router) (s : State) (event : Event) → IsSound r s → AllByRecursion (WasOrRenewed r s event) (outcome r s event).after.repairs
event-repairs r s event is =
    event-has r s Row all_rows event
    (λ a came up way v read style of_style.
    all-weaker (Contains v.descriptors) (Renews r s Row all_rows style v) (λ d among repair row known ends. renews a came up way v read style of_style d among repair known ends row) v.descriptors
    (recursion_from_All (Contains v.descriptors) v.descriptors (All-contains_itself v.descriptors)))
  where
    Row : Key × Repair → Type 0
    Row = WasOrRenewed r s event

    all_rows : AllByRecursion Row s.repairs
    all_rows = all-weaker (λ (row : Key × Repair). find key_cmp row.0 s.repairs ≡ Some row.1) Row (λ row found. inl found) s.repairs (all_found key_cmp key_total s.repairs is.repaired.in_order)

    renews : (a : Arrive) → event ≡ events.Arrive a → is_up s.facts.up a.link ≡ true → a.way ≡ ways.Routed → (v : Resv) → a.reading ≡ readings.Whole (contents.Resv v) → (style : ResvStyle) → style_of v.style ≡ Some style
        → (d : FlowDescriptor) → Contains v.descriptors d → (repair : Key × Repair) → is_known_as r (lsp v.session d.filter) repair ≡ true → ends_at r s v.hop.address repair ≡ true → Row repair
        → Row (repair.0, record repair.1 { resv = resv_by s.facts.moment repair.1.resv.link style v d })
    renews a came up way v read style of_style d among repair known ends (inl found) = inr (record {
      old = repair.1;
      was = found;
      message = v;
      descriptor = d;
      style = style;
      brings = record { arrived = a; came = came; by_way = way; read = read; up = up; among = among; of_style = of_style };
      from_end = ends;
      known_as = known;
      renewed = refl;
    })
    renews a came up way v read style of_style d among repair known ends (inr before) = inr (record {
      old = before.old;
      was = before.was;
      message = v;
      descriptor = d;
      style = style;
      brings = record { arrived = a; came = came; by_way = way; read = read; up = up; among = among; of_style = of_style };
      from_end = sym (ap (λ (u : Repair). ends_at r s v.hop.address (repair.0, u)) before.renewed) ∙ ends;
      known_as = sym (ap (λ (u : Repair). is_known_as r (lsp v.session d.filter) (repair.0, u)) before.renewed) ∙ known;
      renewed = ap (λ (u : Repair). record u { resv = resv_by s.facts.moment u.resv.link style v d }) before.renewed;
    })

-- ---- what is repaired

-- a bypass leads around a lost link, to a router that takes the LSP under this label
abbrev EndTakes : Router → ResvFact → BypassTunnel → ℕ → Type 0
EndTakes r resv bypass_tunnel label =
    ((ends_at_peer r resv bypass_tunnel ≡ true) × (label ≡ resv.label)) ⊎ (label_after bypass_tunnel.ends_at (unwrap_or resv.recorded []) ≡ Some label)

way-takes : (r : Router) (resv : ResvFact) (row : ℕ × BypassTunnel) → IfSome (selected_by r resv row) (λ choice. EndTakes r resv row.1 choice.label)
way-takes r resv row =
    cond_both (not (leads_around resv row.1)) _ _ (λ (o : Option Selected). IfSome o (λ choice. EndTakes r resv row.1 choice.label)) (λ other. tt)
    (λ around.
    cond_both (ends_at_peer r resv row.1) _ _ (λ (o : Option Selected). IfSome o (λ choice. EndTakes r resv row.1 choice.label)) (λ next. inl (next, refl)) (λ later. by (label_after row.1.ends_at (unwrap_or resv.recorded [])) refl))
  where
    by : (o : Option ℕ) → label_after row.1.ends_at (unwrap_or resv.recorded []) ≡ o
        → IfSome (option_map {U = Selected} (λ label. record { bypass = row.0; is_nnhop = true; label = label; capacity = row.1.capacity }) o) (λ choice. EndTakes r resv row.1 choice.label)
    by None at = tt
    by (Some label) at = inr at

module _ (r : Router) (s : State) (in_order : T (is_sorted nat_cmp s.facts.bypasses)) (resv : ResvFact) where
  -- the bypass of a choice is known, and its end takes the label
  record IsLed (choice : Selected) : Type 0 where
    bypass_tunnel : BypassTunnel
    known : find nat_cmp choice.bypass (bypass_tunnels_of r s) ≡ Some bypass_tunnel
    takes : EndTakes r resv bypass_tunnel choice.label

  abbrev IsFound : ℕ × BypassTunnel → Type 0
  IsFound row = find nat_cmp row.0 (bypass_tunnels_of r s) ≡ Some row.1

  all_tunnels_found : AllByRecursion IsFound (bypass_tunnels_of r s)
  unfolding bypass_tunnels_of
  all_tunnels_found = all_found nat_cmp nat_cmp_total (bypass_tunnels_of r s) (is_sorted-made nat_cmp nat_cmp_total exact_unsigned (bypass_tunnel_by r s) s.facts.bypasses in_order)

  ways-led : (rows : List (ℕ × BypassTunnel)) → AllByRecursion IsFound rows → AllByRecursion IsLed (filter_map (selected_by r resv) rows)
  ways-led [] found = tt
  ways-led (row ∷ rows) found = by (selected_by r resv row) (number_of r resv row) (way-takes r resv row) (ways-led rows found.1)
    where
      by : (o : Option Selected) → IfSome o (λ choice. choice.bypass ≡ row.0) → IfSome o (λ choice. EndTakes r resv row.1 choice.label) → AllByRecursion IsLed (filter_map (selected_by r resv) rows) → AllByRecursion IsLed (cons_option o (filter_map (selected_by r resv) rows))
      by None number takes rest = rest
      by (Some choice) number takes rest = (record { bypass_tunnel = row.1; known = ap (λ n. find nat_cmp n (bypass_tunnels_of r s)) number ∙ found.0; takes = takes }, rest)

  candidates-led : (key : Key) (path : PathFact) → AllByRecursion IsLed (candidates_of (around_of r s) key path resv)
  unfolding candidates_of ways_around
  candidates-led key path =
      let ways = filter_map (selected_by r resv) (bypass_tunnels_of r s) in
      let led = ways-led (bypass_tunnels_of r s) all_tunnels_found in
      cond_both (is_protected (around_of r s) key path) _ _ (AllByRecursion IsLed)
      (λ protected.
      all-append IsLed (filter (is_preferred path) ways) (filter (λ choice. not (is_preferred path choice)) ways) (all-filter IsLed (is_preferred path) ways led)
      (all-filter IsLed (λ choice. not (is_preferred path choice)) ways led)) (λ other. tt)

  choice-led : (key : Key) (path : PathFact) (choice : Selected) → selected (around_of r s) key path (find key_cmp key s.assignments) resv ≡ Some choice → IsLed choice
  unfolding selected
  choice-led key path choice selects =
      subst (λ (o : Option Selected). IfSome o IsLed) selects (find-holds IsLed (may_serve (find key_cmp key s.assignments)) (candidates_of (around_of r s) key path resv) (candidates-led key path))

-- ---- a step

module _ (r : Router) (before after : State) (made : Made) (key : Key) (repair : Repair) (router : IsRouter r) (is : IsSound r before) (x : Step r before made after) (found : find key_cmp key after.repairs ≡ Some repair) where
  abbrev o : Outcome
  o = outcome r before made.event

  -- repaired before, or made, or renewed
  abbrev Came : Type 0
  Came = (find key_cmp key before.repairs ≡ Some repair) ⊎ (IsMadeOf r before after key repair ⊎ IsRenewed r before made.event key repair)

  -- what the event left
  left-came : find key_cmp key o.after.repairs ≡ Some repair → Came
  left-came there =
      ⊎_elim (λ (was : find key_cmp key before.repairs ≡ Some repair). inl was) (λ (renewed : IsRenewed r before made.event key repair). inr (inr renewed))
      (subst (λ (o : Option Repair). IfSome o (λ u. WasOrRenewed r before made.event (key, u))) there (find-all_row key_cmp key_exact (WasOrRenewed r before made.event) key o.after.repairs (event-repairs r before made.event is)))

  -- the links of before are up still where a Resv came
  same_up : (a : Arrive) → made.event ≡ events.Arrive a → o.after.facts.up ≡ before.facts.up
  same_up a came =
      subst (λ (event : Event). (outcome r before event).after.facts.up ≡ before.facts.up) (sym came)
      (arrival_leaves r before (λ (f : Facts). f.up ≡ before.facts.up) refl (λ k fact. refl) (λ k. refl) (λ e number. ap (λ (f : Facts). f.up) (with_noted-same e number before.facts)) a)

  -- a reservation that is over a link which is down then was there before
  was_reserved : (resv : ResvFact) → find key_cmp key o.after.resvs ≡ Some resv → is_up o.after.facts.up resv.link ≡ false → find key_cmp key before.resvs ≡ Some resv
  was_reserved resv reserved down =
      ⊎_elim (λ (was : find key_cmp key before.resvs ≡ Some resv). was)
      (λ (asked : IsAskedFor before made.event key resv).
      absurd (let e = sym asked.brings.up ∙ (λ i. is_up (sym (same_up asked.brings.arrived asked.brings.came) i) (sym (ap (λ (f : ResvFact). f.link) asked.asked) i)) ∙ down in cc))
      (subst (λ (o : Option ResvFact). IfSome o (λ u. WasOrAsked before made.event (key, u))) reserved
      (find-all_row key_cmp key_exact (WasOrAsked before made.event) key o.after.resvs (event-rows r before (WasOrAsked before made.event) (all_were r before made.event is) made.event (λ k v asked. inr asked))))

  module _ (came : after ≡ with_moments r before o (settled r made.labels o.after)) (may : MayPromise (taken_over r o.after)) where
    abbrev p : State
    p = promised r o.after

    same_tunnels : bypass_tunnels_of r after ≡ bypass_tunnels_of r p
    unfolding repaired repairs_left bypass_tunnels_of
    same_tunnels = ap (bypass_tunnels_of r) came ∙ tunnels-left r (taken_over r o.after) may.resvs

    made_of_resv : (resv : ResvFact) (choice : Selected) → find key_cmp key before.resvs ≡ Some resv → IsLed r p may.bypasses resv choice → IsMadeOf r before after key (repair_with resv choice)
    made_of_resv resv choice reserved led = record {
      resv = resv;
      reserved = reserved;
      bypass_tunnel = led.bypass_tunnel;
      known = ap (find nat_cmp choice.bypass) same_tunnels ∙ led.known;
      kept = refl;
      label = led.takes;
    }

    loud-came : Came
    unfolding taken_over repaired repairs_left
    loud-came =
        let at = found_filter (repair_stands r (resvs_left (repaired r p))) key repair (repaired r p).repairs (repairs_sorted r (taken_over r o.after) may) (ap (λ (t : State). find key_cmp key t.repairs) (sym came) ∙ found) in
        ⊎_elim (λ (old : find key_cmp key o.after.repairs ≡ Some repair). left-came old)
        (λ (new : IsNewRepair r p may.resvs key repair).
        let went = lost r p key new.resv repair new.made in
        inr (inl (subst (IsMadeOf r before after key) (sym went.made_with) (made_of_resv new.resv went.choice (was_reserved new.resv new.reserved went.down) (choice-led r p may.bypasses new.resv key went.path went.choice went.selects)))))
        (old_or_new r p may.resvs key repair at.1)

  all-came : Came
  all-came = by o.is_silent (outcome-leaves r before made.event router is x.possible x.awake) x.changed
    where
      by : (silent : Bool) → LeavesBy r before silent o.after → after ≡ (if silent then o.after else with_moments r before o (settled r made.labels o.after)) → Came
      by true sound came = left-came (ap (λ (t : State). find key_cmp key t.repairs) (sym came) ∙ found)
      by false drafted came = loud-came came (may_promise r before o.after is drafted)

-- Each repair was there before the step, or was made or renewed in it.
pub made_or_renewed : (r : Router) (before after : State) (made : Made) (key : Key) (repair : Repair) → IsRouter r → IsSound r before → Step r before made after → find key_cmp key after.repairs ≡ Some repair
    → (find key_cmp key before.repairs ≡ Some repair) ⊎ (IsMadeOf r before after key repair ⊎ IsRenewed r before made.event key repair)
made_or_renewed r before after made key repair router is x found = all-came r before after made key repair router is x found
