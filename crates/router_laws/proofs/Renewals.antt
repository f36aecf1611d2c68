-- A repair is renewed or ended by what comes from the end of its bypass, and no other message changes it.
use Rattle.std.specs.Prelude.{◌≡◌, ℕ, ◌&&◌, ◌||◌, not, Bool, true, false, cond, if◌then◌else◌, T, List, [], ◌∷◌, filter, filter_map, fold, Option, Some, None, is_none, IfSome}
use Rattle.std.specs.Bool.{then_some}
use Rattle.std.specs.FinMap.Entries.{find, find-put, find-where_key, is_sorted, is_sorted-put, put}
use Rattle.std.specs.List.{AllByRecursion, cons_option, list_any}
use Rattle.std.specs.Option.{option_and_then, option_map, option_map_or}
use Rattle.std.specs.Ordering.{eq_by_cmp, is_eq}
use Rattle.std.specs.declared.net.ipv4_addr.Ipv4Addr.{Ipv4Addr}
use Rattle.std.proofs.Common.{refl, sym, ap, subst, ◌∙◌}
use Rattle.std.proofs.lemmas.Bool.{and_parts, cond_both, false_from_ne_true}
use Rattle.rsvp_contents.specs.Picking.{content_in}
use Rattle.rsvp_contents.specs.declared.message.Reading.TheVariants as readings
use Rattle.rsvp_contents.specs.declared.message.Reading.{Reading}
use Rattle.rsvp_contents.specs.declared.messages.Content.TheVariants as contents
use Rattle.rsvp_contents.specs.declared.messages.Content.{Content}
use Rattle.rsvp_contents.specs.declared.messages.Path.{Path}
use Rattle.rsvp_contents.specs.declared.messages.Resv.{Resv}
use Rattle.rsvp_contents.specs.declared.messages.ResvTear.{ResvTear}
use Rattle.rsvp_contents.specs.declared.descriptors.FlowDescriptor.{FlowDescriptor}
use Rattle.rsvp_objects.specs.declared.values.Template.{Template}
use Rattle.sorted_rows.specs.ListLaws.{all-both, all-filter, all-filter_passes}
use Rattle.sorted_rows.specs.RowsLaws.{all_found, find-all_row, find-filter, ties}
use Rattle.lsr_facts.specs.OrderLaws.{key_exact, key_total}
use Rattle.lsr_facts.specs.Orders.{key_cmp}
use Rattle.lsr_facts.specs.Reservations.{style_of}
use Rattle.lsr_facts.specs.Routers.{link_at}
use Rattle.lsr_facts.specs.Errors.{no_label, unknown_style}
use Rattle.lsr_facts.specs.declared.errors.RsvpError.{RsvpError}
use Rattle.lsr_facts.specs.declared.key.Key.{Key}
use Rattle.lsr_facts.specs.declared.refusal.Refusal.TheVariants.{LinkDown, NoMatch, UnknownLink}
use Rattle.lsr_facts.specs.declared.repair.Repair.{Repair}
use Rattle.lsr_facts.specs.declared.reply.Reply.{Reply}
use Rattle.lsr_facts.specs.declared.reply.Reply.TheVariants as replies
use Rattle.lsr_facts.specs.declared.resv_fact.ResvFact.{ResvFact}
use Rattle.lsr_facts.specs.declared.resv_fact.ResvStyle.{ResvStyle}
use Rattle.lsr_facts.specs.declared.router.Router.{Router}
use Rattle.abstract_paths.specs.declared.events.Event.TheVariants as events
use Rattle.abstract_paths.specs.declared.events.Made.{Made}
use Rattle.abstract_paths.specs.declared.events.Output.{Output}
use Rattle.abstract_paths.specs.declared.ways.ArrivalWay.{ArrivalWay}
use Rattle.abstract_paths.specs.declared.ways.ArrivalWay.TheVariants as ways
use Rattle.abstract_paths.specs.declared.ways.Arrive.{Arrive}
use Rattle.abstract_paths.specs.Outcomes.{lsp}
use Rattle.abstract_paths.specs.Paths.{failed, key_of, path_arrival, unknown_object}
use Rattle.abstract_paths.specs.Places.{is_up}
use Rattle.abstract_router.specs.Assigning.{assignments_left, fits_share}
use Rattle.abstract_router.specs.Arrivals.{arrival, arrival_by, is_done, labelled_path_arrival, message_arrival, reading_arrival, routed_arrival, stack_arrival}
use Rattle.abstract_router.specs.BypassTunnels.{bypass_tunnels_of}
use Rattle.abstract_router.specs.Labels.{has_free_label}
use Rattle.abstract_router.specs.Outcomes.{Outcome, of_paths, refused, replied}
use Rattle.abstract_router.specs.Repairing.{repair_stands, repaired, repairs_left}
use Rattle.abstract_router.specs.Reserving.{Failed, Granted, PassedOver, Progress, Verdict, all_descriptors, carried_on, key_in, next_descriptor, resv_arrival, resv_by, resv_failed, resv_replied, unknown_resv, verdict_by_style, verdict_of}
use Rattle.abstract_router.specs.Returning.{all_returned, carried_back, ends_at, is_known_as, next_returned, renewed, repair_from, returned_failed, returned_keys, returned_resv, returned_tear, the_one, torn_back}
use Rattle.abstract_router.specs.Soundness.{IsSound}
use Rattle.abstract_router.specs.States.{State, is_one_of, with_repairs_where}
use Rattle.abstract_router.specs.Steps.{AreSettled, Step, known_after, labelled, left_standing, promised, resvs_left, settled, taken_over, with_moments}
use Rattle.abstract_router.specs.Tearing.{is_resv_torn_by, resv_err_arrival, resv_err_passed_on, resv_tear_arrival, stack_err_arrival}
use Rattle.router_soundness.proofs.OtherWays.{returned_err_by, returned_resv_by, returned_tear_by, returned_unknown_by, unknown_routed_by, unknown_stack_by}
use Rattle.router_soundness.proofs.Silence.{silent_keeps}
use Rattle.router_soundness.specs.Assigned.{AreStanding}
use Rattle.router_laws.specs.Repairs.{is_from_end, routed_from}
use Rattle.router_laws.specs.TouchedBy.{touched_by_way}
use Rattle.router_laws.proofs.Arriving.{IsSameButRepairs, returned-same}
use Rattle.router_laws.proofs.Led.{led}
use Rattle.router_laws.proofs.NoneRepaired.{AreOverUp, repaired-same}
use Rattle.router_laws.proofs.Settled.{runs_for}
use Rattle.router_laws.proofs.Still.{known-same}
use Rattle.router_laws.proofs.Touching.{Keeps, arrival-keeps}

-- ---- messages that aren't Routed

module _ (r : Router) (s : State) where
  -- the same repairs are known
  abbrev HasSameRepairs : Outcome → Type 0
  HasSameRepairs o = o.after.repairs ≡ s.repairs

  path-same : (link : ℕ) (p : Path) → HasSameRepairs (labelled_path_arrival r s link p)
  unfolding labelled_path_arrival
  path-same link p =
      cond_both (is_done (path_arrival r s.facts link p).reply && is_none (find key_cmp (key_of p) s.facts.paths) && not (has_free_label r s.labels s.resting)) (of_paths s (failed r s.facts link p no_label)) (of_paths s (path_arrival r s.facts link p)) HasSameRepairs
      (λ full. refl) (λ room. refl)

  carried-same : (link : ℕ) (v : Resv) (d : FlowDescriptor) (fact : ResvFact) (progress : Progress) (verdict : Verdict) → progress.state.repairs ≡ s.repairs → (carried_on r link v d fact progress verdict).state.repairs ≡ s.repairs
  carried-same link v d fact progress (Failed e) h = h
  carried-same link v d fact progress PassedOver h = h
  carried-same link v d fact progress Granted h = h

  descriptors-same : (link : ℕ) (style : ResvStyle) (v : Resv) (ds : List FlowDescriptor) (progress : Progress) → progress.state.repairs ≡ s.repairs → (fold (next_descriptor r link style v) progress ds).state.repairs ≡ s.repairs
  descriptors-same link style v [] progress h = h
  descriptors-same link style v (d ∷ ds) progress h =
      let fact = resv_by progress.state.facts.moment link style v d in
      descriptors-same link style v ds (next_descriptor r link style v progress d) (carried-same link v d fact progress (verdict_of r progress.state (key_in v d) fact) h)

  replied-same : (progress : Progress) → progress.state.repairs ≡ s.repairs → (first : Option RsvpError) → HasSameRepairs (resv_replied s progress first)
  replied-same progress h (Some e) = h
  replied-same progress h None = cond_both progress.has_granted _ (refused s NoMatch) HasSameRepairs (λ some. h) (λ none. refl)

  resv-same : (link : ℕ) (v : Resv) → HasSameRepairs (resv_arrival r s link v)
  unfolding resv_arrival
  resv-same link v = by (style_of v.style)
    where
      by : (style : Option ResvStyle) → HasSameRepairs (option_map_or (λ style. let progress = all_descriptors r s link style v in resv_replied s progress progress.first) style (resv_failed r s link v false [] unknown_style))
      by None = refl
      by (Some style) =
          let progress = all_descriptors r s link style v in
          replied-same progress (descriptors-same link style v v.descriptors (record { state = s; errors = []; first = None; has_granted = false }) refl) progress.first

  tear-same : (link : ℕ) (t : ResvTear) → HasSameRepairs (resv_tear_arrival s link t)
  unfolding resv_tear_arrival
  tear-same link t = cond_both (list_any (is_resv_torn_by link t) s.resvs) _ (refused s NoMatch) HasSameRepairs (λ some. refl) (λ none. refl)

  passed_on-same : (matched : List (List Output)) → HasSameRepairs (resv_err_passed_on s matched)
  passed_on-same [] = refl
  passed_on-same (one ∷ more) = refl

  message-same : (link : ℕ) (content : Content) → HasSameRepairs (message_arrival r s link content)
  unfolding resv_err_arrival
  message-same link (contents.Path p) = path-same link p
  message-same link (contents.Resv v) = resv-same link v
  message-same link (contents.PathErr e) = refl
  message-same link (contents.ResvErr e) = passed_on-same _
  message-same link (contents.PathTear t) = refl
  message-same link (contents.ResvTear t) = tear-same link t

  pub reading-same : (link : ℕ) (reading : Reading) → HasSameRepairs (reading_arrival r s link reading)
  unfolding unknown_resv
  reading-same link (readings.Whole content) = message-same link content
  reading-same link (readings.Unknown (contents.Path p) class ctype) = refl
  reading-same link (readings.Unknown (contents.Resv v) class ctype) = refl
  reading-same link (readings.Unknown (contents.PathErr e) class ctype) = message-same link (contents.PathErr e)
  reading-same link (readings.Unknown (contents.ResvErr e) class ctype) = message-same link (contents.ResvErr e)
  reading-same link (readings.Unknown (contents.PathTear t) class ctype) = message-same link (contents.PathTear t)
  reading-same link (readings.Unknown (contents.ResvTear t) class ctype) = message-same link (contents.ResvTear t)

  -- what comes through a stack
  pub stack-same : (content : Content) → HasSameRepairs (stack_arrival r s content)
  unfolding stack_err_arrival
  stack-same (contents.Path p) = refl
  stack-same (contents.Resv v) = refl
  stack-same (contents.PathErr e) = refl
  stack-same (contents.ResvErr e) = passed_on-same _
  stack-same (contents.PathTear t) = refl
  stack-same (contents.ResvTear t) = refl

-- ---- Routed messages

-- what holds of each of a list holds of the one that it is
pub the_one-holds : {A : Type 0} (P : A → Type 0) (xs : List A) → AllByRecursion P xs → IfSome (the_one xs) P
the_one-holds P [] all = tt
the_one-holds P (x ∷ []) all = all.0
the_one-holds P (x ∷ y ∷ xs) all = tt

-- the repair that a message from a router is for is known, and its bypass ends there
abbrev pub IsOf : Router → State → Ipv4Addr → Key × Repair → Type 0
IsOf r s hop repair = (find key_cmp repair.0 s.repairs ≡ Some repair.1) × (ends_at r s hop repair ≡ true)

pub repair_from-of : (r : Router) (s : State) (hop : Ipv4Addr) (key : Key) → T (is_sorted key_cmp s.repairs) → IfSome (repair_from r s hop key) (IsOf r s hop)
unfolding repair_from
repair_from-of r s hop key in_order =
    let test = λ (repair : Key × Repair). is_known_as r key repair && ends_at r s hop repair in
    the_one-holds (IsOf r s hop) (filter test s.repairs)
    (all-both (λ repair. find key_cmp repair.0 s.repairs ≡ Some repair.1) (λ repair. test repair ≡ true) (IsOf r s hop) (λ repair found passes. (found, (and_parts (is_known_as r key repair) (ends_at r s hop repair) passes).1))
    (filter test s.repairs) (all-filter (λ repair. find key_cmp repair.0 s.repairs ≡ Some repair.1) test s.repairs (all_found key_cmp key_total s.repairs in_order)) (all-filter_passes (λ repair. test repair ≡ true) test (λ repair passes. passes) s.repairs))

module _ (r : Router) (s : State) (key : Key) where
  -- no repair of the LSP is over a bypass that ends there
  abbrev IsElsewhere : Ipv4Addr → Type 0
  IsElsewhere hop = (repair : Repair) → find key_cmp key s.repairs ≡ Some repair → ends_at r s hop (key, repair) ≡ false

  -- the LSP is repaired as it was, and all is as it was but repairs
  record Stays (t : State) : Type 0 where
    here : find key_cmp key t.repairs ≡ find key_cmp key s.repairs
    in_order : T (is_sorted key_cmp t.repairs)
    same : IsSameButRepairs s t

  same_end : (t : State) → IsSameButRepairs s t → (hop : Ipv4Addr) (repair : Key × Repair) → ends_at r t hop repair ≡ ends_at r s hop repair
  unfolding bypass_tunnels_of
  same_end t same hop repair = ap (λ (u : State). ends_at r u hop repair) same

  -- one that a message from there is for isn't of this LSP
  not_ours : (t : State) → Stays t → (hop : Ipv4Addr) → IsElsewhere hop → (repair : Key × Repair) → IsOf r t hop repair → key ≡ repair.0 → ⊥
  not_ours t stays hop elsewhere repair of own =
      let found : find key_cmp key s.repairs ≡ Some repair.1 = sym stays.here ∙ ap (λ k. find key_cmp k t.repairs) own ∙ of.0 in
      let ends = sym (same_end t stays.same hop repair) ∙ of.1 in
      let e = sym (elsewhere repair.1 found) ∙ ap (λ (k : Key). ends_at r s hop (k, repair.1)) own ∙ ends in cc

  renewed-stays : (v : Resv) (d : FlowDescriptor) → IsElsewhere v.hop.address → (repair : Key × Repair) (fact : ResvFact) (progress : Progress) → Stays progress.state → IsOf r progress.state v.hop.address repair
      → (verdict : Verdict) → Stays (carried_back r v d repair fact progress verdict).state
  renewed-stays v d elsewhere repair fact progress stays of (Failed e) = stays
  renewed-stays v d elsewhere repair fact progress stays of PassedOver = stays
  renewed-stays v d elsewhere repair fact progress stays of Granted =
      let new : Repair = record repair.1 { resv = fact } in
      record {
        here = find-put key_cmp key_total key repair.0 new progress.state.repairs ∙ by (eq_by_cmp key_cmp key repair.0) refl ∙ stays.here;
        in_order = is_sorted-put key_cmp key_total repair.0 new progress.state.repairs stays.in_order;
        same = ap (λ (t : State). record t { repairs = put key_cmp repair.0 new progress.state.repairs }) stays.same;
      }
    where
      by : (b : Bool) → eq_by_cmp key_cmp key repair.0 ≡ b → cond b (Some (record repair.1 { resv = fact })) (find key_cmp key progress.state.repairs) ≡ find key_cmp key progress.state.repairs
      by true tie = absurd (not_ours progress.state stays v.hop.address elsewhere repair of (key_exact key repair.0 (ties _ tie)))
      by false apart = refl

  returned-stay : (style : ResvStyle) (v : Resv) → IsElsewhere v.hop.address → (ds : List FlowDescriptor) (progress : Progress) → Stays progress.state → Stays (fold (next_returned r style v) progress ds).state
  returned-stay style v elsewhere [] progress stays = stays
  returned-stay style v elsewhere (d ∷ ds) progress stays =
      returned-stay style v elsewhere ds (next_returned r style v progress d)
      (by (repair_from r progress.state v.hop.address (lsp v.session d.filter)) (repair_from-of r progress.state v.hop.address (lsp v.session d.filter) stays.in_order))
    where
      by : (o : Option (Key × Repair)) → IfSome o (IsOf r progress.state v.hop.address) → Stays (option_map_or (renewed r style v d progress) o progress).state
      by None of = stays
      by (Some repair) of =
          let fact = resv_by progress.state.facts.moment repair.1.resv.link style v d in
          renewed-stays v d elsewhere repair fact progress stays of (verdict_by_style r progress.state repair.0 fact (fits_share progress.state repair.0 fact))

  -- an outcome that leaves the repair of the LSP
  abbrev Leaves : Outcome → Type 0
  Leaves o = find key_cmp key o.after.repairs ≡ find key_cmp key s.repairs

  module _ (in_order : T (is_sorted key_cmp s.repairs)) where
    unchanged : Stays s
    unchanged = record { here = refl; in_order = in_order; same = refl }

    resv-leaves : (v : Resv) → IsElsewhere v.hop.address → Leaves (returned_resv r s v)
    resv-leaves v elsewhere =
        returned_resv_by Leaves r s refl v (λ style reply heard. (returned-stay style v elsewhere v.descriptors (record { state = s; errors = []; first = None; has_granted = false }) unchanged).here)

    -- no filter of a ResvTear is for the repair of the LSP
    none_named : (t : ResvTear) → IsElsewhere t.hop.address → (repair : Repair) → find key_cmp key s.repairs ≡ Some repair → (filters : List Template)
        → is_one_of (filter_map (λ f. option_map (λ (repair : Key × Repair). repair.0) (repair_from r s t.hop.address (lsp t.session f))) filters) key ≡ false
    none_named t elsewhere repair found [] = refl
    none_named t elsewhere repair found (f ∷ fs) =
        by (repair_from r s t.hop.address (lsp t.session f)) (repair_from-of r s t.hop.address (lsp t.session f) in_order) (none_named t elsewhere repair found fs)
      where
        rest : List Key
        rest = filter_map (λ f. option_map (λ (repair : Key × Repair). repair.0) (repair_from r s t.hop.address (lsp t.session f))) fs

        by : (o : Option (Key × Repair)) → IfSome o (IsOf r s t.hop.address) → is_one_of rest key ≡ false → is_one_of (cons_option (option_map (λ (repair : Key × Repair). repair.0) o) rest) key ≡ false
        by None of others = others
        by (Some other) of others =
            let apart = false_from_ne_true (is_eq (key_cmp other.0 key)) (λ tie. not_ours s unchanged t.hop.address elsewhere other of (sym (key_exact other.0 key (ties _ tie)))) in
            ap (λ b. b || is_one_of rest key) apart ∙ others

    tear-leaves : (t : ResvTear) → IsElsewhere t.hop.address → Leaves (returned_tear r s t)
    unfolding returned_tear
    tear-leaves t elsewhere = by (returned_keys r s t) refl
      where
        by : (keys : List Key) → returned_keys r s t ≡ keys → Leaves (torn_back s keys)
        by [] is = refl
        by (first ∷ keys) is =
            let left : Key → Bool = λ k. not (is_one_of (first ∷ keys) k) in
            find-where_key key_cmp left key (λ k tied. ap left (sym (key_exact key k tied))) s.repairs
            ∙ known (find key_cmp key s.repairs) refl
          where
            known : (o : Option Repair) → find key_cmp key s.repairs ≡ o → (if not (is_one_of (first ∷ keys) key) then o else None) ≡ o
            known None found = either (not (is_one_of (first ∷ keys) key))
              where
                either : (b : Bool) → cond {A = Option Repair} b None None ≡ None
                either true = refl
                either false = refl
            known (Some repair) found =
                ap (λ b. if not b then Some repair else None) (ap (λ ks. is_one_of ks key) (sym is) ∙ none_named t elsewhere repair found t.filters)

    routed-leaves : (content : Content) → ((repair : Repair) → find key_cmp key s.repairs ≡ Some repair → option_map_or (λ hop. ends_at r s hop (key, repair)) (routed_from ways.Routed content) false ≡ false) → Leaves (routed_arrival r s content)
    routed-leaves (contents.Path p) elsewhere = refl
    routed-leaves (contents.Resv v) elsewhere = resv-leaves v elsewhere
    routed-leaves (contents.PathErr e) elsewhere = returned_err_by Leaves r s refl e (λ key path. refl)
    routed-leaves (contents.ResvErr e) elsewhere = refl
    routed-leaves (contents.PathTear t) elsewhere = refl
    routed-leaves (contents.ResvTear t) elsewhere = tear-leaves t elsewhere

    -- a message that isn't from the end of the bypass
    abbrev IsFromElsewhere : ArrivalWay → Reading → Type 0
    IsFromElsewhere way reading = (repair : Repair) → find key_cmp key s.repairs ≡ Some repair → option_map_or (λ hop. ends_at r s hop (key, repair)) (routed_from way (content_in reading)) false ≡ false

    way-leaves : (way : ArrivalWay) (link : ℕ) (reading : Reading) → IsFromElsewhere way reading → Leaves (arrival_by r s way link reading)
    way-leaves ways.Hop link reading elsewhere = ap (find key_cmp key) (reading-same r s link reading)
    way-leaves ways.Stack link (readings.Whole content) elsewhere = ap (find key_cmp key) (stack-same r s content)
    way-leaves ways.Stack link (readings.Unknown content class ctype) elsewhere = unknown_stack_by Leaves r s class ctype content (λ p. refl) (ap (find key_cmp key) (stack-same r s content))
    way-leaves ways.Routed link (readings.Whole content) elsewhere = routed-leaves content elsewhere
    way-leaves ways.Routed link (readings.Unknown content class ctype) elsewhere = unknown_routed_by Leaves r s class ctype content (λ v. returned_unknown_by Leaves r s refl v class ctype (λ repair. refl)) (routed-leaves content elsewhere)

    arrival-leaves : (a : Arrive) → IsFromElsewhere a.way a.reading → Leaves (arrival r s a)
    unfolding arrival
    arrival-leaves a elsewhere =
        cond_both (is_none (link_at r a.link)) (refused s UnknownLink) _ Leaves (λ none. refl)
        (λ there. cond_both (not (is_up s.facts.up a.link)) (refused s LinkDown) _ Leaves (λ down. refl) (λ up. way-leaves a.way a.link a.reading elsewhere))

-- ---- steps

-- an LSP is repaired as it was, where the repair stands
abbrev where_stands : Router → State → Key → Repair → Option Repair
where_stands r s key repair = then_some (repair_stands r s (key, repair)) repair

module _ (r : Router) (before after : State) (made : Made) (arrived : Arrive) (key : Key) (is : IsSound r before) (x : Step r before made after) (event : made.event ≡ events.Arrive arrived)
    (elsewhere : (repair : Repair) → find key_cmp key before.repairs ≡ Some repair → is_from_end r before arrived (key, repair) ≡ false) where
  abbrev o : Outcome
  o = arrival r before arrived

  abbrev IsLeft : State → Type 0
  IsLeft t = find key_cmp key t.repairs ≡ option_and_then (where_stands r t key) (find key_cmp key before.repairs)

  -- what a sound state knows is left by itself
  left-itself : IsLeft before
  left-itself = by (find key_cmp key before.repairs) (find-all_row key_cmp key_exact (λ repair. repair_stands r before repair ≡ true) key before.repairs is.repairs_standing)
    where
      by : (p : Option Repair) → IfSome p (λ v. repair_stands r before (key, v) ≡ true) → p ≡ option_and_then (where_stands r before key) p
      by None h = refl
      by (Some v) h = sym (ap (λ b. then_some b v) h)

  keeps : Keeps (is_one_of (touched_by_way r before arrived.way arrived.link arrived.reading)) before o.after
  keeps = arrival-keeps r (is_one_of (touched_by_way r before arrived.way arrived.link arrived.reading)) before is arrived (λ k apart. apart)

  over_up : AreOverUp (promised r o.after)
  unfolding taken_over
  over_up = keeps.over_up

  left-heard : IsLeft (with_moments r before o (settled r made.labels o.after))
  unfolding taken_over repairs_left bypass_tunnels_of
  left-heard =
      subst (λ (t : State). IsLeft (with_moments r before o (labelled r made.labels (assignments_left (left_standing r t))))) (sym (repaired-same r (promised r o.after) over_up))
      (find-filter key_cmp key_total (repair_stands r (resvs_left (promised r o.after))) key (λ k v tied. ap (λ q. repair_stands r (resvs_left (promised r o.after)) (q, v)) (sym (key_exact key k tied))) o.after.repairs keeps.repairs_in_order
      ∙ ap (option_and_then (where_stands r (resvs_left (promised r o.after)) key)) (arrival-leaves r before key is.repaired.in_order arrived elsewhere))

  repair_left : IsLeft after
  repair_left = subst IsLeft (sym (led r before after made (events.Arrive arrived) o x event refl)) (by o.is_silent silently)
    where
      silently : o.is_silent ≡ true → o.after ≡ before
      silently = silent_keeps r before (events.Arrive arrived) (runs_for before.facts.cold (events.Arrive arrived) (λ e. cc) (λ cold. sym event ∙ x.awake cold)) (λ e. cc)

      by : (silent : Bool) → (silent ≡ true → o.after ≡ before) → IsLeft (if silent then o.after else with_moments r before o (settled r made.labels o.after))
      by true same = subst IsLeft (sym (same refl)) left-itself
      by false same = left-heard

-- A message that isn't from the end of the bypass leaves the repair, as long as it stands.
pub still_repaired : (r : Router) (before after : State) (made : Made) (arrived : Arrive) (key : Key) (repair : Repair) → IsSound r before → Step r before made after → made.event ≡ events.Arrive arrived
    → find key_cmp key before.repairs ≡ Some repair → is_from_end r before arrived (key, repair) ≡ false → find key_cmp key after.repairs ≡ then_some (repair_stands r after (key, repair)) repair
still_repaired r before after made arrived key repair is x event found elsewhere =
    repair_left r before after made arrived key is x event (λ other at. let same : other ≡ repair = cc in ap (λ (v : Repair). is_from_end r before arrived (key, v)) same ∙ elsewhere)
    ∙ ap (option_and_then (where_stands r after key)) found

-- No message makes one.
pub still_none : (r : Router) (before after : State) (made : Made) (arrived : Arrive) (key : Key) → IsSound r before → Step r before made after → made.event ≡ events.Arrive arrived → find key_cmp key before.repairs ≡ None → find key_cmp key after.repairs ≡ None
still_none r before after made arrived key is x event none =
    repair_left r before after made arrived key is x event (λ other at. absurd (let e = sym none ∙ at in cc)) ∙ ap (option_and_then (where_stands r after key)) none

-- ---- what a Routed message leaves

module _ (r : Router) (s : State) (is : IsSound r s) (rests : AreSettled r s) (stand : AreStanding r s) (chosen : List (Key × ℕ)) where
  -- the same paths, reservations and labels are known after it
  abbrev IsAlone : Outcome → Type 0
  IsAlone o = let t = known_after r s chosen o in (t.facts.paths ≡ s.facts.paths) × (t.resvs ≡ s.resvs) × (t.labels ≡ s.labels)

  -- where it changes but repairs
  repairs_changed : (repairs : List (Key × Repair)) (reply : Reply) (errors : List Output) → IsAlone (replied reply errors (record s { repairs = repairs }))
  unfolding taken_over repaired repairs_left
  repairs_changed repairs reply errors =
      let same = known-same r s is rests stand reply errors chosen in
      (ap (λ (u : State). u.facts.paths) same, ap (λ (u : State). u.resvs) same, ap (λ (u : State). u.labels) same)

  alone : (t : State) → IsSameButRepairs s t → (reply : Reply) (errors : List Output) → IsAlone (replied reply errors t)
  alone t same reply errors = subst (λ (u : State). IsAlone (replied reply errors u)) (sym same) (repairs_changed t.repairs reply errors)

  alone-refused : IsAlone (refused s NoMatch)
  alone-refused = (refl, refl, refl)

  alone-routed : (content : Content) (hop : Ipv4Addr) → routed_from ways.Routed content ≡ Some hop → IsAlone (routed_arrival r s content)
  alone-routed (contents.Path p) hop from = alone-refused
  alone-routed (contents.Resv v) hop from = returned_resv_by IsAlone r s alone-refused v (λ style reply heard. alone (all_returned r s style v).state (returned-same r s style v) reply (all_returned r s style v).errors)
  alone-routed (contents.PathErr e) hop from = absurd (let e = from in cc)
  alone-routed (contents.ResvErr e) hop from = alone-refused
  alone-routed (contents.PathTear t) hop from = alone-refused
  alone-routed (contents.ResvTear t) hop from = returned_tear_by IsAlone r s alone-refused t (λ test. alone (with_repairs_where test s) refl replies.Done [])

  alone-way : (way : ArrivalWay) (link : ℕ) (reading : Reading) (hop : Ipv4Addr) → routed_from way (content_in reading) ≡ Some hop → IsAlone (arrival_by r s way link reading)
  alone-way ways.Hop link reading hop from = absurd (let e = from in cc)
  alone-way ways.Stack link reading hop from = absurd (let e = from in cc)
  alone-way ways.Routed link (readings.Whole content) hop from = alone-routed content hop from
  alone-way ways.Routed link (readings.Unknown content class ctype) hop from =
      unknown_routed_by IsAlone r s class ctype content (λ v. returned_unknown_by IsAlone r s alone-refused v class ctype (λ repair. let o = returned_failed r s v (unknown_object class ctype) repair in alone s refl o.reply o.errors)) (alone-routed content hop from)

  alone-arrival : (a : Arrive) (hop : Ipv4Addr) → routed_from a.way (content_in a.reading) ≡ Some hop → IsAlone (arrival r s a)
  unfolding arrival
  alone-arrival a hop from =
      cond_both (is_none (link_at r a.link)) (refused s UnknownLink) _ IsAlone (λ none. (refl, refl, refl))
      (λ there. cond_both (not (is_up s.facts.up a.link)) (refused s LinkDown) _ IsAlone (λ down. (refl, refl, refl)) (λ up. alone-way a.way a.link a.reading hop from))

-- What comes from the end of a bypass touches no path, no reservation and no label.
pub repairs_alone : (r : Router) (before after : State) (made : Made) (arrived : Arrive) (hop : Ipv4Addr) → IsSound r before → AreSettled r before → AreStanding r before → Step r before made after → made.event ≡ events.Arrive arrived
    → routed_from arrived.way (content_in arrived.reading) ≡ Some hop → (after.facts.paths ≡ before.facts.paths) × (after.resvs ≡ before.resvs) × (after.labels ≡ before.labels)
repairs_alone r before after made arrived hop is rests stand x event from =
    subst (λ (t : State). (t.facts.paths ≡ before.facts.paths) × (t.resvs ≡ before.resvs) × (t.labels ≡ before.labels)) (sym (led r before after made (events.Arrive arrived) (arrival r before arrived) x event refl))
    (alone-arrival r before is rests stand made.labels arrived hop from)
