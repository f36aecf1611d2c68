-- The LSPs that a message touches, and that its step leaves all others as they were.
use Rattle.std.specs.Prelude.{◌≡◌, ◌&&◌, ◌||◌, ◌==◌, ℕ, not, Bool, true, false, if◌then◌else◌, T, List, [], ◌∷◌, filter, filter_map, find as find_first, fold, map, Option, Some, None, is_none, is_some, IfSome}
use Rattle.std.specs.Bool.{then_some}
use Rattle.std.specs.FinMap.Entries.{find, find-where_key, is_sorted, is_sorted-put, is_sorted-where_key, put}
use Rattle.std.specs.List.{AllByRecursion, cons_option, list_any}
use Rattle.std.specs.Option.{option_and_then, option_map, option_map_or, option_or}
use Rattle.std.specs.Ordering.{is_eq}
use Rattle.std.proofs.Common.{refl, sym, ap, subst, ◌∙◌}
use Rattle.std.proofs.lemmas.Bool.{and_parts, cond_both, not-false}
use Rattle.std.proofs.lemmas.Cmp.{eq_by_cmp_equiv}
use Rattle.std.proofs.lemmas.List.Folds.{list_any-append}
use Rattle.rsvp_contents.specs.declared.message.Reading.TheVariants as readings
use Rattle.rsvp_contents.specs.declared.message.Reading.{Reading}
use Rattle.rsvp_contents.specs.declared.messages.Content.TheVariants as contents
use Rattle.rsvp_contents.specs.declared.messages.Content.{Content}
use Rattle.rsvp_contents.specs.declared.messages.Path.{Path}
use Rattle.rsvp_contents.specs.declared.messages.PathErr.{PathErr}
use Rattle.rsvp_contents.specs.declared.messages.PathTear.{PathTear}
use Rattle.rsvp_contents.specs.declared.messages.Resv.{Resv}
use Rattle.rsvp_contents.specs.declared.messages.ResvErr.{ResvErr}
use Rattle.rsvp_contents.specs.declared.messages.ResvTear.{ResvTear}
use Rattle.rsvp_contents.specs.declared.descriptors.FlowDescriptor.{FlowDescriptor}
use Rattle.rsvp_objects.specs.declared.values.ErrorSpec.{ErrorSpec}
use Rattle.rsvp_objects.specs.declared.values.Template.{Template}
use Rattle.sorted_rows.specs.ListLaws.{all-filter}
use Rattle.sorted_rows.specs.Rows.{keys_of}
use Rattle.sorted_rows.specs.RowsLaws.{all-put, find-all_row, find-filter, find-put_other, find-removed_other, is_some-find_both, is_sorted-filter}
use Rattle.lsr_facts.specs.Lifetimes.{begins_here}
use Rattle.lsr_facts.specs.OrderLaws.{key_exact, key_total}
use Rattle.lsr_facts.specs.Orders.{key_cmp}
use Rattle.lsr_facts.specs.Routers.{link_at}
use Rattle.lsr_facts.specs.declared.errors.RsvpError.{RsvpError}
use Rattle.lsr_facts.specs.declared.facts.Facts.{Facts}
use Rattle.lsr_facts.specs.declared.key.Key.{Key}
use Rattle.lsr_facts.specs.declared.path_fact.PathFact.{PathFact}
use Rattle.lsr_facts.specs.declared.refusal.Refusal.TheVariants.{LinkDown, NoMatch, UnknownLink}
use Rattle.lsr_facts.specs.declared.router.Router.{Router}
use Rattle.lsr_facts.specs.Reservations.{style_of}
use Rattle.lsr_facts.specs.declared.repair.Repair.{Repair}
use Rattle.lsr_facts.specs.declared.resv_fact.ResvFact.{ResvFact}
use Rattle.lsr_facts.specs.declared.resv_fact.ResvStyle.{ResvStyle}
use Rattle.abstract_paths.specs.declared.ways.ArrivalWay.{ArrivalWay}
use Rattle.abstract_paths.specs.declared.ways.ArrivalWay.TheVariants as ways
use Rattle.abstract_paths.specs.declared.ways.Arrive.{Arrive}
use Rattle.abstract_paths.specs.declared.events.Event.TheVariants as events
use Rattle.abstract_paths.specs.declared.events.Made.{Made}
use Rattle.abstract_paths.specs.declared.events.Output.{Output}
use Rattle.abstract_paths.proofs.Alongside.{with_noted-same}
use Rattle.abstract_paths.specs.Changes.{without_path}
use Rattle.abstract_paths.specs.Heads.{with_noted}
use Rattle.abstract_paths.specs.Merging.{came_through, may_join, stack_path_arrival, stack_tear_arrival, with_stack}
use Rattle.abstract_paths.specs.Outcomes as paths
use Rattle.abstract_paths.specs.Outcomes.{lsp}
use Rattle.abstract_paths.specs.Paths.{key_of, path_arrival}
use Rattle.abstract_paths.specs.Places.{is_up}
use Rattle.abstract_paths.specs.StampLaws.{none-is}
use Rattle.abstract_paths.specs.Tears.{err_of_path, leaves_by, path_err_arrival, path_tear_arrival}
use Rattle.abstract_paths.specs.TouchedLaws.{find-made}
use Rattle.abstract_router.specs.Assigning.{assignments_left, fits_share}
use Rattle.abstract_router.specs.Arrivals.{arrival_by, arrival, is_done, labelled_path_arrival, message_arrival, reading_arrival, routed_arrival, stack_arrival, unknown_routed_arrival, unknown_stack_arrival}
use Rattle.abstract_router.specs.BypassTunnels.{bypass_tunnels_of, over_at}
use Rattle.lsr_facts.specs.Errors.{unknown_style}
use Rattle.abstract_router.specs.Labels.{has_free_label, labels_after}
use Rattle.abstract_router.specs.Outcomes.{Outcome, of_paths, refused}
use Rattle.abstract_router.specs.Preempting.{giving_way}
use Rattle.abstract_router.specs.Reserving.{Failed, Granted, PassedOver, Progress, Verdict, all_descriptors, carried_on, key_in, next_descriptor, resv_arrival, resv_by, resv_failed, resv_replied, unknown_resv, verdict_by_style, verdict_of}
use Rattle.abstract_router.specs.Repairing.{repair_stands, repairs_left}
use Rattle.abstract_router.specs.Returning.{all_returned, carried_back, next_returned, renewed, repair_from, returned_keys, returned_resv, returned_tear, the_one, torn_back}
use Rattle.abstract_router.specs.Soundness.{IsSound}
use Rattle.abstract_router.specs.States.{State, is_one_of}
use Rattle.abstract_router.specs.Steps.{Step, given_up, known_after, labelled, left_standing, promised, resvs_left, settled, stands, taken_over, with_moments}
use Rattle.abstract_router.specs.Tearing.{err_onward, is_resv_torn_by, resv_err_passed_on, resv_err_arrival, resv_tear_arrival, stack_err_arrival, stack_err_onward}
use Rattle.router_soundness.proofs.OtherWays.{returned_err_by, returned_unknown_by}
use Rattle.router_soundness.proofs.Silence.{silent_keeps}
use Rattle.router_laws.specs.Words.{where_up}
use Rattle.router_laws.specs.TouchedBy.{lsp_of_path, touched_beyond, touched_beyond_unknown, touched_by, touched_by_descriptors, touched_by_message, touched_by_reading, touched_by_renewal, touched_by_renewed, touched_by_resv, touched_by_returned, touched_by_returned_resv, touched_by_verdict, touched_by_way, touched_through, touched_through_unknown}
use Rattle.router_laws.proofs.Arriving.{err_leaves, err_of_path_leaves, path_leaves, stack_path_leaves, stack_tear_leaves, tear_leaves}
use Rattle.router_laws.proofs.GivenUp.{path_left}
use Rattle.router_laws.proofs.Led.{led}
use Rattle.router_laws.proofs.NoneRepaired.{AreOverUp, over-up, repaired-same}
use Rattle.router_laws.proofs.Settled.{runs_for}

-- neither of two tests passes
pub neither : (a b : Bool) → (a || b) ≡ false → (a ≡ false) × (b ≡ false)
neither true b h = absurd (let e = h in cc)
neither false b h = (refl, h)

-- keys that don't tie don't the other way round
pub apart-back : (k q : Key) → is_eq (key_cmp k q) ≡ false → is_eq (key_cmp q k) ≡ false
apart-back k q apart = (eq_by_cmp_equiv key_total).symm q k ∙ apart

-- What an event does of itself: the same links are up, no label changes, each reservation is over a link that is up, and
-- the LSPs that aren't touched have the path, the reservation and the repair that they had.
pub record Keeps (touched : Key → Bool) (before after : State) : Type 0 where
  pub up : after.facts.up ≡ before.facts.up
  pub labels : after.labels ≡ before.labels
  pub paths_in_order : T (is_sorted key_cmp after.facts.paths)
  pub resvs_in_order : T (is_sorted key_cmp after.resvs)
  pub repairs_in_order : T (is_sorted key_cmp after.repairs)
  pub over_up : AreOverUp after
  pub paths : (key : Key) → touched key ≡ false → find key_cmp key after.facts.paths ≡ find key_cmp key before.facts.paths
  pub resvs : (key : Key) → touched key ≡ false → find key_cmp key after.resvs ≡ find key_cmp key before.resvs
  pub repairs : (key : Key) → touched key ≡ false → find key_cmp key after.repairs ≡ find key_cmp key before.repairs

-- What is left of LSPs that aren't touched: each has the path, the reservation and the label that it had, and the repair
-- where its bypass is up; and the same links are up.
pub record IsLeft (r : Router) (touched : Key → Bool) (before after : State) : Type 0 where
  pub up : after.facts.up ≡ before.facts.up
  pub paths : (key : Key) → touched key ≡ false → find key_cmp key after.facts.paths ≡ find key_cmp key before.facts.paths
  pub resvs : (key : Key) → touched key ≡ false → find key_cmp key after.resvs ≡ find key_cmp key before.resvs
  pub labels : (key : Key) → touched key ≡ false → find key_cmp key after.labels ≡ find key_cmp key before.labels
  pub repairs : (key : Key) → touched key ≡ false → find key_cmp key after.repairs ≡ option_and_then (where_up r after) (find key_cmp key before.repairs)

-- no LSP that isn't touched is one of these
abbrev AreTouched : (Key → Bool) → List Key → Type 0
AreTouched touched keys = (key : Key) → touched key ≡ false → is_one_of keys key ≡ false

-- the one LSP that is touched
one : (touched : Key → Bool) (own : Key) → AreTouched touched (own ∷ []) → (key : Key) → touched key ≡ false → is_eq (key_cmp own key) ≡ false
one touched own among key apart = (neither (is_eq (key_cmp own key)) false (among key apart)).0

-- and what one does of itself to paths
record KeepsPaths (touched : Key → Bool) (before after : Facts) : Type 0 where
  up : after.up ≡ before.up
  in_order : T (is_sorted key_cmp after.paths)
  paths : (key : Key) → touched key ≡ false → find key_cmp key after.paths ≡ find key_cmp key before.paths

module _ (touched : Key → Bool) (s : Facts) (sorted : T (is_sorted key_cmp s.paths)) where
  paths-stay : KeepsPaths touched s s
  paths-stay = record { up = refl; in_order = sorted; paths = λ key apart. refl }

  module _ (own : Key) (apart : (key : Key) → touched key ≡ false → is_eq (key_cmp own key) ≡ false) where
    path-put : (fact : PathFact) → KeepsPaths touched s (record s { paths = put key_cmp own fact s.paths })
    path-put fact = record {
      up = refl;
      in_order = is_sorted-put key_cmp key_total own fact s.paths sorted;
      paths = λ key other. find-put_other key_cmp key_total key own fact s.paths (apart-back own key (apart key other));
    }

    path-gone : KeepsPaths touched s (without_path own s)
    path-gone = record {
      up = refl;
      in_order = is_sorted-filter key_cmp (λ path. not (is_eq (key_cmp own path.0))) s.paths sorted;
      paths = λ key other. find-removed_other key_cmp key_total key own s.paths (apart key other);
    }

  path-keeps : (r : Router) (link : ℕ) (p : Path) → ((key : Key) → touched key ≡ false → is_eq (key_cmp (key_of p) key) ≡ false) → KeepsPaths touched s (path_arrival r s link p).after
  path-keeps r link p apart = path_leaves s (KeepsPaths touched s) paths-stay r link p (path-put (key_of p) apart)

  tear-keeps : (link : ℕ) (t : PathTear) → ((key : Key) → touched key ≡ false → is_eq (key_cmp (lsp t.session t.sender) key) ≡ false) → KeepsPaths touched s (path_tear_arrival s link t).after
  tear-keeps link t apart = tear_leaves s (KeepsPaths touched s) paths-stay link t (path-put (lsp t.session t.sender) apart) (path-gone (lsp t.session t.sender) apart)

  noted-keeps : (e : ErrorSpec) (number : ℕ) → KeepsPaths touched s (with_noted e number s)
  noted-keeps e number =
      let same = with_noted-same e number s in
      record { up = ap (λ (x : Facts). x.up) same; in_order = subst (λ (x : Facts). T (is_sorted key_cmp x.paths)) (sym same) sorted; paths = λ key apart. ap (λ (x : Facts). find key_cmp key x.paths) same }

  err-keeps : (r : Router) (link : ℕ) (e : PathErr) → KeepsPaths touched s (path_err_arrival r s link e).after
  err-keeps r link e = err_leaves s (KeepsPaths touched s) paths-stay r link e (noted-keeps e.error e.session.tunnel)

  -- a PathErr that is for the LSP of a path
  err_of_path-keeps : (r : Router) (key : Key) (e : PathErr) (fact : PathFact) → KeepsPaths touched s (err_of_path r s key e fact).after
  err_of_path-keeps r key e fact = err_of_path_leaves s (KeepsPaths touched s) paths-stay r key e fact (noted-keeps e.error e.session.tunnel)

  -- what comes through a stack
  stack_path-keeps : (p : Path) → AreTouched touched (lsp_of_path (the_one (filter (may_join (key_of p)) s.paths))) → KeepsPaths touched s (stack_path_arrival s p).after
  stack_path-keeps p among =
      stack_path_leaves s (KeepsPaths touched s) paths-stay p
      (λ path only. path-put path.0 (one touched path.0 (subst (λ (rows : List (Key × PathFact)). AreTouched touched (lsp_of_path (the_one rows))) only among)) (with_stack s.moment p path.1))

  stack_tear-keeps : (t : PathTear) → AreTouched touched (lsp_of_path (find_first (came_through (lsp t.session t.sender)) s.paths)) → KeepsPaths touched s (stack_tear_arrival s t).after
  stack_tear-keeps t among =
      stack_tear_leaves s (KeepsPaths touched s) paths-stay t
      (λ path found. let apart = one touched path.0 (subst (λ (o : Option (Key × PathFact)). AreTouched touched (lsp_of_path o)) found among) in (path-put path.0 apart, path-gone path.0 apart))

module _ (r : Router) (touched : Key → Bool) (s : State) (is : IsSound r s) where
  stays : Keeps touched s s
  stays = record {
    up = refl;
    labels = refl;
    paths_in_order = is.paths.paths.in_order;
    resvs_in_order = is.held.in_order;
    repairs_in_order = is.repaired.in_order;
    over_up = over-up r s is;
    paths = λ key apart. refl;
    resvs = λ key apart. refl;
    repairs = λ key apart. refl;
  }

  of_paths-keeps : (o : paths.PathOutcome) → KeepsPaths touched s.facts o.after → Keeps touched s (of_paths s o).after
  of_paths-keeps o keeps = record {
    up = keeps.up;
    labels = refl;
    paths_in_order = keeps.in_order;
    resvs_in_order = is.held.in_order;
    repairs_in_order = is.repaired.in_order;
    over_up = subst (λ up. AllByRecursion (λ resv. is_up up resv.1.link ≡ true) s.resvs) (sym keeps.up) (over-up r s is);
    paths = keeps.paths;
    resvs = λ key apart. refl;
    repairs = λ key apart. refl;
  }

  -- one descriptor
  verdict-keeps : (link : ℕ) (v : Resv) (d : FlowDescriptor) (fact : ResvFact) (progress : Progress) (verdict : Verdict) → is_up s.facts.up fact.link ≡ true → AreTouched touched (touched_by_verdict r progress.state (key_in v d) fact verdict) → Keeps touched s progress.state
      → Keeps touched s (carried_on r link v d fact progress verdict).state
  verdict-keeps link v d fact progress (Failed e) up among keeps = keeps
  verdict-keeps link v d fact progress PassedOver up among keeps = keeps
  verdict-keeps link v d fact progress Granted up among keeps =
      let own = key_in v d in
      let gone = giving_way r progress.state own fact in
      let left : Key → Bool = λ k. not (is_one_of gone k) in
      record {
        up = keeps.up;
        labels = keeps.labels;
        paths_in_order = keeps.paths_in_order;
        resvs_in_order = is_sorted-put key_cmp key_total own fact (filter (λ resv. left resv.0) progress.state.resvs) (is_sorted-where_key key_cmp left progress.state.resvs keeps.resvs_in_order);
        repairs_in_order = keeps.repairs_in_order;
        over_up = all-put key_cmp (λ resv. is_up progress.state.facts.up resv.link ≡ true) own fact (ap (λ links. is_up links fact.link) keeps.up ∙ up) (filter (λ resv. left resv.0) progress.state.resvs)
            (all-filter (λ resv. is_up progress.state.facts.up resv.1.link ≡ true) (λ resv. left resv.0) progress.state.resvs keeps.over_up);
        paths = keeps.paths;
        resvs = λ key apart.
            let other = neither (is_eq (key_cmp own key)) (is_one_of gone key) (among key apart) in
            find-put_other key_cmp key_total key own fact (filter (λ resv. left resv.0) progress.state.resvs) (apart-back own key other.0)
            ∙ find-where_key key_cmp left key (λ x tie. ap left (sym (key_exact key x tie))) progress.state.resvs
            ∙ ap (λ b. if not b then find key_cmp key progress.state.resvs else None) other.1
            ∙ keeps.resvs key apart;
        repairs = keeps.repairs;
      }

  -- and all of them
  descriptors-keep : (link : ℕ) (style : ResvStyle) (v : Resv) (ds : List FlowDescriptor) (progress : Progress) → is_up s.facts.up link ≡ true → AreTouched touched (touched_by_descriptors r link style v progress ds) → Keeps touched s progress.state
      → Keeps touched s (fold (next_descriptor r link style v) progress ds).state
  descriptors-keep link style v [] progress up among keeps = keeps
  descriptors-keep link style v (d ∷ ds) progress up among keeps =
      let fact = resv_by progress.state.facts.moment link style v d in
      let verdict = verdict_of r progress.state (key_in v d) fact in
      let next = next_descriptor r link style v progress d in
      let each = λ (key : Key) (apart : touched key ≡ false). neither _ _ (sym (list_any-append (λ k. is_eq (key_cmp k key)) (touched_by_verdict r progress.state (key_in v d) fact verdict) (touched_by_descriptors r link style v next ds)) ∙ among key apart) in
      descriptors-keep link style v ds next up (λ key apart. (each key apart).1) (verdict-keeps link v d fact progress verdict up (λ key apart. (each key apart).0) keeps)

  resv-keeps : (link : ℕ) (v : Resv) → is_up s.facts.up link ≡ true → AreTouched touched (touched_by_resv r s link v) → Keeps touched s (resv_arrival r s link v).after
  unfolding resv_arrival
  resv-keeps link v up = by_style (style_of v.style)
    where
      by_first : (progress : Progress) → Keeps touched s progress.state → (first : Option RsvpError) → Keeps touched s (resv_replied s progress first).after
      by_first progress keeps (Some e) = keeps
      by_first progress keeps None = cond_both progress.has_granted _ (refused s NoMatch) (λ (o : Outcome). Keeps touched s o.after) (λ some. keeps) (λ none. stays)

      by_style : (style : Option ResvStyle)
          → AreTouched touched (option_map_or (λ style. touched_by_descriptors r link style v (record { state = s; errors = []; first = None; has_granted = false }) v.descriptors) style [])
          → Keeps touched s (option_map_or (λ style. let progress = all_descriptors r s link style v in resv_replied s progress progress.first) style (resv_failed r s link v false [] unknown_style)).after
      by_style None among = stays
      by_style (Some style) among =
          let progress = all_descriptors r s link style v in
          by_first progress (descriptors-keep link style v v.descriptors (record { state = s; errors = []; first = None; has_granted = false }) up among stays) progress.first

  resv_tear-keeps : (link : ℕ) (t : ResvTear) → AreTouched touched (map (lsp t.session) t.filters) → Keeps touched s (resv_tear_arrival s link t).after
  unfolding resv_tear_arrival
  resv_tear-keeps link t among =
      cond_both (list_any (is_resv_torn_by link t) s.resvs) _ (refused s NoMatch) (λ (o : Outcome). Keeps touched s o.after)
      (λ some. record {
        up = refl;
        labels = refl;
        paths_in_order = is.paths.paths.in_order;
        resvs_in_order = is_sorted-filter key_cmp left s.resvs is.held.in_order;
        repairs_in_order = is.repaired.in_order;
        over_up = all-filter (λ resv. is_up s.facts.up resv.1.link ≡ true) left s.resvs (over-up r s is);
        paths = λ key apart. refl;
        resvs = λ key apart.
            find-filter key_cmp key_total left key (λ k v tied. ap (λ q. left (q, v)) (sym (key_exact key k tied))) s.resvs is.held.in_order
            ∙ kept key (find key_cmp key s.resvs) (named key t.filters ∙ among key apart);
        repairs = λ key apart. refl;
      })
      (λ none. stays)
    where
      left : Key × ResvFact → Bool
      left resv = not (is_resv_torn_by link t resv)

      named : (key : Key) (filters : List Template) → list_any (λ f. is_eq (key_cmp (lsp t.session f) key)) filters ≡ is_one_of (map (lsp t.session) filters) key
      named key [] = refl
      named key (f ∷ fs) = ap (λ b. is_eq (key_cmp (lsp t.session f) key) || b) (named key fs)

      none_torn : (on : Bool) → not (on && false) ≡ true
      none_torn true = refl
      none_torn false = refl

      kept : (key : Key) (o : Option ResvFact) → list_any (λ f. is_eq (key_cmp (lsp t.session f) key)) t.filters ≡ false → option_and_then (λ v. then_some (left (key, v)) v) o ≡ o
      kept key None other = refl
      kept key (Some v) other = ap (λ b. then_some (not ((v.link == link) && b)) v) other ∙ ap (λ b. then_some b v) (none_torn (v.link == link))

  passed_on-keeps : (matched : List (List Output)) → Keeps touched s (resv_err_passed_on s matched).after
  passed_on-keeps [] = stays
  passed_on-keeps (told ∷ more) = stays

  resv_err-keeps : (link : ℕ) (e : ResvErr) → Keeps touched s (resv_err_arrival r s link e).after
  unfolding resv_err_arrival
  resv_err-keeps link e = passed_on-keeps (filter_map (err_onward r s link e) e.descriptors)

  stack_err-keeps : (e : ResvErr) → Keeps touched s (stack_err_arrival r s e).after
  unfolding stack_err_arrival
  stack_err-keeps e = passed_on-keeps (filter_map (stack_err_onward r s e) e.descriptors)

  labelled_path-keeps : (link : ℕ) (p : Path) → AreTouched touched (key_of p ∷ []) → Keeps touched s (labelled_path_arrival r s link p).after
  unfolding labelled_path_arrival
  labelled_path-keeps link p among =
      cond_both (is_done (path_arrival r s.facts link p).reply && is_none (find key_cmp (key_of p) s.facts.paths) && not (has_free_label r s.labels s.resting)) _ _ (λ (o : Outcome). Keeps touched s o.after) (λ full. stays)
      (λ room. of_paths-keeps (path_arrival r s.facts link p) (path-keeps touched s.facts is.paths.paths.in_order r link p (one touched (key_of p) among)))

  message-keeps : (link : ℕ) (content : Content) → is_up s.facts.up link ≡ true → AreTouched touched (touched_by_message r s link content) → Keeps touched s (message_arrival r s link content).after
  message-keeps link (contents.Path p) up among = labelled_path-keeps link p among
  message-keeps link (contents.Resv v) up among = resv-keeps link v up among
  message-keeps link (contents.PathErr e) up among = of_paths-keeps (path_err_arrival r s.facts link e) (err-keeps touched s.facts is.paths.paths.in_order r link e)
  message-keeps link (contents.ResvErr e) up among = resv_err-keeps link e
  message-keeps link (contents.PathTear t) up among = of_paths-keeps (path_tear_arrival s.facts link t) (tear-keeps touched s.facts is.paths.paths.in_order link t (one touched (lsp t.session t.sender) among))
  message-keeps link (contents.ResvTear t) up among = resv_tear-keeps link t among

  reading-keeps : (link : ℕ) (reading : Reading) → is_up s.facts.up link ≡ true → AreTouched touched (touched_by_reading r s link reading) → Keeps touched s (reading_arrival r s link reading).after
  unfolding unknown_resv
  reading-keeps link (readings.Whole content) up among = message-keeps link content up among
  reading-keeps link (readings.Unknown (contents.Path p) class ctype) up among = stays
  reading-keeps link (readings.Unknown (contents.Resv v) class ctype) up among = stays
  reading-keeps link (readings.Unknown (contents.PathErr e) class ctype) up among = message-keeps link (contents.PathErr e) up among
  reading-keeps link (readings.Unknown (contents.ResvErr e) class ctype) up among = message-keeps link (contents.ResvErr e) up among
  reading-keeps link (readings.Unknown (contents.PathTear t) class ctype) up among = message-keeps link (contents.PathTear t) up among
  reading-keeps link (readings.Unknown (contents.ResvTear t) class ctype) up among = message-keeps link (contents.ResvTear t) up among

  -- what comes through a stack
  stack-keeps : (content : Content) → AreTouched touched (touched_through s content) → Keeps touched s (stack_arrival r s content).after
  stack-keeps (contents.Path p) among = of_paths-keeps (stack_path_arrival s.facts p) (stack_path-keeps touched s.facts is.paths.paths.in_order p among)
  stack-keeps (contents.Resv v) among = stays
  stack-keeps (contents.PathErr e) among = stays
  stack-keeps (contents.ResvErr e) among = stack_err-keeps e
  stack-keeps (contents.PathTear t) among = of_paths-keeps (stack_tear_arrival s.facts t) (stack_tear-keeps touched s.facts is.paths.paths.in_order t among)
  stack-keeps (contents.ResvTear t) among = stays

  unknown_stack-keeps : (content : Content) (class ctype : ℕ) → AreTouched touched (touched_through_unknown s content) → Keeps touched s (unknown_stack_arrival r s content class ctype).after
  unknown_stack-keeps (contents.Path p) class ctype among = stays
  unknown_stack-keeps (contents.Resv v) class ctype among = stays
  unknown_stack-keeps (contents.PathErr e) class ctype among = stays
  unknown_stack-keeps (contents.ResvErr e) class ctype among = stack_err-keeps e
  unknown_stack-keeps (contents.PathTear t) class ctype among = stack-keeps (contents.PathTear t) among
  unknown_stack-keeps (contents.ResvTear t) class ctype among = stays

  -- a descriptor of a Resv from the end of a bypass
  renewal-keeps : (v : Resv) (d : FlowDescriptor) (repair : Key × Repair) (fact : ResvFact) (progress : Progress) (verdict : Verdict) → AreTouched touched (touched_by_renewal repair.0 verdict) → Keeps touched s progress.state
      → Keeps touched s (carried_back r v d repair fact progress verdict).state
  renewal-keeps v d repair fact progress (Failed e) among keeps = keeps
  renewal-keeps v d repair fact progress PassedOver among keeps = keeps
  renewal-keeps v d repair fact progress Granted among keeps =
      let new : Repair = record repair.1 { resv = fact } in
      record {
        up = keeps.up;
        labels = keeps.labels;
        paths_in_order = keeps.paths_in_order;
        resvs_in_order = keeps.resvs_in_order;
        repairs_in_order = is_sorted-put key_cmp key_total repair.0 new progress.state.repairs keeps.repairs_in_order;
        over_up = keeps.over_up;
        paths = keeps.paths;
        resvs = keeps.resvs;
        repairs = λ key apart. find-put_other key_cmp key_total key repair.0 new progress.state.repairs (apart-back repair.0 key (one touched repair.0 among key apart)) ∙ keeps.repairs key apart;
      }

  -- and all of them
  returned-keep : (style : ResvStyle) (v : Resv) (ds : List FlowDescriptor) (progress : Progress) → AreTouched touched (touched_by_returned r style v progress ds) → Keeps touched s progress.state
      → Keeps touched s (fold (next_returned r style v) progress ds).state
  returned-keep style v [] progress among keeps = keeps
  returned-keep style v (d ∷ ds) progress among keeps =
      let for = repair_from r progress.state v.hop.address (lsp v.session d.filter) in
      let next = next_returned r style v progress d in
      let each = λ (key : Key) (apart : touched key ≡ false). neither _ _ (sym (list_any-append (λ k. is_eq (key_cmp k key)) (option_map_or (touched_by_renewed r style v d progress.state) for []) (touched_by_returned r style v next ds)) ∙ among key apart) in
      returned-keep style v ds next (λ key apart. (each key apart).1) (by for (λ key apart. (each key apart).0))
    where
      by : (o : Option (Key × Repair)) → AreTouched touched (option_map_or (touched_by_renewed r style v d progress.state) o []) → Keeps touched s (option_map_or (renewed r style v d progress) o progress).state
      by None among = keeps
      by (Some repair) among =
          let fact = resv_by progress.state.facts.moment repair.1.resv.link style v d in
          renewal-keeps v d repair fact progress (verdict_by_style r progress.state repair.0 fact (fits_share progress.state repair.0 fact)) among keeps

  -- what comes in a Routed frame
  returned_resv-keeps : (v : Resv) → AreTouched touched (touched_by_returned_resv r s v) → Keeps touched s (returned_resv r s v).after
  unfolding returned_resv
  returned_resv-keeps v = by_style (style_of v.style)
    where
      by_first : (progress : Progress) → Keeps touched s progress.state → (first : Option RsvpError) → Keeps touched s (resv_replied s progress first).after
      by_first progress keeps (Some e) = keeps
      by_first progress keeps None = cond_both progress.has_granted _ (refused s NoMatch) (λ (o : Outcome). Keeps touched s o.after) (λ some. keeps) (λ none. stays)

      by_style : (style : Option ResvStyle) → AreTouched touched (option_map_or (λ style. touched_by_returned r style v (record { state = s; errors = []; first = None; has_granted = false }) v.descriptors) style [])
          → Keeps touched s (option_map_or (λ style. let progress = all_returned r s style v in resv_replied s progress progress.first) style (refused s NoMatch)).after
      by_style None among = stays
      by_style (Some style) among =
          let progress = all_returned r s style v in
          by_first progress (returned-keep style v v.descriptors (record { state = s; errors = []; first = None; has_granted = false }) among stays) progress.first

  returned_tear-keeps : (t : ResvTear) → AreTouched touched (returned_keys r s t) → Keeps touched s (returned_tear r s t).after
  unfolding returned_tear
  returned_tear-keeps t = by (returned_keys r s t)
    where
      by : (keys : List Key) → AreTouched touched keys → Keeps touched s (torn_back s keys).after
      by [] among = stays
      by (key ∷ keys) among =
          let left : Key → Bool = λ k. not (is_one_of (key ∷ keys) k) in
          record {
            up = refl;
            labels = refl;
            paths_in_order = is.paths.paths.in_order;
            resvs_in_order = is.held.in_order;
            repairs_in_order = is_sorted-where_key key_cmp left s.repairs is.repaired.in_order;
            over_up = over-up r s is;
            paths = λ k apart. refl;
            resvs = λ k apart. refl;
            repairs = λ k apart. find-where_key key_cmp left k (λ x tie. ap left (sym (key_exact k x tie))) s.repairs ∙ ap (λ b. if not b then find key_cmp k s.repairs else None) (among k apart);
          }

  routed-keeps : (content : Content) → AreTouched touched (touched_beyond r s content) → Keeps touched s (routed_arrival r s content).after
  routed-keeps (contents.Path p) among = stays
  routed-keeps (contents.Resv v) among = returned_resv-keeps v among
  routed-keeps (contents.PathErr e) among =
      returned_err_by (λ (o : Outcome). Keeps touched s o.after) r s stays e (λ key path. of_paths-keeps (err_of_path r s.facts key e path) (err_of_path-keeps touched s.facts is.paths.paths.in_order r key e path))
  routed-keeps (contents.ResvErr e) among = stays
  routed-keeps (contents.PathTear t) among = stays
  routed-keeps (contents.ResvTear t) among = returned_tear-keeps t among

  unknown_routed-keeps : (content : Content) (class ctype : ℕ) → AreTouched touched (touched_beyond_unknown r s content) → Keeps touched s (unknown_routed_arrival r s content class ctype).after
  unknown_routed-keeps (contents.Path p) class ctype among = stays
  unknown_routed-keeps (contents.Resv v) class ctype among = returned_unknown_by (λ (o : Outcome). Keeps touched s o.after) r s stays v class ctype (λ repair. stays)
  unknown_routed-keeps (contents.PathErr e) class ctype among = routed-keeps (contents.PathErr e) among
  unknown_routed-keeps (contents.ResvErr e) class ctype among = stays
  unknown_routed-keeps (contents.PathTear t) class ctype among = stays
  unknown_routed-keeps (contents.ResvTear t) class ctype among = routed-keeps (contents.ResvTear t) among

  way-keeps : (way : ArrivalWay) (link : ℕ) (reading : Reading) → is_up s.facts.up link ≡ true → AreTouched touched (touched_by_way r s way link reading) → Keeps touched s (arrival_by r s way link reading).after
  way-keeps ways.Hop link reading up among = reading-keeps link reading up among
  way-keeps ways.Stack link (readings.Whole content) up among = stack-keeps content among
  way-keeps ways.Stack link (readings.Unknown content class ctype) up among = unknown_stack-keeps content class ctype among
  way-keeps ways.Routed link (readings.Whole content) up among = routed-keeps content among
  way-keeps ways.Routed link (readings.Unknown content class ctype) up among = unknown_routed-keeps content class ctype among

  pub arrival-keeps : (a : Arrive) → AreTouched touched (touched_by_way r s a.way a.link a.reading) → Keeps touched s (arrival r s a).after
  unfolding arrival
  arrival-keeps a among =
      cond_both (is_none (link_at r a.link)) (refused s UnknownLink) _ (λ (o : Outcome). Keeps touched s o.after) (λ none. stays)
      (λ there. cond_both (not (is_up s.facts.up a.link)) (refused s LinkDown) _ (λ (o : Outcome). Keeps touched s o.after) (λ down. stays) (λ up. way-keeps a.way a.link a.reading (not-false _ up) among))

  -- What follows from it leaves those LSPs as they were.
  module _ (after : State) (keeps : Keeps touched s after) (key : Key) (apart : touched key ≡ false) where
    -- their reservations stand as they stood
    resv-stays : find key_cmp key (filter (stands after.facts) after.resvs) ≡ find key_cmp key s.resvs
    resv-stays =
        find-filter key_cmp key_total (stands after.facts) key (λ k v tied. ap (λ q. stands after.facts (q, v)) (sym (key_exact key k tied))) after.resvs keeps.resvs_in_order
        ∙ ap (option_and_then (λ v. then_some (stands after.facts (key, v)) v)) (keeps.resvs key apart)
        ∙ stood (find key_cmp key s.resvs) (find-all_row key_cmp key_exact (λ resv. stands s.facts resv ≡ true) key s.resvs is.standing)
      where
        alike : (v : ResvFact) → stands after.facts (key, v) ≡ stands s.facts (key, v)
        alike v = λ i. is_up (keeps.up i) v.link && option_map_or (leaves_by v.link) (keeps.paths key apart i) false

        stood : (o : Option ResvFact) → IfSome o (λ v. stands s.facts (key, v) ≡ true) → option_and_then (λ v. then_some (stands after.facts (key, v)) v) o ≡ o
        stood None h = refl
        stood (Some v) h = ap (λ b. then_some b v) (alike v ∙ h)

    -- they are repaired as they were, where the bypass is up
    repair-stays : find key_cmp key (left_standing r after).repairs ≡ option_and_then (where_up r (left_standing r after)) (find key_cmp key s.repairs)
    unfolding repairs_left bypass_tunnels_of
    repair-stays =
        let left = resvs_left after in
        find-filter key_cmp key_total (repair_stands r left) key (λ k v tied. ap (λ q. repair_stands r left (q, v)) (sym (key_exact key k tied))) after.repairs keeps.repairs_in_order
        ∙ ap (option_and_then (λ v. then_some (repair_stands r left (key, v)) v)) (keeps.repairs key apart)
        ∙ stood (find key_cmp key s.repairs) (find-all_row key_cmp key_exact (λ repair. repair_stands r s repair ≡ true) key s.repairs is.repairs_standing)
      where
        by_bypass : (b c : Bool) (repair : Repair) → c ≡ true → then_some (b && c) repair ≡ then_some b repair
        by_bypass true c repair on = ap (λ d. then_some d repair) on
        by_bypass false c repair on = refl

        stood : (o : Option Repair) → IfSome o (λ v. repair_stands r s (key, v) ≡ true) → option_and_then (λ v. then_some (repair_stands r (resvs_left after) (key, v)) v) o ≡ option_and_then (where_up r (resvs_left after)) o
        stood None h = refl
        stood (Some v) h =
            let on = and_parts (is_some (over_at (bypass_tunnels_of r s) v.bypass)) (option_map_or (leaves_by v.resv.link) (find key_cmp key s.facts.paths) false) h in
            by_bypass (is_some (over_at (bypass_tunnels_of r (resvs_left after)) v.bypass)) (option_map_or (leaves_by v.resv.link) (find key_cmp key after.facts.paths) false) v
            (ap (λ o. option_map_or (leaves_by v.resv.link) o false) (keeps.paths key apart) ∙ on.1)

    -- the paths that a label is for
    abbrev ours : Key × PathFact → Bool
    ours path = not (begins_here path.1.role)

    -- what is labelled of the key, by its path
    label-of : (rows : List (Key × PathFact)) → T (is_sorted key_cmp rows) → find key_cmp key (filter ours rows) ≡ option_and_then (λ path. then_some (ours (key, path)) path) (find key_cmp key rows)
    label-of rows h = find-filter key_cmp key_total ours key (λ k v tied. refl) rows h

    -- their labels stay
    label-stays : (chosen : List (Key × ℕ)) → find key_cmp key (labels_after after.labels chosen after.facts.paths) ≡ find key_cmp key s.labels
    unfolding labels_after
    label-stays chosen =
        ap (find key_cmp key) (rowed (filter ours after.facts.paths))
        ∙ find-made key_cmp key_total key_exact given key (filter ours after.facts.paths) (is_sorted-filter key_cmp ours after.facts.paths keeps.paths_in_order)
        ∙ ap (option_and_then (λ path. given (key, path))) (label-of after.facts.paths keeps.paths_in_order ∙ ap (option_and_then (λ path. then_some (ours (key, path)) path)) (keeps.paths key apart) ∙ sym (label-of s.facts.paths is.paths.paths.in_order))
        ∙ by (find key_cmp key (filter ours s.facts.paths)) (find key_cmp key s.labels) (ap (find key_cmp key) keeps.labels) (is_some-find_both key_cmp key s.labels (filter ours s.facts.paths) is.labels.of_lsps)
      where
        given : Key × PathFact → Option ℕ
        given path = option_or (find key_cmp path.0 after.labels) (find key_cmp path.0 chosen)

        rowed : (rows : List (Key × PathFact)) → filter_map {Y = Key × ℕ} (λ k. option_map (λ label. (k, label)) (option_or (find key_cmp k after.labels) (find key_cmp k chosen))) (keys_of rows) ≡ filter_map {Y = Key × ℕ} (λ row. option_map (λ label. (row.0, label)) (given row)) rows
        rowed [] = refl
        rowed (row ∷ rows) = ap (cons_option (option_map (λ label. (row.0, label)) (given row))) (rowed rows)

        by : (path : Option PathFact) (label : Option ℕ) → find key_cmp key after.labels ≡ label → is_some label ≡ is_some path → option_and_then (λ path. given (key, path)) path ≡ label
        by None label was same = sym (none-is label same)
        by (Some path) None was same = absurd (let e = same in cc)
        by (Some path) (Some label) was same = ap (λ o. option_or o (find key_cmp key chosen)) was

  -- those that tunnels give up are touched too
  over-keeps : (after : State) → AreTouched touched (given_up r after) → Keeps touched s after → Keeps touched s (taken_over r after)
  unfolding taken_over
  over-keeps after among keeps = record {
    up = keeps.up;
    labels = keeps.labels;
    paths_in_order = is_sorted-where_key key_cmp (λ k. not (is_one_of (given_up r after) k)) after.facts.paths keeps.paths_in_order;
    resvs_in_order = keeps.resvs_in_order;
    repairs_in_order = keeps.repairs_in_order;
    over_up = keeps.over_up;
    paths = λ key apart. path_left r after key (among key apart) ∙ keeps.paths key apart;
    resvs = keeps.resvs;
    repairs = keeps.repairs;
  }

  -- What a sound state knows is left by itself: each bypass is up that an LSP runs over.
  left-itself : IsLeft r touched s s
  left-itself = record {
    up = refl;
    paths = λ key apart. refl;
    resvs = λ key apart. refl;
    labels = λ key apart. refl;
    repairs = λ key apart. sym (all_up key (find key_cmp key s.repairs) (find-all_row key_cmp key_exact (λ repair. repair_stands r s repair ≡ true) key s.repairs is.repairs_standing));
  }
    where
      all_up : (key : Key) (o : Option Repair) → IfSome o (λ v. repair_stands r s (key, v) ≡ true) → option_and_then (where_up r s) o ≡ o
      all_up key None h = refl
      all_up key (Some v) h = ap (λ b. then_some b v) (and_parts (is_some (over_at (bypass_tunnels_of r s) v.bypass)) (option_map_or (leaves_by v.resv.link) (find key_cmp key s.facts.paths) false) h).0

  -- So a step does.
  pub step-keeps : (o : Outcome) (chosen : List (Key × ℕ)) → (o.is_silent ≡ true → o.after ≡ s) → AreTouched touched (given_up r o.after) → Keeps touched s o.after → IsLeft r touched s (known_after r s chosen o)
  unfolding repairs_left bypass_tunnels_of
  step-keeps o chosen same among keeps = by o.is_silent same
    where
      over : Keeps touched s (promised r o.after)
      over =
          let taken = over-keeps o.after among keeps in
          record {
            up = taken.up;
            labels = taken.labels;
            paths_in_order = taken.paths_in_order;
            resvs_in_order = taken.resvs_in_order;
            repairs_in_order = taken.repairs_in_order;
            over_up = taken.over_up;
            paths = taken.paths;
            resvs = taken.resvs;
            repairs = taken.repairs;
          }

      by : (silent : Bool) → (silent ≡ true → o.after ≡ s) → IsLeft r touched s (if silent then o.after else with_moments r s o (settled r chosen o.after))
      by true same = subst (IsLeft r touched s) (sym (same refl)) left-itself
      by false same =
          subst (λ (t : State). IsLeft r touched s (with_moments r s o (labelled r chosen (assignments_left (left_standing r t))))) (sym (repaired-same r (promised r o.after) over.over_up))
          (record {
            up = over.up;
            paths = over.paths;
            resvs = resv-stays (promised r o.after) over;
            labels = λ key apart. label-stays (promised r o.after) over key apart chosen;
            repairs = repair-stays (promised r o.after) over;
          })

-- a message that is silent changes nothing
silent_message : (r : Router) (s : State) (a : Arrive) → (s.facts.cold ≡ true → events.Arrive a ≡ events.Start) → (arrival r s a).is_silent ≡ true → (arrival r s a).after ≡ s
silent_message r s a awake = silent_keeps r s (events.Arrive a) (runs_for s.facts.cold (events.Arrive a) (λ e. cc) awake) (λ e. cc)

-- In a step of a message the LSPs that it doesn't touch have the path, the reservation and the label that they had, and the
-- repair where its bypass is up; and the same links are up.
pub left-message : (r : Router) (before after : State) (made : Made) (arrived : Arrive) → IsSound r before → Step r before made after → made.event ≡ events.Arrive arrived
    → IsLeft r (is_one_of (touched_by r before arrived)) before after
left-message r before after made arrived is step event =
    let touched = is_one_of (touched_by r before arrived) in
    let o = arrival r before arrived in
    let own = touched_by_way r before arrived.way arrived.link arrived.reading in
    let each = λ (key : Key) (apart : touched key ≡ false). neither _ _ (sym (list_any-append (λ k. is_eq (key_cmp k key)) own (given_up r o.after)) ∙ apart) in
    let same = silent_message r before arrived (λ cold. sym event ∙ step.awake cold) in
    subst (IsLeft r touched before) (sym (led r before after made (events.Arrive arrived) o step event refl))
    (step-keeps r touched before is o made.labels same (λ key apart. (each key apart).1) (arrival-keeps r touched before is arrived (λ key apart. (each key apart).0)))
