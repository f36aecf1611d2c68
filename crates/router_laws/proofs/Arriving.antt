-- What a message that comes leaves of links, paths, tunnels and bypasses: it puts a path or takes one away, or notes an error
-- of a tunnel, and no more.
use Rattle.std.specs.Prelude.{◌≡◌, ◌&&◌, ◌==◌, ℕ, not, nat_le, false, List, [], ◌∷◌, filter, filter_map, find as find_first, fold, length, Option, Some, None, is_none, Result, Ok, Err}
use Rattle.std.specs.FinMap.Entries.{find}
use Rattle.std.specs.List.{list_any}
use Rattle.std.specs.Option.{option_map_or}
use Rattle.std.specs.declared.net.ipv4_addr.Ipv4Addr.{Ipv4Addr}
use Rattle.std.proofs.Common.{refl, ap, sym, subst}
use Rattle.std.proofs.lemmas.Bool.{cond_both}
use Rattle.rsvp_contents.specs.declared.message.Reading.TheVariants as readings
use Rattle.rsvp_contents.specs.declared.message.Reading.{Reading}
use Rattle.rsvp_contents.specs.declared.messages.Content.TheVariants as contents
use Rattle.rsvp_contents.specs.declared.messages.Content.{Content}
use Rattle.rsvp_contents.specs.declared.messages.Path.{Path}
use Rattle.rsvp_contents.specs.declared.messages.PathErr.{PathErr}
use Rattle.rsvp_contents.specs.declared.messages.PathTear.{PathTear}
use Rattle.rsvp_contents.specs.declared.messages.Resv.{Resv}
use Rattle.rsvp_contents.specs.declared.messages.ResvErr.{ResvErr}
use Rattle.rsvp_contents.specs.declared.messages.ResvTear.{ResvTear}
use Rattle.rsvp_contents.specs.declared.descriptors.FlowDescriptor.{FlowDescriptor}
use Rattle.rsvp_objects.specs.declared.values.ErrorSpec.{ErrorSpec}
use Rattle.rsvp_bodies.specs.TokenBuckets.{token_rate}
use Rattle.lsr_facts.specs.Errors.{no_label, system_error, unknown_style}
use Rattle.lsr_facts.specs.Lifetimes.{begins_here}
use Rattle.lsr_facts.specs.Orders.{key_cmp}
use Rattle.lsr_facts.specs.Routers.{link_at}
use Rattle.lsr_facts.specs.Tunnels.{is_head}
use Rattle.lsr_facts.specs.declared.choice.Choice.{Choice}
use Rattle.lsr_facts.specs.declared.errors.RsvpError.{RsvpError}
use Rattle.lsr_facts.specs.declared.facts.Facts.{Facts}
use Rattle.lsr_facts.specs.declared.key.Key.{Key}
use Rattle.lsr_facts.specs.declared.path_fact.Origin.{Origin}
use Rattle.lsr_facts.specs.declared.path_fact.PathFact.{PathFact}
use Rattle.lsr_facts.specs.declared.refusal.Refusal.TheVariants.{LinkDown, NoMatch, UnknownLink}
use Rattle.lsr_facts.specs.declared.router.Router.{Router}
use Rattle.lsr_facts.specs.Reservations.{style_of}
use Rattle.lsr_facts.specs.declared.repair.Repair.{Repair}
use Rattle.lsr_facts.specs.declared.resv_fact.ResvFact.{ResvFact}
use Rattle.lsr_facts.specs.declared.resv_fact.ResvStyle.{ResvStyle}
use Rattle.abstract_paths.specs.declared.events.Output.{Output}
use Rattle.abstract_paths.specs.declared.ways.ArrivalWay.{ArrivalWay}
use Rattle.abstract_paths.specs.declared.ways.ArrivalWay.TheVariants as ways
use Rattle.abstract_paths.specs.declared.ways.Arrive.{Arrive}
use Rattle.abstract_paths.specs.Changes.{with_path, without_path}
use Rattle.abstract_paths.proofs.Merging.{stack_path_by}
use Rattle.abstract_paths.specs.Heads.{with_noted}
use Rattle.abstract_paths.specs.Merging.{came_through, may_join, stack_path_arrival, stack_tear_arrival, with_stack}
use Rattle.abstract_paths.specs.Outcomes as paths
use Rattle.abstract_paths.specs.Outcomes.{lsp}
use Rattle.abstract_paths.specs.Paths.{failed, has_loop, key_of, path_arrival, path_by, path_on_its_way, taken, way_for}
use Rattle.abstract_paths.specs.Places.{is_up, place_of}
use Rattle.abstract_paths.specs.Tears as tears
use Rattle.abstract_paths.specs.Tears.{err_of_path, leaves_by, left_with, origins_without, path_err_arrival, path_err_passed_on, path_tear_arrival, torn}
use Rattle.abstract_router.specs.Assigning.{fits_share}
use Rattle.abstract_router.specs.Arrivals.{arrival, arrival_by, is_done, labelled_path_arrival, message_arrival, reading_arrival, routed_arrival, stack_arrival}
use Rattle.abstract_router.specs.Labels.{has_free_label}
use Rattle.abstract_router.specs.Outcomes.{Outcome, of_paths, refused}
use Rattle.abstract_router.specs.Reserving.{Failed, Granted, PassedOver, Progress, Verdict, all_descriptors, carried_on, key_in, next_descriptor, resv_arrival, resv_by, resv_failed, resv_replied, unknown_resv, verdict_by_style, verdict_of}
use Rattle.abstract_router.specs.Returning.{all_returned, carried_back, next_returned, renewed, repair_from}
use Rattle.abstract_router.specs.States.{State, with_repair}
use Rattle.abstract_router.specs.Tearing.{err_onward, is_resv_torn_by, resv_err_arrival, resv_err_passed_on, resv_tear_arrival, stack_err_arrival, stack_err_onward}
use Rattle.router_soundness.proofs.OtherWays.{returned_err_by, returned_resv_by, returned_tear_by, returned_unknown_by, unknown_routed_by, unknown_stack_by}

-- What holds of what is known holds after a message to paths, where it holds once that message has put its path, or taken it
-- away, or noted its error.
module _ (s : Facts) (P : Facts → Type 0) (stays : P s) where
  pub path_leaves : (r : Router) (link : ℕ) (p : Path) → ((fact : PathFact) → P (with_path (key_of p) fact s)) → P (path_arrival r s link p).after
  unfolding path_arrival path_on_its_way
  path_leaves r link p put =
      cond_both (is_head r s.tunnels (key_of p)) _ _ After (λ head. stays)
      (λ elsewhere. cond_both (not (p.label_request.l3pid == 0x0800)) _ _ After (λ a. stays)
      (λ a. cond_both (is_none (token_rate 1 p.tspec)) _ _ After (λ b. stays)
      (λ b. cond_both (has_loop r p.recorded) _ _ After (λ c. stays)
      (λ c. on_way (way_for (place_of r s) (find key_cmp (key_of p) s.paths) p)))))
    where
      After : paths.PathOutcome → Type 0
      After o = P o.after

      on_way : (way : Result Choice RsvpError) → After (path_on_its_way r s (find key_cmp (key_of p) s.paths) link p way)
      on_way (Err e) = stays
      on_way (Ok way) =
          cond_both (is_none (find key_cmp (key_of p) s.paths) && nat_le 1024 (length s.paths)) (failed r s link p system_error) (taken r s (find key_cmp (key_of p) s.paths) link p way) After
          (λ full. stays) (λ room. put (path_by s.moment (find key_cmp (key_of p) s.paths) link p way))

  -- a path that is left with some of its origins, or goes with them
  left_leaves : (key : Key) (fact : PathFact) (origins : List (Ipv4Addr × Origin)) → ((fact : PathFact) → P (with_path key fact s)) → P (without_path key s) → P (left_with key fact origins s)
  left_leaves key fact [] put gone = gone
  left_leaves key fact (o ∷ os) put gone = put (record fact { origins = o ∷ os })

  pub tear_leaves : (link : ℕ) (t : PathTear) → ((fact : PathFact) → P (with_path (lsp t.session t.sender) fact s)) → P (without_path (lsp t.session t.sender) s) → P (path_tear_arrival s link t).after
  unfolding path_tear_arrival
  tear_leaves link t put gone = by (find key_cmp (lsp t.session t.sender) s.paths)
    where
      by : (known : Option PathFact) → P (torn s link t known).after
      by None = stays
      by (Some fact) =
          cond_both (tears.is_torn_by link t fact) _ _ (λ (o : paths.PathOutcome). P o.after) (λ a. left_leaves (lsp t.session t.sender) fact (origins_without t.sender.sender fact) put gone) (λ a. stays)

  -- a PathErr that is for the LSP of a path
  pub err_of_path_leaves : (r : Router) (key : Key) (e : PathErr) (fact : PathFact) → P (with_noted e.error e.session.tunnel s) → P (err_of_path r s key e fact).after
  err_of_path_leaves r key e fact noted = cond_both (begins_here fact.role) _ _ P (λ begins. noted) (λ elsewhere. stays)

  pub err_leaves : (r : Router) (link : ℕ) (e : PathErr) → P (with_noted e.error e.session.tunnel s) → P (path_err_arrival r s link e).after
  unfolding path_err_arrival
  err_leaves r link e noted = by (find key_cmp (lsp e.session e.sender) s.paths)
    where
      by : (known : Option PathFact) → P (path_err_passed_on r s link e known).after
      by None = stays
      by (Some fact) = cond_both (leaves_by link fact) _ _ (λ (o : paths.PathOutcome). P o.after) (λ a. err_of_path_leaves r (lsp e.session e.sender) e fact noted) (λ a. stays)

  -- A Path that comes through a stack puts the one path that it may join.
  pub stack_path_leaves : (p : Path) → ((path : Key × PathFact) → filter (may_join (key_of p)) s.paths ≡ path ∷ [] → P (with_path path.0 (with_stack s.moment p path.1) s)) → P (stack_path_arrival s p).after
  stack_path_leaves p put = stack_path_by (λ o. P o.after) s p stays (λ path only room. put path only)

  -- A PathTear that comes so puts the path that it came through, or takes it away.
  pub stack_tear_leaves : (t : PathTear)
      → ((path : Key × PathFact) → find_first (came_through (lsp t.session t.sender)) s.paths ≡ Some path → ((fact : PathFact) → P (with_path path.0 fact s)) × P (without_path path.0 s)) → P (stack_tear_arrival s t).after
  unfolding stack_tear_arrival
  stack_tear_leaves t each = by (find_first (came_through (lsp t.session t.sender)) s.paths) refl
    where
      by : (o : Option (Key × PathFact)) → find_first (came_through (lsp t.session t.sender)) s.paths ≡ o → P (option_map_or (λ path. paths.done [] (left_with path.0 path.1 (origins_without t.sender.sender path.1) s)) o (paths.refused s NoMatch)).after
      by None found = stays
      by (Some path) found = let its = each path found in left_leaves path.0 path.1 (origins_without t.sender.sender path.1) its.0 its.1

-- What a Resv from the end of a bypass does of itself puts repairs, and no more.
module _ (r : Router) (P : State → Type 0) (renews : (s : State) (key : Key) (repair : Repair) → P s → P (with_repair key repair s)) (style : ResvStyle) (v : Resv) where
  renewed_leaves : (d : FlowDescriptor) (repair : Key × Repair) (fact : ResvFact) (progress : Progress) (verdict : Verdict) → P progress.state → P (carried_back r v d repair fact progress verdict).state
  renewed_leaves d repair fact progress (Failed e) h = h
  renewed_leaves d repair fact progress PassedOver h = h
  renewed_leaves d repair fact progress Granted h = renews progress.state repair.0 (record repair.1 { resv = fact }) h

  next_returned_leaves : (d : FlowDescriptor) (progress : Progress) → P progress.state → P (next_returned r style v progress d).state
  next_returned_leaves d progress h = by (repair_from r progress.state v.hop.address (lsp v.session d.filter))
    where
      by : (o : Option (Key × Repair)) → P (option_map_or (renewed r style v d progress) o progress).state
      by None = h
      by (Some repair) =
          let fact = resv_by progress.state.facts.moment repair.1.resv.link style v d in
          renewed_leaves d repair fact progress (verdict_by_style r progress.state repair.0 fact (fits_share progress.state repair.0 fact)) h

  pub all_returned_leave : (ds : List FlowDescriptor) (progress : Progress) → P progress.state → P (fold (next_returned r style v) progress ds).state
  all_returned_leave [] progress h = h
  all_returned_leave (d ∷ ds) progress h = all_returned_leave ds (next_returned r style v progress d) (next_returned_leaves d progress h)

-- All is as before but repairs.
abbrev pub IsSameButRepairs : State → State → Type 0
IsSameButRepairs before after = after ≡ record before { repairs = after.repairs }

-- So it is after such a Resv.
pub returned-same : (r : Router) (s : State) (style : ResvStyle) (v : Resv) → IsSameButRepairs s (all_returned r s style v).state
returned-same r s style v =
    all_returned_leave r (IsSameButRepairs s) (λ t key repair same. ap (with_repair key repair) same) style v v.descriptors (record { state = s; errors = []; first = None; has_granted = false }) refl

-- And so of any message: a Resv, a ResvTear and a ResvErr change none of that.
module _ (r : Router) (s : State) (P : Facts → Type 0) (stays : P s.facts) (put : (key : Key) (fact : PathFact) → P (with_path key fact s.facts)) (gone : (key : Key) → P (without_path key s.facts))
    (noted : (e : ErrorSpec) (number : ℕ) → P (with_noted e number s.facts)) where
  labelled_path_leaves : (link : ℕ) (p : Path) → P (labelled_path_arrival r s link p).after.facts
  unfolding labelled_path_arrival
  labelled_path_leaves link p =
      cond_both (is_done (path_arrival r s.facts link p).reply && is_none (find key_cmp (key_of p) s.facts.paths) && not (has_free_label r s.labels s.resting)) (of_paths s (failed r s.facts link p no_label)) (of_paths s (path_arrival r s.facts link p)) (λ (o : Outcome). P o.after.facts)
      (λ full. stays) (λ room. path_leaves s.facts P stays r link p (put (key_of p)))

  -- the descriptors of a Resv
  verdict_leaves : (link : ℕ) (v : Resv) (d : FlowDescriptor) (fact : ResvFact) (progress : Progress) (verdict : Verdict) → P progress.state.facts → P (carried_on r link v d fact progress verdict).state.facts
  verdict_leaves link v d fact progress (Failed e) h = h
  verdict_leaves link v d fact progress PassedOver h = h
  verdict_leaves link v d fact progress Granted h = h

  descriptors_leave : (link : ℕ) (style : ResvStyle) (v : Resv) (ds : List FlowDescriptor) (progress : Progress) → P progress.state.facts → P (fold (next_descriptor r link style v) progress ds).state.facts
  descriptors_leave link style v [] progress h = h
  descriptors_leave link style v (d ∷ ds) progress h =
      let fact = resv_by progress.state.facts.moment link style v d in
      descriptors_leave link style v ds (next_descriptor r link style v progress d) (verdict_leaves link v d fact progress (verdict_of r progress.state (key_in v d) fact) h)

  resv_leaves : (link : ℕ) (v : Resv) → P (resv_arrival r s link v).after.facts
  unfolding resv_arrival
  resv_leaves link v = by_style (style_of v.style)
    where
      by_first : (progress : Progress) → P progress.state.facts → (first : Option RsvpError) → P (resv_replied s progress first).after.facts
      by_first progress h (Some e) = h
      by_first progress h None = cond_both progress.has_granted _ (refused s NoMatch) (λ (o : Outcome). P o.after.facts) (λ some. h) (λ none. stays)

      by_style : (style : Option ResvStyle) → P (option_map_or (λ style. let progress = all_descriptors r s link style v in resv_replied s progress progress.first) style (resv_failed r s link v false [] unknown_style)).after.facts
      by_style None = stays
      by_style (Some style) =
          let progress = all_descriptors r s link style v in
          by_first progress (descriptors_leave link style v v.descriptors (record { state = s; errors = []; first = None; has_granted = false }) stays) progress.first

  resv_tear_leaves : (link : ℕ) (t : ResvTear) → P (resv_tear_arrival s link t).after.facts
  unfolding resv_tear_arrival
  resv_tear_leaves link t = cond_both (list_any (is_resv_torn_by link t) s.resvs) _ (refused s NoMatch) (λ (o : Outcome). P o.after.facts) (λ some. stays) (λ none. stays)

  passed_on_leaves : (matched : List (List Output)) → P (resv_err_passed_on s matched).after.facts
  passed_on_leaves [] = stays
  passed_on_leaves (one ∷ more) = stays

  resv_err_leaves : (link : ℕ) (e : ResvErr) → P (resv_err_arrival r s link e).after.facts
  unfolding resv_err_arrival
  resv_err_leaves link e = passed_on_leaves (filter_map (err_onward r s link e) e.descriptors)

  stack_err_leaves : (e : ResvErr) → P (stack_err_arrival r s e).after.facts
  unfolding stack_err_arrival
  stack_err_leaves e = passed_on_leaves (filter_map (stack_err_onward r s e) e.descriptors)

  message_leaves : (link : ℕ) (content : Content) → P (message_arrival r s link content).after.facts
  message_leaves link (contents.Path p) = labelled_path_leaves link p
  message_leaves link (contents.Resv v) = resv_leaves link v
  message_leaves link (contents.PathErr e) = err_leaves s.facts P stays r link e (noted e.error e.session.tunnel)
  message_leaves link (contents.ResvErr e) = resv_err_leaves link e
  message_leaves link (contents.PathTear t) = tear_leaves s.facts P stays link t (put (lsp t.session t.sender)) (gone (lsp t.session t.sender))
  message_leaves link (contents.ResvTear t) = resv_tear_leaves link t

  reading_leaves : (link : ℕ) (reading : Reading) → P (reading_arrival r s link reading).after.facts
  unfolding unknown_resv
  reading_leaves link (readings.Whole content) = message_leaves link content
  reading_leaves link (readings.Unknown (contents.Path p) class ctype) = stays
  reading_leaves link (readings.Unknown (contents.Resv v) class ctype) = stays
  reading_leaves link (readings.Unknown (contents.PathErr e) class ctype) = message_leaves link (contents.PathErr e)
  reading_leaves link (readings.Unknown (contents.ResvErr e) class ctype) = message_leaves link (contents.ResvErr e)
  reading_leaves link (readings.Unknown (contents.PathTear t) class ctype) = message_leaves link (contents.PathTear t)
  reading_leaves link (readings.Unknown (contents.ResvTear t) class ctype) = message_leaves link (contents.ResvTear t)

  -- what comes through a stack
  stack_leaves : (content : Content) → P (stack_arrival r s content).after.facts
  stack_leaves (contents.Path p) = stack_path_leaves s.facts P stays p (λ path only. put path.0 (with_stack s.facts.moment p path.1))
  stack_leaves (contents.Resv v) = stays
  stack_leaves (contents.PathErr e) = stays
  stack_leaves (contents.ResvErr e) = stack_err_leaves e
  stack_leaves (contents.PathTear t) = stack_tear_leaves s.facts P stays t (λ path found. (put path.0, gone path.0))
  stack_leaves (contents.ResvTear t) = stays

  -- and what comes in a Routed frame
  routed_leaves : (content : Content) → P (routed_arrival r s content).after.facts
  routed_leaves (contents.Path p) = stays
  routed_leaves (contents.Resv v) =
      returned_resv_by (λ o. P o.after.facts) r s stays v (λ style reply heard. subst (λ (t : State). P t.facts) (sym (returned-same r s style v)) stays)
  routed_leaves (contents.PathErr e) = returned_err_by (λ o. P o.after.facts) r s stays e (λ key path. err_of_path_leaves s.facts P stays r key e path (noted e.error e.session.tunnel))
  routed_leaves (contents.ResvErr e) = stays
  routed_leaves (contents.PathTear t) = stays
  routed_leaves (contents.ResvTear t) = returned_tear_by (λ o. P o.after.facts) r s stays t (λ test. stays)

  way_leaves : (way : ArrivalWay) (link : ℕ) (reading : Reading) → P (arrival_by r s way link reading).after.facts
  way_leaves ways.Hop link reading = reading_leaves link reading
  way_leaves ways.Stack link (readings.Whole content) = stack_leaves content
  way_leaves ways.Stack link (readings.Unknown content class ctype) = unknown_stack_by (λ o. P o.after.facts) r s class ctype content (λ p. stays) (stack_leaves content)
  way_leaves ways.Routed link (readings.Whole content) = routed_leaves content
  way_leaves ways.Routed link (readings.Unknown content class ctype) =
      unknown_routed_by (λ o. P o.after.facts) r s class ctype content (λ v. returned_unknown_by (λ o. P o.after.facts) r s stays v class ctype (λ repair. stays)) (routed_leaves content)

  pub arrival_leaves : (a : Arrive) → P (arrival r s a).after.facts
  unfolding arrival
  arrival_leaves a =
      cond_both (is_none (link_at r a.link)) (refused s UnknownLink) _ (λ (o : Outcome). P o.after.facts) (λ none. stays)
      (λ there. cond_both (not (is_up s.facts.up a.link)) (refused s LinkDown) _ (λ (o : Outcome). P o.after.facts) (λ down. stays) (λ up. way_leaves a.way a.link a.reading))
