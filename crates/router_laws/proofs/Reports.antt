-- Of itself an event tells errors, and passes on what others sent: no Path, no Resv and no tear; and nothing is due for it,
-- but for a moment.
use Rattle.std.specs.Prelude.{◌≡◌, ◌≢◌, ◌&&◌, ◌==◌, ◌^◌, ℕ, not, nat_le, nat_lt, Bool, true, false, List, [], ◌∷◌, filter_map, find as find_first, fold, length, Option, Some, None, IfSome, is_none, option_to_list, Result, Ok, Err}
use Rattle.std.specs.FinMap.Entries.{find}
use Rattle.std.specs.List.{AllByRecursion, flat_map, list_any}
use Rattle.std.specs.Option.{option_and_then, option_map_or}
use Rattle.std.specs.declared.net.ipv4_addr.Ipv4Addr.{Ipv4Addr}
use Rattle.std.proofs.Common.{refl}
use Rattle.std.proofs.lemmas.Bool.{cond_both}
use Rattle.rsvp_objects.specs.declared.values.ErrorSpec.{ErrorSpec}
use Rattle.rsvp_objects.specs.declared.values.Session.{Session}
use Rattle.rsvp_objects.specs.declared.values.Style.{Style}
use Rattle.rsvp_objects.specs.declared.values.Template.{Template}
use Rattle.rsvp_bodies.specs.TokenBuckets.{token_rate}
use Rattle.rsvp_contents.specs.declared.descriptors.ErrorDescriptor.{ErrorDescriptor}
use Rattle.rsvp_contents.specs.declared.descriptors.FlowDescriptor.{FlowDescriptor}
use Rattle.rsvp_contents.specs.declared.message.Reading.{Reading}
use Rattle.rsvp_contents.specs.declared.message.Reading.TheVariants as readings
use Rattle.rsvp_contents.specs.declared.messages.Content.{Content}
use Rattle.rsvp_contents.specs.declared.messages.Content.TheVariants as contents
use Rattle.rsvp_contents.specs.declared.messages.Path.{Path}
use Rattle.rsvp_contents.specs.declared.messages.PathErr.{PathErr}
use Rattle.rsvp_contents.specs.declared.messages.PathTear.{PathTear}
use Rattle.rsvp_contents.specs.declared.messages.Resv.{Resv}
use Rattle.rsvp_contents.specs.declared.messages.ResvErr.{ResvErr}
use Rattle.rsvp_contents.specs.declared.messages.ResvTear.{ResvTear}
use Rattle.sorted_rows.specs.ListLaws.{all-append}
use Rattle.lsr_facts.specs.Errors.{bad_tspec, locally_repaired, no_label, routing_loop, system_error, unknown_style, unsupported_l3pid}
use Rattle.lsr_facts.specs.Orders.{key_cmp}
use Rattle.lsr_facts.specs.Reservations.{style_of}
use Rattle.lsr_facts.specs.Routers.{link_at}
use Rattle.lsr_facts.specs.Tunnels.{is_head}
use Rattle.lsr_facts.specs.declared.choice.Choice.{Choice}
use Rattle.lsr_facts.specs.declared.errors.RsvpError.{RsvpError}
use Rattle.lsr_facts.specs.declared.facts.Facts.{Facts}
use Rattle.lsr_facts.specs.declared.key.Key.{Key}
use Rattle.lsr_facts.specs.declared.path_fact.PathFact.{PathFact}
use Rattle.lsr_facts.specs.declared.path_fact.Via.{Via}
use Rattle.lsr_facts.specs.declared.path_fact.Via.TheVariants as vias
use Rattle.lsr_facts.specs.declared.refusal.Refusal.{Refusal}
use Rattle.lsr_facts.specs.declared.refusal.Refusal.TheVariants.{InUse, LinkDown, NoMatch, UnknownLink}
use Rattle.lsr_facts.specs.declared.repair.Over.{Over}
use Rattle.lsr_facts.specs.declared.repair.Repair.{Repair}
use Rattle.lsr_facts.specs.declared.resv_fact.ResvFact.{ResvFact}
use Rattle.lsr_facts.specs.declared.resv_fact.ResvStyle.{ResvStyle}
use Rattle.lsr_facts.specs.declared.router.Router.{Router}
use Rattle.abstract_paths.specs.declared.commands.Command.{Command}
use Rattle.abstract_paths.specs.declared.events.Event.{Event}
use Rattle.abstract_paths.specs.declared.events.Event.TheVariants as events
use Rattle.abstract_paths.specs.declared.events.Output.{Output}
use Rattle.abstract_paths.specs.declared.ways.ArrivalWay.{ArrivalWay}
use Rattle.abstract_paths.specs.declared.ways.ArrivalWay.TheVariants as ways
use Rattle.abstract_paths.specs.declared.ways.Arrive.{Arrive}
use Rattle.abstract_paths.specs.declared.ways.Relay.{Relay}
use Rattle.abstract_paths.specs.Commands.{command, commanded, refusal_of}
use Rattle.abstract_paths.specs.Links.{link_change}
use Rattle.abstract_paths.specs.Merging.{came_through, stack_path_arrival, stack_path_failed, stack_tear_arrival}
use Rattle.abstract_paths.specs.Outcomes as paths
use Rattle.abstract_paths.specs.Outcomes.{found_here, lsp, path_err, routed_by, sent_back, sent_by, told_to, told_upstream}
use Rattle.abstract_paths.specs.Paths.{drops_record, failed, goes_on, has_loop, is_same_record, key_of, path_arrival, path_by, path_on_its_way, record_errors, unknown_object, way_for}
use Rattle.abstract_paths.specs.Places.{Place, is_up, place_of}
use Rattle.abstract_paths.specs.Relays.{relay, relayed_by}
use Rattle.abstract_paths.specs.RowLaws.{option_map-holds, option_or-holds}
use Rattle.abstract_paths.specs.Routing.{route_to}
use Rattle.abstract_paths.specs.Tears.{is_torn_by, leaves_by, left_with, origins_without, path_err_arrival, path_err_passed_on, path_tear_arrival, torn}
use Rattle.abstract_paths.specs.Time.{tick}
use Rattle.abstract_paths.proofs.Merging.{stack_path_by}
use Rattle.abstract_router.specs.Arrivals.{arrival, arrival_by, command_comes, commanded_by, for_reservations, is_done, labelled_path_arrival, message_arrival, moment_comes, outcome, reading_arrival, routed_arrival, stack_arrival, takes_used_bypass}
use Rattle.abstract_router.specs.Assigning.{fits_share}
use Rattle.abstract_router.specs.BypassTunnels.{over_at}
use Rattle.abstract_router.specs.Labels.{has_free_label}
use Rattle.abstract_router.specs.Lsps.{Around, around_of}
use Rattle.abstract_router.specs.Outcomes.{Outcome, of_paths, refused, told_downstream}
use Rattle.abstract_router.specs.Preempting.{all_told_preempted, giving_way, told_preempted}
use Rattle.abstract_router.specs.Repairing.{new_repairs, told_of, told_repaired}
use Rattle.abstract_router.specs.Reserving.{Failed, Granted, PassedOver, Progress, Verdict, all_descriptors, carried_on, key_in, next_descriptor, resv_arrival, resv_by, resv_failed, resv_replied, unknown_resv, verdict_by_style, verdict_of}
use Rattle.abstract_router.specs.Returning.{carried_back, next_returned, renewed, repair_from, returned_unknown}
use Rattle.abstract_router.specs.States.{State}
use Rattle.abstract_router.specs.Tearing.{err_onward, err_to, is_from_origin, is_resv_torn_by, resv_err_arrival, resv_err_passed_on, resv_tear_arrival, stack_err_arrival, stack_err_onward}
use Rattle.abstract_router.specs.Through.{err_through, hop_through, labelled_by, told_through}
use Rattle.abstract_router.specs.UpstreamLaws.{all-filter_map}
use Rattle.router_soundness.proofs.OtherWays.{returned_err_by, returned_resv_by, returned_tear_by, returned_unknown_by, unknown_routed_by, unknown_stack_by}
use Rattle.router_laws.specs.Sending.{is_state, is_tear, says}
use Rattle.router_laws.proofs.OverUp.{all-flat_map, always, and_then-holds}

-- it neither makes state nor tears it down
abbrev pub IsReport : Output → Type 0
IsReport output = (says is_state output ≡ false) × (says is_tear output ≡ false)

abbrev pub AreReports : List Output → Type 0
AreReports outputs = AllByRecursion IsReport outputs

-- What holds of each error that a router may tell: of PathErrs to neighbours and to heads of bypasses, of ResvErrs to neighbours and
-- through bypasses.
pub record HoldOfErrors (P : Output → Type 0) : Type 0 where
  pub path_err : (link : ℕ) (e : PathErr) → P (sent_by link (contents.PathErr e))
  pub routed_err : (link : ℕ) (to : Ipv4Addr) (e : PathErr) → P (routed_by link to (contents.PathErr e))
  pub resv_err : (link : ℕ) (e : ResvErr) → P (sent_by link (contents.ResvErr e))
  pub through_err : (over : Over) (e : ResvErr) → P (labelled_by over (contents.ResvErr e))

-- So it holds of all that an event tells, and of what it passes on, where it holds of that.
module _ (P : Output → Type 0) (of : HoldOfErrors P) where
  abbrev pub AreSuch : List Output → Type 0
  AreSuch outputs = AllByRecursion P outputs

  -- an event tells reports, and nothing is due for it
  abbrev pub Tells : Outcome → Type 0
  Tells o = AreSuch o.errors × (o.due ≡ []) × (o.upstream_due ≡ [])

  abbrev PathTells : paths.PathOutcome → Type 0
  PathTells o = AreSuch o.errors × (o.due ≡ [])

  -- ---- what is told

  listed : (o : Option Output) → IfSome o P → AreSuch (option_to_list o)
  listed None is = tt
  listed (Some output) is = (is, tt)

  back-reports : (n : Place) (via : Via) (to : Ipv4Addr) (session : Session) (sender : Template) (tspec : Option (List ℕ)) (error : ErrorSpec) → IfSome (sent_back n via to (path_err session sender tspec error)) P
  back-reports n (vias.Link link) to session sender tspec error = of.path_err link (record { session = session; error = error; sender = sender; tspec = tspec })
  back-reports n vias.Stack to session sender tspec error =
      option_map-holds P (λ link. routed_by link to (path_err session sender tspec error)) (route_to n to) (always (λ link. P (routed_by link to (path_err session sender tspec error))) (λ link. of.routed_err link to (record { session = session; error = error; sender = sender; tspec = tspec })) (route_to n to))

  upstream-reports : (n : Place) (key : Key) (fact : PathFact) (tspec : Option (List ℕ)) (error : ErrorSpec) → AreSuch (told_upstream n key fact tspec error)
  upstream-reports n key fact tspec error =
      all-filter_map P (told_to n key tspec error) (λ origin. back-reports n origin.1.via origin.1.hop.address key.session (record key.sender { sender = origin.0 }) tspec error) fact.origins

  downstream-reports : (r : Router) (link : ℕ) (session : Session) (error : ErrorSpec) (style : Style) (descriptors : List ErrorDescriptor) → IfSome (told_downstream r link session error style descriptors) P
  downstream-reports r link session error style descriptors = option_map-holds P _ (link_at r link) (always _ (λ l. of.resv_err link (record { session = session; hop = record { address = l.address; interface = link }; error = error; style = style; descriptors = descriptors })) (link_at r link))

  through-reports : (a : Around) (repair : Repair) (session : Session) (error : ErrorSpec) (style : Style) (descriptors : List ErrorDescriptor) → IfSome (told_through a repair session error style descriptors) P
  through-reports a repair session error style descriptors = option_map-holds P _ (over_at a.bypass_tunnels repair.bypass) (always _ (λ over. of.through_err over (record { session = session; hop = hop_through a.place.router repair; error = error; style = style; descriptors = descriptors })) (over_at a.bypass_tunnels repair.bypass))

  -- that LSPs are repaired
  pub repairs_are : (r : Router) (s : State) → AreSuch (told_repaired r s)
  unfolding told_repaired
  repairs_are r s = all-flat_map P (told_of r s) (λ repair. by repair (find key_cmp repair.0 s.facts.paths)) (new_repairs r s)
    where
      by : (repair : Key × Repair) (o : Option PathFact) → AreSuch (option_map_or (λ path. told_upstream (place_of r s.facts) repair.0 path (Some path.tspec) (found_here r locally_repaired)) o [])
      by repair None = tt
      by repair (Some path) = upstream-reports (place_of r s.facts) repair.0 path (Some path.tspec) (found_here r locally_repaired)

  -- ---- what the router of paths tells

  module _ (r : Router) (s : Facts) where
    record-reports : (n : Place) (key : Key) (known : Option PathFact) (fact : PathFact) → AreSuch (record_errors n key known fact)
    unfolding record_errors
    record-reports n key known fact = cond_both (drops_record n.router fact && not (option_map_or (λ old. is_same_record old.recorded fact.recorded) known false)) _ _ AreSuch (λ drops. upstream-reports n key fact (Some fact.tspec) (found_here n.router _)) (λ fits. tt)

    fails-tells : (link : ℕ) (p : Path) (e : RsvpError) → PathTells (failed r s link p e)
    fails-tells link p e = ((of.path_err link (record { session = p.session; error = found_here r e; sender = p.sender; tspec = Some p.tspec }), tt), refl)

    way-tells : (known : Option PathFact) (link : ℕ) (p : Path) (way : Result Choice RsvpError) → PathTells (path_on_its_way r s known link p way)
    unfolding path_on_its_way
    way-tells known link p (Err e) = fails-tells link p e
    way-tells known link p (Ok way) =
        cond_both (is_none known && nat_le _ (length s.paths)) _ _ PathTells (λ full. fails-tells link p system_error) (λ room. (record-reports (place_of r s) (key_of p) known (path_by s.moment known link p way), refl))

    path-tells : (link : ℕ) (p : Path) → PathTells (path_arrival r s link p)
    unfolding path_arrival
    path-tells link p =
        cond_both (is_head r s.tunnels (key_of p)) _ _ PathTells (λ ours. (tt, refl))
        (λ theirs. cond_both (not (p.label_request.l3pid == 0x0800)) _ _ PathTells (λ other. fails-tells link p unsupported_l3pid)
        (λ ip. cond_both (is_none (token_rate 1 p.tspec)) _ _ PathTells (λ none. fails-tells link p bad_tspec)
        (λ rate. cond_both (has_loop r p.recorded) _ _ PathTells (λ loops. fails-tells link p routing_loop)
        (λ runs. way-tells (find key_cmp (key_of p) s.paths) link p (way_for (place_of r s) (find key_cmp (key_of p) s.paths) p)))))

    command-tells : (c : Command) → PathTells (command r s c)
    unfolding command
    command-tells c = by (refusal_of r s c)
      where
        by : (refusal : Option Refusal) → PathTells (option_map_or (paths.refused s) refusal (paths.done [] (commanded r s c)))
        by None = (tt, refl)
        by (Some refusal) = (tt, refl)

    torn-tells : (link : ℕ) (t : PathTear) (known : Option PathFact) → PathTells (torn s link t known)
    torn-tells link t None = (tt, refl)
    torn-tells link t (Some fact) = cond_both (is_torn_by link t fact) _ _ PathTells (λ gone. (tt, refl)) (λ other. (tt, refl))

    err-tells : (link : ℕ) (e : PathErr) (known : Option PathFact) → PathTells (path_err_passed_on r s link e known)
    err-tells link e None = (tt, refl)
    err-tells link e (Some fact) = cond_both (leaves_by link fact) _ _ PathTells (λ goes. (upstream-reports (place_of r s) (lsp e.session e.sender) fact e.tspec e.error, refl)) (λ other. (tt, refl))

    stack_path-tells : (p : Path) → PathTells (stack_path_arrival s p)
    stack_path-tells p = stack_path_by PathTells s p (tt, refl) (λ path only room. (tt, refl))

    stack_tear-tells : (t : PathTear) → PathTells (stack_tear_arrival s t)
    unfolding stack_tear_arrival
    stack_tear-tells t = by (find_first (came_through (lsp t.session t.sender)) s.paths)
      where
        by : (o : Option (Key × PathFact)) → PathTells (option_map_or (λ path. paths.done [] (left_with path.0 path.1 (origins_without t.sender.sender path.1) s)) o (paths.refused s NoMatch))
        by None = (tt, refl)
        by (Some path) = (tt, refl)

    link-tells : (number : ℕ) (up : Bool) → PathTells (link_change r s number up)
    unfolding link_change
    link-tells number up = cond_both (is_none (link_at r number)) _ _ PathTells (λ unknown. (tt, refl)) (λ known. (tt, refl))

  -- ---- what messages tell

  module _ (r : Router) (s : State) where
    of_paths-tells : (o : paths.PathOutcome) → PathTells o → Tells (of_paths s o)
    of_paths-tells o tells = (tells.0, tells.1, refl)

    labelled-tells : (link : ℕ) (p : Path) → Tells (labelled_path_arrival r s link p)
    unfolding labelled_path_arrival
    labelled-tells link p =
        cond_both (is_done (path_arrival r s.facts link p).reply && is_none (find key_cmp (key_of p) s.facts.paths) && not (has_free_label r s.labels s.resting)) _ _ Tells
        (λ full. of_paths-tells (failed r s.facts link p no_label) (fails-tells r s.facts link p no_label)) (λ room. of_paths-tells (path_arrival r s.facts link p) (path-tells r s.facts link p))

    -- descriptor by descriptor
    carried-reports : (link : ℕ) (v : Resv) (d : FlowDescriptor) (fact : ResvFact) (progress : Progress) (verdict : Verdict) → AreSuch progress.errors → AreSuch (carried_on r link v d fact progress verdict).errors
    carried-reports link v d fact progress (Failed e) before = all-append P progress.errors _ before (listed _ (downstream-reports r link v.session _ v.style _))
    carried-reports link v d fact progress PassedOver before = before
    carried-reports link v d fact progress Granted before =
        let gone = giving_way r progress.state (key_in v d) fact in
        all-append P progress.errors (all_told_preempted r progress.state gone) before
        (all-filter_map P (λ key. option_and_then (told_preempted r key) (find key_cmp key progress.state.resvs))
        (λ key. and_then-holds P (told_preempted r key) (λ resv. downstream-reports r resv.link key.session _ _ _) (find key_cmp key progress.state.resvs)) gone)

    descriptors-report : (link : ℕ) (style : ResvStyle) (v : Resv) (ds : List FlowDescriptor) (progress : Progress) → AreSuch progress.errors → AreSuch (fold (next_descriptor r link style v) progress ds).errors
    descriptors-report link style v [] progress before = before
    descriptors-report link style v (d ∷ ds) progress before =
        let fact = resv_by progress.state.facts.moment link style v d in
        descriptors-report link style v ds (next_descriptor r link style v progress d) (carried-reports link v d fact progress (verdict_of r progress.state (key_in v d) fact) before)

    replied-tells : (progress : Progress) (first : Option RsvpError) → AreSuch progress.errors → Tells (resv_replied s progress first)
    replied-tells progress (Some e) told = (told, refl, refl)
    replied-tells progress None told = cond_both progress.has_granted _ (refused s NoMatch) Tells (λ some. (told, refl, refl)) (λ none. (tt, refl, refl))

    resv_failed-tells : (link : ℕ) (v : Resv) (held : Bool) (descriptors : List ErrorDescriptor) (e : RsvpError) → Tells (resv_failed r s link v held descriptors e)
    resv_failed-tells link v held descriptors e = (listed _ (downstream-reports r link v.session _ v.style descriptors), refl, refl)

    resv-tells : (link : ℕ) (v : Resv) → Tells (resv_arrival r s link v)
    unfolding resv_arrival
    resv-tells link v = by (style_of v.style)
      where
        by : (style : Option ResvStyle) → Tells (option_map_or (λ style. let progress = all_descriptors r s link style v in resv_replied s progress progress.first) style (resv_failed r s link v false [] unknown_style))
        by None = resv_failed-tells link v false [] unknown_style
        by (Some style) = replied-tells (all_descriptors r s link style v) (all_descriptors r s link style v).first (descriptors-report link style v v.descriptors (record { state = s; errors = []; first = None; has_granted = false }) tt)

    resv_tear-tells : (link : ℕ) (t : ResvTear) → Tells (resv_tear_arrival s link t)
    unfolding resv_tear_arrival
    resv_tear-tells link t = cond_both (list_any (is_resv_torn_by link t) s.resvs) _ (refused s NoMatch) Tells (λ some. (tt, refl, refl)) (λ none. (tt, refl, refl))

    -- an error of a reservation goes on
    joined : (lists : List (List Output)) → AllByRecursion AreSuch lists → AreSuch (flat_map (λ told. told) lists)
    joined [] each = tt
    joined (one ∷ more) each = all-append P one (flat_map (λ told. told) more) each.0 (joined more each.1)

    passed_on-tells : (matched : List (List Output)) → AllByRecursion AreSuch matched → Tells (resv_err_passed_on s matched)
    passed_on-tells [] each = (tt, refl, refl)
    passed_on-tells (one ∷ more) each = (joined (one ∷ more) each, refl, refl)

    err_to-reports : (e : ResvErr) (d : ErrorDescriptor) (key : Key) → IfSome (err_to r s e d key) AreSuch
    err_to-reports e d key =
        option_or-holds AreSuch _ _
        (option_map-holds AreSuch _ (find key_cmp key s.resvs) (always _ (λ resv. listed (told_downstream r resv.link e.session e.error e.style (d ∷ [])) (downstream-reports r resv.link e.session e.error e.style (d ∷ []))) (find key_cmp key s.resvs)))
        (option_map-holds AreSuch _ (find key_cmp key s.repairs) (always _ (λ repair. listed (err_through (around_of r s) repair e d) (and_then-holds P _ (λ link. through-reports (around_of r s) repair e.session e.error e.style _) (link_at r repair.resv.link))) (find key_cmp key s.repairs)))

    onward-reports : (link : ℕ) (e : ResvErr) (d : ErrorDescriptor) → IfSome (err_onward r s link e d) AreSuch
    onward-reports link e d =
        and_then-holds AreSuch _
        (λ path. cond_both (not (is_from_origin link e path)) _ _ (λ o. IfSome o AreSuch) (λ other. tt)
        (λ from. cond_both (not (goes_on path.role)) _ _ (λ o. IfSome o AreSuch) (λ ends. tt) (λ goes. err_to-reports e d (lsp e.session d.filter))))
        (find key_cmp (lsp e.session d.filter) s.facts.paths)

    stack_onward-reports : (e : ResvErr) (d : ErrorDescriptor) → IfSome (stack_err_onward r s e d) AreSuch
    stack_onward-reports e d =
        and_then-holds AreSuch _
        (λ path. cond_both (not (goes_on path.1.role)) _ _ (λ o. IfSome o AreSuch) (λ ends. tt) (λ goes. err_to-reports e (record d { filter = path.0.sender }) path.0))
        (find_first (came_through (lsp e.session d.filter)) s.facts.paths)

    resv_err-tells : (link : ℕ) (e : ResvErr) → Tells (resv_err_arrival r s link e)
    unfolding resv_err_arrival
    resv_err-tells link e = passed_on-tells (filter_map (err_onward r s link e) e.descriptors) (all-filter_map AreSuch (err_onward r s link e) (onward-reports link e) e.descriptors)

    stack_err-tells : (e : ResvErr) → Tells (stack_err_arrival r s e)
    unfolding stack_err_arrival
    stack_err-tells e = passed_on-tells (filter_map (stack_err_onward r s e) e.descriptors) (all-filter_map AreSuch (stack_err_onward r s e) (stack_onward-reports e) e.descriptors)

    message-tells : (link : ℕ) (content : Content) → Tells (message_arrival r s link content)
    unfolding path_err_arrival path_tear_arrival
    message-tells link (contents.Path p) = labelled-tells link p
    message-tells link (contents.Resv v) = resv-tells link v
    message-tells link (contents.PathErr e) = of_paths-tells (path_err_arrival r s.facts link e) (err-tells r s.facts link e (find key_cmp (lsp e.session e.sender) s.facts.paths))
    message-tells link (contents.ResvErr e) = resv_err-tells link e
    message-tells link (contents.PathTear t) = of_paths-tells (path_tear_arrival s.facts link t) (torn-tells r s.facts link t (find key_cmp (lsp t.session t.sender) s.facts.paths))
    message-tells link (contents.ResvTear t) = resv_tear-tells link t

    reading-tells : (link : ℕ) (reading : Reading) → Tells (reading_arrival r s link reading)
    unfolding unknown_resv
    reading-tells link (readings.Whole content) = message-tells link content
    reading-tells link (readings.Unknown (contents.Path p) class ctype) = of_paths-tells (failed r s.facts link p (unknown_object class ctype)) (fails-tells r s.facts link p (unknown_object class ctype))
    reading-tells link (readings.Unknown (contents.Resv v) class ctype) = resv_failed-tells link v _ _ (unknown_object class ctype)
    reading-tells link (readings.Unknown (contents.PathErr e) class ctype) = message-tells link (contents.PathErr e)
    reading-tells link (readings.Unknown (contents.ResvErr e) class ctype) = message-tells link (contents.ResvErr e)
    reading-tells link (readings.Unknown (contents.PathTear t) class ctype) = message-tells link (contents.PathTear t)
    reading-tells link (readings.Unknown (contents.ResvTear t) class ctype) = message-tells link (contents.ResvTear t)

    -- what comes through a stack
    stack-tells : (content : Content) → Tells (stack_arrival r s content)
    stack-tells (contents.Path p) = of_paths-tells (stack_path_arrival s.facts p) (stack_path-tells r s.facts p)
    stack-tells (contents.Resv v) = (tt, refl, refl)
    stack-tells (contents.PathErr e) = (tt, refl, refl)
    stack-tells (contents.ResvErr e) = stack_err-tells e
    stack-tells (contents.PathTear t) = of_paths-tells (stack_tear_arrival s.facts t) (stack_tear-tells r s.facts t)
    stack-tells (contents.ResvTear t) = (tt, refl, refl)

    stack_failed-tells : (p : Path) (e : RsvpError) → Tells (of_paths s (stack_path_failed r s.facts p e))
    stack_failed-tells p e = (listed _ (back-reports (place_of r s.facts) vias.Stack p.hop.address p.session p.sender (Some p.tspec) (found_here r e)), refl, refl)

    -- and in a Routed frame
    back-carried : (v : Resv) (d : FlowDescriptor) (repair : Key × Repair) (fact : ResvFact) (progress : Progress) (verdict : Verdict) → AreSuch progress.errors → AreSuch (carried_back r v d repair fact progress verdict).errors
    back-carried v d repair fact progress (Failed e) before = all-append P progress.errors _ before (listed _ (through-reports (around_of r progress.state) repair.1 v.session _ v.style _))
    back-carried v d repair fact progress PassedOver before = before
    back-carried v d repair fact progress Granted before = before

    next-reports : (style : ResvStyle) (v : Resv) (progress : Progress) (d : FlowDescriptor) (o : Option (Key × Repair)) → AreSuch progress.errors → AreSuch (option_map_or (renewed r style v d progress) o progress).errors
    next-reports style v progress d None before = before
    next-reports style v progress d (Some repair) before =
        let fact = resv_by progress.state.facts.moment repair.1.resv.link style v d in
        back-carried v d repair fact progress (verdict_by_style r progress.state repair.0 fact (fits_share progress.state repair.0 fact)) before

    returned-report : (style : ResvStyle) (v : Resv) (ds : List FlowDescriptor) (progress : Progress) → AreSuch progress.errors → AreSuch (fold (next_returned r style v) progress ds).errors
    returned-report style v [] progress before = before
    returned-report style v (d ∷ ds) progress before =
        returned-report style v ds (next_returned r style v progress d) (next-reports style v progress d (repair_from r progress.state v.hop.address (lsp v.session d.filter)) before)

    routed-tells : (content : Content) → Tells (routed_arrival r s content)
    routed-tells (contents.Path p) = (tt, refl, refl)
    routed-tells (contents.Resv v) = returned_resv_by Tells r s (tt, refl, refl) v (λ style reply heard. (returned-report style v v.descriptors (record { state = s; errors = []; first = None; has_granted = false }) tt, refl, refl))
    routed-tells (contents.PathErr e) = returned_err_by Tells r s (tt, refl, refl) e (λ key path. (upstream-reports (place_of r s.facts) key path e.tspec e.error, refl, refl))
    routed-tells (contents.ResvErr e) = (tt, refl, refl)
    routed-tells (contents.PathTear t) = (tt, refl, refl)
    routed-tells (contents.ResvTear t) = returned_tear_by Tells r s (tt, refl, refl) t (λ test. (tt, refl, refl))

    unknown-tells : (v : Resv) (class ctype : ℕ) → Tells (returned_unknown r s v class ctype)
    unknown-tells v class ctype =
        returned_unknown_by Tells r s (tt, refl, refl) v class ctype (λ repair. (listed _ (through-reports (around_of r s) repair.1 v.session _ v.style _), refl, refl))

    way_comes-tells : (way : ArrivalWay) (link : ℕ) (reading : Reading) → Tells (arrival_by r s way link reading)
    way_comes-tells ways.Hop link reading = reading-tells link reading
    way_comes-tells ways.Stack link (readings.Whole content) = stack-tells content
    way_comes-tells ways.Stack link (readings.Unknown content class ctype) = unknown_stack_by Tells r s class ctype content (λ p. stack_failed-tells p (unknown_object class ctype)) (stack-tells content)
    way_comes-tells ways.Routed link (readings.Whole content) = routed-tells content
    way_comes-tells ways.Routed link (readings.Unknown content class ctype) = unknown_routed_by Tells r s class ctype content (λ v. unknown-tells v class ctype) (routed-tells content)

    arrival-tells : (a : Arrive) → Tells (arrival r s a)
    unfolding arrival
    arrival-tells a =
        cond_both (is_none (link_at r a.link)) (refused s UnknownLink) _ Tells (λ none. (tt, refl, refl))
        (λ there. cond_both (not (is_up s.facts.up a.link)) (refused s LinkDown) _ Tells (λ down. (tt, refl, refl)) (λ up. way_comes-tells a.way a.link a.reading))

    -- ---- what other events tell

    relay-tells : (m : Relay) → ((link : ℕ) → P (relayed_by m link)) → Tells (of_paths s (relay r s.facts m))
    unfolding relay
    relay-tells m relayed =
        cond_both (is_none (link_at r m.link)) _ _ (λ o. Tells (of_paths s o)) (λ none. (tt, refl, refl))
        (λ there. cond_both (not (is_up s.facts.up m.link)) _ _ (λ o. Tells (of_paths s o)) (λ down. (tt, refl, refl)) (λ up. by (route_to (place_of r s.facts) m.to)))
      where
        by : (way : Option ℕ) → Tells (of_paths s (option_map_or (λ link. paths.done (relayed_by m link ∷ []) s.facts) way (paths.refused s.facts NoMatch)))
        by None = (tt, refl, refl)
        by (Some link) = ((relayed link, tt), refl, refl)

    command_comes-tells : (c : Command) → Tells (command_comes r s c)
    unfolding command_comes
    command_comes-tells c =
        cond_both o.is_silent o (commanded_by r s c o) Tells (λ silent. of_paths-tells (command r s.facts c) (command-tells r s.facts c))
        (λ loud. cond_both (takes_used_bypass s c) (refused s InUse) _ Tells (λ used. (tt, refl, refl)) (λ other. of_paths-tells (command r s.facts c) (command-tells r s.facts c)))
      where
        o : Outcome
        o = of_paths s (command r s.facts c)

    tick-reports : (n : ℕ) → AreSuch (moment_comes r s n).errors
    unfolding moment_comes tick
    tick-reports n =
        cond_both (nat_lt (2 ^ 62) n) _ _ (λ o. AreSuch (for_reservations r s n (of_paths s o)).errors) (λ above. tt)
        (λ most. cond_both (nat_lt n s.facts.moment) _ _ (λ o. AreSuch (for_reservations r s n (of_paths s o)).errors) (λ below. tt) (λ later. tt))

    -- Nothing is due for an event but a moment.
    pub errors_tell : (event : Event) → ((m : Relay) (link : ℕ) → event ≡ events.Relay m → P (relayed_by m link)) → ((n : ℕ) → event ≢ events.Tick n) → Tells (outcome r s event)
    errors_tell (events.Arrive a) relayed other = arrival-tells a
    errors_tell (events.Relay m) relayed other = relay-tells m (λ link. relayed m link refl)
    errors_tell (events.Tick n) relayed other = absurd (other n refl)
    errors_tell (events.LinkUp number) relayed other = of_paths-tells (link_change r s.facts number true) (link-tells r s.facts number true)
    errors_tell (events.LinkDown number) relayed other = of_paths-tells (link_change r s.facts number false) (link-tells r s.facts number false)
    errors_tell (events.Command c) relayed other = command_comes-tells c
    errors_tell events.Restart relayed other = (tt, refl, refl)
    errors_tell events.Start relayed other = (tt, refl, refl)

    -- Of itself an event tells reports.
    pub errors_are : (event : Event) → ((m : Relay) (link : ℕ) → event ≡ events.Relay m → P (relayed_by m link)) → AreSuch (outcome r s event).errors
    errors_are (events.Arrive a) relayed = (arrival-tells a).0
    errors_are (events.Relay m) relayed = (relay-tells m (λ link. relayed m link refl)).0
    errors_are (events.Tick n) relayed = tick-reports n
    errors_are (events.LinkUp number) relayed = (link-tells r s.facts number true).0
    errors_are (events.LinkDown number) relayed = (link-tells r s.facts number false).0
    errors_are (events.Command c) relayed = (command_comes-tells c).0
    errors_are events.Restart relayed = tt
    errors_are events.Start relayed = tt

-- errors neither make state nor tear it down
pub of_reports : HoldOfErrors IsReport
of_reports = record {
  path_err = λ link e. (refl, refl);
  routed_err = λ link to e. (refl, refl);
  resv_err = λ link e. (refl, refl);
  through_err = λ over e. (refl, refl);
}

-- Nor does what an event tells, and nothing is due for one but a moment.
pub event_tells : (r : Router) (s : State) (event : Event) → ((n : ℕ) → event ≢ events.Tick n) → Tells IsReport of_reports (outcome r s event)
event_tells r s event other = errors_tell IsReport of_reports r s event (λ m link came. (refl, refl)) other

pub event_reports : (r : Router) (s : State) (event : Event) → AreReports (outcome r s event).errors
event_reports r s event = errors_are IsReport of_reports r s event (λ m link came. (refl, refl))

pub repaired-reports : (r : Router) (s : State) → AreReports (told_repaired r s)
repaired-reports r s = repairs_are IsReport of_reports r s
