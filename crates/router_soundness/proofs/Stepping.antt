-- What holds of one step: it is determined, and what is refused is silent.
use Rattle.std.specs.Prelude.{Bool, ◌≡◌, ◌&&◌, ℕ, not, true, false, if◌then◌else◌, List, [], ◌∷◌, filter_map, Option, Some, None, is_none, option_to_list}
use Rattle.std.specs.FinMap.Entries.{find}
use Rattle.std.specs.List.{list_any}
use Rattle.std.specs.Option.{option_map_or}
use Rattle.std.proofs.Common.{refl, ap, sym, ◌∙◌}
use Rattle.std.proofs.lemmas.Bool.{cond_both}
use Rattle.rsvp_contents.specs.declared.message.Reading.{Reading}
use Rattle.rsvp_contents.specs.declared.message.Reading.TheVariants as readings
use Rattle.rsvp_contents.specs.declared.messages.Content.{Content}
use Rattle.rsvp_contents.specs.declared.messages.Content.TheVariants as contents
use Rattle.rsvp_contents.specs.declared.messages.Path.{Path}
use Rattle.rsvp_contents.specs.declared.messages.PathErr.{PathErr}
use Rattle.rsvp_contents.specs.declared.messages.Resv.{Resv}
use Rattle.rsvp_contents.specs.declared.messages.ResvErr.{ResvErr}
use Rattle.rsvp_contents.specs.declared.messages.ResvTear.{ResvTear}
use Rattle.lsr_facts.specs.Lifetimes.{due_items}
use Rattle.lsr_facts.specs.Orders.{key_cmp}
use Rattle.lsr_facts.specs.Routers.{IsRouter, link_at}
use Rattle.lsr_facts.specs.declared.key.Key.{Key}
use Rattle.lsr_facts.specs.declared.errors.RsvpError.{RsvpError}
use Rattle.lsr_facts.specs.declared.refusal.Refusal.{Refusal}
use Rattle.lsr_facts.specs.declared.refusal.Refusal.TheVariants.{InUse, LinkDown, NoMatch, UnknownLink}
use Rattle.lsr_facts.specs.declared.reply.Reply.TheVariants as replies
use Rattle.lsr_facts.specs.declared.router.Router.{Router}
use Rattle.lsr_facts.specs.Reservations.{expire_repairs, expire_resvs, style_of}
use Rattle.lsr_facts.specs.declared.resv_fact.ResvStyle.{ResvStyle}
use Rattle.abstract_paths.specs.declared.commands.Command.{Command}
use Rattle.abstract_paths.specs.declared.ways.ArrivalWay.{ArrivalWay}
use Rattle.abstract_paths.specs.declared.ways.ArrivalWay.TheVariants as ways
use Rattle.abstract_paths.specs.declared.ways.Arrive.{Arrive}
use Rattle.abstract_paths.specs.declared.events.Event.{Event}
use Rattle.abstract_paths.specs.declared.events.Event.TheVariants as events
use Rattle.abstract_paths.specs.declared.events.Made.{Made}
use Rattle.abstract_paths.specs.declared.events.Output.{Output}
use Rattle.abstract_paths.proofs.Refusals as paths
use Rattle.abstract_paths.specs.Outcomes as path_outcomes
use Rattle.abstract_paths.specs.Paths.{key_of, path_arrival, unknown_object}
use Rattle.abstract_paths.specs.Commands.{begun_by, command}
use Rattle.abstract_paths.specs.Links.{link_change}
use Rattle.abstract_paths.specs.Merging.{stack_path_arrival, stack_path_failed, stack_tear_arrival}
use Rattle.abstract_paths.specs.Places.{is_up}
use Rattle.abstract_paths.specs.Relays.{exceeds_hop_limit, relay}
use Rattle.abstract_router.specs.Steps.{IsEvent}
use Rattle.abstract_paths.specs.Tears.{path_err_arrival, path_tear_arrival}
use Rattle.abstract_paths.specs.Time.{tick}
use Rattle.router_soundness.proofs.Choosing.{labels_to_choose}
use Rattle.router_soundness.proofs.Drafting.{outcome-leaves}
use Rattle.router_soundness.proofs.OtherWays.{returned_err_by, returned_resv_by, returned_tear_by, returned_unknown_by, unknown_routed_by, unknown_stack_by}
use Rattle.router_soundness.proofs.Settling.{Leaves, LeavesBy}
use Rattle.abstract_router.specs.Soundness.{IsSound}
use Rattle.abstract_router.specs.Arrivals.{arrival, arrival_by, command_comes, commanded_by, for_reservations, is_done, labelled_path_arrival, message_arrival, moment_comes, outcome, reading_arrival, routed_arrival, stack_arrival, takes_used_bypass}
use Rattle.lsr_facts.specs.Errors.{unknown_style}
use Rattle.label_space.specs.Rests.{resting_past}
use Rattle.abstract_router.specs.Labels.{has_free_label}
use Rattle.abstract_router.specs.Outcomes.{Outcome, of_paths, refused}
use Rattle.abstract_router.specs.Reserving.{Progress, all_descriptors, resv_arrival, resv_failed, resv_replied, unknown_resv}
use Rattle.abstract_router.specs.Returning.{returned_err, returned_resv, returned_tear, returned_unknown}
use Rattle.abstract_router.specs.States.{State, with_facts, without_held}
use Rattle.abstract_router.specs.Steps.{MayChoose, MayChooseBy, Step, known_after, sent_in, settled, with_moments}
use Rattle.abstract_router.specs.Tearing.{err_onward, is_resv_torn_by, resv_err_passed_on, resv_err_arrival, resv_tear_arrival, stack_err_arrival, stack_err_onward}

-- Two steps of one event from the same state, with the same labels, are one.
pub same_step : (r : Router) (before a b : State) (one other : Made) → one.event ≡ other.event → one.labels ≡ other.labels → Step r before one a → Step r before other b → (one ≡ other) × (a ≡ b)
same_step r before a b one other event labels x y =
    let after : a ≡ b = x.changed ∙ (λ i. known_after r before (labels i) (outcome r before (event i))) ∙ sym y.changed in
    let reply : one.reply ≡ other.reply = x.replied ∙ (λ i. (outcome r before (event i)).reply) ∙ sym y.replied in
    let outputs : one.outputs ≡ other.outputs = x.sent ∙ (λ i. sent_in r before (outcome r before (event i)) (after i)) ∙ sym y.sent in
    ((λ i. record { event = event i; labels = labels i; reply = reply i; outputs = outputs i }), after)

-- An outcome that is refused is silent, and leaves the state as it was.
abbrev RefusesSilently : State → Outcome → Type 0
RefusesSilently s o = (refusal : Refusal) → o.reply ≡ replies.Refused refusal → (o.is_silent ≡ true) × (o.after ≡ s)

module _ (r : Router) (s : State) where
  refuses : (refusal : Refusal) → RefusesSilently s (refused s refusal)
  refuses refusal other is = (refl, refl)

  -- what the router of paths refuses silently is refused so
  of_paths-refuses : (o : path_outcomes.PathOutcome) → paths.RefusesSilently s.facts o → RefusesSilently s (of_paths s o)
  of_paths-refuses o silently refusal is = let so = silently refusal is in (so.0, ap (λ facts. with_facts facts s) so.1)

  resv-refuses : (link : ℕ) (v : Resv) → RefusesSilently s (resv_arrival r s link v)
  unfolding resv_arrival
  resv-refuses link v = by_style (style_of v.style)
    where
      by_first : (progress : Progress) (first : Option RsvpError) → RefusesSilently s (resv_replied s progress first)
      by_first progress (Some e) = λ refusal is. cc
      by_first progress None = cond_both progress.has_granted _ (refused s NoMatch) (RefusesSilently s) (λ some refusal is. cc) (λ none. refuses NoMatch)

      by_style : (style : Option ResvStyle) → RefusesSilently s (option_map_or (λ style. let progress = all_descriptors r s link style v in resv_replied s progress progress.first) style (resv_failed r s link v false [] unknown_style))
      by_style None = λ refusal is. cc
      by_style (Some style) = by_first (all_descriptors r s link style v) (all_descriptors r s link style v).first

  tear-refuses : (link : ℕ) (t : ResvTear) → RefusesSilently s (resv_tear_arrival s link t)
  unfolding resv_tear_arrival
  tear-refuses link t = cond_both (list_any (is_resv_torn_by link t) s.resvs) _ (refused s NoMatch) (RefusesSilently s) (λ some refusal is. cc) (λ none. refuses NoMatch)

  passed_on-refuses : (matched : List (List Output)) → RefusesSilently s (resv_err_passed_on s matched)
  passed_on-refuses [] = refuses NoMatch
  passed_on-refuses (one ∷ more) = λ refusal is. cc

  err-refuses : (link : ℕ) (e : ResvErr) → RefusesSilently s (resv_err_arrival r s link e)
  unfolding resv_err_arrival
  err-refuses link e = passed_on-refuses (filter_map (err_onward r s link e) e.descriptors)

  stack_err-refuses : (e : ResvErr) → RefusesSilently s (stack_err_arrival r s e)
  unfolding stack_err_arrival
  stack_err-refuses e = passed_on-refuses (filter_map (stack_err_onward r s e) e.descriptors)

  path-refuses : (link : ℕ) (p : Path) → RefusesSilently s (labelled_path_arrival r s link p)
  unfolding labelled_path_arrival
  path-refuses link p =
      cond_both (is_done (path_arrival r s.facts link p).reply && is_none (find key_cmp (key_of p) s.facts.paths) && not (has_free_label r s.labels s.resting)) _ _ (RefusesSilently s)
      (λ full refusal is. cc) (λ room. of_paths-refuses (path_arrival r s.facts link p) (paths.path_arrival-refuses r s.facts link p))

  message-refuses : (link : ℕ) (content : Content) → RefusesSilently s (message_arrival r s link content)
  message-refuses link (contents.Path p) = path-refuses link p
  message-refuses link (contents.Resv v) = resv-refuses link v
  message-refuses link (contents.PathErr e) = of_paths-refuses (path_err_arrival r s.facts link e) (paths.path_err-refuses r s.facts link e)
  message-refuses link (contents.ResvErr e) = err-refuses link e
  message-refuses link (contents.PathTear t) = of_paths-refuses (path_tear_arrival s.facts link t) (paths.path_tear-refuses r s.facts link t)
  message-refuses link (contents.ResvTear t) = tear-refuses link t

  reading-refuses : (link : ℕ) (reading : Reading) → RefusesSilently s (reading_arrival r s link reading)
  unfolding unknown_resv
  reading-refuses link (readings.Whole content) = message-refuses link content
  reading-refuses link (readings.Unknown (contents.Path p) class ctype) = λ refusal is. cc
  reading-refuses link (readings.Unknown (contents.Resv v) class ctype) = λ refusal is. cc
  reading-refuses link (readings.Unknown (contents.PathErr e) class ctype) = message-refuses link (contents.PathErr e)
  reading-refuses link (readings.Unknown (contents.ResvErr e) class ctype) = message-refuses link (contents.ResvErr e)
  reading-refuses link (readings.Unknown (contents.PathTear t) class ctype) = message-refuses link (contents.PathTear t)
  reading-refuses link (readings.Unknown (contents.ResvTear t) class ctype) = message-refuses link (contents.ResvTear t)

  -- a message that comes through a stack
  stack-refuses : (content : Content) → RefusesSilently s (stack_arrival r s content)
  stack-refuses (contents.Path p) = of_paths-refuses (stack_path_arrival s.facts p) (paths.stack_path-refuses r s.facts p)
  stack-refuses (contents.Resv v) = refuses NoMatch
  stack-refuses (contents.PathErr e) = refuses NoMatch
  stack-refuses (contents.ResvErr e) = stack_err-refuses e
  stack-refuses (contents.PathTear t) = of_paths-refuses (stack_tear_arrival s.facts t) (paths.stack_tear-refuses r s.facts t)
  stack-refuses (contents.ResvTear t) = refuses NoMatch

  -- and one that comes in a Routed frame
  returned_resv-refuses : (v : Resv) → RefusesSilently s (returned_resv r s v)
  returned_resv-refuses v = returned_resv_by (RefusesSilently s) r s (refuses NoMatch) v (λ style reply heard refusal is. absurd (heard refusal is))

  returned_unknown-refuses : (v : Resv) (class ctype : ℕ) → RefusesSilently s (returned_unknown r s v class ctype)
  returned_unknown-refuses v class ctype = returned_unknown_by (RefusesSilently s) r s (refuses NoMatch) v class ctype (λ repair refusal is. cc)

  returned_tear-refuses : (t : ResvTear) → RefusesSilently s (returned_tear r s t)
  returned_tear-refuses t = returned_tear_by (RefusesSilently s) r s (refuses NoMatch) t (λ test refusal is. cc)

  returned_err-refuses : (e : PathErr) → RefusesSilently s (returned_err r s e)
  returned_err-refuses e = returned_err_by (RefusesSilently s) r s (refuses NoMatch) e (λ key path refusal is. cc)

  routed-refuses : (content : Content) → RefusesSilently s (routed_arrival r s content)
  routed-refuses (contents.Path p) = refuses NoMatch
  routed-refuses (contents.Resv v) = returned_resv-refuses v
  routed-refuses (contents.PathErr e) = returned_err-refuses e
  routed-refuses (contents.ResvErr e) = refuses NoMatch
  routed-refuses (contents.PathTear t) = refuses NoMatch
  routed-refuses (contents.ResvTear t) = returned_tear-refuses t

  way-refuses : (way : ArrivalWay) (link : ℕ) (reading : Reading) → RefusesSilently s (arrival_by r s way link reading)
  way-refuses ways.Hop link reading = reading-refuses link reading
  way-refuses ways.Stack link (readings.Whole content) = stack-refuses content
  way-refuses ways.Stack link (readings.Unknown content class ctype) =
      unknown_stack_by (RefusesSilently s) r s class ctype content (λ p. of_paths-refuses (stack_path_failed r s.facts p (unknown_object class ctype)) (paths.stack_path_failed-refuses r s.facts p (unknown_object class ctype))) (stack-refuses content)
  way-refuses ways.Routed link (readings.Whole content) = routed-refuses content
  way-refuses ways.Routed link (readings.Unknown content class ctype) = unknown_routed_by (RefusesSilently s) r s class ctype content (λ v. returned_unknown-refuses v class ctype) (routed-refuses content)

  arrival-refuses : (a : Arrive) → RefusesSilently s (arrival r s a)
  unfolding arrival
  arrival-refuses a =
      cond_both (is_none (link_at r a.link)) (refused s UnknownLink) _ (RefusesSilently s) (λ none. refuses UnknownLink)
      (λ there. cond_both (not (is_up s.facts.up a.link)) (refused s LinkDown) _ (RefusesSilently s) (λ down. refuses LinkDown)
      (λ up. way-refuses a.way a.link a.reading))

  -- a moment that comes for reservations too isn't refused
  moment-refuses : (n : ℕ) (o : Outcome) → RefusesSilently s o → RefusesSilently s (for_reservations r s n o)
  moment-refuses n o silently refusal =
      elim o.is_silent as (λ b. o.is_silent ≡ b → (if b then o else comes).reply ≡ replies.Refused refusal → ((if b then o else comes).is_silent ≡ true) × ((if b then o else comes).after ≡ s)) [
        | true ↦ λ silent. λ is. silently refusal is
        | false ↦ λ heard. λ is. absurd (let h = (silently refusal is).0 in cc)
      ] refl
    where
      comes : Outcome
      comes = record o { after = record o.after { resvs = expire_resvs n s.resvs; repairs = expire_repairs n s.repairs; resting = resting_past n s.resting }; upstream_due = due_items r.refresh_ms s.sent_upstream n }

  tick-refuses : (n : ℕ) → RefusesSilently s (moment_comes r s n)
  unfolding moment_comes
  tick-refuses n = moment-refuses n (of_paths s (tick r s.facts n)) (of_paths-refuses (tick r s.facts n) (paths.tick-refuses r s.facts n))

  command-refuses : (c : Command) → RefusesSilently s (command_comes r s c)
  unfolding command_comes
  command-refuses c refusal =
      elim (command r s.facts c).is_silent as (λ b. (command r s.facts c).is_silent ≡ b → IsSilent (if b then o else commanded_by r s c o)) [
        | true ↦ λ silent is. of_paths-refuses (command r s.facts c) (paths.command-refuses r s.facts c) refusal is
        | false ↦ λ heard. cond_both (takes_used_bypass s c) (refused s InUse) comes IsSilent (λ used. refuses InUse refusal) (λ other is. absurd (let h = (paths.command-refuses r s.facts c refusal is).0 in cc))
      ] refl
    where
      o : Outcome
      o = of_paths s (command r s.facts c)

      comes : Outcome
      comes = record o { after = without_held (option_to_list (begun_by r s.facts c)) o.after }

      IsSilent : Outcome → Type 0
      IsSilent x = x.reply ≡ replies.Refused refusal → (x.is_silent ≡ true) × (x.after ≡ s)

  outcome-refuses : (event : Event) → RefusesSilently s (outcome r s event)
  outcome-refuses (events.Arrive a) = arrival-refuses a
  outcome-refuses (events.Relay m) = of_paths-refuses (relay r s.facts m) (paths.relay-refuses r s.facts m)
  outcome-refuses (events.Tick n) = tick-refuses n
  outcome-refuses (events.LinkUp number) = of_paths-refuses (link_change r s.facts number true) (paths.link_change-refuses r s.facts number true)
  outcome-refuses (events.LinkDown number) = of_paths-refuses (link_change r s.facts number false) (paths.link_change-refuses r s.facts number false)
  outcome-refuses (events.Command c) = command-refuses c
  outcome-refuses events.Restart = λ refusal is. cc
  outcome-refuses events.Start = λ refusal is. cc

-- What is refused changes nothing, and nothing is sent for it.
pub step_refused : (r : Router) (before : State) (made : Made) (after : State) (refusal : Refusal) → Step r before made after → made.reply ≡ replies.Refused refusal → (made.outputs ≡ []) × (after ≡ before)
step_refused r before made after refusal x refused =
    let o = outcome r before made.event in
    let is = outcome-refuses r before made.event refusal (sym x.replied ∙ refused) in (
      x.sent ∙ ap (λ b. if b then [] else sent_in r before (record o { is_silent = false }) after) is.0,
      x.changed ∙ ap (λ b. if b then o.after else with_moments r before o (settled r made.labels o.after)) is.0 ∙ is.1,
    )

-- The step of an event, for labels that may be chosen.
pub step_of : (r : Router) (before : State) (event : Event) (labels : List (Key × ℕ)) → before.facts.cold ≡ false → IsEvent event → exceeds_hop_limit r before.facts event ≡ false → MayChoose r before (outcome r before event) labels
    → (made : Made) × (made.event ≡ event) × (made.labels ≡ labels) × (after : State) × Step r before made after
step_of r before event labels runs possible passes chosen =
    let o = outcome r before event in
    let after = known_after r before labels o in (
      record { event = event; labels = labels; reply = o.reply; outputs = sent_in r before o after },
      refl,
      refl,
      after,
      record { possible = possible; awake = λ cold. absurd (let e = sym runs ∙ cold in cc); passes = passes; chosen = chosen; replied = refl; changed = refl; sent = refl },
    )

-- Labels may be chosen for each event that can be: a free one, where an LSP is new.
pub some_labels : (r : Router) (before : State) (event : Event) → IsRouter r → IsSound r before → IsEvent event → (before.facts.cold ≡ true → event ≡ events.Start) → (labels : List (Key × ℕ)) × MayChoose r before (outcome r before event) labels
some_labels r before event router is possible awake =
    by (outcome r before event) (outcome-leaves r before event router is possible awake)
  where
    chosen_by : (o : Outcome) (silent : Bool) → LeavesBy r before silent o.after → (labels : List (Key × ℕ)) × MayChooseBy silent r before o.after.facts.paths labels
    chosen_by o true sound = ([], refl)
    chosen_by o false drafted = labels_to_choose r before o.after.facts.paths router.labels.some drafted.paths.paths.in_order drafted.choice

    by : (o : Outcome) → Leaves r before o → (labels : List (Key × ℕ)) × MayChoose r before o labels
    by o leaves = chosen_by o o.is_silent leaves
