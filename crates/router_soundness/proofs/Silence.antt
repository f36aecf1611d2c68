-- An event that is silent changes nothing, but for a restart, and a start of a router that is cold.
use Rattle.router_soundness.proofs.Keeping.{PutsBy, puts_path}
use Rattle.router_soundness.proofs.OtherWays.{returned_err_by, returned_resv_by, returned_tear_by, returned_unknown_by, unknown_routed_by, unknown_stack_by}
use Rattle.abstract_router.specs.Arrivals.{arrival, arrival_by, command_comes, commanded_by, for_reservations, is_done, labelled_path_arrival, message_arrival, moment_comes, outcome, reading_arrival, routed_arrival, stack_arrival, takes_used_bypass}
use Rattle.lsr_facts.specs.Errors.{unknown_style}
use Rattle.abstract_router.specs.Labels.{has_free_label}
use Rattle.abstract_router.specs.Outcomes.{Outcome, of_paths, refused}
use Rattle.abstract_router.specs.Reserving.{Progress, all_descriptors, resv_arrival, resv_failed, resv_replied, unknown_resv}
use Rattle.abstract_router.specs.States.{State, with_facts}
use Rattle.abstract_router.specs.Returning.{returned_err, returned_resv, returned_tear, returned_unknown}
use Rattle.abstract_router.specs.Tearing.{err_onward, is_resv_torn_by, resv_err_passed_on, resv_err_arrival, resv_tear_arrival, stack_err_arrival, stack_err_onward}
use Rattle.abstract_paths.specs.Commands.{command, commanded, refusal_of}
use Rattle.abstract_paths.specs.Links.{link_change}
use Rattle.abstract_paths.proofs.Merging.{stack_path_by}
use Rattle.abstract_paths.specs.Merging.{came_through, stack_path_arrival, stack_tear_arrival}
use Rattle.abstract_paths.specs.Outcomes as path_outcomes
use Rattle.abstract_paths.specs.Outcomes.{lsp}
use Rattle.abstract_paths.specs.Paths.{key_of, path_arrival}
use Rattle.abstract_paths.specs.Places.{is_up, place_of}
use Rattle.abstract_paths.specs.Relays.{relay, relayed_by}
use Rattle.abstract_paths.specs.Routing.{route_to}
use Rattle.abstract_paths.specs.Tears.{is_torn_by, leaves_by, left_with, origins_without, path_err_passed_on, path_err_arrival, path_tear_arrival, torn}
use Rattle.abstract_paths.specs.Time.{tick}
use Rattle.lsr_facts.specs.Orders.{key_cmp}
use Rattle.lsr_facts.specs.Routers.{link_at}
use Rattle.lsr_facts.specs.declared.errors.RsvpError.{RsvpError}
use Rattle.lsr_facts.specs.declared.facts.Facts.{Facts}
use Rattle.lsr_facts.specs.declared.key.Key.{Key}
use Rattle.lsr_facts.specs.declared.path_fact.PathFact.{PathFact}
use Rattle.lsr_facts.specs.declared.refusal.Refusal.{Refusal}
use Rattle.lsr_facts.specs.declared.refusal.Refusal.TheVariants.{InUse, LinkDown, NoMatch, UnknownLink}
use Rattle.lsr_facts.specs.declared.router.Router.{Router}
use Rattle.lsr_facts.specs.Reservations.{style_of}
use Rattle.lsr_facts.specs.declared.resv_fact.ResvStyle.{ResvStyle}
use Rattle.abstract_paths.specs.declared.commands.Command.{Command}
use Rattle.abstract_paths.specs.declared.ways.ArrivalWay.{ArrivalWay}
use Rattle.abstract_paths.specs.declared.ways.ArrivalWay.TheVariants as ways
use Rattle.abstract_paths.specs.declared.ways.Arrive.{Arrive}
use Rattle.abstract_paths.specs.declared.ways.Relay.{Relay}
use Rattle.abstract_paths.specs.declared.events.Event.TheVariants as events
use Rattle.abstract_paths.specs.declared.events.Event.{Event}
use Rattle.abstract_paths.specs.declared.events.Output.{Output}
use Rattle.rsvp_contents.specs.declared.message.Reading.TheVariants as readings
use Rattle.rsvp_contents.specs.declared.message.Reading.{Reading}
use Rattle.rsvp_contents.specs.declared.messages.Content.TheVariants as contents
use Rattle.rsvp_contents.specs.declared.messages.Content.{Content}
use Rattle.rsvp_contents.specs.declared.messages.Path.{Path}
use Rattle.rsvp_contents.specs.declared.messages.PathErr.{PathErr}
use Rattle.rsvp_contents.specs.declared.messages.PathTear.{PathTear}
use Rattle.rsvp_contents.specs.declared.messages.Resv.{Resv}
use Rattle.rsvp_contents.specs.declared.messages.ResvErr.{ResvErr}
use Rattle.rsvp_contents.specs.declared.messages.ResvTear.{ResvTear}
use Rattle.std.proofs.Common.{ap, refl, sym, ◌∙◌}
use Rattle.std.proofs.lemmas.Bool.{cond_both}
use Rattle.std.specs.FinMap.Entries.{find}
use Rattle.std.specs.List.{list_any}
use Rattle.std.specs.Option.{option_map_or}
use Rattle.std.specs.Prelude.{ℕ, Bool, List, None, Option, Some, [], false, find as find_first, filter_map, is_none, if◌then◌else◌, nat_lt, not, true, ◌&&◌, ◌^◌, ◌∷◌, ◌≡◌, ◌≢◌}

-- an outcome that is silent leaves the state as it was
abbrev pub KeepsSilently : State → Outcome → Type 0
KeepsSilently s o = o.is_silent ≡ true → o.after ≡ s

-- so it is with paths
abbrev PathsKeep : Facts → path_outcomes.PathOutcome → Type 0
PathsKeep s o = o.is_silent ≡ true → o.after ≡ s

puts-keep : (r : Router) (s : Facts) (p : Path) (o : path_outcomes.PathOutcome) (silent : Bool) → PutsBy r s p silent o → silent ≡ true → o.after ≡ s
puts-keep r s p o true same silent = same
puts-keep r s p o false made silent = absurd (let e = silent in cc)

path_arrival-keeps : (r : Router) (s : Facts) (link : ℕ) (p : Path) → PathsKeep s (path_arrival r s link p)
path_arrival-keeps r s link p = puts-keep r s p (path_arrival r s link p) (path_arrival r s link p).is_silent (puts_path r s link p)

command-keeps : (r : Router) (s : Facts) (c : Command) → PathsKeep s (command r s c)
unfolding command
command-keeps r s c = by (refusal_of r s c)
  where
    by : (refusal : Option Refusal) → PathsKeep s (option_map_or (path_outcomes.refused s) refusal (path_outcomes.done [] (commanded r s c)))
    by None = λ silent. absurd (let e = silent in cc)
    by (Some refusal) = λ silent. refl

torn-keeps : (s : Facts) (link : ℕ) (t : PathTear) (known : Option PathFact) → PathsKeep s (torn s link t known)
torn-keeps s link t None = λ silent. refl
torn-keeps s link t (Some fact) = cond_both (is_torn_by link t fact) _ _ (PathsKeep s) (λ gone silent. absurd (let e = silent in cc)) (λ other silent. refl)

err-keeps : (r : Router) (s : Facts) (link : ℕ) (e : PathErr) (known : Option PathFact) → PathsKeep s (path_err_passed_on r s link e known)
err-keeps r s link e None = λ silent. refl
err-keeps r s link e (Some fact) = cond_both (leaves_by link fact) _ _ (PathsKeep s) (λ goes silent. absurd (let e = silent in cc)) (λ other silent. refl)

stack_path-keeps : (s : Facts) (p : Path) → PathsKeep s (stack_path_arrival s p)
stack_path-keeps s p = stack_path_by (PathsKeep s) s p (λ silent. refl) (λ path only room silent. absurd (let e = silent in cc))

stack_tear-keeps : (s : Facts) (t : PathTear) → PathsKeep s (stack_tear_arrival s t)
unfolding stack_tear_arrival
stack_tear-keeps s t = by (find_first (came_through (lsp t.session t.sender)) s.paths)
  where
    by : (o : Option (Key × PathFact)) → PathsKeep s (option_map_or (λ path. path_outcomes.done [] (left_with path.0 path.1 (origins_without t.sender.sender path.1) s)) o (path_outcomes.refused s NoMatch))
    by None = λ silent. refl
    by (Some path) = λ silent. absurd (let e = silent in cc)

link-keeps : (r : Router) (s : Facts) (number : ℕ) (up : Bool) → PathsKeep s (link_change r s number up)
unfolding link_change
link-keeps r s number up = cond_both (is_none (link_at r number)) _ _ (PathsKeep s) (λ unknown silent. refl) (λ known silent. absurd (let e = silent in cc))

module _ (r : Router) (s : State) where
  -- what the router of paths does
  of_paths-keeps : (o : path_outcomes.PathOutcome) → PathsKeep s.facts o → KeepsSilently s (of_paths s o)
  of_paths-keeps o keeps silent = ap (λ facts. with_facts facts s) (keeps silent)

  path-keeps : (link : ℕ) (p : Path) → KeepsSilently s (labelled_path_arrival r s link p)
  unfolding labelled_path_arrival
  path-keeps link p =
      cond_both (is_done (path_arrival r s.facts link p).reply && is_none (find key_cmp (key_of p) s.facts.paths) && not (has_free_label r s.labels s.resting)) _ _ (KeepsSilently s)
      (λ full silent. absurd (let e = silent in cc)) (λ room. of_paths-keeps (path_arrival r s.facts link p) (path_arrival-keeps r s.facts link p))

  resv-keeps : (link : ℕ) (v : Resv) → KeepsSilently s (resv_arrival r s link v)
  unfolding resv_arrival
  resv-keeps link v = by_style (style_of v.style)
    where
      by_first : (progress : Progress) (first : Option RsvpError) → KeepsSilently s (resv_replied s progress first)
      by_first progress (Some e) = λ silent. absurd (let f = silent in cc)
      by_first progress None = cond_both progress.has_granted _ (refused s NoMatch) (KeepsSilently s) (λ some silent. absurd (let f = silent in cc)) (λ none silent. refl)

      by_style : (style : Option ResvStyle) → KeepsSilently s (option_map_or (λ style. let progress = all_descriptors r s link style v in resv_replied s progress progress.first) style (resv_failed r s link v false [] unknown_style))
      by_style None = λ silent. absurd (let f = silent in cc)
      by_style (Some style) = by_first (all_descriptors r s link style v) (all_descriptors r s link style v).first

  resv_tear-keeps : (link : ℕ) (t : ResvTear) → KeepsSilently s (resv_tear_arrival s link t)
  unfolding resv_tear_arrival
  resv_tear-keeps link t = cond_both (list_any (is_resv_torn_by link t) s.resvs) _ (refused s NoMatch) (KeepsSilently s) (λ some silent. absurd (let f = silent in cc)) (λ none silent. refl)

  passed_on-keeps : (matched : List (List Output)) → KeepsSilently s (resv_err_passed_on s matched)
  passed_on-keeps [] = λ silent. refl
  passed_on-keeps (one ∷ more) = λ silent. absurd (let f = silent in cc)

  resv_err-keeps : (link : ℕ) (e : ResvErr) → KeepsSilently s (resv_err_arrival r s link e)
  unfolding resv_err_arrival
  resv_err-keeps link e = passed_on-keeps (filter_map (err_onward r s link e) e.descriptors)

  stack_err-keeps : (e : ResvErr) → KeepsSilently s (stack_err_arrival r s e)
  unfolding stack_err_arrival
  stack_err-keeps e = passed_on-keeps (filter_map (stack_err_onward r s e) e.descriptors)

  message-keeps : (link : ℕ) (content : Content) → KeepsSilently s (message_arrival r s link content)
  unfolding path_err_arrival path_tear_arrival
  message-keeps link (contents.Path p) = path-keeps link p
  message-keeps link (contents.Resv v) = resv-keeps link v
  message-keeps link (contents.PathErr e) = of_paths-keeps (path_err_arrival r s.facts link e) (err-keeps r s.facts link e (find key_cmp (lsp e.session e.sender) s.facts.paths))
  message-keeps link (contents.ResvErr e) = resv_err-keeps link e
  message-keeps link (contents.PathTear t) = of_paths-keeps (path_tear_arrival s.facts link t) (torn-keeps s.facts link t (find key_cmp (lsp t.session t.sender) s.facts.paths))
  message-keeps link (contents.ResvTear t) = resv_tear-keeps link t

  reading-keeps : (link : ℕ) (reading : Reading) → KeepsSilently s (reading_arrival r s link reading)
  unfolding unknown_resv
  reading-keeps link (readings.Whole content) = message-keeps link content
  reading-keeps link (readings.Unknown (contents.Path p) class ctype) = λ silent. absurd (let f = silent in cc)
  reading-keeps link (readings.Unknown (contents.Resv v) class ctype) = λ silent. absurd (let f = silent in cc)
  reading-keeps link (readings.Unknown (contents.PathErr e) class ctype) = message-keeps link (contents.PathErr e)
  reading-keeps link (readings.Unknown (contents.ResvErr e) class ctype) = message-keeps link (contents.ResvErr e)
  reading-keeps link (readings.Unknown (contents.PathTear t) class ctype) = message-keeps link (contents.PathTear t)
  reading-keeps link (readings.Unknown (contents.ResvTear t) class ctype) = message-keeps link (contents.ResvTear t)

  -- a message that comes through a stack
  stack-keeps : (content : Content) → KeepsSilently s (stack_arrival r s content)
  stack-keeps (contents.Path p) = of_paths-keeps (stack_path_arrival s.facts p) (stack_path-keeps s.facts p)
  stack-keeps (contents.Resv v) = λ silent. refl
  stack-keeps (contents.PathErr e) = λ silent. refl
  stack-keeps (contents.ResvErr e) = stack_err-keeps e
  stack-keeps (contents.PathTear t) = of_paths-keeps (stack_tear_arrival s.facts t) (stack_tear-keeps s.facts t)
  stack-keeps (contents.ResvTear t) = λ silent. refl

  -- and one that comes in a Routed frame
  returned_resv-keeps : (v : Resv) → KeepsSilently s (returned_resv r s v)
  returned_resv-keeps v = returned_resv_by (KeepsSilently s) r s (λ silent. refl) v (λ style reply heard silent. absurd (let f = silent in cc))

  returned_unknown-keeps : (v : Resv) (class ctype : ℕ) → KeepsSilently s (returned_unknown r s v class ctype)
  returned_unknown-keeps v class ctype = returned_unknown_by (KeepsSilently s) r s (λ silent. refl) v class ctype (λ repair silent. absurd (let f = silent in cc))

  returned_tear-keeps : (t : ResvTear) → KeepsSilently s (returned_tear r s t)
  returned_tear-keeps t = returned_tear_by (KeepsSilently s) r s (λ silent. refl) t (λ test silent. absurd (let f = silent in cc))

  returned_err-keeps : (e : PathErr) → KeepsSilently s (returned_err r s e)
  returned_err-keeps e = returned_err_by (KeepsSilently s) r s (λ silent. refl) e (λ key path silent. absurd (let f = silent in cc))

  routed-keeps : (content : Content) → KeepsSilently s (routed_arrival r s content)
  routed-keeps (contents.Path p) = λ silent. refl
  routed-keeps (contents.Resv v) = returned_resv-keeps v
  routed-keeps (contents.PathErr e) = returned_err-keeps e
  routed-keeps (contents.ResvErr e) = λ silent. refl
  routed-keeps (contents.PathTear t) = λ silent. refl
  routed-keeps (contents.ResvTear t) = returned_tear-keeps t

  way-keeps : (way : ArrivalWay) (link : ℕ) (reading : Reading) → KeepsSilently s (arrival_by r s way link reading)
  way-keeps ways.Hop link reading = reading-keeps link reading
  way-keeps ways.Stack link (readings.Whole content) = stack-keeps content
  way-keeps ways.Stack link (readings.Unknown content class ctype) = unknown_stack_by (KeepsSilently s) r s class ctype content (λ p silent. absurd (let f = silent in cc)) (stack-keeps content)
  way-keeps ways.Routed link (readings.Whole content) = routed-keeps content
  way-keeps ways.Routed link (readings.Unknown content class ctype) = unknown_routed_by (KeepsSilently s) r s class ctype content (λ v. returned_unknown-keeps v class ctype) (routed-keeps content)

  relay-keeps : (m : Relay) → KeepsSilently s (of_paths s (relay r s.facts m))
  unfolding relay
  relay-keeps m =
      cond_both (is_none (link_at r m.link)) _ _ (λ o. KeepsSilently s (of_paths s o)) (λ none silent. refl)
      (λ there. cond_both (not (is_up s.facts.up m.link)) _ _ (λ o. KeepsSilently s (of_paths s o)) (λ down silent. refl)
      (λ up. by (route_to (place_of r s.facts) m.to)))
    where
      by : (way : Option ℕ) → KeepsSilently s (of_paths s (option_map_or (λ link. path_outcomes.done (relayed_by m link ∷ []) s.facts) way (path_outcomes.refused s.facts NoMatch)))
      by None = λ silent. refl
      by (Some link) = λ silent. absurd (let f = silent in cc)

  arrival-keeps : (a : Arrive) → KeepsSilently s (arrival r s a)
  unfolding arrival
  arrival-keeps a =
      cond_both (is_none (link_at r a.link)) (refused s UnknownLink) _ (KeepsSilently s) (λ none silent. refl)
      (λ there. cond_both (not (is_up s.facts.up a.link)) (refused s LinkDown) _ (KeepsSilently s) (λ down silent. refl) (λ up. way-keeps a.way a.link a.reading))

  tick-keeps : (n : ℕ) → KeepsSilently s (moment_comes r s n)
  unfolding moment_comes tick
  tick-keeps n =
      cond_both (nat_lt (2 ^ 62) n) _ _ (λ o. KeepsSilently s (for_reservations r s n (of_paths s o))) (λ above silent. refl)
      (λ most. cond_both (nat_lt n s.facts.moment) _ _ (λ o. KeepsSilently s (for_reservations r s n (of_paths s o))) (λ below silent. refl) (λ later silent. absurd (let f = silent in cc)))

  command_comes-keeps : (c : Command) → KeepsSilently s (command_comes r s c)
  unfolding command_comes
  command_comes-keeps c =
      elim (command r s.facts c).is_silent as (λ b. (command r s.facts c).is_silent ≡ b → KeepsSilently s (if b then o else commanded_by r s c o)) [
        | true ↦ λ silent. of_paths-keeps (command r s.facts c) (command-keeps r s.facts c)
        | false ↦ λ heard. cond_both (takes_used_bypass s c) (refused s InUse) _ (KeepsSilently s) (λ used silent. refl) (λ other silent. absurd (let e = sym heard ∙ silent in cc))
      ] refl
    where
      o : Outcome
      o = of_paths s (command r s.facts c)

  -- A silent event leaves a running router as it was, but for a restart.
  pub silent_keeps : (event : Event) → s.facts.cold ≡ false → event ≢ events.Restart → KeepsSilently s (outcome r s event)
  silent_keeps (events.Arrive a) runs other = arrival-keeps a
  silent_keeps (events.Relay m) runs other = relay-keeps m
  silent_keeps (events.Tick n) runs other = tick-keeps n
  silent_keeps (events.LinkUp number) runs other = of_paths-keeps (link_change r s.facts number true) (link-keeps r s.facts number true)
  silent_keeps (events.LinkDown number) runs other = of_paths-keeps (link_change r s.facts number false) (link-keeps r s.facts number false)
  silent_keeps (events.Command c) runs other = command_comes-keeps c
  silent_keeps events.Restart runs other = absurd (other refl)
  silent_keeps events.Start runs other = λ silent. ap (λ cold. with_facts (record s.facts { cold = cold }) s) (sym runs)
