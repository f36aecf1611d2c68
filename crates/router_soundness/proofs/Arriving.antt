-- Whatever a message does that comes leaves the state such that what follows makes it sound.
use Rattle.std.specs.Prelude.{◌≡◌, ◌⊎◌, IfSome, ℕ, ◌&&◌, Bool, true, false, not, Option, Some, None, is_none}
use Rattle.std.specs.FinMap.Entries.{find, put}
use Rattle.std.specs.List.{AllByRecursion}
use Rattle.std.proofs.Common.{refl, ap, sym, subst, ◌∙◌, inl, inr}
use Rattle.std.proofs.lemmas.Bool.{cond_both, not-false}
use Rattle.rsvp_contents.specs.declared.message.Reading.{Reading}
use Rattle.rsvp_contents.specs.declared.message.Reading.TheVariants as readings
use Rattle.rsvp_contents.specs.declared.messages.Content.{Content}
use Rattle.rsvp_contents.specs.declared.messages.Content.TheVariants as contents
use Rattle.rsvp_contents.specs.declared.messages.Path.{Path}
use Rattle.rsvp_contents.specs.Picking.{content_in}
use Rattle.rsvp_contents.specs.Spelling.{IsMessage}
use Rattle.sorted_rows.specs.ListLaws.{all-weaker}
use Rattle.sorted_rows.specs.RowsLaws.{all-put_row}
use Rattle.lsr_facts.specs.declared.path_fact.PathFact.{PathFact}
use Rattle.lsr_facts.specs.declared.refusal.Refusal.TheVariants.{LinkDown, UnknownLink}
use Rattle.lsr_facts.specs.declared.router.Router.{Router}
use Rattle.lsr_facts.specs.Lifetimes.{begins_here}
use Rattle.lsr_facts.specs.OrderLaws.{key_exact}
use Rattle.lsr_facts.specs.Orders.{key_cmp}
use Rattle.lsr_facts.specs.Routers.{HasLink, IsRouter, link_at}
use Rattle.lsr_facts.specs.Tunnels.{is_head}
use Rattle.abstract_paths.specs.declared.ways.ArrivalWay.{ArrivalWay}
use Rattle.abstract_paths.specs.declared.ways.ArrivalWay.TheVariants as ways
use Rattle.abstract_paths.specs.declared.ways.Arrive.{Arrive}
use Rattle.abstract_paths.proofs.EventStanding.{LeavesStanding, path_err_passed_on-stands, path_arrival-stands, path_fits, torn-stands, stack_path-stands, stack_tear-stands}
use Rattle.abstract_paths.proofs.Heads.{head_known}
use Rattle.abstract_paths.specs.Merging.{stack_path_arrival, stack_tear_arrival}
use Rattle.abstract_paths.specs.Outcomes as paths
use Rattle.abstract_paths.specs.Outcomes.{lsp}
use Rattle.abstract_paths.specs.Paths.{key_of, path_arrival}
use Rattle.abstract_paths.specs.Places.{is_up}
use Rattle.abstract_paths.specs.Soundness as standing
use Rattle.abstract_paths.specs.Tears.{path_err_arrival, path_tear_arrival}
use Rattle.router_soundness.proofs.Keeping.{Keeps, KeepsBy, Puts, PutsBy, PutsOwn, keeps_passed, keeps_stack_path, keeps_stack_tear, keeps_torn, labelled, of_paths-leaves, put_known, puts_path, unchanged}
use Rattle.router_soundness.proofs.OtherWays.{unknown_routed_by, unknown_stack_by}
use Rattle.router_soundness.proofs.Reserving.{resv-leaves, resv_err-leaves, resv_fits, resv_tear-leaves, stack_err-leaves}
use Rattle.router_soundness.proofs.Returning.{returned_err-leaves, returned_resv-leaves, returned_tear-leaves, returned_unknown-leaves}
use Rattle.router_soundness.proofs.Settling.{Leaves}
use Rattle.abstract_router.specs.Arrivals.{arrival, arrival_by, is_done, labelled_path_arrival, message_arrival, reading_arrival, routed_arrival, stack_arrival}
use Rattle.abstract_router.specs.Choosing.{CanLabel, HasLabel, HasLabelOrIsNew}
use Rattle.abstract_router.specs.Labels.{has_free_label}
use Rattle.abstract_router.specs.Outcomes.{refused}
use Rattle.abstract_router.specs.Reserving.{unknown_resv}
use Rattle.abstract_router.specs.Soundness.{IsSound}
use Rattle.abstract_router.specs.States.{State}

module _ (r : Router) (s : State) (p : Path) (is : IsSound r s) where
  -- a path that is known under a key that is no head's doesn't begin here
  ours : (old : PathFact) → is_head r s.facts.tunnels (key_of p) ≡ false → find key_cmp (key_of p) s.facts.paths ≡ Some old → not (begins_here old.role) ≡ true
  ours old other found =
      ap not (subst (λ (o : Option PathFact). IfSome o (λ f. standing.IsHeadOf r s.facts.tunnels (key_of p, f))) found (head_known r s.facts.tunnels (key_of p) s.facts.paths is.paths.heads) ∙ other)

  -- the path that is put can be labelled
  can : (fact : PathFact) (o : Option PathFact) → is_head r s.facts.tunnels (key_of p) ≡ false → find key_cmp (key_of p) s.facts.paths ≡ o → (true && is_none o && not (has_free_label r s.labels s.resting)) ≡ false → CanLabel r s (put key_cmp (key_of p) fact s.facts.paths)
  can fact (Some old) other found room = inl (put_known r s (labelled r s is) (key_of p) old fact found (ours old other found))
  can fact None other found room =
      inr (
        key_of p,
        all-put_row key_cmp (HasLabelOrIsNew s.labels (key_of p)) (key_of p) fact (λ k tied. inl (sym (key_exact (key_of p) k tied))) (inl refl) s.facts.paths
            (all-weaker (HasLabel s.labels) (HasLabelOrIsNew s.labels (key_of p)) (λ path h. inr h) s.facts.paths (labelled r s is)),
        not-false _ room,
      )

  path-keeps : (o : paths.PathOutcome) → Puts r s.facts p o → (is_done o.reply && is_none (find key_cmp (key_of p) s.facts.paths) && not (has_free_label r s.labels s.resting)) ≡ false → Keeps r s o
  path-keeps o puts room = by_silence o.is_silent puts
    where
      by : ((o.after.paths ≡ s.facts.paths) ⊎ PutsOwn r s.facts p o) → CanLabel r s o.after.paths
      by (inl same) = inl (subst (λ ps. AllByRecursion (HasLabel s.labels) ps) (sym same) (labelled r s is))
      by (inr made) = subst (CanLabel r s) (sym made.3) (can made.0 (find key_cmp (key_of p) s.facts.paths) made.1 refl (subst (λ d. (d && is_none (find key_cmp (key_of p) s.facts.paths) && not (has_free_label r s.labels s.resting)) ≡ false) made.2 room))

      by_silence : (silent : Bool) → PutsBy r s.facts p silent o → KeepsBy r s silent o.after
      by_silence true same = same
      by_silence false made = (made.0, made.1, by made.2)

-- a Path
path-leaves : (r : Router) (s : State) (link : ℕ) (p : Path) → IsSound r s → LeavesStanding r (path_arrival r s.facts link p) → Leaves r s (labelled_path_arrival r s link p)
unfolding labelled_path_arrival
path-leaves r s link p is leaves =
    cond_both (is_done (path_arrival r s.facts link p).reply && is_none (find key_cmp (key_of p) s.facts.paths) && not (has_free_label r s.labels s.resting)) _ _ (Leaves r s)
    (λ full. unchanged r s is)
    (λ room. of_paths-leaves r s (path_arrival r s.facts link p) is leaves (path-keeps r s p is (path_arrival r s.facts link p) (puts_path r s.facts link p) room))

-- a message that is read whole
message-leaves : (r : Router) (s : State) (link : ℕ) (content : Content) → IsRouter r → s.facts.cold ≡ false → HasLink r link → IsSound r s → IsMessage content → Leaves r s (message_arrival r s link content)
unfolding path_err_arrival path_tear_arrival
message-leaves r s link (contents.Path p) router runs there is message = path-leaves r s link p is (path_arrival-stands r s.facts link p router runs is.paths there (path_fits p message))
message-leaves r s link (contents.Resv v) router runs there is message = resv-leaves r s link v is (resv_fits v message)
message-leaves r s link (contents.PathErr e) router runs there is message =
    of_paths-leaves r s (path_err_arrival r s.facts link e) is (path_err_passed_on-stands r s.facts link e (find key_cmp (lsp e.session e.sender) s.facts.paths) is.paths) (keeps_passed r s (labelled r s is) link e (find key_cmp (lsp e.session e.sender) s.facts.paths))
message-leaves r s link (contents.ResvErr e) router runs there is message = resv_err-leaves r s link e is
message-leaves r s link (contents.PathTear t) router runs there is message =
    of_paths-leaves r s (path_tear_arrival s.facts link t) is (torn-stands r s.facts link t (find key_cmp (lsp t.session t.sender) s.facts.paths) runs is.paths refl) (keeps_torn r s (labelled r s is) link t (find key_cmp (lsp t.session t.sender) s.facts.paths) refl)
message-leaves r s link (contents.ResvTear t) router runs there is message = resv_tear-leaves r s link t is

-- or with an object that it doesn't know
reading-leaves : (r : Router) (s : State) (link : ℕ) (reading : Reading) → IsRouter r → s.facts.cold ≡ false → HasLink r link → IsSound r s → IsMessage (content_in reading) → Leaves r s (reading_arrival r s link reading)
unfolding unknown_resv
reading-leaves r s link (readings.Whole content) router runs there is message = message-leaves r s link content router runs there is message
reading-leaves r s link (readings.Unknown (contents.Path p) class ctype) router runs there is message = unchanged r s is
reading-leaves r s link (readings.Unknown (contents.Resv v) class ctype) router runs there is message = unchanged r s is
reading-leaves r s link (readings.Unknown (contents.PathErr e) class ctype) router runs there is message = message-leaves r s link (contents.PathErr e) router runs there is message
reading-leaves r s link (readings.Unknown (contents.ResvErr e) class ctype) router runs there is message = message-leaves r s link (contents.ResvErr e) router runs there is message
reading-leaves r s link (readings.Unknown (contents.PathTear t) class ctype) router runs there is message = message-leaves r s link (contents.PathTear t) router runs there is message
reading-leaves r s link (readings.Unknown (contents.ResvTear t) class ctype) router runs there is message = message-leaves r s link (contents.ResvTear t) router runs there is message

-- a message that comes through a stack of labels
stack-leaves : (r : Router) (s : State) (content : Content) → s.facts.cold ≡ false → IsSound r s → Leaves r s (stack_arrival r s content)
stack-leaves r s (contents.Path p) runs is = of_paths-leaves r s (stack_path_arrival s.facts p) is (stack_path-stands r s.facts p runs is.paths) (keeps_stack_path r s (labelled r s is) p is.paths.paths.in_order)
stack-leaves r s (contents.Resv v) runs is = is
stack-leaves r s (contents.PathErr e) runs is = is
stack-leaves r s (contents.ResvErr e) runs is = stack_err-leaves r s e is
stack-leaves r s (contents.PathTear t) runs is = of_paths-leaves r s (stack_tear_arrival s.facts t) is (stack_tear-stands r s.facts t runs is.paths) (keeps_stack_tear r s (labelled r s is) t is.paths.paths.in_order)
stack-leaves r s (contents.ResvTear t) runs is = is

-- one that comes in a Routed frame
routed-leaves : (r : Router) (s : State) (content : Content) → IsSound r s → IsMessage content → Leaves r s (routed_arrival r s content)
routed-leaves r s (contents.Path p) is message = is
routed-leaves r s (contents.Resv v) is message = returned_resv-leaves r s v is (resv_fits v message)
routed-leaves r s (contents.PathErr e) is message = returned_err-leaves r s e is
routed-leaves r s (contents.ResvErr e) is message = is
routed-leaves r s (contents.PathTear t) is message = is
routed-leaves r s (contents.ResvTear t) is message = returned_tear-leaves r s t is

-- by its way
way-leaves : (r : Router) (s : State) (way : ArrivalWay) (link : ℕ) (reading : Reading) → IsRouter r → s.facts.cold ≡ false → HasLink r link → IsSound r s → IsMessage (content_in reading) → Leaves r s (arrival_by r s way link reading)
way-leaves r s ways.Hop link reading router runs there is message = reading-leaves r s link reading router runs there is message
way-leaves r s ways.Stack link (readings.Whole content) router runs there is message = stack-leaves r s content runs is
way-leaves r s ways.Stack link (readings.Unknown content class ctype) router runs there is message =
    unknown_stack_by (Leaves r s) r s class ctype content (λ p. unchanged r s is) (stack-leaves r s content runs is)
way-leaves r s ways.Routed link (readings.Whole content) router runs there is message = routed-leaves r s content is message
way-leaves r s ways.Routed link (readings.Unknown content class ctype) router runs there is message =
    unknown_routed_by (Leaves r s) r s class ctype content (λ v. returned_unknown-leaves r s v class ctype is) (routed-leaves r s content is message)

-- a message that comes
pub arrival-leaves : (r : Router) (s : State) (a : Arrive) → IsRouter r → s.facts.cold ≡ false → IsSound r s → IsMessage (content_in a.reading) → Leaves r s (arrival r s a)
unfolding arrival
arrival-leaves r s a router runs is possible =
    cond_both (is_none (link_at r a.link)) (refused s UnknownLink) _ (Leaves r s) (λ none. is)
    (λ there. cond_both (not (is_up s.facts.up a.link)) (refused s LinkDown) _ (Leaves r s) (λ down. is)
    (λ up. way-leaves r s a.way a.link a.reading router runs (not-false _ there) is possible))
