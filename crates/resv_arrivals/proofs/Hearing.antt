-- A Resv for which memory is taken isn't refused: a flow descriptor of it is in error, or is granted.
use Rattle.std.specs.Prelude.{◌≡◌, ◌≢◌, ◌||◌, ℕ, ◌+◌, ◌<◌, Bool, true, false, fold, drop, length, List, [], ◌∷◌, Option, Some, None, is_some, Result, Ok, Err, OnErr}
use Rattle.std.specs.Option.{option_or}
use Rattle.std.proofs.Common.{refl, sym, ap, subst, ◌∙◌, get_or}
use Rattle.rsvp_contents.specs.declared.messages.Resv.{Resv}
use Rattle.rsvp_contents.proofs.Sizes.{drop_one}
use Rattle.rsvp_contents.specs.declared.descriptors.FlowDescriptor.{FlowDescriptor}
use Rattle.lsr_facts.specs.declared.errors.RsvpError.{RsvpError}
use Rattle.lsr_facts.specs.declared.router.Router.{Router}
use Rattle.lsr_facts.specs.declared.resv_fact.ResvFact.{ResvFact}
use Rattle.lsr_facts.specs.declared.resv_fact.ResvStyle.{ResvStyle}
use Rattle.abstract_router.specs.Reserving.{Progress, Verdict, Failed, PassedOver, Granted, carried_on, key_in, next_descriptor, resv_by, resv_replied, verdict_of}
use Rattle.abstract_router.specs.States.{State}
use Rattle.resv_arrivals.specs.Progresses.{is_heard}

-- what holds anyway holds where there is an error
pub on_err : {A E : Type 0} (result : Result A E) (P : Type 0) → P → OnErr result P
on_err (Ok x) P holds = tt
on_err (Err e) P holds = holds

-- an error is there, first or not
pub some_error : (first : Option RsvpError) (e : RsvpError) → is_some (option_or first (Some e)) ≡ true
some_error None e = refl
some_error (Some other) e = refl

pub either_granted : (b : Bool) → (b || true) ≡ true
either_granted true = refl
either_granted false = refl

heard_carried : (r : Router) (link : ℕ) (v : Resv) (d : FlowDescriptor) (fact : ResvFact) (progress : Progress) (verdict : Verdict) → verdict ≢ PassedOver → is_heard (carried_on r link v d fact progress verdict) ≡ true
heard_carried r link v d fact progress (Failed e) other = ap (λ b. b || progress.has_granted) (some_error progress.first e)
heard_carried r link v d fact progress PassedOver other = absurd (other refl)
heard_carried r link v d fact progress Granted other = either_granted (is_some progress.first)

still_carried : (r : Router) (link : ℕ) (v : Resv) (d : FlowDescriptor) (fact : ResvFact) (progress : Progress) (verdict : Verdict) → is_heard progress ≡ true → is_heard (carried_on r link v d fact progress verdict) ≡ true
still_carried r link v d fact progress (Failed e) was = ap (λ b. b || progress.has_granted) (some_error progress.first e)
still_carried r link v d fact progress PassedOver was = was
still_carried r link v d fact progress Granted was = either_granted (is_some progress.first)

-- What is heard of stays so, whatever comes of the next flow descriptor.
module _ (next : Progress → FlowDescriptor → Progress) (stays : (progress : Progress) (d : FlowDescriptor) → is_heard progress ≡ true → is_heard (next progress d) ≡ true) where
  heard_fold : (ds : List FlowDescriptor) (progress : Progress) → is_heard progress ≡ true → is_heard (fold next progress ds) ≡ true
  heard_fold [] progress was = was
  heard_fold (d ∷ ds) progress was = heard_fold ds (next progress d) (stays progress d was)

  -- where one of all is heard of, all are
  pub heard_all : (progress : Progress) (ds : List FlowDescriptor) (i : ℕ) (d : FlowDescriptor) (whole : Progress) → i < length ds → d ≡ get_or ds i d
      → is_heard (next progress d) ≡ true → fold next progress (drop i ds) ≡ whole → is_heard whole ≡ true
  heard_all progress ds i d whole below is heard same =
      subst (λ p. is_heard p ≡ true) (sym (ap (fold next progress) (drop_one ds i d below is)) ∙ same)
      (heard_fold (drop (i + 1) ds) (next progress d) heard)

module _ (r : Router) (link : ℕ) (style : ResvStyle) (v : Resv) where
  -- so it is of a Resv that comes over a link
  pub still_heard : (progress : Progress) (d : FlowDescriptor) → is_heard progress ≡ true → is_heard (next_descriptor r link style v progress d) ≡ true
  still_heard progress d was = let fact = resv_by progress.state.facts.moment link style v d in still_carried r link v d fact progress (verdict_of r progress.state (key_in v d) fact) was

  -- a flow descriptor that isn't passed over is heard of
  pub heard_next : (progress : Progress) (d : FlowDescriptor) → verdict_of r progress.state (key_in v d) (resv_by progress.state.facts.moment link style v d) ≢ PassedOver → is_heard (next_descriptor r link style v progress d) ≡ true
  heard_next progress d other = let fact = resv_by progress.state.facts.moment link style v d in heard_carried r link v d fact progress (verdict_of r progress.state (key_in v d) fact) other

-- what is heard of isn't silent
pub heard_speaks : (s : State) (progress : Progress) → is_heard progress ≡ true → (resv_replied s progress progress.first).is_silent ≡ false
heard_speaks s progress = by progress.first progress.has_granted
  where
    by : (first : Option RsvpError) (granted : Bool) → (is_some first || granted) ≡ true → (resv_replied s (record progress { has_granted = granted }) first).is_silent ≡ false
    by (Some e) granted heard = refl
    by None true heard = refl
    by None false heard = absurd (let h = heard in cc)
