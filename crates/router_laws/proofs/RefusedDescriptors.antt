-- A descriptor that isn't granted leads to errors, and to nothing else. So what is known after a Resv is what would be without it.
use Rattle.std.specs.Prelude.{◌≡◌, ◌≢◌, ℕ, ◌++◌, not, Bool, true, false, cond, if◌then◌else◌, List, [], ◌∷◌, filter, fold, Option, Some, None, is_none}
use Rattle.std.specs.FinMap.Entries.{find}
use Rattle.std.specs.List.{AllByRecursion}
use Rattle.std.specs.Option.{option_map_or, option_or}
use Rattle.std.proofs.Common.{refl, sym, ap, subst, ◌∙◌}
use Rattle.std.proofs.lemmas.List.Sums.{fold-append}
use Rattle.rsvp_contents.specs.declared.descriptors.FlowDescriptor.{FlowDescriptor}
use Rattle.rsvp_contents.specs.declared.messages.Content.TheVariants as contents
use Rattle.rsvp_contents.specs.declared.messages.Resv.{Resv}
use Rattle.sorted_rows.specs.Rows.{keys_of}
use Rattle.sorted_rows.specs.RowsLaws.{all_found}
use Rattle.lsr_facts.specs.Errors.{unknown_style}
use Rattle.lsr_facts.specs.OrderLaws.{key_total}
use Rattle.lsr_facts.specs.Orders.{key_cmp}
use Rattle.lsr_facts.specs.Reservations.{style_of}
use Rattle.lsr_facts.specs.Routers.{link_at}
use Rattle.lsr_facts.specs.declared.errors.RsvpError.{RsvpError}
use Rattle.lsr_facts.specs.declared.facts.Facts.{Facts}
use Rattle.lsr_facts.specs.declared.key.Key.{Key}
use Rattle.lsr_facts.specs.declared.refusal.Refusal.TheVariants.{LinkDown, NoMatch, UnknownLink}
use Rattle.lsr_facts.specs.declared.reply.Reply.TheVariants as replies
use Rattle.lsr_facts.specs.declared.resv_fact.ResvFact.{ResvFact}
use Rattle.lsr_facts.specs.declared.resv_fact.ResvStyle.{ResvStyle}
use Rattle.lsr_facts.specs.declared.router.Router.{Router}
use Rattle.abstract_paths.specs.declared.events.Event.{Event}
use Rattle.abstract_paths.specs.declared.events.Made.{Made}
use Rattle.abstract_paths.specs.declared.events.Output.{Output}
use Rattle.abstract_paths.specs.Arrivals.{comes, hop_arrive}
use Rattle.abstract_paths.specs.Places.{is_up}
use Rattle.abstract_router.specs.Arrivals.{arrival, outcome}
use Rattle.abstract_router.specs.Labels.{IsLabelling, new_keys}
use Rattle.abstract_router.specs.Outcomes.{Outcome, refused, replied}
use Rattle.abstract_router.specs.Preempting.{all_told_preempted, giving_way}
use Rattle.abstract_router.specs.Reserving.{Failed, Granted, PassedOver, Progress, Verdict, all_descriptors, carried_on, key_in, next_descriptor, resv_arrival, resv_by, resv_failed, resv_replied, told_failed, verdict_of}
use Rattle.abstract_router.specs.Soundness.{IsSound}
use Rattle.abstract_router.specs.States.{State}
use Rattle.abstract_router.specs.Steps.{AreSettled, MayChoose, Step, known_after, settled, with_moments}
use Rattle.router_soundness.proofs.Resting.{labels_in_order}
use Rattle.router_soundness.specs.Assigned.{AreStanding}
use Rattle.router_laws.specs.Verdicts.{verdict_after}
use Rattle.router_laws.proofs.Led.{led}
use Rattle.router_laws.proofs.Still.{known-same}

-- ---- what descriptors lead to

module _ (r : Router) (link : ℕ) (style : ResvStyle) (v : Resv) where
  abbrev next : Progress → FlowDescriptor → Progress
  next = next_descriptor r link style v

  abbrev fact_in : State → FlowDescriptor → ResvFact
  fact_in s d = resv_by s.facts.moment link style v d

  -- the same, but for the errors
  abbrev with_errors : List Output → Option RsvpError → Progress → Progress
  with_errors errors first p = record p { errors = errors; first = first }

  abbrev IsSameBut : Progress → Progress → Type 0
  IsSameBut p q = (errors : List Output) × (first : Option RsvpError) × (p ≡ with_errors errors first q)

  -- with other errors before, a descriptor leads to the same but for these,
  verdict-same : (d : FlowDescriptor) (p : Progress) (errors : List Output) (first : Option RsvpError) (verdict : Verdict) → IsSameBut (carried_on r link v d (fact_in p.state d) (with_errors errors first p) verdict) (carried_on r link v d (fact_in p.state d) p verdict)
  verdict-same d p errors first (Failed e) = (errors ++ told_failed r p.state link v d e, option_or first (Some e), refl)
  verdict-same d p errors first PassedOver = (errors, first, refl)
  verdict-same d p errors first Granted = (errors ++ all_told_preempted r p.state (giving_way r p.state (key_in v d) (fact_in p.state d)), first, refl)

  -- and so do several
  all-same : (ds : List FlowDescriptor) (p : Progress) (errors : List Output) (first : Option RsvpError) → IsSameBut (fold next (with_errors errors first p) ds) (fold next p ds)
  all-same [] p errors first = (errors, first, refl)
  all-same (d ∷ ds) p errors first =
      let one = verdict-same d p errors first (verdict_of r p.state (key_in v d) (fact_in p.state d)) in
      let rest = all-same ds (next p d) one.0 one.1 in
      (rest.0, rest.1, ap (λ (q : Progress). fold next q ds) one.2 ∙ rest.2)

  -- One that isn't granted leads to errors alone.
  refused-same : (d : FlowDescriptor) (p : Progress) → verdict_of r p.state (key_in v d) (fact_in p.state d) ≢ Granted → IsSameBut (next p d) p
  refused-same d p = by (verdict_of r p.state (key_in v d) (fact_in p.state d))
    where
      by : (verdict : Verdict) → verdict ≢ Granted → IsSameBut (carried_on r link v d (fact_in p.state d) p verdict) p
      by (Failed e) other = (p.errors ++ told_failed r p.state link v d e, option_or p.first (Some e), refl)
      by PassedOver other = (p.errors, p.first, refl)
      by Granted other = absurd (other refl)

  -- So without it the others lead to the same.
  without-same : (front back : List FlowDescriptor) (d : FlowDescriptor) (p : Progress) → verdict_of r (fold next p front).state (key_in v d) (fact_in (fold next p front).state d) ≢ Granted → IsSameBut (fold next p (front ++ d ∷ back)) (fold next p (front ++ back))
  without-same front back d p other =
      let reached = fold next p front in
      let one = refused-same d reached other in
      let rest = all-same back reached one.0 one.1 in (
        rest.0,
        rest.1,
        fold-append next p front (d ∷ back) ∙ ap (λ (q : Progress). fold next q back) one.2 ∙ rest.2 ∙ ap (with_errors rest.0 rest.1) (sym (fold-append next p front back)),
      )

  -- where none is granted, none is in the end
  none-granted : (s : State) (ds : List FlowDescriptor) → AllByRecursion (λ d. verdict_of r s (key_in v d) (fact_in s d) ≢ Granted) ds → (p : Progress) → p.state ≡ s → p.has_granted ≡ false → (fold next p ds).has_granted ≡ false
  none-granted s [] others p same none = none
  none-granted s (d ∷ ds) others p same none =
      let one = refused-same d p (subst (λ (t : State). verdict_of r t (key_in v d) (fact_in t d) ≢ Granted) (sym same) others.0) in
      none-granted s ds others.1 (next p d) (ap (λ (q : Progress). q.state) one.2 ∙ same) (ap (λ (q : Progress). q.has_granted) one.2 ∙ none)

  -- The facts stay as they are, and so does all else where none is granted.
  abbrev IsLed : State → Progress → Type 0
  IsLed s p = (p.state.facts ≡ s.facts) × (p.has_granted ≡ false → p.state ≡ s)

  verdict-led : (s : State) (d : FlowDescriptor) (p : Progress) (verdict : Verdict) → IsLed s p → IsLed s (carried_on r link v d (fact_in p.state d) p verdict)
  verdict-led s d p (Failed e) is = is
  verdict-led s d p PassedOver is = is
  verdict-led s d p Granted is = (is.0, λ none. absurd (let e = none in cc))

  all-led : (s : State) (ds : List FlowDescriptor) (p : Progress) → IsLed s p → IsLed s (fold next p ds)
  all-led s [] p is = is
  all-led s (d ∷ ds) p is = all-led s ds (next p d) (verdict-led s d p (verdict_of r p.state (key_in v d) (fact_in p.state d)) is)

-- ---- what is known after them

-- rows without keys are none
none_left : (rows : List (Key × ℕ)) → keys_of rows ≡ [] → rows ≡ []
none_left [] none = refl
none_left (row ∷ rows) none = absurd (let e = none in cc)

-- one state, whatever the tests say
either : (a b : Bool) (s t : State) → t ≡ s → (if a then s else if b then s else t) ≡ s
either true b s t same = refl
either false true s t same = refl
either false false s t same = same

module _ (r : Router) (s : State) (is : IsSound r s) (rests : AreSettled r s) (stand : AreStanding r s) where
  -- each LSP that needs a label has one
  none_new : new_keys s.labels s.facts.paths ≡ []
  none_new = ap (filter unlabelled) (sym is.labels.of_lsps) ∙ by s.labels (all_found key_cmp key_total s.labels (labels_in_order r s is.labels is.paths.paths.in_order))
    where
      unlabelled : Key → Bool
      unlabelled key = is_none (find key_cmp key s.labels)

      by : (rows : List (Key × ℕ)) → AllByRecursion (λ row. find key_cmp row.0 s.labels ≡ Some row.1) rows → filter unlabelled (keys_of rows) ≡ []
      by [] found = refl
      by (row ∷ rows) found = ap (λ (o : Option ℕ). cond (is_none o) (row.0 ∷ filter unlabelled (keys_of rows)) (filter unlabelled (keys_of rows))) found.0 ∙ by rows found.1

  none_chosen : (facts : Facts) → facts ≡ s.facts → (chosen : List (Key × ℕ)) → IsLabelling r s facts.paths chosen → chosen ≡ []
  none_chosen facts same chosen labelling = none_left chosen (labelling.of_new ∙ ap (λ (f : Facts). new_keys s.labels f.paths) same ∙ none_new)

  module _ (link : ℕ) (style : ResvStyle) (v : Resv) (q : Progress) (is_led : IsLed r link style v s q) (chosen : List (Key × ℕ)) where
    -- what is known after those that lead to this, whichever errors they meet
    abbrev result : State
    result = if q.has_granted then with_moments r s (replied replies.Done [] q.state) (settled r [] q.state) else s

    abbrev Leads : Outcome → State → Type 0
    Leads o t = MayChoose r s o chosen → known_after r s chosen o ≡ t

    replied-leads : (errors : List Output) (first : Option RsvpError) → Leads (resv_replied s (with_errors r link style v errors first q) first) result
    replied-leads errors first = by q.has_granted refl first
      where
        granted : State
        granted = with_moments r s (replied replies.Done [] q.state) (settled r [] q.state)

        chose : (labels : List (Key × ℕ)) → State
        chose labels = with_moments r s (replied replies.Done [] q.state) (settled r labels q.state)

        by : (b : Bool) → q.has_granted ≡ b → (first : Option RsvpError) → Leads (resv_replied s (with_errors r link style v errors first q) first) (if b then granted else s)
        by true some (Some e) = λ may. ap chose (none_chosen q.state.facts is_led.0 chosen may)
        by true some None =
            subst (λ (g : Bool). Leads (if g then replied replies.Done errors q.state else refused s NoMatch) granted) (sym some) (λ may. ap chose (none_chosen q.state.facts is_led.0 chosen may))
        by false none (Some e) = λ may. ap (λ (t : State). known_after r s chosen (replied (replies.Error e) errors t)) (is_led.1 none) ∙ known-same r s is rests stand (replies.Error e) errors chosen
        by false none None = subst (λ (g : Bool). Leads (if g then replied replies.Done errors q.state else refused s NoMatch) s) (sym none) (λ may. refl)

    abbrev final : State
    final = if is_none (link_at r link) then s else if not (is_up s.facts.up link) then s else result

    arrival-leads : (w : Resv) → style_of w.style ≡ Some style → IsSameBut r link style v (all_descriptors r s link style w) q → Leads (arrival r s (hop_arrive link (contents.Resv w))) final
    unfolding arrival resv_arrival
    arrival-leads w of_style same = by (is_none (link_at r link)) (not (is_up s.facts.up link))
      where
        does : Option ResvStyle → Outcome
        does o = option_map_or (λ style. let progress = all_descriptors r s link style w in resv_replied s progress progress.first) o (resv_failed r s link w false [] unknown_style)

        resv-leads : Leads (does (style_of w.style)) result
        resv-leads =
            subst (λ (o : Option ResvStyle). Leads (does o) result) (sym of_style)
            (subst (λ (p : Progress). Leads (resv_replied s p p.first) result) (sym same.2) (replied-leads same.0 same.1))

        by : (a b : Bool) → Leads (if a then refused s UnknownLink else if b then refused s LinkDown else does (style_of w.style)) (if a then s else if b then s else result)
        by true b = λ may. refl
        by false true = λ may. refl
        by false false = resv-leads

-- what a step may choose for a Resv that comes
may_choose : (r : Router) (before after : State) (made : Made) (event : Event) → Step r before made after → made.event ≡ event → MayChoose r before (outcome r before event) made.labels
may_choose r before after made event x is = subst (λ (e : Event). MayChoose r before (outcome r before e) made.labels) is x.chosen

-- A Resv of which no descriptor is granted changes nothing.
pub all_refused : (r : Router) (before after : State) (made : Made) (link : ℕ) (v : Resv) (style : ResvStyle) → IsSound r before → AreSettled r before → AreStanding r before → Step r before made after → made.event ≡ comes link (contents.Resv v) → style_of v.style ≡ Some style
    → AllByRecursion (λ d. verdict_after r before link style v [] d ≢ Granted) v.descriptors → after ≡ before
all_refused r before after made link v style is rests stand x event of_style others =
    let start : Progress = record { state = before; errors = []; first = None; has_granted = false } in
    let q = all_descriptors r before link style v in
    let is_led = all-led r link style v before v.descriptors start (refl, λ none. refl) in
    let none : q.has_granted ≡ false = none-granted r link style v before v.descriptors others start refl refl in
    led r before after made (comes link (contents.Resv v)) (arrival r before (hop_arrive link (contents.Resv v))) x event refl
    ∙ arrival-leads r before is rests stand link style v q is_led made.labels v of_style (q.errors, q.first, refl) (may_choose r before after made (comes link (contents.Resv v)) x event)
    ∙ either (is_none (link_at r link)) (not (is_up before.facts.up link)) before (result r before is rests stand link style v q is_led made.labels)
    (ap (λ (g : Bool). if g then with_moments r before (replied replies.Done [] q.state) (settled r [] q.state) else before) none)

-- Without a descriptor that isn't granted the others lead to the same.
pub one_refused : (r : Router) (before after without : State) (made other : Made) (link : ℕ) (v : Resv) (style : ResvStyle) (front back : List FlowDescriptor) (d : FlowDescriptor) → IsSound r before → AreSettled r before → AreStanding r before → style_of v.style ≡ Some style
    → v.descriptors ≡ front ++ d ∷ back → verdict_after r before link style v front d ≢ Granted → Step r before made after → made.event ≡ comes link (contents.Resv v)
    → Step r before other without → other.event ≡ comes link (contents.Resv (record v { descriptors = front ++ back })) → after ≡ without
one_refused r before after without made other link v style front back d is rests stand of_style descriptors refuses x event y other_event =
    let start : Progress = record { state = before; errors = []; first = None; has_granted = false } in
    let w : Resv = record v { descriptors = front ++ back } in
    let q = all_descriptors r before link style w in
    let is_led = all-led r link style v before (front ++ back) start (refl, λ none. refl) in
    let same = without-same r link style v front back d start refuses in
    led r before after made (comes link (contents.Resv v)) (arrival r before (hop_arrive link (contents.Resv v))) x event refl
    ∙ arrival-leads r before is rests stand link style v q is_led made.labels v of_style (same.0, same.1, ap (fold (next_descriptor r link style v) start) descriptors ∙ same.2) (may_choose r before after made (comes link (contents.Resv v)) x event)
    ∙ sym (arrival-leads r before is rests stand link style v q is_led other.labels w of_style (q.errors, q.first, refl) (may_choose r before without other (comes link (contents.Resv w)) y other_event))
    ∙ sym (led r before without other (comes link (contents.Resv w)) (arrival r before (hop_arrive link (contents.Resv w))) y other_event refl)
