-- A Resv takes the reservation of an LSP only by preemption, and that is told.
use Rattle.std.specs.Prelude.{◌≡◌, ◌⊎◌, ℕ, ◌&&◌, ◌||◌, ◌++◌, not, Bool, true, false, cond, if◌then◌else◌, List, [], ◌∷◌, fold, Option, Some, None, is_some}
use Rattle.std.specs.FinMap.Entries.{find, find-where_key, where_key}
use Rattle.std.specs.List.{AllByRecursion, Contains, cons_option}
use Rattle.std.specs.Option.{option_and_then, option_map, option_map_or}
use Rattle.std.specs.Ordering.{is_eq}
use Rattle.std.proofs.Common.{refl, sym, ap, subst, ◌∙◌, inl, inr}
use Rattle.std.proofs.lemmas.Bool.{and_parts}
use Rattle.std.proofs.lemmas.List.Elements.{Contains-append_left, Contains-append_right}
use Rattle.std.proofs.lemmas.Option.{same_Some}
use Rattle.rsvp_contents.specs.declared.messages.Content.TheVariants as contents
use Rattle.rsvp_contents.specs.declared.messages.Resv.{Resv}
use Rattle.rsvp_contents.specs.declared.descriptors.FlowDescriptor.{FlowDescriptor}
use Rattle.sorted_rows.specs.RowsLaws.{find-put_other, find-put_same, ties}
use Rattle.label_space.specs.LineLaws.{Contains-first, Contains-later}
use Rattle.lsr_facts.specs.Errors.{preempted}
use Rattle.lsr_facts.specs.OrderLaws.{key_exact, key_total}
use Rattle.lsr_facts.specs.Orders.{item_cmp, key_cmp}
use Rattle.lsr_facts.specs.Reservations.{style_of, style_word}
use Rattle.lsr_facts.specs.Routers.{link_at}
use Rattle.lsr_facts.specs.SumLaws.{Contains-filter}
use Rattle.lsr_facts.specs.Upstreams.{upstream_cmp}
use Rattle.lsr_facts.specs.declared.facts.Facts.{Facts}
use Rattle.lsr_facts.specs.declared.key.Key.{Key}
use Rattle.lsr_facts.specs.declared.resv_fact.ResvFact.{ResvFact}
use Rattle.lsr_facts.specs.declared.resv_fact.ResvStyle.{ResvStyle}
use Rattle.lsr_facts.specs.declared.router.Link.{Link}
use Rattle.lsr_facts.specs.declared.router.Router.{Router}
use Rattle.abstract_paths.specs.declared.events.Made.{Made}
use Rattle.abstract_paths.specs.declared.events.Output.{Output}
use Rattle.abstract_paths.specs.Arrivals.{comes, hop_arrive}
use Rattle.abstract_paths.specs.Outcomes.{sent_by}
use Rattle.abstract_paths.specs.Outputs.{between, errors_out, send_for, tear_for}
use Rattle.abstract_paths.specs.Places.{is_up}
use Rattle.abstract_paths.specs.Tears.{leaves_by}
use Rattle.abstract_router.specs.Arrivals.{arrival}
use Rattle.abstract_router.specs.Outcomes.{Outcome, reservation_error}
use Rattle.abstract_router.specs.Outputs.{outputs_of}
use Rattle.abstract_router.specs.Preempting.{all_told_preempted, giving_way, told_preempted}
use Rattle.abstract_router.specs.Repairing.{repaired, repairs_left, told_repaired}
use Rattle.abstract_router.specs.Reserving.{Failed, Granted, PassedOver, Progress, Verdict, carried_on, key_in, next_descriptor, resv_by, told_failed, verdict_of}
use Rattle.abstract_router.specs.Soundness.{IsSound}
use Rattle.abstract_router.specs.States.{State, is_one_of, with_resv, without_resvs}
use Rattle.abstract_router.specs.Steps.{Step, promised, settled, stands, taken_over, with_moments}
use Rattle.abstract_router.specs.Upstreams.{upstream_of}
use Rattle.abstract_router.specs.Wanted.{items_of}
use Rattle.router_soundness.proofs.AssigningRepairs.{passes_filter}
use Rattle.router_laws.specs.Errors.{IsAskedBy}
use Rattle.router_laws.specs.TouchedBy.{touched_by_way}
use Rattle.router_laws.proofs.Led.{led, sends}
use Rattle.router_laws.proofs.LostLinks.{up_known}
use Rattle.router_laws.proofs.ResvDone.{granted_leaves}
use Rattle.router_laws.proofs.Touching.{Keeps, arrival-keeps}

-- A reservation of an LSP that stands, and what its next hop is told where the LSP loses it, over the same link.
pub record IsOwn (r : Router) (s : State) (key : Key) (own : ResvFact) : Type 0 where
  pub output : Output
  pub tells : told_preempted r key own ≡ Some output
  pub over : output.link ≡ own.link
  pub stood : stands s.facts (key, own) ≡ true

-- One that stands is over a link of the router, so there is something to tell.
pub standing : (r : Router) (s : State) → IsSound r s → (key : Key) (own : ResvFact) → stands s.facts (key, own) ≡ true → IsOwn r s key own
standing r s is key own stood =
    by (link_at r own.link) refl (up_known r s own.link is (and_parts (is_up s.facts.up own.link) (option_map_or (leaves_by own.link) (find key_cmp key s.facts.paths) false) stood).0)
  where
    say : Link → Output
    say l = sent_by own.link (contents.ResvErr (record { session = key.session; hop = record { address = l.address; interface = own.link }; error = reservation_error r false preempted; style = style_word own.style; descriptors = record { flowspec = Some own.flowspec; filter = key.sender } ∷ [] }))

    by : (o : Option Link) → link_at r own.link ≡ o → is_some o ≡ true → IsOwn r s key own
    by None at there = absurd (let e = there in cc)
    by (Some l) at there = record { output = say l; tells = ap (option_map say) at; over = refl; stood = stood }

-- one of those that give way is told
among_told : (r : Router) (t : State) (key : Key) (own : ResvFact) (output : Output) → told_preempted r key own ≡ Some output → find key_cmp key t.resvs ≡ Some own → (gone : List Key) → is_one_of gone key ≡ true → Contains (all_told_preempted r t gone) output
among_told r t key own output tells found [] is = absurd (let e = is in cc)
among_told r t key own output tells found (k ∷ ks) is = by (is_eq (key_cmp k key)) refl is (among_told r t key own output tells found ks)
  where
    rest : List Output
    rest = all_told_preempted r t ks

    later : (o : Option Output) → Contains rest output → Contains (cons_option o rest) output
    later None there = there
    later (Some first) there = Contains-later first rest output there

    its : (o : Option Output) → o ≡ Some output → Contains (cons_option o rest) output
    its None same = absurd (let e = same in cc)
    its (Some first) same = Contains-first first rest output (same_Some first output same)

    by : (b : Bool) → is_eq (key_cmp k key) ≡ b → (b || is_one_of ks key) ≡ true → (is_one_of ks key ≡ true → Contains rest output) → Contains (cons_option (option_and_then (told_preempted r k) (find key_cmp k t.resvs)) rest) output
    by true tie is more =
        its (option_and_then (told_preempted r k) (find key_cmp k t.resvs))
        (ap (λ (q : Key). option_and_then (told_preempted r q) (find key_cmp q t.resvs)) (key_exact k key (ties _ tie)) ∙ ap (option_and_then (told_preempted r key)) found ∙ tells)
    by false apart is more = later (option_and_then (told_preempted r k) (find key_cmp k t.resvs)) (more is)

-- An LSP, and what its reservations may be: at least those that the Resv asks for.
module _ (r : Router) (s : State) (is : IsSound r s) (link : ℕ) (v : Resv) (key : Key) (Was : ResvFact → Type 0) (asks : (own : ResvFact) → IsAskedBy s link v key own → Was own) where
  -- the LSP has such a reservation, or the loss of one is told
  abbrev pub IsHeld : State → Type 0
  IsHeld t = (own : ResvFact) × Was own × IsOwn r s key own × (find key_cmp key t.resvs ≡ Some own)

  abbrev pub IsTold : List Output → Type 0
  IsTold errors = (own : ResvFact) × Was own × (one : IsOwn r s key own) × Contains errors one.output

  abbrev pub IsHeldOrTold : State → List Output → Type 0
  IsHeldOrTold t errors = IsHeld t ⊎ IsTold errors

  -- what is told stays so
  still : (t : State) (errors more : List Output) → IsHeldOrTold t errors → IsHeldOrTold t (errors ++ more)
  still t errors more (inl held) = inl held
  still t errors more (inr told) = inr (told.0, told.1, told.2, Contains-append_left errors more told.2.output told.3)

  module _ (up : is_up s.facts.up link ≡ true) (style : ResvStyle) (of_style : style_of v.style ≡ Some style) where
    -- a descriptor that is granted
    module _ (d : FlowDescriptor) (among : Contains v.descriptors d) (progress : Progress) (facts : progress.state.facts ≡ s.facts) (grants : verdict_of r progress.state (key_in v d) (resv_by progress.state.facts.moment link style v d) ≡ Granted) where
      abbrev fact : ResvFact
      fact = resv_by progress.state.facts.moment link style v d

      abbrev gone : List Key
      gone = giving_way r progress.state (key_in v d) fact

      abbrev next : State
      next = with_resv (key_in v d) fact (without_resvs gone progress.state)

      abbrev all_errors : List Output
      all_errors = progress.errors ++ all_told_preempted r progress.state gone

      -- Its own LSP has what it asks for.
      pub own_held : key ≡ key_in v d → IsHeld next
      own_held same =
          let asked : ResvFact = resv_by s.facts.moment link style v d in
          let leaves : option_map_or (leaves_by link) (find key_cmp key s.facts.paths) false ≡ true =
          ap (λ (k : Key). option_map_or (leaves_by link) (find key_cmp k s.facts.paths) false) same
          ∙ ap (λ (f : Facts). option_map_or (leaves_by link) (find key_cmp (key_in v d) f.paths) false) (sym facts)
          ∙ granted_leaves r progress.state (key_in v d) fact grants in
          let one : IsOwn r s key asked = standing r s is key asked (λ i. up i && leaves i) in
          let is_asked : IsAskedBy s link v key asked = record { style = style; of_style = of_style; descriptor = d; among = among; own = sym same; same = refl } in
          let found : find key_cmp key next.resvs ≡ Some asked =
          ap (λ (k : Key). find key_cmp k next.resvs) same ∙ find-put_same key_cmp key_total (key_in v d) fact (without_resvs gone progress.state).resvs ∙ ap (λ (f : Facts). Some (resv_by f.moment link style v d)) facts in
          (asked, asks asked is_asked, one, found)

      -- another one keeps what it has, or gives way, and that is told
      other_held : is_eq (key_cmp key (key_in v d)) ≡ false → IsHeld progress.state → IsHeldOrTold next all_errors
      other_held other held = by (is_one_of gone key) refl
        where
          left : Key → Bool
          left k = not (is_one_of gone k)

          by : (b : Bool) → is_one_of gone key ≡ b → IsHeldOrTold next all_errors
          by true goes =
              inr (held.0, held.1, held.2, Contains-append_right progress.errors (all_told_preempted r progress.state gone) held.2.output (among_told r progress.state key held.0 held.2.output held.2.tells held.3 gone goes))
          by false apart =
              inl (
                held.0,
                held.1,
                held.2,
                find-put_other key_cmp key_total key (key_in v d) fact (where_key key_cmp left progress.state.resvs) other
                    ∙ find-where_key key_cmp left key (λ k tied. ap left (sym (key_exact key k tied))) progress.state.resvs
                    ∙ ap (λ b. cond (not b) (find key_cmp key progress.state.resvs) None) apart
                    ∙ held.3,
              )

      granted-carries : IsHeldOrTold progress.state progress.errors → IsHeldOrTold next all_errors
      granted-carries = by (is_eq (key_cmp key (key_in v d))) refl
        where
          by : (b : Bool) → is_eq (key_cmp key (key_in v d)) ≡ b → IsHeldOrTold progress.state progress.errors → IsHeldOrTold next all_errors
          by true tie was = inl (own_held (key_exact key (key_in v d) (ties _ tie)))
          by false other (inl held) = other_held other held
          by false other (inr told) = inr (told.0, told.1, told.2, Contains-append_left progress.errors (all_told_preempted r progress.state gone) told.2.output told.3)

    -- what some descriptors have led to
    abbrev pub Carries : Progress → Type 0
    Carries progress = (progress.state.facts ≡ s.facts) × IsHeldOrTold progress.state progress.errors

    verdict-carries : (d : FlowDescriptor) → Contains v.descriptors d → (progress : Progress) → Carries progress → (verdict : Verdict) → verdict_of r progress.state (key_in v d) (resv_by progress.state.facts.moment link style v d) ≡ verdict
        → Carries (carried_on r link v d (resv_by progress.state.facts.moment link style v d) progress verdict)
    verdict-carries d among progress carries (Failed e) by = (carries.0, still progress.state progress.errors (told_failed r progress.state link v d e) carries.1)
    verdict-carries d among progress carries PassedOver by = carries
    verdict-carries d among progress carries Granted by = (carries.0, granted-carries d among progress carries.0 by carries.1)

    -- So it is after all of them.
    pub descriptors-carry : (ds : List FlowDescriptor) → AllByRecursion (Contains v.descriptors) ds → (progress : Progress) → Carries progress → Carries (fold (next_descriptor r link style v) progress ds)
    descriptors-carry [] among progress carries = carries
    descriptors-carry (d ∷ ds) among progress carries =
        descriptors-carry ds among.1 (next_descriptor r link style v progress d) (verdict-carries d among.0 progress carries (verdict_of r progress.state (key_in v d) (resv_by progress.state.facts.moment link style v d)) refl)

-- ---- in a step that isn't silent

module _ (r : Router) (before after : State) (made : Made) (link : ℕ) (v : Resv) (key : Key) (is : IsSound r before) (x : Step r before made after) (event : made.event ≡ comes link (contents.Resv v))
    (heard : (arrival r before (hop_arrive link (contents.Resv v))).is_silent ≡ false) where
  abbrev o : Outcome
  o = arrival r before (hop_arrive link (contents.Resv v))

  abbrev touched : Key → Bool
  touched = is_one_of (touched_by_way r before (hop_arrive link (contents.Resv v)).way link (hop_arrive link (contents.Resv v)).reading)

  keeps : Keeps touched before o.after
  keeps = arrival-keeps r touched before is (hop_arrive link (contents.Resv v)) (λ k apart. apart)

  abbrev after_all : State
  after_all = with_moments r before o (settled r made.labels o.after)

  came : after ≡ after_all
  came = led r before after made (comes link (contents.Resv v)) o x event refl ∙ ap (λ b. if b then o.after else after_all) heard

  sent : made.outputs ≡ outputs_of r before (o.errors ++ told_repaired r (promised r o.after)) o.due o.upstream_due after
  sent = sends r before after made (comes link (contents.Resv v)) o x event refl ∙ ap (λ b. if b then [] else outputs_of r before (o.errors ++ told_repaired r (promised r o.after)) o.due o.upstream_due after) heard

  -- A reservation that the Resv leaves stands still, where the path stays.
  pub stays : (own : ResvFact) → stands before.facts (key, own) ≡ true → find key_cmp key after.facts.paths ≡ find key_cmp key before.facts.paths → find key_cmp key o.after.resvs ≡ Some own → find key_cmp key after.resvs ≡ Some own
  unfolding taken_over repaired repairs_left
  stays own stood same_path found =
      let paths : find key_cmp key (taken_over r o.after).facts.paths ≡ find key_cmp key before.facts.paths = ap (λ (t : State). find key_cmp key t.facts.paths) (sym came) ∙ same_path in
      let stands_then : stands (taken_over r o.after).facts (key, own) ≡ true = (λ i. is_up (keeps.up i) own.link && option_map_or (leaves_by own.link) (paths i) false) ∙ stood in
      ap (λ (t : State). find key_cmp key t.resvs) came ∙ passes_filter (stands (taken_over r o.after).facts) key own o.after.resvs keeps.resvs_in_order found stands_then

  link_up : (own : ResvFact) (one : IsOwn r before key own) → is_up after.facts.up one.output.link ≡ true
  unfolding taken_over repaired repairs_left
  link_up own one =
      ap (λ (t : State). is_up t.facts.up one.output.link) came ∙ (λ i. is_up (keeps.up i) (one.over i))
      ∙ (and_parts (is_up before.facts.up own.link) (option_map_or (leaves_by own.link) (find key_cmp key before.facts.paths) false) one.stood).0

  -- The loss of one is sent.
  pub told : (own : ResvFact) (one : IsOwn r before key own) → Contains o.errors one.output → Contains made.outputs one.output
  unfolding outputs_of
  told own one among =
      let all = o.errors ++ told_repaired r (promised r o.after) in
      let errors = errors_out after.facts.up all in
      let tears = between item_cmp (tear_for after.facts.up) (items_of r before) (items_of r after) in
      let resv_tears = between upstream_cmp (tear_for after.facts.up) (upstream_of r before) (upstream_of r after) in
      let sends = between item_cmp (send_for item_cmp o.due) (items_of r after) (items_of r before) in
      subst (λ outputs. Contains outputs one.output) (sym sent)
      (Contains-append_left (errors ++ tears ++ resv_tears ++ sends) _ one.output
      (Contains-append_left (errors ++ tears ++ resv_tears) sends one.output
      (Contains-append_left (errors ++ tears) resv_tears one.output
      (Contains-append_left errors tears one.output (Contains-filter (λ (output : Output). is_up after.facts.up output.link) all one.output (link_up own one) (Contains-append_left o.errors (told_repaired r (promised r o.after)) one.output among))))))
